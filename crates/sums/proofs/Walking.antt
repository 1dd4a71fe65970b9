-- The walk's invariant, and its turns.
use Prim.Native.Nat.{max}
use Rattle.lists.proofs.Prelude.{Bool, true, false, cond, ◌&&◌, ◌||◌, not, List, [], ◌∷◌, ◌++◌, map, ◌≡◌, refl, sym, ap, ap₂, ◌∙◌, ℕ, suc, ◌*◌, ◌<◌, ◌≤◌, arith, eqb, ℤ, ◌+ℤ◌, length, get_or, AllOf, elem, by-test}
use Rattle.keyed.specs.Keys.{Item, topmost_from, rest, head_val, head_vals, heads_fine}
use Rattle.keyed.specs.Groups.{Group, top_all, heads_fine_all}
use Rattle.postings.specs.declared.Posting.{Posting}
use Rattle.postings.specs.Merge.{is_zero}
use Rattle.state.specs.declared.Buffer.{Buffer}
use Rattle.kway.specs.Ranges.{total_z, in_ranges}
use Rattle.kway.proofs.Ranges.{top-step}
use Rattle.kway.specs.Parts.{part, parts}
use Rattle.scans.specs.Keys.{key_window}
use Rattle.scans.specs.Heads.{views, Kept}
use Rattle.sums.specs.declared.Front.{Front}
use Rattle.sums.specs.Views.{Tidy, Cleared, held_for}
use Rattle.sums.proofs.Tally.{Tally, faulty, tallied, total_at, tally_if, tally_of, kept_of, buffer_items, Walkable, groups}
use Rattle.sums.proofs.Buffers.{Shown, buffer-fine}
use Rattle.sums.proofs.Slots.{held-few, cleared-tidy, cleared-held}
use Rattle.sums.proofs.Keeps.{Watched, Step}
use Rattle.sums.proofs.Resumes.{resume, start, ended, too-high, ill-formed, refused, went_on, fine-pair, kept_pair}

-- a number that no window has is followed
pub outside : (ws : List ℕ) → Watched ws 65536
outside ws = always (elem 65536 ws)
  where
    always : (x : Bool) → (x || true) ≡ true
    always true = refl
    always false = refl

-- what the whole walk tells is malformed, by one of those followed
pub record Fault (ws : List ℕ) (whole : ℕ → Tally) : Type 0 where
  pub window : ℕ
  pub watched : Watched ws window
  pub told : whole window ≡ faulty

-- of each window followed, the answer is the answer where the slots have its counts so far, and heads and buffer have keys below the bound to come
pub record Going (W : List ℕ) (n : ℕ) (b : Buffer) (ws : List ℕ) (size : ℕ) (whole : ℕ → Tally) (H : List ℕ) (i next bound : ℕ) (T : List ℕ) : Type 0 where
  pub len : length b.postings ≡ 128
  pub ok : Walkable b
  pub few : n ≤ 51
  pub room : 10 * n ≤ size
  pub long : length H ≡ size
  pub kept : AllOf (Kept W) (parts 10 n H)
  pub top : next ≡ topmost_from 0 (views W n H)
  pub place : i ≤ b.used
  pub low : bound ≤ 67108864
  pub slots : length T ≡ 65 * length ws
  pub tidy : (j : ℕ) → j < length ws → Tidy (get_or ws j 0) (part 65 j T)
  pub same : (v : ℕ) → Watched ws v → whole v ≡ resume v bound (held_for ws T v) (groups W n H b i)

-- at the start
pub going_start : (W : List ℕ) (n : ℕ) (b : Buffer) (ws H : List ℕ) (next : ℕ) (T : List ℕ) → length b.postings ≡ 128 → Walkable b → n ≤ 51 → 10 * n ≤ length H
    → AllOf (Kept W) (parts 10 n H) → next ≡ topmost_from 0 (views W n H) → Cleared (length ws) T → Going W n b ws (length H) (λ v. tally_of v (groups W n H b 0)) H 0 next 67108864 T
going_start W n b ws H next T len ok few room kept top none = record {
  len = len;
  ok = ok;
  few = few;
  room = room;
  long = refl;
  kept = kept;
  top = top;
  place = omega arith;
  low = omega arith;
  slots = none.long;
  tidy = cleared-tidy ws T none;
  same = λ v m. start v (groups W n H b 0) ∙ ap (λ (l : List Posting). resume v 67108864 l (groups W n H b 0)) (sym (cleared-held ws T none v));
}

module _ {W : List ℕ} {n : ℕ} {b : Buffer} {ws : List ℕ} {size : ℕ} {whole : ℕ → Tally} {H : List ℕ} {i next bound : ℕ} {T : List ℕ} (g : Going W n b ws size whole H i next bound T)
    (f : Front) (shown : Shown (buffer_items b i) f) (t : ℕ) (e : t ≡ max next f.reach) where
  top : top_all 0 (groups W n H b i) ≡ t
  top = top-step (views W n H) (buffer_items b i) next f.reach t g.top shown.reach e

  -- nothing is left
  pub stop-ended : t ≡ 0 → (v : ℕ) → Watched ws v → whole v ≡ tallied (held_for ws T v)
  stop-ended z v m = g.same v m ∙ ended v bound (held_for ws T v) (groups W n H b i) (top ∙ z) (held-few ws T g.slots g.tidy v)

  -- a head reaches a key that was passed
  pub stop-high : bound < t → Fault ws whole
  stop-high h = record {
    window = 65536;
    watched = outside ws;
    told = g.same 65536 (outside ws) ∙ too-high 65536 bound (held_for ws T 65536) (groups W n H b i) (rw top h);
  }

  module _ (k : ℕ) (here : t ≡ suc k) (low : t ≤ bound) (fine : Bool) (all : fine ≡ heads_fine k (views W n H)) where
    high : top_all 0 (groups W n H b i) ≡ suc k
    high = top ∙ here

    below : suc k ≤ bound
    below = omega arith

    fine-here : heads_fine_all k (groups W n H b i) ≡ fine
    fine-here = fine-pair 0 k (views W n H) (buffer_items b i) (buffer-fine b g.ok i k) ∙ sym all

    -- a head is not well formed
    stop-formed : fine ≡ false → Fault ws whole
    stop-formed f = record {
      window = 65536;
      watched = outside ws;
      told = g.same 65536 (outside ws) ∙ ill-formed 65536 bound (held_for ws T 65536) (groups W n H b i) k high below (fine-here ∙ f);
    }

    module _ (sum : ℤ) (s : sum ≡ head_vals k (views W n H)) (after : Bool) (T' : List ℕ) (step : Step ws T T' k sum (sum +ℤ head_val k (buffer_items b i)) fine after) where
      told_here : (v : ℕ) → kept_of v k sum (sum +ℤ head_val k (buffer_items b i)) (held_for ws T v)
          ≡ tally_if (not (eqb (key_window k) v) || in_ranges (map (head_vals k) (groups W n H b i)))
          (held_for ws T v ++ cond (eqb (key_window k) v && not (is_zero (total_z (map (head_vals k) (groups W n H b i))))) (total_at k (total_z (map (head_vals k) (groups W n H b i))) ∷ []) [])
      told_here v = kept_pair v k (views W n H) (buffer_items b i) (buffer-fine b g.ok i k) sum _ (held_for ws T v) s refl

      -- a sum is out of range, or the counts are too many
      pub stop-judged : after ≡ false → Fault ws whole
      stop-judged z =
          by-test fine
          (λ y. let l = step.lost z y in
          let m : Watched ws (key_window k) = rw l.0 in
          record {
            window = key_window k;
            watched = m;
            told = g.same (key_window k) m ∙ refused (key_window k) bound (held_for ws T (key_window k)) (groups W n H b i) k high below (fine-here ∙ y) (sym (told_here (key_window k)) ∙ l.1);
          })
          stop-formed

      -- the walk goes on
      pub goes_on : after ≡ true → (X : List ℕ) (m v : ℕ) → length X ≡ length H → AllOf (Kept W) (parts 10 n X) → views W n X ≡ map (rest k) (views W n H)
          → (m ≤ b.used) × (buffer_items b m ≡ rest k (buffer_items b i)) → v ≡ topmost_from 0 (views W n X) → Going W n b ws size whole X m v k T'
      goes_on z X m v same-long kept moved place tops = record {
        len = g.len;
        ok = g.ok;
        few = g.few;
        room = g.room;
        long = same-long ∙ g.long;
        kept = kept;
        top = tops;
        place = place.0;
        low = omega (arith, g.low);
        slots = step.long;
        tidy = step.tidy;
        same = λ w o. g.same w o
            ∙ went_on w bound (held_for ws T w) (groups W n H b i) k high below (fine-here ∙ step.so_far z) (held_for ws T' w) (sym (told_here w) ∙ step.kept z w o)
            ∙ ap (resume w k (held_for ws T' w)) (ap₂ (λ (h : Group) (l : List Item). h ∷ (l ∷ []) ∷ []) (sym moved) (sym place.1));
      }
