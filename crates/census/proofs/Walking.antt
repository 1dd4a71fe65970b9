-- The walk's invariant, and its turns.
use Prim.Native.Nat.{max}
use Rattle.lists.proofs.Prelude.{Bool, true, false, ◌&&◌, ◌||◌, List, [], ◌∷◌, map, ◌≡◌, refl, sym, ap, ap₂, ◌∙◌, ℕ, suc, ◌+◌, ◌*◌, ◌<◌, ◌≤◌, arith, eqb, ℤ, ◌+ℤ◌, +ℤ_idr, length, every, down, AllOf, by-test, keep-both, keep_same, and_comm, and-false, and_right, and_both}
use Rattle.keyed.specs.Keys.{Item, topmost_from, rest, head_val, head_vals, heads_fine}
use Rattle.keyed.specs.Groups.{Group, top_all, heads_fine_all}
use Rattle.words.specs.Words.{Below}
use Rattle.postings.specs.declared.Posting.{Posting}
use Rattle.postings.specs.declared.Stretch.{Stretch}
use Rattle.postings.specs.Order.{ordered}
use Rattle.postings.specs.Sums.{is_above}
use Rattle.state.specs.declared.Buffer.{Buffer}
use Rattle.state.specs.declared.State.{State}
use Rattle.state.specs.declared.Windows.{Windows}
use Rattle.state.specs.Views.{buffered}
use Rattle.state.specs.Rules.{state_rule}
use Rattle.state.specs.Shown.{shows_in, shown_in}
use Rattle.state.proofs.Kept.{state-kept}
use Rattle.partitions.specs.Formed.{list_rule}
use Rattle.kway.specs.Parts.{parts}
use Rattle.kway.specs.Leads.{Leads}
use Rattle.kway.specs.Ranges.{total_z}
use Rattle.kway.proofs.Ranges.{top-step}
use Rattle.scans.specs.Keys.{key_window}
use Rattle.scans.specs.Heads.{views, Kept}
use Rattle.sums.specs.declared.Front.{Front}
use Rattle.sums.specs.Tally.{counts_of, is_live}
use Rattle.sums.proofs.Tally.{buffer_items, Walkable, groups}
use Rattle.sums.proofs.Buffers.{Shown, buffer-fine}
use Rattle.sums.proofs.Resumes.{fine-pair}
use Rattle.sums.proofs.ReadBack.{buffer-walkable}
use Rattle.census.specs.Existing.{existing, CountedWell}
use Rattle.census.specs.Marks.{marked, Covers, Unmarked, MarkStep}
use Rattle.census.specs.Walks.{lists, held, Orderly}
use Rattle.census.proofs.Counts.{counted, counted_none, counted-few, counted-more}
use Rattle.census.proofs.Lives.{resume, ended, too-high, ill-formed, went_on, start-formed, start-lives}

-- a buffer that keeps its rule, and what the walk needs of one
pub orderly : (s : State) → state_rule s ≡ true → s.windows.last ≤ 65535 → Orderly s.buffer
unfolding list_rule
orderly s rule last =
    let w = buffer-walkable s rule last in
    record { few = w.few; keyed = w.keyed; ruled = and_both (ordered (buffered s.buffer)) _ (state-kept s rule).buffer.order w.fine }

walkable : (b : Buffer) → Orderly b → Walkable b
unfolding list_rule
walkable b ok = record { few = ok.few; keyed = ok.keyed; fine = and_right (ordered (buffered b)) _ ok.ruled }

-- formed tells whether all lists are well formed, and lives whether a window lives where they are. Both are told where heads and buffer have keys below the
-- bound to come, and of the windows that show in the stretch those are marked, and counted, that live by the keys passed
pub record Going (W : List ℕ) (n : ℕ) (b : Buffer) (t : Stretch) (o : ℕ) (formed : Bool) (lives : ℕ → Bool) (size span : ℕ) (H : List ℕ) (i next lead others bound : ℕ) (M : List ℕ) (windows : ℕ) : Type 0 where
  pub len : length b.postings ≡ 128
  pub ok : Walkable b
  pub few : n ≤ 51
  pub room : 10 * n ≤ size
  pub long : length H ≡ size
  pub kept : AllOf (Kept W) (parts 10 n H)
  pub top : next ≡ topmost_from 0 (views W n H)
  pub leads : Leads (views W n H) lead others
  pub place : i ≤ b.used
  pub low : bound ≤ 67108864
  pub marks : length M ≡ span
  pub covers : Covers t M
  pub counts : windows ≡ counted t o M
  pub fine : formed ≡ resume 0 bound true (groups W n H b i)
  pub same : (v : ℕ) → shows_in t o v ≡ true → (formed && lives v) ≡ resume v bound (marked t M v) (groups W n H b i)

module _ (W : List ℕ) (n : ℕ) (H : List ℕ) (b : Buffer) (t : Stretch) (o : ℕ) (M : List ℕ) (small : Below 4294967296 W) (kept : AllOf (Kept W) (parts 10 n H)) (ok : Orderly b) where
  -- does a window live by heads and buffer
  abbrev pub lives_by : ℕ → Bool
  lives_by w = is_live (counts_of w (held W n H b))

  -- at the start
  pub going_start : length b.postings ≡ 128 → n ≤ 51 → 10 * n ≤ length H → (next lead others : ℕ) → next ≡ topmost_from 0 (views W n H) → Leads (views W n H) lead others → Covers t M → Unmarked M
      → Going W n b t o (every list_rule (lists W n H)) lives_by (length H) (length M) H 0 next lead others 67108864 M 0
  going_start len few room next lead others top leads covers none = record {
    len = len;
    ok = walkable b ok;
    few = few;
    room = room;
    long = refl;
    kept = kept;
    top = top;
    leads = leads;
    place = omega arith;
    low = omega arith;
    marks = refl;
    covers = covers;
    counts = sym (counted_none t o M none);
    fine = start-formed W n H b small kept ok;
    same = λ v s. start-lives W n H b small kept ok v ∙ ap (λ (x : Bool). resume v 67108864 x (groups W n H b 0)) (sym (none _));
  }

module _ {W : List ℕ} {n : ℕ} {b : Buffer} {t : Stretch} {o : ℕ} {formed : Bool} {lives : ℕ → Bool} {size span : ℕ} {H : List ℕ} {i next lead others bound : ℕ} {M : List ℕ} {windows : ℕ}
    (g : Going W n b t o formed lives size span H i next lead others bound M windows) (f : Front) (shown : Shown (buffer_items b i) f) (u : ℕ) (e : u ≡ max next f.reach) where
  abbrev left : List Group
  left = groups W n H b i

  top : top_all 0 left ≡ u
  top = top-step (views W n H) (buffer_items b i) next f.reach u g.top shown.reach e

  -- nothing is left
  pub stop-ended : u ≡ 0 → (formed ≡ true) × ((v : ℕ) → shows_in t o v ≡ true → (formed && lives v) ≡ marked t M v)
  stop-ended z = (g.fine ∙ ended 0 bound true left (top ∙ z), λ v s. g.same v s ∙ ended v bound (marked t M v) left (top ∙ z))

  -- a head reaches a key that was passed
  pub stop-high : bound < u → formed ≡ false
  stop-high h = g.fine ∙ too-high 0 bound true left (rw top h)

  module _ (k : ℕ) (here : u ≡ suc k) (low : u ≤ bound) (fine : Bool) (all : fine ≡ heads_fine k (views W n H)) where
    high : top_all 0 left ≡ suc k
    high = top ∙ here

    below : suc k ≤ bound
    below = omega arith

    fine-here : heads_fine_all k left ≡ fine
    fine-here = fine-pair 0 k (views W n H) (buffer_items b i) (buffer-fine b g.ok i k) ∙ sym all

    -- a head is not well formed
    pub stop-formed : fine ≡ false → formed ≡ false
    stop-formed x = g.fine ∙ ill-formed 0 bound true left k high below (fine-here ∙ x)

    module _ (x : fine ≡ true) (z : ℤ) (total : z ≡ head_vals k (views W n H) +ℤ head_val k (buffer_items b i)) (r : ℕ) (M' : List ℕ) (step : MarkStep t o (key_window k) z M r M') where
      total_here : z ≡ total_z (map (head_vals k) left)
      total_here = total ∙ rw (+ℤ_idr (head_val k (buffer_items b i)), +ℤ_idr (head_val k (buffer_items b i)))

      moved-covers : Covers t M'
      moved-covers = record { some = g.covers.some; room = rw step.long g.covers.room }

      -- the walk goes on
      pub goes_on : (X : List ℕ) (m v l p : ℕ) → length X ≡ length H → AllOf (Kept W) (parts 10 n X) → views W n X ≡ map (rest k) (views W n H)
          → (m ≤ b.used) × (buffer_items b m ≡ rest k (buffer_items b i)) → v ≡ topmost_from 0 (views W n X) → Leads (views W n X) l p
          → Going W n b t o formed lives size span X m v l p k M' (windows + r)
      goes_on X m v l p same-long kept moved place tops leads = record {
        len = g.len;
        ok = g.ok;
        few = g.few;
        room = g.room;
        long = same-long ∙ g.long;
        kept = kept;
        top = tops;
        leads = leads;
        place = place.0;
        low = omega (arith, g.low);
        marks = step.long ∙ g.marks;
        covers = moved-covers;
        counts = ap (λ (c : ℕ). c + r) g.counts ∙ sym (counted-more t o M (key_window k) z r M' step g.covers (omega arith));
        fine = g.fine ∙ went_on 0 bound true left k high below (fine-here ∙ x) true refl ∙ ap (resume 0 k true) after;
        same = λ w s. g.same w s
            ∙ went_on w bound (marked t M w) left k high below (fine-here ∙ x) (marked t M' w) (step.marks w s ∙ ap (λ (y : ℤ). marked t M w || (eqb (key_window k) w && is_above y)) total_here)
            ∙ ap (resume w k (marked t M' w)) after;
      }
        where
          after : map (λ (x : Group). map (rest k) x) left ≡ groups W n X b m
          after = ap₂ (λ (h : Group) (l : List Item). h ∷ (l ∷ []) ∷ []) (sym moved) (sym place.1)

-- ---- what is told

-- the windows that show and are marked are those that exist
exists-marked : (t : Stretch) (v : Windows) (l : List Posting) (M : List ℕ) → ((w : ℕ) → shows_in t v.current w ≡ true → is_live (counts_of w l) ≡ marked t M w) → counted t v.current M ≡ existing l (shown_in t v)
unfolding counted existing shown_in
exists-marked t v l M e =
    ap length
    (keep_same (λ w. shows_in t v.current w && marked t M w) (λ w. is_live (counts_of w l) && shows_in t v.current w) each (down 65535)
    ∙ keep-both (λ w. is_live (counts_of w l)) (shows_in t v.current) (λ w. is_live (counts_of w l) && shows_in t v.current w) (λ w. refl) (down 65535))
  where
    each : (w : ℕ) → (shows_in t v.current w && marked t M w) ≡ (is_live (counts_of w l) && shows_in t v.current w)
    each w =
        and_comm (shows_in t v.current w) (marked t M w)
        ∙ by-test (shows_in t v.current w)
        (λ y. ap (λ (x : Bool). x && shows_in t v.current w) (sym (e w y)))
        (λ n. rw (n, and-false (marked t M w)) (sym (and-false (is_live (counts_of w l)))))

-- where all lists are well formed, N is what was counted
pub told : (t : Stretch) (v : Windows) (l : List Posting) (formed : Bool) (M : List ℕ) (windows : ℕ) → windows ≡ counted t v.current M
    → (formed ≡ true) × ((w : ℕ) → shows_in t v.current w ≡ true → (formed && is_live (counts_of w l)) ≡ marked t M w) → CountedWell formed l (shown_in t v) windows
told t v l formed M windows c e = record {
  fine = e.0;
  windows = c ∙ exists-marked t v l M (λ w s. rw e.0 at (e.1 w s));
  few = rw c (counted-few t v.current M);
}
