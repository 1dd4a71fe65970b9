-- Heads put one after another: each at the start of a list on the card.
use Rattle.lists.proofs.Prelude.{List, map, ◌≡◌, refl, sym, ap, ◌∙◌, subst, ℕ, zero, suc, ◌+◌, ◌*◌, ◌/◌, ◌%◌, ◌<◌, ◌≤◌, add-one, arith, length, get_or, take, take-suc, lt-ltb, AllOf, map-append, [], ◌∷◌}
use Rattle.postings.specs.Sums.{under}
use Rattle.state.specs.declared.State.{State}
use Rattle.state.specs.Views.{buffered, finished}
use Rattle.card.specs.declared.Cursor.{Cursor}
use Rattle.card.specs.Cursors.{ahead_at, ahead, Good}
use Rattle.card.proofs.Cursors.{in_block, in-card}
use Rattle.partitions.specs.Reading.{postings_of}
use Rattle.kway.specs.Parts.{part, parts}
use Rattle.kway.proofs.Parts.{put_in, all_more, put-length, put-here}
use Rattle.heads.specs.Heads.{cursor_at, comes, Lies, Kept}
use Rattle.terms.specs.Opening.{listed, Opens}
use Rattle.heads.proofs.Heads.{comes-none}
use Rattle.terms.proofs.Fronts.{parts-front}

-- the place of a cursor
module _ (W R : List ℕ) (c : Cursor) (g : Good W c) where
  abbrev place : ℕ
  place = 1024 * c.block + c.word

  module _ (h : 0 < c.left) where
    on-card : place < 4194304
    on-card = let a = in_block W c h g in let b = in-card W c h g in omega (arith, b.few)

    same : cursor_at place c.left ≡ c
    same =
        let a = in_block W c h g in
        let x : place / 1024 ≡ c.block = omega arith in
        let y : place % 1024 ≡ c.word = omega arith in
        rw (x, y)

  pub place-lies : Lies W R place c.left
  place-lies = record { card = λ h f. subst (Good W) (sym (same h)) g; run = λ h f. absurd (omega (arith, on-card h)) }

  pub place-comes : comes W R place c.left ≡ ahead W c
  unfolding comes ahead_at
  place-comes = go c.left refl
    where
      go : (n : ℕ) → c.left ≡ n → comes W R place c.left ≡ ahead W c
      go zero e = comes-none W R place c.left e ∙ rw e
      go (suc n) e = let h : 0 < c.left = omega arith in rw (lt-ltb place 4194304 (on-card h)) (ap (ahead W) (same h))

-- ---- the heads of i lists, and one more

pub record Put {B C : Type 0} (K : List ℕ → Type 0) (f : List ℕ → C) (g : B → C) (i : ℕ) (H : List ℕ) (m : List B) : Type 0 where
  pub all : AllOf K (parts 4 i H)
  pub lists : map f (parts 4 i H) ≡ map g (take i m)

module _ {B C : Type 0} (K : List ℕ → Type 0) (f : List ℕ → C) (g : B → C) where
  pub put_first : (H : List ℕ) (m : List B) → Put K f g 0 H m
  unfolding AllOf parts
  put_first H m = record { all = tt; lists = refl }

  pub put_next : (i : ℕ) (H h : List ℕ) (m : List B) (d : B) → Put K f g i H m → 4 * i + 4 ≤ length H → length h ≡ 4 → i < length m → K h → f h ≡ g (get_or m i d) → Put K f g (i + 1) (put_in 4 H h i) m
  unfolding parts
  put_next i H h m d t inside four l k e =
      let same : parts 4 i (put_in 4 H h i) ≡ parts 4 i H = parts-front 4 i H _ (omega arith) in
      let here : part 4 i (put_in 4 H h i) ≡ h = put-here 4 H h i inside four in
      record {
        all = rw (add-one i) (all_more K (parts 4 i (put_in 4 H h i)) (part 4 i (put_in 4 H h i)) (rw same t.all) (rw here k));
        lists = rw (add-one i, same, here, map-append f (parts 4 i H) (h ∷ []), take-suc m i d l, map-append g (take i m) (get_or m i d ∷ []), t.lists, e);
      }

-- the lists' heads, and then the run's
pub opened : (W R : List ℕ) (s : State) (i : ℕ) (H Q : List ℕ) → length H ≡ 4 * s.partitions.used + 4
    → AllOf (Kept W R) (parts 4 s.partitions.used H) → map (listed W R i) (parts 4 s.partitions.used H) ≡ map (λ p. under i (postings_of W p)) (finished s.partitions)
    → Kept W R Q → listed W R i Q ≡ under i (buffered s.buffer) → Opens W R s i (put_in 4 H Q s.partitions.used)
opened W R s i H Q long kept lists last run =
    let n = s.partitions.used in
    let inside : 4 * n + 4 ≤ length H = omega arith in
    let same : parts 4 n (put_in 4 H Q n) ≡ parts 4 n H = parts-front 4 n H _ (omega arith) in
    let here : part 4 n (put_in 4 H Q n) ≡ Q = put-here 4 H Q n inside last.four in
    record {
      long = put-length 4 H Q n inside last.four ∙ long;
      ready = record { lists = rw same kept; run = rw here last };
      lists = rw same lists;
      run = rw here run;
    }
