-- What a flush that stands alone comes to, and that it tells what follows a flush whatever that is.
use Rattle.std.specs.Prelude.{Option, Some, None, Result, Ok, Err}
use Rattle.lists.proofs.Prelude.{Bool, true, false, not, ◌||◌, List, [], ◌∷◌, ◌≡◌, refl, sym, ap, ◌∙◌, ℕ, suc, ◌*◌, ◌<◌, ◌≤◌, arith, length, get_or, le-leb, lt-leb, lt-ltb, le-ltb, not-false, empty, by-test, or-none, empty-not}
use Rattle.std.specs.Prelude.{None, Some, slice_get}
use Rattle.words.specs.Words.{words, bytes}
use Rattle.answers.specs.declared.Refusal.{Refusal}
use Rattle.answers.specs.declared.Refusal.TheVariants.{LevelFull, HalfFull, TooFewFree}
use Rattle.answers.specs.Answers.{Outcome, refuse, leave, refuse_if, choose}
use Rattle.answers.specs.Numbers.{refusal_number}
use Rattle.state.specs.declared.Partition.{Partition}
use Rattle.state.specs.declared.State.{State}
use Rattle.state.specs.Views.{blocks, buffered, finished}
use Rattle.state.specs.Levels.{of_level}
use Rattle.state.specs.Probe.{Store}
use Rattle.card.specs.Blocks.{free_blocks}
use Rattle.flushes.specs.Flush.{finished_blocks, flushing, flushing_if, flushed_to, flushed_card}
use Rattle.flushes.specs.Targets.{written, Aimed}

-- ---- from what is judged to the target

module _ (s : State) (card : List ℕ) (wanted : Bool) where
  -- no flush is wanted, or nothing is buffered
  pub idle : (not wanted || empty (buffered s.buffer)) ≡ true → Aimed wanted s card (Ok None)
  unfolding flushing_if flushing choose
  idle i = by-test wanted (λ w. let e : empty (buffered s.buffer) ≡ true = rw w at i in (rw (w, e), i)) (λ n. (rw n, i))

  module _ (i : (not wanted || empty (buffered s.buffer)) ≡ false) where
    w : wanted ≡ true
    w = not-false wanted (or-none (not wanted) _ i).0

    e : empty (buffered s.buffer) ≡ false
    e = (or-none (not wanted) _ i).1

    pub level-full : 16 ≤ of_level (λ (p : Partition). p.level) 0 (finished s.partitions) → Aimed wanted s card (Err LevelFull)
    unfolding flushing_if flushing choose refuse_if
    level-full h = rw (w, e, le-leb _ _ h)

    module _ (room : of_level (λ (p : Partition). p.level) 0 (finished s.partitions) < 16) where
      pub half_full : blocks s < 2 * suc (finished_blocks s) → Aimed wanted s card (Err HalfFull)
      unfolding flushing_if flushing choose refuse_if
      half_full h = rw (w, e, lt-leb _ _ room, lt-ltb _ _ h)

      module _ (half : 2 * suc (finished_blocks s) ≤ blocks s) where
        abbrev free : List ℕ
        free = free_blocks (words card) (blocks s) s.taken

        pub none_free : empty free ≡ true → Aimed wanted s card (Err TooFewFree)
        unfolding flushing_if flushing choose refuse_if
        none_free n = rw (w, e, lt-leb _ _ room, le-ltb _ _ half, n)

        pub first-free : empty free ≡ false → (b : ℕ) → b ≡ get_or free 0 0 → Aimed wanted s card (Ok (Some b))
        unfolding flushing_if flushing choose refuse_if
        first-free n b f =
            let there : 1 ≤ length free = empty-not free n in
            let some : 1 ≤ length (buffered s.buffer) = empty-not (buffered s.buffer) e in
            (rw (w, e, lt-leb _ _ room, le-ltb _ _ half, n, f), record { some = some; room = room; half = half; there = there; block = f })

-- a block found is the first of the free ones
pub block-found : (l : List ℕ) (b : ℕ) → Some b ≡ slice_get l 0 → (empty l ≡ false) × (b ≡ get_or l 0 0)
block-found [] b e = cc
block-found (d ∷ l) b e = (refl, cc)

-- none is found among no free ones
pub none_found : (l : List ℕ) → None ≡ slice_get l 0 → empty l ≡ true
none_found [] e = refl
none_found (b ∷ l) e = cc

-- nothing to write with something buffered: no flush is wanted
pub not-wanted-only : (w t : Bool) → (not w || t) ≡ true → t ≡ false → w ≡ false
not-wanted-only true t e f = let z : ◌≡◌ {A = ℕ} 0 1 = cc in absurd (omega arith)
not-wanted-only false t e f = refl

-- every flush has a target
pub record Aim (wanted : Bool) (s : State) (card : List ℕ) : Type 0 where
  pub target : Result (Option ℕ) Refusal
  pub aimed : Aimed wanted s card target

-- ---- what follows a flush

module _ {S : Type 0} (k : State → List ℕ → Outcome S) where
  -- what follows what a flush that stands alone comes to
  abbrev pub followed : Outcome Store → Outcome S
  followed (refuse n) = refuse n
  followed (leave x p) = k p.state p.card

  followed-if : (t : Bool) (n : ℕ) (o : Outcome Store) → followed (refuse_if t n o) ≡ refuse_if t n (followed o)
  unfolding refuse_if
  followed-if true n o = refl
  followed-if false n o = refl

  followed-choose : (t : Bool) (o p : Outcome Store) → followed (choose t o p) ≡ choose t (followed o) (followed p)
  unfolding choose
  followed-choose true o p = refl
  followed-choose false o p = refl

  -- an event's flush, a removal's, or a flush itself
  pub follows : (wanted : Bool) (s : State) (card : List ℕ) → flushing_if wanted s card k ≡ followed (flushing_if wanted s card written)
  unfolding flushing_if flushing
  follows wanted s card = sym (simp (followed-choose, followed-if))

-- a flush is one that is wanted
pub flushing-wanted : {S : Type 0} (s : State) (card : List ℕ) (k : State → List ℕ → Outcome S) → flushing s card k ≡ flushing_if true s card k
unfolding flushing_if choose
flushing-wanted s card k = refl

-- ---- what a target tells of what follows

module _ {S : Type 0} (k : State → List ℕ → Outcome S) (wanted : Bool) (s : State) (card : List ℕ) where
  pub follows-refused : (why : Refusal) → Aimed wanted s card (Err why) → flushing_if wanted s card k ≡ refuse (refusal_number why)
  follows-refused why a = follows k wanted s card ∙ ap (followed k) a

  pub follows-plain : Aimed wanted s card (Ok None) → flushing_if wanted s card k ≡ k s card
  follows-plain a = follows k wanted s card ∙ ap (followed k) a.0

  pub follows-written : (b : ℕ) → Aimed wanted s card (Ok (Some b)) → flushing_if wanted s card k ≡ k (flushed_to s b) (bytes (flushed_card s (words card) b))
  follows-written b a = follows k wanted s card ∙ ap (followed k) a.0
