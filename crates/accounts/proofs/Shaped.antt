-- The account's own shape: partitions and buffer in order and without a count of 0, levels within their limits and never rising, and the merge in
-- progress. Flushes, steps and what is added to the buffer keep it.
use Rattle.lists.proofs.Prelude.{Bool, true, false, ◌||◌, ◌&&◌, not, List, [], ◌∷◌, foldr, ◌≡◌, refl, sym, ap, ap₂, ◌∙◌, subst, ℕ, suc, ◌+◌, ◌*◌, ◌≤◌, arith, eqb, leb, length, take, drop, eqb-true, eqb-false, eq-eqb, le-leb, leb-false, ltb-false, any, every, empty, by-test, and_both, every_append, every_take, every_drop, every-from, length-keep, not-false}
use Rattle.postings.specs.declared.Posting.{Posting}
use Rattle.postings.specs.Order.{same_pair, ordered}
use Rattle.postings.specs.Merge.{put, is_counted, nonzero}
use Rattle.postings.proofs.Order.{same-swap}
use Rattle.postings.proofs.Merge.{puts-ordered, nonzero-ordered, nonzero-counts, length-put, length-puts, length-put-there}
use Rattle.state.specs.Levels.{due_at, next_level, level_limit, levels, of_level, oldest_at, replaced}
use Rattle.levels.proofs.Runs.{falls, due-first}
use Rattle.levels.proofs.Replaced.{falls-add, replaced-falls, replaced-limits, added-limits}
use Rattle.accounts.specs.Account.{Portion, Account, due_of, inputs_of, merged, portion_of, completed, furthered, stepped_account, flushed_account, overflows, exceeds, added_to}
use Rattle.accounts.proofs.Stored.{level_of, merged-ordered, merged-counts, step-ends, step-goes, buffer-stepped}
use Rattle.accounts.proofs.Steps.{pair_count, Progress, progress-flushed, progress-stepped}

-- a partition has postings, in order and without a count of 0
abbrev pub portion_rule : Portion → Bool
portion_rule p = not (empty p.postings) && (ordered p.postings && every is_counted p.postings)

-- no level has more partitions than it may
abbrev pub within_limits : List Portion → Bool
within_limits ps = every (λ u. leb (of_level level_of u ps) (level_limit u)) levels

pub record Shaped (a : Account) : Type 0 where
  pub parts : every portion_rule a.partitions ≡ true
  pub order : ordered a.buffer ≡ true
  pub counted : every is_counted a.buffer ≡ true
  pub room : length a.buffer ≤ 128
  pub progress : Progress a
  pub low : every (λ p. leb (level_of p) 5) a.partitions ≡ true
  pub limits : within_limits a.partitions ≡ true
  pub fall : falls level_of a.partitions ≡ true

pub shaped-empty : Shaped (record { buffer = []; partitions = []; steps = 0 })
shaped-empty = record {
  parts = refl;
  order = refl;
  counted = refl;
  room = omega arith;
  progress = λ k. absurd (omega arith);
  low = refl;
  limits = refl;
  fall = refl;
}

-- ---- a flush

pub shaped-flushed : (a : Account) → Shaped a → empty a.buffer ≡ false → leb 16 (of_level level_of 0 a.partitions) ≡ false → Shaped (flushed_account a)
shaped-flushed a s some ten = record {
  parts = unfold flushed_account in (every_append portion_rule a.partitions (new ∷ []) ∙ rw (s.parts, some, s.order, s.counted));
  order = unfold flushed_account in refl;
  counted = unfold flushed_account in refl;
  room = unfold flushed_account in omega arith;
  progress = progress-flushed a s.progress;
  low = unfold flushed_account in (every_append (λ p. leb (level_of p) 5) a.partitions (new ∷ []) ∙ rw s.low);
  limits = unfold flushed_account in added-limits level_of a.partitions new refl (leb-false 16 (of_level level_of 0 a.partitions) ten) s.limits;
  fall = unfold flushed_account in falls-add level_of a.partitions new s.fall refl;
}
  where
    new : Portion
    new = record { level = 0; postings = a.buffer }

-- ---- a step

-- what holds of all partitions and of the result holds with the result in the inputs' place
pub every-replaced : {P : Type 0} (level : P → ℕ) (t : P → Bool) (vs : List ℕ) (ps R : List P) → every t ps ≡ true → every t R ≡ true → every t (replaced level vs ps R) ≡ true
every-replaced level t [] ps R e f = e
every-replaced level t (v ∷ vs) ps R e f =
    let k = oldest_at level v ps in
    every_append t (take k ps) _
    ∙ and_both (every t (take k ps)) _ (every_take t k ps e)
    (every_append t R _ ∙ and_both (every t R) _ f (every_drop t (due_at v) (drop k ps) (every_drop t k ps e)))

-- a result is one partition at most
portion-one : (a : Account) → length (portion_of a) ≤ 1
portion-one a = by-test (empty (merged a)) (λ y. rw y (omega arith)) (λ n. rw n (omega arith))

-- it keeps the partitions' rule
portion-rule : (a : Account) → every portion_rule (portion_of a) ≡ true
portion-rule a = by-test (empty (merged a)) (λ y. rw y) (λ n. rw (n, n, merged-ordered a, merged-counts a))

-- and is of the next level
pub portion-level : (a : Account) (v : ℕ) (vs : List ℕ) → due_of a ≡ v ∷ vs → every (λ p. eqb (level_of p) (next_level v)) (portion_of a) ≡ true
portion-level a v vs e =
    by-test (empty (merged a)) (λ y. rw y)
    (λ n. rw (n, e, eq-eqb (next_level v) (next_level v) refl))

next_low : (v : ℕ) → v ≤ 5 → next_level v ≤ 5
next_low v h = by-test (eqb v 5) (λ y. rw y (omega arith)) (λ n. let d = eqb-false v 5 n in rw n (omega arith))

module _ (a : Account) (s : Shaped a) where
  completed-parts : every portion_rule (completed a).partitions ≡ true
  unfolding completed
  completed-parts = every-replaced level_of portion_rule (due_of a) a.partitions (portion_of a) s.parts (portion-rule a)

  -- where a level is due, the result is one partition of the next level in the inputs' place
  completed-levels : (vs : List ℕ) → due_of a ≡ vs
      → (every (λ p. leb (level_of p) 5) (completed a).partitions ≡ true) × (within_limits (completed a).partitions ≡ true) × (falls level_of (completed a).partitions ≡ true)
  unfolding completed
  completed-levels [] e = rw e (s.low, s.limits, s.fall)
  completed-levels (v ∷ vs) e =
      let f = due-first level_of a.partitions v vs e in
      let same = portion-level a v vs e in
      let low : every (λ p. leb (level_of p) 5) (portion_of a) ≡ true =
      every-from (λ p. eqb (level_of p) (next_level v)) (λ p. eqb (level_of p) (next_level v)) (λ p. leb (level_of p) 5)
      (λ p y z. let q = eqb-true (level_of p) (next_level v) y in le-leb (level_of p) 5 (omega (arith, next_low v f.0))) (portion_of a) same same in (
        every-replaced level_of (λ p. leb (level_of p) 5) (due_of a) a.partitions (portion_of a) s.low low,
        subst (λ us. within_limits (replaced level_of us a.partitions (portion_of a)) ≡ true) (sym e) (replaced-limits level_of v vs a.partitions (portion_of a) s.fall e (portion-one a) same s.limits),
        subst (λ us. falls level_of (replaced level_of us a.partitions (portion_of a)) ≡ true) (sym e) (replaced-falls level_of v vs a.partitions (portion_of a) s.fall f.1 (portion-one a) same),
      )

  pub shaped-stepped : Shaped (stepped_account a)
  shaped-stepped = record {
    parts = by-test last (λ y. rw (step-ends a y) completed-parts) (λ n. rw (step-goes a n) (unfold furthered in s.parts));
    order = rw (buffer-stepped a) s.order;
    counted = rw (buffer-stepped a) s.counted;
    room = rw (buffer-stepped a) s.room;
    progress = progress-stepped a;
    low = by-test last (λ y. rw (step-ends a y) (completed-levels (due_of a) refl).0) (λ n. rw (step-goes a n) (unfold furthered in s.low));
    limits = by-test last (λ y. rw (step-ends a y) (completed-levels (due_of a) refl).1) (λ n. rw (step-goes a n) (unfold furthered in s.limits));
    fall = by-test last (λ y. rw (step-ends a y) (completed-levels (due_of a) refl).2) (λ n. rw (step-goes a n) (unfold furthered in s.fall));
  }
    where
      last : Bool
      last = leb (pair_count a) (16 * suc a.steps)

-- ---- what is added to the buffer

pub shaped-added : (ps : List Posting) (a : Account) → Shaped a → length (nonzero (foldr put a.buffer ps)) ≤ 128 → Shaped (added_to ps a)
unfolding added_to inputs_of
shaped-added ps a s h = record {
  parts = s.parts;
  order = nonzero-ordered (foldr put a.buffer ps) (puts-ordered ps a.buffer s.order);
  counted = nonzero-counts (foldr put a.buffer ps);
  room = h;
  progress = s.progress;
  low = s.low;
  limits = s.limits;
  fall = s.fall;
}

-- the buffer after the flush that a test asks for, if it asks for one: as it was, or empty
pub data Roomed (t : Bool) (a : Account) : Account → Type 0 where
  as_before : t ≡ false → Roomed t a a
  emptied : {b : Account} → b.buffer ≡ [] → Roomed t a b

length-nonzero : (l : List Posting) → length (nonzero l) ≤ length l
unfolding nonzero
length-nonzero l = length-keep is_counted l

-- the account's test for an event's pair, as the order of postings has it
pub overflows-is : (p : Posting) (a : Account) → overflows p a ≡ (eqb (length a.buffer) 128 && not (any (same_pair p) a.buffer))
unfolding overflows
overflows-is p a = ap (λ t. eqb (length a.buffer) 128 && not t) (turned a.buffer)
  where
    turned : (l : List Posting) → any (λ q. eqb q.id p.id && eqb q.window p.window) l ≡ any (same_pair p) l
    turned [] = refl
    turned (q ∷ l) = ap₂ ◌||◌ (same-swap q p) (turned l)

-- an event finds room
pub event-room : (p : Posting) (a b : Account) → Shaped b → Roomed (overflows p a) a b → length (nonzero (foldr put b.buffer (p ∷ []))) ≤ 128
event-room p a b s (as_before e) =
    by-test (eqb (length a.buffer) 128)
    (λ y. let there : any (same_pair p) a.buffer ≡ true = not-false (any (same_pair p) a.buffer) (sym (ap (λ t. t && not (any (same_pair p) a.buffer)) y) ∙ sym (overflows-is p a) ∙ e) in
    omega (arith, length-nonzero (put p a.buffer), length-put-there p a.buffer s.order there, s.room))
    (λ n. let d = eqb-false (length a.buffer) 128 n in omega (arith, length-nonzero (put p a.buffer), length-put p a.buffer, s.room))
event-room p a b s (emptied e) = omega (arith, length-nonzero (foldr put b.buffer (p ∷ [])), length-puts (p ∷ []) b.buffer, ap length e)

-- and so does a removal of at most 64 counts
pub removal-room : (ps : List Posting) (a b : Account) → length ps ≤ 64 → Roomed (exceeds ps a) a b → length (nonzero (foldr put b.buffer ps)) ≤ 128
unfolding exceeds
removal-room ps a b h (as_before e) = omega (arith, length-nonzero (foldr put a.buffer ps), length-puts ps a.buffer, ltb-false 128 (length a.buffer + length ps) e)
removal-room ps a b h (emptied e) = omega (arith, length-nonzero (foldr put b.buffer ps), length-puts ps b.buffer, ap length e)
