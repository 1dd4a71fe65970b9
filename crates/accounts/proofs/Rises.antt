-- The rise of a pair: what partitions and buffer hold of it, each for itself, where that is above 0, added up. A flush keeps it, a merge and a removal never raise
-- it. Where all together come to a count, no sum over some of the parts, whichever they are, is further from 0 than the rise.
use Rattle.lists.proofs.Prelude.{Bool, true, false, not, cond, List, [], ◌∷◌, ◌++◌, foldr, ◌≡◌, refl, sym, ap, ◌∙◌, subst, ℕ, suc, ◌+◌, ◌-◌, ◌*◌, ◌≤◌, arith, ltb, leb, ℤ, pos, negsuc, nat_abs, ◌+ℤ◌, +ℤ_idl, +ℤ_idr, +ℤ_assoc, +ℤ_comm, pos-ne-negsuc, take, drop, ltb-false, keep, empty, total_by, by-test, empty-is}
use Rattle.lists.proofs.Ints.{sum-swap}
use Rattle.postings.specs.declared.Posting.{Posting}
use Rattle.postings.specs.Merge.{put}
use Rattle.postings.specs.Sums.{sum, above}
use Rattle.postings.proofs.Sums.{sum-append, sum-puts, sum-nonzero}
use Rattle.state.specs.Levels.{oldest_at, due_at, oldest, replaced}
use Rattle.accounts.specs.Account.{Portion, Account, postings_in, stored_in, due_of, inputs_of, merged, portion_of, completed, furthered, stepped_account, flushed_account, added_to}
use Rattle.accounts.proofs.Stored.{level_of, sum_runs, sum-stored, parted, merged-sums, step-ends, step-goes}
use Rattle.accounts.proofs.Steps.{pair_count}

-- ---- signed numbers

-- a count and a number below 0 that come to a count
taken-off : (n m c : ℕ) → pos n +ℤ negsuc m ≡ pos c → n ≡ c + suc m
taken-off n m c e = go (ltb n (suc m)) refl e
  where
    go : (t : Bool) → ltb n (suc m) ≡ t → cond t (negsuc (suc m - suc n)) (pos (n - suc m)) ≡ pos c → n ≡ c + suc m
    go true p q = absurd (pos-ne-negsuc c (suc m - suc n) (sym q))
    go false p q = let h : suc m ≤ n = ltb-false n (suc m) p in let r : n - suc m ≡ c = ap nat_abs q in omega arith

-- a sum is above 0 by no more than its summands
above-sum : (y z : ℤ) → above (y +ℤ z) ≤ above y + above z
above-sum (pos m) (pos n) = omega arith
above-sum (pos m) (negsuc n) = go (ltb m (suc n))
  where
    go : (t : Bool) → above (cond t (negsuc (suc n - suc m)) (pos (m - suc n))) ≤ m + 0
    go true = omega arith
    go false = omega arith
above-sum (negsuc m) (pos n) = go (ltb n (suc m))
  where
    go : (t : Bool) → above (cond t (negsuc (suc m - suc n)) (pos (n - suc m))) ≤ 0 + n
    go true = omega arith
    go false = omega arith
above-sum (negsuc m) (negsuc n) = omega arith

-- of two parts of a count neither is further from 0 than both are above it
part_small : (s r : ℤ) (c m : ℕ) → s +ℤ r ≡ pos c → above s ≤ m → above r ≤ m → nat_abs s ≤ m
part_small (pos n) r c m e h k = h
part_small (negsuc n) (pos j) c m e h k = omega (arith, taken-off j n c (+ℤ_comm (pos j) (negsuc n) ∙ e))
part_small (negsuc n) (negsuc j) c m e h k = absurd (pos-ne-negsuc c (suc (n + j)) (sym e))

-- and where they are above it by the count alone, none is below it
pub part-counts : (s r : ℤ) (c : ℕ) → s +ℤ r ≡ pos c → above s + above r ≤ c → r ≡ pos (above r)
part-counts s (pos m) c e h = refl
part-counts (pos n) (negsuc m) c e h = absurd (omega (arith, taken-off n m c e))
part-counts (negsuc n) (negsuc m) c e h = absurd (pos-ne-negsuc c (suc (n + m)) (sym e))

-- ---- the rise

-- of partitions
abbrev pub rises : List Portion → ℕ → ℕ → ℕ
rises ps i w = total_by (λ (p : Portion). above (sum p.postings i w)) ps

-- of partitions and buffer
abbrev pub rise : Account → ℕ → ℕ → ℕ
rise a i w = rises a.partitions i w + above (sum a.buffer i w)

module _ (i w : ℕ) where
  rises-append : (ps qs : List Portion) → rises (ps ++ qs) i w ≡ rises ps i w + rises qs i w
  rises-append [] qs = omega arith
  rises-append (p ∷ ps) qs = omega (arith, rises-append ps qs)

  -- together they are above 0 by no more
  pub rises-most : (ps : List Portion) → above (sum (postings_in ps) i w) ≤ rises ps i w
  rises-most [] = omega arith
  rises-most (p ∷ ps) =
      rw (sum-append i w p.postings (postings_in ps)) (omega (arith, above-sum (sum p.postings i w) (sum (postings_in ps) i w), rises-most ps))

-- ---- some of the partitions, and the others

pub record Chosen (ps some others : List Portion) : Type 0 where
  pub together : (i w : ℕ) → rises some i w + rises others i w ≡ rises ps i w
  pub sums : (i w : ℕ) → sum (postings_in some) i w +ℤ sum (postings_in others) i w ≡ sum (postings_in ps) i w

-- those that pass a test
pub chosen_by : (t : Portion → Bool) (ps : List Portion) → Chosen ps (keep t ps) (keep (λ p. not (t p)) ps)
chosen_by t [] = record { together = λ i w. omega arith; sums = λ i w. refl }
chosen_by t (p ∷ ps) =
    let c = chosen_by t ps in
    by-test (t p)
    (λ y. rw y (record {
      together = λ i w. omega (arith, c.together i w);
      sums = λ i w. ap (λ z. z +ℤ sum (postings_in (keep (λ q. not (t q)) ps)) i w) (sum-append i w p.postings (postings_in (keep t ps)))
          ∙ +ℤ_assoc (sum p.postings i w) _ _ ∙ ap (λ z. sum p.postings i w +ℤ z) (c.sums i w) ∙ sym (sum-append i w p.postings (postings_in ps));
    }))
    (λ n. rw n (record {
      together = λ i w. omega (arith, c.together i w);
      sums = λ i w. ap (λ z. sum (postings_in (keep t ps)) i w +ℤ z) (sum-append i w p.postings (postings_in (keep (λ q. not (t q)) ps)))
          ∙ sum-swap (sum (postings_in (keep t ps)) i w) (sum p.postings i w) _ ∙ ap (λ z. sum p.postings i w +ℤ z) (c.sums i w) ∙ sym (sum-append i w p.postings (postings_in ps));
    }))

-- all, and none
pub chosen-all : (ps : List Portion) → Chosen ps ps []
chosen-all ps = record { together = λ i w. omega arith; sums = λ i w. +ℤ_idr (sum (postings_in ps) i w) }

pub chosen_none : (ps : List Portion) → Chosen ps [] ps
chosen_none ps = record { together = λ i w. omega arith; sums = λ i w. +ℤ_idl (sum (postings_in ps) i w) }

-- a run of them
pub chosen-run : (A B C : List Portion) → Chosen (A ++ (B ++ C)) B (A ++ C)
chosen-run A B C = record {
  together = λ i w. omega (arith, rises-append i w A (B ++ C), rises-append i w B C, rises-append i w A C);
  sums = λ i w. ap (λ z. sum (postings_in B) i w +ℤ z) (sum_runs i w A C)
      ∙ sum-swap (sum (postings_in B) i w) (sum (postings_in A) i w) (sum (postings_in C) i w)
      ∙ ap (λ z. sum (postings_in A) i w +ℤ z) (sym (sum_runs i w B C)) ∙ sym (sum_runs i w A (B ++ C));
}

-- the inputs of a merge
pub chosen-inputs : (vs : List ℕ) (ps : List Portion) → (others : List Portion) × Chosen ps (oldest level_of vs ps) others
chosen-inputs [] ps = (ps, chosen_none ps)
chosen-inputs (v ∷ vs) ps =
    let k = oldest_at level_of v ps in
    let front = take k ps in
    let ins = take (due_at v) (drop k ps) in
    let back = drop (due_at v) (drop k ps) in
    (front ++ back, subst (λ qs. Chosen qs ins (front ++ back)) (parted level_of v ps) (chosen-run front ins back))

-- ---- sums over some of the partitions, where all that is stored comes to a count

module _ (a : Account) {some others : List Portion} (c : Chosen a.partitions some others) (i w n : ℕ) (count : sum (stored_in a) i w ≡ pos n) where
  -- the chosen, the others and the buffer
  abbrev s : ℤ
  s = sum (postings_in some) i w

  abbrev r : ℤ
  r = sum (postings_in others) i w

  abbrev b : ℤ
  b = sum a.buffer i w

  three : s +ℤ (r +ℤ b) ≡ pos n
  three = sym (+ℤ_assoc s r b) ∙ ap (λ z. z +ℤ b) (c.sums i w) ∙ sym (sum-stored i w a) ∙ count

  -- without the buffer
  pub chosen-small : nat_abs (sum (postings_in some) i w) ≤ rise a i w
  chosen-small =
      part_small s (r +ℤ b) n (rise a i w) three
      (omega (arith, rises-most i w some, c.together i w))
      (omega (arith, above-sum r b, rises-most i w others, c.together i w))

  -- and with it
  pub chosen-with-buffer : nat_abs (sum (postings_in some ++ a.buffer) i w) ≤ rise a i w
  chosen-with-buffer =
      rw (sum-append i w (postings_in some) a.buffer)
      (part_small (s +ℤ b) r n (rise a i w) (+ℤ_assoc s b r ∙ ap (λ z. s +ℤ z) (+ℤ_comm b r) ∙ three)
      (omega (arith, above-sum s b, rises-most i w some, c.together i w))
      (omega (arith, rises-most i w others, c.together i w)))

-- ---- what calls do to it

module _ (a : Account) (i w : ℕ) where
  pub rise-flushed : rise (flushed_account a) i w ≡ rise a i w
  unfolding flushed_account
  rise-flushed = omega (arith, rises-append i w a.partitions (record { level = 0; postings = a.buffer } ∷ []))

  -- a result in its inputs' place
  rises-replaced : (vs : List ℕ) (ps R : List Portion) → rises R i w ≤ rises (oldest level_of vs ps) i w → rises (replaced level_of vs ps R) i w ≤ rises ps i w
  rises-replaced [] ps R h = omega arith
  rises-replaced (v ∷ vs) ps R h =
      let k = oldest_at level_of v ps in
      let ins = take (due_at v) (drop k ps) in
      let back = drop (due_at v) (drop k ps) in
      omega (
        arith,
        rises-append i w (take k ps) (R ++ back),
        rises-append i w R back,
        rises-append i w (take k ps) (ins ++ back),
        rises-append i w ins back,
        ap (λ qs. rises qs i w) (parted level_of v ps),
      )

  rises-portion : rises (portion_of a) i w ≡ above (sum (merged a) i w)
  rises-portion = by-test (empty (merged a)) (λ y. rw (y, empty-is (merged a) y)) (λ n. rw n (omega arith))

  rises-merged : rises (portion_of a) i w ≤ rises (oldest level_of (due_of a) a.partitions) i w
  rises-merged =
      let ins : sum (merged a) i w ≡ sum (postings_in (oldest level_of (due_of a) a.partitions)) i w = unfold inputs_of in merged-sums a i w in
      omega (arith, rises-portion, ap above ins, rises-most i w (oldest level_of (due_of a) a.partitions))

  pub rise-stepped : rise (stepped_account a) i w ≤ rise a i w
  rise-stepped =
      by-test (leb (pair_count a) (16 * suc a.steps))
      (λ y. rw (step-ends a y) (unfold completed in omega (arith, rises-replaced (due_of a) a.partitions (portion_of a) rises-merged)))
      (λ n. rw (step-goes a n) (unfold furthered in omega arith))

  pub rise-added : (ps : List Posting) → rise (added_to ps a) i w ≤ above (sum ps i w) + rise a i w
  unfolding added_to
  rise-added ps =
      omega (arith, above-sum (sum ps i w) (sum a.buffer i w), ap above (sum-nonzero i w (foldr put a.buffer ps) ∙ sum-puts i w ps a.buffer))
