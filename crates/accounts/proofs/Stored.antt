-- What flushes, merge steps, events and removals do to the sums of what is stored. Each law stands for every account, whatever it holds.
use Rattle.lists.proofs.Prelude.{Bool, true, false, cond, List, [], ◌∷◌, ◌++◌, foldr, append-nil, ◌≡◌, refl, sym, ap, ap₂, ◌∙◌, ℕ, suc, ◌*◌, eqb, leb, ℤ, pos, neg_ℤ, ◌+ℤ◌, +ℤ_idl, +ℤ_invl, length, take, drop, take-append-drop, eqb-true, eqb-false, every, empty, by-test, empty-is}
use Rattle.lists.proofs.Ints.{sum-swap}
use Rattle.lists.proofs.Stores.{joined-append}
use Rattle.postings.specs.declared.Posting.{Posting}
use Rattle.postings.specs.Order.{ordered}
use Rattle.postings.specs.Merge.{put, is_counted, pairs, negated}
use Rattle.postings.specs.Sums.{sum}
use Rattle.postings.proofs.Sums.{sum-append, sum-puts, sum-nonzero, sum-merge, sum-negated}
use Rattle.postings.proofs.Merge.{pairs-ordered, nonzero-ordered, nonzero-counts}
use Rattle.state.specs.Levels.{oldest_at, due_at, oldest, replaced}
use Rattle.removals.specs.Removal.{of_window, counts_of}
use Rattle.accounts.specs.Account.{Portion, Account, postings_in, stored_in, due_of, inputs_of, merged, portion_of, completed, furthered, stepped_account, flushed_account, added_to}
use Rattle.accounts.proofs.Parts.{sum-window, sum-other-window}

abbrev pub level_of : Portion → ℕ
level_of p = p.level

-- ---- partitions

-- the postings of two runs of partitions
pub postings-append : (ps qs : List Portion) → postings_in (ps ++ qs) ≡ postings_in ps ++ postings_in qs
postings-append ps qs = joined-append (λ (p : Portion). p.postings) ps qs

module _ (i w : ℕ) where
  -- the sum over two runs of partitions
  pub sum_runs : (ps qs : List Portion) → sum (postings_in (ps ++ qs)) i w ≡ sum (postings_in ps) i w +ℤ sum (postings_in qs) i w
  sum_runs ps qs = ap (λ l. sum l i w) (postings-append ps qs) ∙ sum-append i w (postings_in ps) (postings_in qs)

  -- the sum over partitions and buffer
  pub sum-stored : (a : Account) → sum (stored_in a) i w ≡ sum (postings_in a.partitions) i w +ℤ sum a.buffer i w
  sum-stored a = sum-append i w (postings_in a.partitions) a.buffer

-- the partitions before the inputs of a merge of level v, the inputs, and those after
pub parted : {P : Type 0} (level : P → ℕ) (v : ℕ) (ps : List P)
    → take (oldest_at level v ps) ps ++ (take (due_at v) (drop (oldest_at level v ps) ps) ++ drop (due_at v) (drop (oldest_at level v ps) ps)) ≡ ps
parted level v ps =
    ap (λ l. take (oldest_at level v ps) ps ++ l) (take-append-drop (due_at v) (drop (oldest_at level v ps) ps)) ∙ take-append-drop (oldest_at level v ps) ps

-- ---- a flush

-- flushed first or not, the same postings are stored in the same order
pub stored-flushed : (a : Account) → stored_in (flushed_account a) ≡ stored_in a
unfolding flushed_account
stored-flushed a =
    append-nil (postings_in (flushed_account a).partitions) ∙ postings-append a.partitions _ ∙ ap (λ l. postings_in a.partitions ++ l) (append-nil a.buffer)

-- so every sum is the same
pub sum-flushed : (a : Account) (i w : ℕ) → sum (stored_in (flushed_account a)) i w ≡ sum (stored_in a) i w
sum-flushed a i w = ap (λ l. sum l i w) (stored-flushed a)

-- ---- a merge

-- the result of a merge is in order
pub merged-ordered : (a : Account) → ordered (merged a) ≡ true
unfolding merged
merged-ordered a = nonzero-ordered (pairs (inputs_of a)) (pairs-ordered (inputs_of a))

-- and without a count of 0
pub merged-counts : (a : Account) → every is_counted (merged a) ≡ true
unfolding merged
merged-counts a = nonzero-counts (pairs (inputs_of a))

-- it has the sums of its inputs
pub merged-sums : (a : Account) (i w : ℕ) → sum (merged a) i w ≡ sum (inputs_of a) i w
unfolding merged
merged-sums a i w = sum-merge i w (inputs_of a)

-- as a partition or none it is the same postings
pub portion-postings : (a : Account) → postings_in (portion_of a) ≡ merged a
portion-postings a =
    by-test (empty (merged a)) (λ y. rw y (sym (empty-is (merged a) y))) (λ n. rw n (append-nil (merged a)))

-- partitions with the sums of the inputs in the inputs' place
pub sum-replaced : (vs : List ℕ) (ps result : List Portion) (i w : ℕ) → sum (postings_in result) i w ≡ sum (postings_in (oldest level_of vs ps)) i w
    → sum (postings_in (replaced level_of vs ps result)) i w ≡ sum (postings_in ps) i w
sum-replaced [] ps result i w e = refl
sum-replaced (v ∷ vs) ps result i w e =
    let k = oldest_at level_of v ps in
    let ins = take (due_at v) (drop k ps) in
    let back = drop (due_at v) (drop k ps) in
    sum_runs i w (take k ps) (result ++ back)
    ∙ ap (λ z. sum (postings_in (take k ps)) i w +ℤ z) (sum_runs i w result back ∙ ap (λ z. z +ℤ sum (postings_in back) i w) e ∙ sym (sum_runs i w ins back))
    ∙ sym (sum_runs i w (take k ps) (ins ++ back))
    ∙ ap (λ l. sum (postings_in l) i w) (parted level_of v ps)

-- a finished merge keeps every sum over all partitions
pub sum-completed : (a : Account) (i w : ℕ) → sum (postings_in (completed a).partitions) i w ≡ sum (postings_in a.partitions) i w
unfolding completed
sum-completed a i w = sum-replaced (due_of a) a.partitions (portion_of a) i w (ap (λ l. sum l i w) (portion-postings a) ∙ ins)
  where
    ins : sum (merged a) i w ≡ sum (postings_in (oldest level_of (due_of a) a.partitions)) i w
    ins = unfold inputs_of in merged-sums a i w

-- a step that does not end the merge changes nothing that is read
pub stored-furthered : (a : Account) → stored_in (furthered a) ≡ stored_in a
unfolding furthered
stored-furthered a = refl

-- a step is the last one, or only counts
pub step-ends : (a : Account) → leb (length (pairs (inputs_of a))) (16 * suc a.steps) ≡ true → stepped_account a ≡ completed a
unfolding stepped_account
step-ends a e = rw e

pub step-goes : (a : Account) → leb (length (pairs (inputs_of a))) (16 * suc a.steps) ≡ false → stepped_account a ≡ furthered a
unfolding stepped_account
step-goes a e = rw e

-- every step keeps every sum over all partitions
pub sum-stepped : (a : Account) (i w : ℕ) → sum (postings_in (stepped_account a).partitions) i w ≡ sum (postings_in a.partitions) i w
sum-stepped a i w =
    by-test (leb (length (pairs (inputs_of a))) (16 * suc a.steps))
    (λ y. rw (step-ends a y) (sum-completed a i w)) (λ n. rw (step-goes a n) (unfold furthered in refl))

-- and leaves the buffer
pub buffer-stepped : (a : Account) → (stepped_account a).buffer ≡ a.buffer
buffer-stepped a =
    by-test (leb (length (pairs (inputs_of a))) (16 * suc a.steps))
    (λ y. rw (step-ends a y) (unfold completed in refl)) (λ n. rw (step-goes a n) (unfold furthered in refl))

-- so it keeps the sums with the buffer
pub sum-stored-stepped : (a : Account) (i w : ℕ) → sum (stored_in (stepped_account a)) i w ≡ sum (stored_in a) i w
sum-stored-stepped a i w = sum-stored i w (stepped_account a) ∙ ap₂ ◌+ℤ◌ (sum-stepped a i w) (ap (λ l. sum l i w) (buffer-stepped a)) ∙ sym (sum-stored i w a)

-- ---- what is added

-- what is added to the buffer is added to the sums
pub sum_added : (ps : List Posting) (a : Account) (i w : ℕ) → sum (stored_in (added_to ps a)) i w ≡ sum ps i w +ℤ sum (stored_in a) i w
unfolding added_to
sum_added ps a i w =
    sum-append i w (postings_in a.partitions) _
    ∙ ap (λ z. sum (postings_in a.partitions) i w +ℤ z) (sum-nonzero i w (foldr put a.buffer ps) ∙ sum-puts i w ps a.buffer)
    ∙ sum-swap (sum (postings_in a.partitions) i w) (sum ps i w) (sum a.buffer i w)
    ∙ ap (λ z. sum ps i w +ℤ z) (sym (sum-stored i w a))

-- ---- a removal

-- a window's counts have its sums, and no others
pub sum-counts : (w : ℕ) (l : List Posting) (i v : ℕ) → sum (counts_of w l) i v ≡ cond (eqb w v) (sum l i v) (pos 0)
unfolding counts_of
sum-counts w l i v =
    sum-merge i v (of_window w l)
    ∙ by-test (eqb w v)
    (λ y. rw (y, ← eqb-true w v y) (sum-window w i l))
    (λ n. rw n (sum-other-window w i v l (eqb-false w v n)))

-- after a removal every sum of the window is 0 and every other sum is as before; b is the account flushed first or not
pub sum-removed : (w : ℕ) (a b : Account) → ((i v : ℕ) → sum (stored_in b) i v ≡ sum (stored_in a) i v)
    → (i v : ℕ) → sum (stored_in (added_to (negated (counts_of w (stored_in a))) b)) i v ≡ cond (eqb w v) (pos 0) (sum (stored_in a) i v)
sum-removed w a b same i v =
    sum_added (negated (counts_of w (stored_in a))) b i v
    ∙ ap₂ ◌+ℤ◌ (sum-negated i v (counts_of w (stored_in a)) ∙ ap neg_ℤ (sum-counts w (stored_in a) i v)) (same i v)
    ∙ taken (eqb w v) (sum (stored_in a) i v)
  where
    taken : (t : Bool) (z : ℤ) → neg_ℤ (cond t z (pos 0)) +ℤ z ≡ cond t (pos 0) z
    taken true z = +ℤ_invl z
    taken false z = +ℤ_idl z
