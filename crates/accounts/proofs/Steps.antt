-- The merge in progress: its inputs do not change, pairs are left to take, and it ends when they are taken.
use Rattle.lists.proofs.Prelude.{List, [], ◌∷◌, ◌≡◌, refl, ap, ◌∙◌, ℕ, zero, suc, ◌+◌, ◌*◌, ◌/◌, ◌<◌, ◌≤◌, arith, leb, length, leb-false, le-leb, lt-leb, by-test}
use Rattle.postings.specs.declared.Posting.{Posting}
use Rattle.postings.specs.Merge.{pairs}
use Rattle.accounts.specs.Account.{Account, postings_in, due_of, inputs_of, merged, completed, furthered, stepped_account, flushed_account, added_to}
use Rattle.accounts.proofs.Stored.{level_of, step-ends, step-goes}
use Rattle.accounts.proofs.Inputs.{oldest-added}

-- how many pairs the inputs have
abbrev pub pair_count : Account → ℕ
pair_count a = length (pairs (inputs_of a))

-- where no level is due there are none
pub no-inputs : (a : Account) → due_of a ≡ [] → pair_count a ≡ 0
unfolding inputs_of pairs
no-inputs a e = rw e

-- ---- inputs stay

-- a flush leaves the inputs of a due level
pub inputs-flushed : (a : Account) (v : ℕ) (vs : List ℕ) → due_of a ≡ v ∷ vs → inputs_of (flushed_account a) ≡ inputs_of a
unfolding inputs_of flushed_account
inputs-flushed a v vs e = ap postings_in (oldest-added level_of a.partitions (record { level = 0; postings = a.buffer }) refl v vs e)

-- what is added to the buffer leaves them
pub inputs-buffered : (ps : List Posting) (a : Account) → inputs_of (added_to ps a) ≡ inputs_of a
unfolding inputs_of added_to
inputs-buffered ps a = refl

-- a step that does not end the merge leaves them
pub inputs-furthered : (a : Account) → inputs_of (furthered a) ≡ inputs_of a
unfolding inputs_of furthered
inputs-furthered a = refl

-- ---- pairs are left

-- where a merge is in progress, not all pairs are taken
abbrev pub Progress : Account → Type 0
Progress a = 1 ≤ a.steps → 16 * a.steps < pair_count a

-- so a level is due
pub progress-due : (a : Account) → Progress a → 1 ≤ a.steps → due_of a ≡ [] → ⊥
progress-due a h k e = omega (arith, h k, no-inputs a e)

pub progress-flushed : (a : Account) → Progress a → Progress (flushed_account a)
progress-flushed a h k = go (due_of a) refl
  where
    steps : (flushed_account a).steps ≡ a.steps
    steps = unfold flushed_account in refl

    go : (vs : List ℕ) → due_of a ≡ vs → 16 * (flushed_account a).steps < pair_count (flushed_account a)
    go [] e = absurd (progress-due a h (omega (arith, steps)) e)
    go (v ∷ vs) e = rw (inputs-flushed a v vs e, steps) (h (omega (arith, steps)))

pub progress-stepped : (a : Account) → Progress (stepped_account a)
progress-stepped a =
    by-test (leb (pair_count a) (16 * suc a.steps))
    (λ y. rw (step-ends a y) (unfold completed in (λ k. absurd (omega arith))))
    (λ n. rw (step-goes a n) (unfold furthered inputs_of in (λ k. leb-false (pair_count a) (16 * suc a.steps) n)))

-- ---- how many steps a merge takes

-- the account after so many steps, where none is refused
unfoldable pub after_steps : ℕ → Account → Account
after_steps zero a = a
after_steps (suc j) a = stepped_account (after_steps j a)

-- a with j steps done
abbrev pub at_step : ℕ → Account → Account
at_step j a = record { buffer = a.buffer; partitions = a.partitions; steps = j }

-- before all pairs are taken, a step has only been counted
pub steps-counted : (a : Account) → a.steps ≡ 0 → (j : ℕ) → 16 * j < pair_count a → after_steps j a ≡ at_step j a
unfolding after_steps
steps-counted a z zero h = λ k. record { buffer = a.buffer; partitions = a.partitions; steps = z k }
steps-counted a z (suc j) h =
    ap stepped_account (steps-counted a z j (omega arith))
    ∙ step-goes (at_step j a) (unfold inputs_of in lt-leb (pair_count a) (16 * suc j) h)
    ∙ (unfold furthered in refl)

-- a merge takes as many steps as sixteens cover its pairs
pub merge-ends : (a : Account) → a.steps ≡ 0 → 1 ≤ pair_count a → after_steps ((pair_count a + 15) / 16) a ≡ completed a
merge-ends a z some = go ((pair_count a + 15) / 16) refl
  where
    go : (j : ℕ) → (pair_count a + 15) / 16 ≡ j → after_steps j a ≡ completed a
    go zero e = absurd (omega arith)
    go (suc j) e =
        unfold after_steps in
        (ap stepped_account (steps-counted a z j (omega arith))
        ∙ step-ends (at_step j a) (unfold inputs_of in le-leb (pair_count a) (16 * suc j) (omega arith))
        ∙ (unfold completed merged inputs_of in refl))

-- and is in progress at every step before
pub merge-goes : (a : Account) → a.steps ≡ 0 → (j : ℕ) → j < (pair_count a + 15) / 16 → after_steps j a ≡ at_step j a
merge-goes a z j h = steps-counted a z j (omega arith)
