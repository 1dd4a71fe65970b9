-- The mean count of an identifier: the sum of its counts, divided by the number of windows in which it counts.
use Rattle.std.specs.Prelude.{List, [], ◌∷◌, ℕ, ◌/◌, ◌%◌, eqb}
use Rattle.lists.specs.Lists.{total_by}
use Rattle.answers.specs.Answers.{Answer, mean, Outcome, leave}
use Rattle.answers.specs.Order as order
use Rattle.answers.specs.Order.{past, admit}
use Rattle.identifiers.specs.Names.{Name, bad_length}

-- the sum of an identifier's counts in these windows, over identifiers of any kind; a count of 0 adds nothing
unfoldable pub total : {I : Type 0} → (I → ℕ → ℕ) → List ℕ → I → ℕ
total count windows i = total_by (count i) windows

-- a sum t divided by F: the whole quotient and what is left over, with F beside them
abbrev pub averaged : ℕ → ℕ → Answer
averaged f t = mean (t / f) (t % f) f

-- what follows refusals 1 to 3: 4 for the identifier, and 15 where F is 0. A mean leaves nothing
unfoldable pub averaging : Name → ℕ → ℕ → Outcome (Unit {0})
averaging n f t = admit (past 3 order.mean) (bad_length n ∷ eqb f 0 ∷ []) (leave (averaged f t) tt)
