-- Postings brought together: every pair once, in order, with the sum of its counts.
use Rattle.std.specs.Prelude.{Bool, true, false, not, cond, zero, suc, ℤ, pos, negsuc, neg_ℤ, ◌+ℤ◌}
use mathlib.Core.List.{List, [], ◌∷◌, foldr, map}
use Rattle.lists.specs.Lists.{keep}
use Rattle.postings.specs.Order.{precedes, same_pair}
use Rattle.postings.specs.declared.Posting.{Posting}

-- q with another count
abbrev pub counting : Posting → ℤ → Posting
counting q c = record { id = q.id; window = q.window; count = c }

-- p put in at its place; where its pair is there already, the is_counted add up, and a sum of 0 stays
abbrev pub put : Posting → List Posting → List Posting
put p [] = p ∷ []
put p (q ∷ qs) = cond (same_pair p q) (counting q (p.count +ℤ q.count) ∷ qs) (cond (precedes p q) (p ∷ q ∷ qs) (q ∷ put p qs))

-- is a count 0
abbrev pub is_zero : ℤ → Bool
is_zero (pos zero) = true
is_zero (pos (suc n)) = false
is_zero (negsuc n) = false

-- is a posting's count other than 0
abbrev pub is_counted : Posting → Bool
is_counted p = not (is_zero p.count)

-- the postings without those of count 0
unfoldable pub nonzero : List Posting → List Posting
nonzero l = keep is_counted l

-- every pair of a list once, in order, with its sum, also where that is 0
unfoldable pub pairs : List Posting → List Posting
pairs l = foldr put [] l

-- what takes the postings back: those whose count is not 0, each with its count negated
unfoldable pub negated : List Posting → List Posting
negated l = map (λ p. counting p (neg_ℤ p.count)) (nonzero l)
