-- The count of a pair over a list of postings, the windows in which an identifier counts, and the sum of what it counts in them.
use Rattle.std.specs.Prelude.{Bool, cond, ◌&&◌, List, [], ◌∷◌, ℕ, ltb, eqb, ℤ, pos, negsuc, ◌+ℤ◌, length}
use Rattle.lists.specs.Lists.{keep, total_by}
use Rattle.postings.specs.declared.Posting.{Posting}

-- what a posting adds to the pair of identifier i and window w
abbrev pub share : Posting → ℕ → ℕ → ℤ
share p i w = cond (eqb p.id i && eqb p.window w) p.count (pos 0)

-- the sum of a pair's counts
abbrev pub sum : List Posting → ℕ → ℕ → ℤ
sum [] i w = pos 0
sum (p ∷ ps) i w = share p i w +ℤ sum ps i w

-- the postings under the identifier i
abbrev pub under : ℕ → List Posting → List Posting
under i l = keep (λ p. eqb p.id i) l

-- what a sum counts: nothing where it is not above 0
abbrev pub above : ℤ → ℕ
above (pos n) = n
above (negsuc n) = 0

-- is a sum above 0
abbrev pub is_above : ℤ → Bool
is_above z = ltb 0 (above z)

-- F: in how many of these windows the identifier's sum is above 0
unfoldable pub frequency : List ℕ → List Posting → ℕ → ℕ
frequency windows l i = length (keep (λ w. is_above (sum l i w)) windows)

-- what the identifier counts in these windows together
unfoldable pub amount : List ℕ → List Posting → ℕ → ℕ
amount windows l i = total_by (λ w. above (sum l i w)) windows
