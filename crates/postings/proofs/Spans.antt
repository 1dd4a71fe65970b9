-- The lowest and the highest window of postings: what is known of them, and of lists one after another.
use Prim.Native.Nat.{min, max}
use Rattle.lists.proofs.Prelude.{true, List, [], ◌∷◌, ◌++◌, ◌≡◌, refl, ap, ◌∙◌, ℕ, ◌<◌, ◌≤◌, arith, eqb, leb, pos, length, ne_eqb, leb-true, every, and_left, and_right, and-false}
use Rattle.postings.specs.declared.Posting.{Posting}
use Rattle.postings.specs.Sums.{share, sum}
use Rattle.postings.specs.Spans.{lowest, highest}

-- ---- the smaller and the larger of three

pub min_assoc : (a b c : ℕ) → min a (min b c) ≡ min (min a b) c
min_assoc a b c = omega arith

pub max_assoc : (a b c : ℕ) → max a (max b c) ≡ max (max a b) c
max_assoc a b c = omega arith

-- ---- of lists

pub lowest-most : (l : List Posting) → lowest l ≤ 65535
unfolding lowest
lowest-most [] = omega arith
lowest-most (p ∷ l) = omega (arith, lowest-most l)

-- of one posting after others
pub lowest-more : (l : List Posting) (p : Posting) → p.window ≤ 65535 → lowest (l ++ (p ∷ [])) ≡ min (lowest l) p.window
unfolding lowest
lowest-more [] p h = omega arith
lowest-more (q ∷ l) p h = ap (min q.window) (lowest-more l p h) ∙ min_assoc q.window (lowest l) p.window

pub highest-more : (l : List Posting) (p : Posting) → highest (l ++ (p ∷ [])) ≡ max (highest l) p.window
unfolding highest
highest-more [] p = omega arith
highest-more (q ∷ l) p = ap (max q.window) (highest-more l p) ∙ max_assoc q.window (highest l) p.window

-- of postings whose windows are 1 to 65,535 the lowest is at least 1, and of some at most the highest
pub lowest-some : (l : List Posting) → every (λ p. leb 1 p.window) l ≡ true → 1 ≤ lowest l
unfolding lowest
lowest-some [] e = omega arith
lowest-some (p ∷ l) e = omega (arith, leb-true 1 p.window (and_left (leb 1 p.window) _ e), lowest-some l (and_right (leb 1 p.window) _ e))

pub span-some : (l : List Posting) → 1 ≤ length l → lowest l ≤ highest l
unfolding lowest highest
span-some [] h = omega arith
span-some (p ∷ l) h = omega arith

pub highest-most : (l : List Posting) → every (λ p. leb p.window 65535) l ≡ true → highest l ≤ 65535
unfolding highest
highest-most [] e = omega arith
highest-most (p ∷ l) e = omega (arith, leb-true p.window 65535 (and_left (leb p.window 65535) _ e), highest-most l (and_right (leb p.window 65535) _ e))

-- ---- sums

module _ (i w : ℕ) where
  -- a posting of another window adds nothing
  share_other : (p : Posting) → (p.window ≡ w → ⊥) → share p i w ≡ pos 0
  share_other p d = rw (ne_eqb p.window w d, and-false (eqb p.id i))

  -- a window below the lowest or above the highest has no sum
  pub sum_below : (l : List Posting) → w < lowest l → sum l i w ≡ pos 0
  unfolding lowest
  sum_below [] h = refl
  sum_below (p ∷ l) h = rw (share_other p (λ e. omega arith), sum_below l (omega arith))

  pub sum-beyond : (l : List Posting) → highest l < w → sum l i w ≡ pos 0
  unfolding highest
  sum-beyond [] h = refl
  sum-beyond (p ∷ l) h = rw (share_other p (λ e. omega arith), sum-beyond l (omega arith))
