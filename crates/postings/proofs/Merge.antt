-- What is put together stands in order, and an ordered list without a count of 0 is told by its sums.
use Rattle.lists.proofs.Prelude.{Bool, true, false, not, true≢false, List, [], ◌∷◌, foldr, List-as-Memᴰ, List·Memᴰ·cases-cons, List·Memᴰ·not-nil, ⊎_elim, ◌≡◌, refl, sym, ap, ap₂, ◌∙◌, ℕ, suc, ◌+◌, ◌≤◌, arith, ℤ, pos, ◌+ℤ◌, +ℤ_idl, +ℤ_idr, length, length-keep, eq-eqb, any, every, by-test, and_left, and_right, and_both, or-none, every-mem, every-kept}
use Rattle.lists.proofs.Ints.{sum-cancel}
use Rattle.postings.specs.Order.{precedes, same_pair, ordered}
use Rattle.postings.specs.Merge.{counting, put, is_zero, is_counted, nonzero, pairs}
use Rattle.postings.specs.Sums.{share, sum}
use Rattle.postings.specs.declared.Posting.{Posting}
use Rattle.postings.proofs.Order.{precedes-total, precedes-apart, same-pair, before-all, any-before, same-swap, keep-ordered}

-- ---- in order

module _ (t : Posting → Bool) (h : (q : Posting) (c : ℤ) → t q ≡ true → t (counting q c) ≡ true) where
  -- a test of the pair alone that all pass before, all pass after
  pub every-put : (p : Posting) (l : List Posting) → t p ≡ true → every t l ≡ true → every t (put p l) ≡ true
  every-put p [] a e = and_both (t p) true a refl
  every-put p (q ∷ l) a e =
      let b = and_left (t q) _ e in
      let r = and_right (t q) _ e in
      by-test (same_pair p q) (λ y. rw y (and_both (t (counting q (p.count +ℤ q.count))) _ (h q (p.count +ℤ q.count) b) r))
      (λ n. by-test (precedes p q) (λ y. rw (n, y) (and_both (t p) _ a e)) (λ m. rw (n, m) (and_both (t q) _ b (every-put p l a r))))

  -- the same for a whole list put in
  pub every-puts : (l m : List Posting) → every t l ≡ true → every t m ≡ true → every t (foldr put m l) ≡ true
  every-puts [] m a e = e
  every-puts (p ∷ l) m a e = every-put p (foldr put m l) (and_left (t p) _ a) (every-puts l m (and_right (t p) _ a) e)

-- a posting put in keeps the order
pub put-ordered : (p : Posting) (l : List Posting) → ordered l ≡ true → ordered (put p l) ≡ true
put-ordered p [] e = refl
put-ordered p (q ∷ l) e =
    let a = and_left (every (precedes q) l) _ e in
    let r = and_right (every (precedes q) l) _ e in
    by-test (same_pair p q) (λ y. rw y e)
    (λ n. by-test (precedes p q)
    (λ y. rw (n, y) (and_both (every (precedes p) (q ∷ l)) _ (before-all p q l y e) e))
    (λ m. rw (n, m) (and_both (every (precedes q) (put p l)) _ (every-put (precedes q) (λ s c f. f) p l (precedes-total p q n m) a) (put-ordered p l r))))

-- a list put in keeps the order
pub puts-ordered : (l m : List Posting) → ordered m ≡ true → ordered (foldr put m l) ≡ true
puts-ordered [] m e = e
puts-ordered (p ∷ l) m e = put-ordered p (foldr put m l) (puts-ordered l m e)

-- the pairs of any list stand in order
pub pairs-ordered : (l : List Posting) → ordered (pairs l) ≡ true
unfolding pairs
pairs-ordered l = puts-ordered l [] refl

-- the order stays where counts of 0 go
pub nonzero-ordered : (l : List Posting) → ordered l ≡ true → ordered (nonzero l) ≡ true
unfolding nonzero
nonzero-ordered l e = keep-ordered is_counted l e

-- no count of 0 is left
pub nonzero-counts : (l : List Posting) → every is_counted (nonzero l) ≡ true
unfolding nonzero
nonzero-counts l = every-kept is_counted l

-- ---- lengths

-- a posting put in takes at most one place
pub length-put : (p : Posting) (l : List Posting) → length (put p l) ≤ suc (length l)
length-put p [] = omega arith
length-put p (q ∷ l) =
    let r = length-put p l in
    by-test (same_pair p q) (λ y. rw y (omega arith))
    (λ n. by-test (precedes p q) (λ y. rw (n, y) (omega arith)) (λ m. rw (n, m) (omega arith)))

-- a list put in takes at most its length
pub length-puts : (l m : List Posting) → length (foldr put m l) ≤ length l + length m
length-puts [] m = omega arith
length-puts (p ∷ l) m = omega (arith, length-put p (foldr put m l), length-puts l m)

-- a pair that is there takes no further place
pub length-put-there : (p : Posting) (l : List Posting) → ordered l ≡ true → any (same_pair p) l ≡ true → length (put p l) ≡ length l
length-put-there p [] e f = absurd (true≢false (sym f))
length-put-there p (q ∷ l) e f =
    by-test (same_pair p q) (λ y. rw y)
    (λ n. by-test (precedes p q)
    (λ y. absurd (true≢false (sym f ∙ any-before p (q ∷ l) (before-all p q l y e))))
    (λ m. rw (n, m, length-put-there p l (and_right (every (precedes q) l) _ e) (rw n at f))))

-- ---- ordered lists are told by their sums

-- a pair that no posting has sums to 0
pub sum-none : (p : Posting) (l : List Posting) → any (same_pair p) l ≡ false → sum l p.id p.window ≡ pos 0
sum-none p [] e = refl
sum-none p (q ∷ l) e =
    let n = or-none (same_pair p q) _ e in
    rw (same-swap q p ∙ n.0, sum-none p l n.1)

first-sum : (p : Posting) (l : List Posting) → every (precedes p) l ≡ true → sum (p ∷ l) p.id p.window ≡ p.count
first-sum p l e =
    rw (eq-eqb p.id p.id refl, eq-eqb p.window p.window refl, sum-none p l (any-before p l e)) (+ℤ_idr p.count)

-- a posting of an ordered list is alone in its pair's sum
pub ordered-sum : {p : Posting} (l : List Posting) → ordered l ≡ true → List-as-Memᴰ p l → sum l p.id p.window ≡ p.count
ordered-sum [] e m = absurd (List·Memᴰ·not-nil m)
ordered-sum {p} (q ∷ l) e m =
    let a = and_left (every (precedes q) l) _ e in
    let o = and_right (every (precedes q) l) _ e in
    ⊎_elim
    (λ (i : p ≡ q). ap (λ (r : Posting). sum (q ∷ l) r.id r.window) i ∙ first-sum q l a ∙ ap (λ (r : Posting). r.count) (sym i))
    (λ (r : List-as-Memᴰ p l). rw (precedes-apart q p (every-mem (precedes q) l a r), ordered-sum l o r) (+ℤ_idl p.count))
    (List·Memᴰ·cases-cons m)

-- put before all of a list, a posting is its first
put_first : (p : Posting) (l : List Posting) → every (precedes p) l ≡ true → put p l ≡ p ∷ l
put_first p [] e = refl
put_first p (q ∷ l) e = let y = and_left (precedes p q) _ e in rw (precedes-apart p q y, y)

-- a posting that counts, and stands before all of a list, has a sum that the list does not have
missed : (p : Posting) (l m : List Posting) → ordered (p ∷ l) ≡ true → is_counted p ≡ true → every (precedes p) m ≡ true → sum (p ∷ l) p.id p.window ≡ sum m p.id p.window → ⊥
missed p l m o f b e =
    let z : p.count ≡ pos 0 = sym (first-sum p l (and_left _ _ o)) ∙ e ∙ sum-none p m (any-before p m b) in
    true≢false (sym f ∙ ap (λ (c : ℤ). not (is_zero c)) z)

-- two ordered lists without a count of 0 that have the same sums are the same
pub same-sums : (l m : List Posting) → ordered l ≡ true → ordered m ≡ true → every is_counted l ≡ true → every is_counted m ≡ true → ((i w : ℕ) → sum l i w ≡ sum m i w) → l ≡ m
same-sums [] [] o r f g e = refl
same-sums [] (q ∷ m) o r f g e = absurd (missed q m [] r (and_left (is_counted q) _ g) refl (sym (e q.id q.window)))
same-sums (p ∷ l) [] o r f g e = absurd (missed p l [] o (and_left (is_counted p) _ f) refl (e p.id p.window))
same-sums (p ∷ l) (q ∷ m) o r f g e =
    by-test (same_pair p q) (λ y. let i = one y in ap₂ ◌∷◌ i (same-sums l m (and_right (every (precedes p) l) _ o) (and_right (every (precedes q) m) _ r) (and_right (is_counted p) _ f) (and_right (is_counted q) _ g) (rest i)))
    (λ n. by-test (precedes p q)
    (λ y. absurd (missed p l (q ∷ m) o (and_left (is_counted p) _ f) (before-all p q m y r) (e p.id p.window)))
    (λ k. absurd (missed q m (p ∷ l) r (and_left (is_counted q) _ g) (before-all q p l (precedes-total p q n k) o) (sym (e q.id q.window)))))
  where
    one : same_pair p q ≡ true → p ≡ q
    one y =
        let s = same-pair p q y in
        let b : sum (q ∷ m) p.id p.window ≡ q.count = rw (s.0, s.1) (first-sum q m (and_left _ _ r)) in
        let c : p.count ≡ q.count = sym (first-sum p l (and_left _ _ o)) ∙ e p.id p.window ∙ b in
        λ k. record { id = s.0 k; window = s.1 k; count = c k }

    rest : p ≡ q → (i w : ℕ) → sum l i w ≡ sum m i w
    rest s i w = sum-cancel (share p i w) (sum l i w) (sum m i w) (e i w ∙ ap (λ (x : Posting). share x i w +ℤ sum m i w) (sym s))

-- postings merged are at most as many
pub length_merged : (l : List Posting) → length (nonzero (pairs l)) ≤ length l
unfolding nonzero pairs
length_merged l = omega (arith, length-keep is_counted (pairs l), length-puts l [])
