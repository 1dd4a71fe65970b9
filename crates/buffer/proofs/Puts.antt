-- A posting put in by its rank: at the place of its pair, or before the place where the pair would stand.
use Rattle.lists.proofs.Prelude.{true, false, true≢false, List, [], ◌∷◌, ◌≡◌, refl, sym, ap, ap₂, ◌∙◌, ℕ, zero, suc, ℤ, ◌+ℤ◌, +ℤ_idr, set, any, every, by-test, and_right, or-none, keep_all}
use Rattle.lists.proofs.Places.{mem-at, every-insert, keep-set}
use Rattle.postings.specs.declared.Posting.{Posting}
use Rattle.postings.specs.Order.{precedes, same_pair, ordered}
use Rattle.postings.specs.Merge.{counting, put, is_zero, is_counted, nonzero}
use Rattle.postings.specs.Sums.{sum}
use Rattle.postings.proofs.Order.{precedes-total, same-pair, same-swap, before-all, any-before, precedes-apart}
use Rattle.postings.proofs.Merge.{ordered-sum, sum-none}
use Rattle.state.specs.Views.{no_posting}
use Rattle.buffer.specs.Places.{places_before, inserted_at, posting_at, moved_at}
use Rattle.buffer.proofs.Ranks.{precedes-asym, rank-more, rank-none, rank-there}

module _ (p : Posting) where
  -- a new pair
  pub put-new : (l : List Posting) → ordered l ≡ true → any (same_pair p) l ≡ false → put p l ≡ inserted_at (places_before p l) p l
  put-new [] o e = none (places_before p [])
    where
      none : (k : ℕ) → p ∷ [] ≡ inserted_at k p []
      none zero = refl
      none (suc k) = refl
  put-new (q ∷ l) o e =
      let m = or-none (same_pair p q) _ e in
      by-test (precedes p q)
      (λ y. rw (m.0, y, rank-none p q l o (precedes-asym p q y)))
      (λ n. rw (m.0, n, rank-more p q l (precedes-total p q m.0 n), put-new l (and_right (every (precedes q) l) _ o) m.1))

  -- a pair that is there
  pub put-there : (l : List Posting) → ordered l ≡ true → any (same_pair p) l ≡ true → put p l ≡ set l (places_before p l) (counting (posting_at (places_before p l) l) (p.count +ℤ (posting_at (places_before p l) l).count))
  put-there [] o e = absurd (true≢false (sym e))
  put-there (q ∷ l) o e =
      by-test (same_pair p q)
      (λ y. rw (y, rank-none p q l o (apart y)))
      (λ n. by-test (precedes p q)
      (λ y. absurd (true≢false (sym e ∙ any-before p (q ∷ l) (before-all p q l y o))))
      (λ m. rw (n, m, rank-more p q l (precedes-total p q n m), put-there l (and_right (every (precedes q) l) _ o) (rw n at e))))
    where
      apart : same_pair p q ≡ true → precedes q p ≡ false
      apart y =
          by-test (precedes q p) (λ z. absurd (true≢false (sym y ∙ same-swap p q ∙ precedes-apart q p z))) (λ n. n)

  module _ (l : List Posting) (o : ordered l ≡ true) where
    -- the count of a pair that is there is its sum
    pub sum-there : any (same_pair p) l ≡ true → sum l p.id p.window ≡ (posting_at (places_before p l) l).count
    sum-there e =
        let t = rank-there p l no_posting o e in
        let s = same-pair p (posting_at (places_before p l) l) t.1 in
        ap₂ (sum l) s.0 s.1 ∙ ordered-sum l o (mem-at l no_posting (places_before p l) t.0)

    module _ (c : every is_counted l ≡ true) where
      -- a new pair that counts
      pub added_new : is_counted p ≡ true → any (same_pair p) l ≡ false → nonzero (put p l) ≡ inserted_at (places_before p l) p l
      unfolding nonzero
      added_new f e = rw (put-new l o e) (keep_all is_counted (inserted_at (places_before p l) p l) (every-insert is_counted (places_before p l) p l f c))

      -- a pair that is there: its count moves, and it goes where that makes it 0
      pub added-there : any (same_pair p) l ≡ true → nonzero (put p l) ≡ moved_at (places_before p l) p.count l
      unfolding nonzero moved_at
      added-there e =
          let z = p.count +ℤ (posting_at (places_before p l) l).count in
          rw (put-there l o e)
          (keep-set is_counted (places_before p l) (counting (posting_at (places_before p l) l) z) l (rank-there p l no_posting o e).0 c
          ∙ by-test (is_zero z) (λ y. rw y) (λ n. rw n))

      -- nothing goes where the pair's sum comes to other than 0
      pub added-kept : is_zero (p.count +ℤ sum l p.id p.window) ≡ false → nonzero (put p l) ≡ put p l
      unfolding moved_at
      added-kept n =
          by-test (any (same_pair p) l)
          (λ y. added-there y ∙ rw (ap is_zero (ap (λ (z : ℤ). p.count +ℤ z) (sym (sum-there y))) ∙ n) (sym (put-there l o y)))
          (λ e. let z : p.count +ℤ sum l p.id p.window ≡ p.count = rw (sum-none p l e) (+ℤ_idr p.count) in
          added_new (rw (ap is_zero (sym z) ∙ n)) e ∙ sym (put-new l o e))
