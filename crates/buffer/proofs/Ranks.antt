-- The rank of a posting in an ordered list: what stands before it, and where its pair stands.
use Rattle.lists.proofs.Prelude.{true, false, true≢false, List, [], ◌∷◌, ◌≡◌, refl, sym, ◌∙◌, ℕ, zero, suc, ◌<◌, ◌≤◌, arith, ltb, length, get_or, take, drop, ltb-true, ltb-false, any, every, by-test, and_left, and_right, and_both, or-none, every-at, length-keep, keep-none, take-nil, drop-nil}
use Rattle.lists.proofs.Places.{any_at}
use Rattle.postings.specs.declared.Posting.{Posting}
use Rattle.postings.specs.Order.{precedes, same_pair, ordered}
use Rattle.postings.proofs.Order.{precedes-trans, precedes-irreflexive, precedes-total, precedes-apart, same-swap, before-all, any-before}
use Rattle.std.proofs.Common.{Ok, Err}
use Rattle.std.specs.List.Sorted.{IsPartitionedBy, IsPartitionPoint}
use Rattle.state.specs.Views.{no_posting}
use Rattle.buffer.specs.Places.{pair, places_before, place_of}

-- of two postings at most one stands before the other
pub precedes-asym : (p q : Posting) → precedes p q ≡ true → precedes q p ≡ false
precedes-asym p q e =
    by-test (precedes q p) (λ y. absurd (true≢false (sym (precedes-trans p q p e y) ∙ precedes-irreflexive p))) (λ n. n)

-- what stands before p is of another pair
pub before-apart : (p q : Posting) → precedes q p ≡ true → same_pair p q ≡ false
before-apart p q e = same-swap p q ∙ precedes-apart q p e

module _ (p : Posting) where
  -- one that stands before p counts
  pub rank-more : (q : Posting) (l : List Posting) → precedes q p ≡ true → places_before p (q ∷ l) ≡ suc (places_before p l)
  unfolding places_before
  rank-more q l e = rw e

  -- from the first that does not stand before p on, none does
  pub rank-none : (q : Posting) (l : List Posting) → ordered (q ∷ l) ≡ true → precedes q p ≡ false → places_before p (q ∷ l) ≡ 0
  unfolding places_before
  rank-none q l o n = rw (n, keep-none (λ r. precedes r p) l (after l (and_left (every (precedes q) l) _ o)))
    where
      after : (m : List Posting) → every (precedes q) m ≡ true → any (λ r. precedes r p) m ≡ false
      after [] e = refl
      after (r ∷ m) e =
          by-test (precedes r p)
          (λ y. absurd (true≢false (sym (precedes-trans q r p (and_left (precedes q r) _ e) y) ∙ n)))
          (λ k. rw (k, after m (and_right (precedes q r) _ e)))

  -- a rank is a place of the list or its end
  pub rank-le : (l : List Posting) → places_before p l ≤ length l
  unfolding places_before
  rank-le l = length-keep (λ q. precedes q p) l

  -- a place whose posting stands before p is below the rank
  pub rank-above : (l : List Posting) (d : Posting) (i : ℕ) → ordered l ≡ true → i < length l → precedes (get_or l i d) p ≡ true → i < places_before p l
  rank-above [] d i o h e = absurd (omega arith)
  rank-above (q ∷ l) d zero o h e = rw (rank-more q l e) (omega arith)
  rank-above (q ∷ l) d (suc i) o h e =
      let y = precedes-trans q (get_or l i d) p (every-at (precedes q) l d (and_left _ _ o) i (omega arith)) e in
      let r = rank-above l d i (and_right (every (precedes q) l) _ o) (omega arith) e in
      rw (rank-more q l y) (omega arith)

  -- and any other is not
  pub rank_below : (l : List Posting) (d : Posting) (i : ℕ) → ordered l ≡ true → i < length l → precedes (get_or l i d) p ≡ false → places_before p l ≤ i
  rank_below [] d i o h e = absurd (omega arith)
  rank_below (q ∷ l) d zero o h e = rw (rank-none q l o e) (omega arith)
  rank_below (q ∷ l) d (suc i) o h e =
      by-test (precedes q p)
      (λ y. let r = rank_below l d i (and_right (every (precedes q) l) _ o) (omega arith) e in rw (rank-more q l y) (omega arith))
      (λ n. rw (rank-none q l o n) (omega arith))

  -- a pair that is not at its rank is not there
  pub rank-missing : (l : List Posting) (d : Posting) → ordered l ≡ true → (places_before p l < length l → same_pair p (get_or l (places_before p l) d) ≡ false) → any (same_pair p) l ≡ false
  rank-missing [] d o f = refl
  rank-missing (q ∷ l) d o f =
      by-test (precedes q p)
      (λ y. rw (before-apart p q y)
      (rank-missing l d (and_right (every (precedes q) l) _ o) (λ h. rw (rank-more q l y) at (f (rw (rank-more q l y) (omega arith))))))
      (λ n. let m : same_pair p q ≡ false = rw (rank-none q l o n) at (f (rw (rank-none q l o n) (omega arith))) in
      any-before p (q ∷ l) (before-all p q l (precedes-total q p (same-swap q p ∙ m) n) o))

  -- a pair that is there is at its rank
  pub rank-there : (l : List Posting) (d : Posting) → ordered l ≡ true → any (same_pair p) l ≡ true → (places_before p l < length l) × (same_pair p (get_or l (places_before p l) d) ≡ true)
  rank-there l d o e =
      by-test (ltb (places_before p l) (length l))
      (λ y. by-test (same_pair p (get_or l (places_before p l) d)) (λ z. (ltb-true _ _ y, z)) (λ n. absurd (true≢false (sym e ∙ rank-missing l d o (λ h. n)))))
      (λ n. let g : length l ≤ places_before p l = ltb-false _ _ n in
      absurd (true≢false (sym e ∙ rank-missing l d o (λ h. absurd (omega arith)))))

  -- those below the rank stand before p
  rank-front : (l : List Posting) → ordered l ≡ true → every (λ q. precedes q p) (take (places_before p l) l) ≡ true
  rank-front [] o = rw (take-nil (places_before p []))
  rank-front (q ∷ l) o =
      by-test (precedes q p)
      (λ y. rw (rank-more q l y) (and_both (precedes q p) _ y (rank-front l (and_right (every (precedes q) l) _ o))))
      (λ n. rw (rank-none q l o n))

  -- and p stands before those from the rank on, where its pair is new
  rank-rest : (l : List Posting) → ordered l ≡ true → any (same_pair p) l ≡ false → every (precedes p) (drop (places_before p l) l) ≡ true
  rank-rest [] o e = rw (drop-nil (places_before p []))
  rank-rest (q ∷ l) o e =
      let m = or-none (same_pair p q) _ e in
      by-test (precedes q p)
      (λ y. rw (rank-more q l y) (rank-rest l (and_right (every (precedes q) l) _ o) m.1))
      (λ n. rw (rank-none q l o n) (before-all p q l (precedes-total q p (same-swap q p ∙ m.0) n) o))

  -- a search by halving may be made: what stands before p comes first
  pub rank-parted : (l : List Posting) → ordered l ≡ true → IsPartitionedBy (λ q. precedes q p) l
  rank-parted l o i j d h f e =
      by-test (precedes (get_or l i d) p) (λ y. y)
      (λ n. let a = rank-above l d j o f e in let b = rank_below l d i o (omega arith) n in absurd (omega arith))

  -- and its answer is the rank
  pub rank-point : (l : List Posting) (k : ℕ) → ordered l ≡ true → k ≤ length l → IsPartitionPoint (λ q. precedes q p ≡ true) (λ q. precedes q p ≡ false) l k → k ≡ places_before p l
  rank-point l k o h point =
      let r = places_before p l in
      let most = rank-le l in
      by-test (ltb k r)
      (λ y. let f = ltb-true k r y in
      let g = rank_below l no_posting k o (omega arith) (point.1 k no_posting (omega arith) (omega arith)) in absurd (omega arith))
      (λ n. let f = ltb-false k r n in
      by-test (ltb r k)
      (λ y. let g = ltb-true r k y in
      let m = rank-above l no_posting r o (omega arith) (point.0 r no_posting (omega arith) (omega arith)) in absurd (omega arith))
      (λ m. let g = ltb-false r k m in omega arith))

  -- ---- what a place says

  -- a place depends on the pair alone
  pub place-pair : (l : List Posting) → place_of (pair p.id p.window) l ≡ place_of p l
  unfolding place_of places_before
  place-pair l = refl

  module _ (l : List Posting) (o : ordered l ≡ true) (k : ℕ) where
    -- the pair at its rank
    pub found_at : (d : Posting) → k ≡ places_before p l → k < length l → same_pair p (get_or l k d) ≡ true → Ok k ≡ place_of p l
    unfolding place_of
    found_at d e h t = rw (any_at (same_pair p) l d k h t, e)

    -- no such pair at its rank
    pub found_before : (d : Posting) → k ≡ places_before p l → (k < length l → same_pair p (get_or l k d) ≡ false) → Err k ≡ place_of p l
    unfolding place_of
    found_before d e f = rw (rank-missing l d o (rw e at f), e)

    -- the pair is there, at k
    pub place_at : (d : Posting) → place_of p l ≡ Ok k → (k ≡ places_before p l) × (k < length l) × (same_pair p (get_or l k d) ≡ true) × (any (same_pair p) l ≡ true)
    unfolding place_of
    place_at d e =
        by-test (any (same_pair p) l)
        (λ y. let f : Ok (places_before p l) ≡ Ok k = rw y at e in
        let r : places_before p l ≡ k = cc in
        let t = rank-there l d o y in
        (sym r, omega (arith, t.0), rw r at t.1, y))
        (λ n. let f : Err (places_before p l) ≡ Ok k = rw n at e in
        let z : ◌≡◌ {A = ℕ} 0 1 = cc in
        absurd (omega arith))

    -- the pair is not there: those below k stand before it, and it stands before the others
    pub place-before : place_of p l ≡ Err k → (k ≡ places_before p l) × (k ≤ length l) × (any (same_pair p) l ≡ false) × (every (λ q. precedes q p) (take k l) ≡ true) × (every (precedes p) (drop k l) ≡ true)
    unfolding place_of
    place-before e =
        by-test (any (same_pair p) l)
        (λ y. let f : Ok (places_before p l) ≡ Err k = rw y at e in
        let z : ◌≡◌ {A = ℕ} 0 1 = cc in
        absurd (omega arith))
        (λ n. let f : Err (places_before p l) ≡ Err k = rw n at e in
        let r : places_before p l ≡ k = cc in
        (sym r, omega (arith, rank-le l), n, rw r at (rank-front l o), rw r at (rank-rest l o n)))
