-- The order of taking from another block on: the blocks turned round.
use Rattle.lists.proofs.Prelude.{List, [], ◌∷◌, ◌++◌, ◌⊎◌, inl, inr, ⊎_elim, ◌≡◌, sym, ap, ◌∙◌, ℕ, suc, ◌+◌, ◌-◌, ◌<◌, arith, ltb, length, get_or, take, drop, length-append, length-drop, List·getD-append, length-take-le, get_or-append-add, get_or-take, get_or-drop, ext_get_or, ltb-true, ltb-false, keep, by-test, first-kept, keep-turned}
use Rattle.card.specs.Blocks.{is_free, after_taken, free_blocks}
use Rattle.blocks.proofs.Taking.{length-after, after-up, after-round}

-- The order of taking --------------------------------------------------------------------------------------------------

module _ (n : ℕ) where
  -- block m is in place j after block x: upward, round the end
  abbrev Comes : ℕ → ℕ → ℕ → Type 0
  Comes x j m = (m < n) × ((x + 1 + j ≡ m) ⊎ (x + 1 + j ≡ m + n))

  after_is : (x j m : ℕ) → x < n → j < n → Comes x j m → get_or (after_taken n x) j 0 ≡ m
  after_is x j m a b e =
      ⊎_elim
      (λ q. after-up n x j (omega (arith, e.0)) ∙ q)
      (λ q. after-round n x j a b (omega arith) ∙ (omega (arith, e.0)))
      e.1

  after-comes : (x j : ℕ) → x < n → j < n → Comes x j (get_or (after_taken n x) j 0)
  after-comes x j a b =
      by-test (ltb (x + 1 + j) n)
      (λ y. let l = ltb-true (x + 1 + j) n y in let e = after-up n x j l in (omega arith, inl (sym e)))
      (λ f. let l = ltb-false (x + 1 + j) n f in let e = after-round n x j a b l in (omega arith, inr (omega arith)))

  -- the order after the block in place i is the order turned round there
  turned : (x i : ℕ) → x < n → i < n → after_taken n (get_or (after_taken n x) i 0) ≡ drop (suc i) (after_taken n x) ++ take (suc i) (after_taken n x)
  turned x i a h =
      let l = after_taken n x in
      let b = get_or l i 0 in
      let cb = after-comes x i a h in
      let len = length-after n x a in
      let lenb = length-after n b cb.0 in
      let ld : length (drop (suc i) l) ≡ n - suc i = length-drop (suc i) l ∙ (omega arith) in
      let lt : length (take (suc i) l) ≡ suc i = length-take-le (suc i) l (omega arith) in
      ext_get_or 0 (after_taken n b) (drop (suc i) l ++ take (suc i) l) (lenb ∙ sym (length-append (drop (suc i) l) (take (suc i) l) ∙ (omega arith)))
      (λ j k. let m = get_or (after_taken n b) j 0 in
      let q : j < n = omega arith in
      let cm = after-comes b j cb.0 q in
      by-test (ltb j (n - suc i))
      (λ y. let g = ltb-true j (n - suc i) y in
      let z : Comes x (suc i + j) m =
      (cm.0, ⊎_elim (λ u. ⊎_elim (λ v. inl (omega arith)) (λ v. inr (omega arith)) cm.1) (λ u. ⊎_elim (λ v. inr (omega arith)) (λ v. absurd (omega (arith, cm.0))) cm.1) cb.1) in
      sym (List·getD-append (drop (suc i) l) (take (suc i) l) 0 j (omega arith) ∙ get_or-drop (suc i) l j 0 ∙ after_is x (suc i + j) m a (omega arith) z))
      (λ f. let g = ltb-false j (n - suc i) f in
      let r = j - (n - suc i) in
      let jr : length (drop (suc i) l) + r ≡ j = omega arith in
      let z : Comes x r m =
      (cm.0, ⊎_elim (λ u. ⊎_elim (λ v. absurd (omega (arith, cm.0))) (λ v. inl (omega arith)) cm.1) (λ u. ⊎_elim (λ v. inl (omega arith)) (λ v. inr (omega arith)) cm.1) cb.1) in
      sym (ap (λ (o : ℕ). get_or (drop (suc i) l ++ take (suc i) l) o 0) (sym jr) ∙ get_or-append-add (drop (suc i) l) (take (suc i) l) r 0 ∙ get_or-take (suc i) l r 0 (omega arith)
      ∙ after_is x r m a (omega arith) z)))

-- the free blocks after the first free one are the others, and then that one
pub free-turned : (W : List ℕ) (n taken b : ℕ) (rest : List ℕ) → taken < n → free_blocks W n taken ≡ b ∷ rest → free_blocks W n b ≡ rest ++ (b ∷ [])
unfolding free_blocks
free-turned W n taken b rest h e =
    let l = after_taken n taken in
    let f = first-kept (is_free W) l b rest e in
    let i = f.0 in
    let k = f.1.inside in
    let t = turned n taken i h (omega (arith, length-after n taken h)) in
    ap (keep (is_free W)) (rw f.1.here at t) ∙ keep-turned (is_free W) l b rest i f.1
