-- The best hits stand by rank, so that the last of a full list tells which hit gets no place.
use Rattle.lists.proofs.Prelude.{true, false, ◌||◌, List, [], ◌∷◌, ◌⊎◌, inl, inr, ◌≡◌, sym, ap, ◌∙◌, ℕ, zero, suc, ◌-◌, ◌≤◌, ◌<◌, arith, ltb, length, get_or, take, get_or-take, ltb-true, ltb-false, AllOf, by-test, or-none, never}
use Rattle.answers.specs.declared.Hit.{Hit}
use Rattle.ranking.specs.declared.Top.{Top}
use Rattle.ranking.specs.Hits.{outranks, place}
use Rattle.ranking.specs.Top.{no_hit, listed_hits, Held, rank}
use Rattle.ranking.proofs.Ranking.{outranks-score, outranks-window, outranks-cases}
use Rattle.ranking.proofs.Tops.{clean-used, place_out}

-- ---- a hit that does not outrank another

module _ (g h : Hit) (n : outranks g h ≡ false) where
  lower-score : g.score ≤ h.score
  lower-score = by-test (ltb h.score g.score) (λ y. never (sym n ∙ outranks-score g h (ltb-true _ _ y))) (λ y. ltb-false _ _ y)

  lower-window : h.score ≡ g.score → g.window ≤ h.window
  lower-window e = by-test (ltb h.window g.window) (λ y. never (sym n ∙ outranks-window g h e (ltb-true _ _ y))) (λ y. ltb-false _ _ y)

-- none that is outranked outranks back
back : (g h : Hit) → outranks g h ≡ true → outranks h g ≡ false
back g h e = by-test (outranks h g) (λ y. absurd (both (outranks-cases g h e) (outranks-cases h g y))) (λ n. n)
  where
    both : (h.score < g.score) ⊎ ((h.score ≡ g.score) × (h.window < g.window)) → (g.score < h.score) ⊎ ((g.score ≡ h.score) × (g.window < h.window)) → ⊥
    both (inl a) (inl b) = omega arith
    both (inl a) (inr b) = omega arith
    both (inr a) (inl b) = omega arith
    both (inr a) (inr b) = omega arith

-- one that does not outrank the second of two in order does not outrank the first
not-across : (g z h : Hit) → outranks g z ≡ false → outranks z h ≡ false → outranks g h ≡ false
not-across g z h a b = by-test (outranks g h) (λ y. absurd (past (outranks-cases g h y))) (λ n. n)
  where
    past : (h.score < g.score) ⊎ ((h.score ≡ g.score) × (h.window < g.window)) → ⊥
    past (inl c) = omega (arith, lower-score g z a, lower-score z h b)
    past (inr c) =
        let s = lower-score g z a in
        let t = lower-score z h b in
        omega (arith, lower-window g z a (omega arith), lower-window z h b (omega arith))

-- ---- lists by rank

-- no hit outranks one before it
abbrev pub Sorted : List Hit → Type 0
Sorted [] = Unit {0}
Sorted (h ∷ l) = AllOf (λ x. outranks x h ≡ false) l × Sorted l

all-place : (P : Hit → Type 0) (g : Hit) (l : List Hit) → P g → AllOf P l → AllOf P (place g l)
unfolding AllOf
all-place P g [] p a = (p, tt)
all-place P g (h ∷ l) p a = by-test (outranks g h) (λ y. rw y (p, a)) (λ n. rw n (a.0, all-place P g l p a.1))

all_take : (P : Hit → Type 0) (n : ℕ) (l : List Hit) → AllOf P l → AllOf P (take n l)
unfolding AllOf
all_take P zero l a = tt
all_take P (suc n) [] a = tt
all_take P (suc n) (h ∷ l) a = (a.0, all_take P n l a.1)

pub sorted-place : (g : Hit) (l : List Hit) → Sorted l → Sorted (place g l)
unfolding AllOf
sorted-place g [] s = (tt, tt)
sorted-place g (h ∷ l) s =
    by-test (outranks g h)
    (λ y. rw y ((back g h y, behind (back g h y) l s.0), s))
    (λ n. rw n (all-place (λ x. outranks x h ≡ false) g l n s.0, sorted-place g l s.1))
  where
    behind : outranks h g ≡ false → (l : List Hit) → AllOf (λ x. outranks x h ≡ false) l → AllOf (λ x. outranks x g ≡ false) l
    behind b [] a = tt
    behind b (x ∷ l) a = (not-across x h g a.0 b, behind b l a.1)

pub sorted-take : (n : ℕ) (l : List Hit) → Sorted l → Sorted (take n l)
unfolding AllOf
sorted-take zero l s = tt
sorted-take (suc n) [] s = tt
sorted-take (suc n) (h ∷ l) s = (all_take (λ x. outranks x h ≡ false) n l s.0, sorted-take n l s.1)

-- one that does not outrank the last ranks behind all
behind-last : (g : Hit) (l : List Hit) (n : ℕ) → length l ≡ suc n → Sorted l → outranks g (get_or l n no_hit) ≡ false → rank g l ≡ length l
unfolding AllOf rank
behind-last g [] n e s o = absurd (omega arith)
behind-last g (h ∷ []) n e s o = let z : n ≡ 0 = omega arith in rw (rw z at o)
behind-last g (h ∷ x ∷ l) zero e s o = absurd (omega arith)
behind-last g (h ∷ x ∷ l) (suc n) e s o =
    let r = behind-last g (x ∷ l) n (omega arith) s.1 o in
    let a = last-not (x ∷ l) n (omega arith) s.0 in
    rw (not-across g (get_or (x ∷ l) n no_hit) h o a) (ap suc r)
  where
    last-not : (l : List Hit) (n : ℕ) → n < length l → AllOf (λ x. outranks x h ≡ false) l → outranks (get_or l n no_hit) h ≡ false
    last-not [] n f a = absurd (omega arith)
    last-not (y ∷ l) zero f a = a.0
    last-not (y ∷ l) (suc n) f a = last-not l n (omega arith) a.1

-- so of a full list whose last hit it does not outrank nothing changes
pub left_out : (places : ℕ) (t : Top) (g : Hit) → Held places t → Sorted (listed_hits t) → (ltb t.used places || outranks g (get_or t.hits (places - 1) no_hit)) ≡ false
    → take places (place g (listed_hits t)) ≡ listed_hits t
left_out places t g held s o =
    let q = or-none (ltb t.used places) _ o in
    let full : t.used ≡ places = omega (arith, ltb-false t.used places q.0, held.within) in
    let len = clean-used t held.clean in
    let last : outranks g (get_or (listed_hits t) (places - 1) no_hit) ≡ false =
    ap (outranks g) (get_or-take t.used t.hits (places - 1) no_hit (omega (arith, held.some))) ∙ q.1 in
    let r = behind-last g (listed_hits t) (places - 1) (omega (arith, held.some)) s last in
    place_out g places (listed_hits t) (omega arith) (omega arith)
