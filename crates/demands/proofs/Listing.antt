-- What the hits of a query are, read off their definition: exact scores, in falling order, and cut only where the list is full.
use Rattle.lists.proofs.Prelude.{Bool, true, false, ◌||◌, ◌&&◌, not, cond, true≢false, List, [], ◌∷◌, foldr, map, ◌≡◌, refl, sym, ap, ap₂, ◌∙◌, ℕ, zero, suc, eqb, length, take, eqb-true, eqb-false, eq-eqb, not-true, any, every, elem, different, by-test, and_left, and_right, and_both, or-none, or_swap, every-from, every_take, elem-every, different-keep, and-past, any-map}
use Rattle.answers.specs.declared.Hit.{Hit}
use Rattle.ranking.specs.Hits.{outranks, place, score, matching, ranked}
use Rattle.ranking.proofs.Ranking.{ranks}
use Rattle.demands.specs.Words.{falls}

-- ---- placing keeps what is there

every-place : (t : Hit → Bool) (g : Hit) (l : List Hit) → every t (place g l) ≡ (t g && every t l)
every-place t g [] = refl
every-place t g (h ∷ l) =
    by-test (outranks g h)
    (λ y. ap (λ u. every t (cond u (g ∷ h ∷ l) (h ∷ place g l))) y)
    (λ n. ap (λ u. every t (cond u (g ∷ h ∷ l) (h ∷ place g l))) n ∙ ap (λ u. t h && u) (every-place t g l) ∙ and-past (t h) (t g) (every t l))

any_place : (t : Hit → Bool) (g : Hit) (l : List Hit) → any t (place g l) ≡ (t g || any t l)
any_place t g [] = refl
any_place t g (h ∷ l) =
    by-test (outranks g h)
    (λ y. ap (λ u. any t (cond u (g ∷ h ∷ l) (h ∷ place g l))) y)
    (λ n. ap (λ u. any t (cond u (g ∷ h ∷ l) (h ∷ place g l))) n ∙ ap (λ u. t h || u) (any_place t g l) ∙ or_swap (t h) (t g) (any t l))

every-placed : (t : Hit → Bool) (gs : List Hit) → every t (foldr place [] gs) ≡ every t gs
every-placed t [] = refl
every-placed t (g ∷ gs) = every-place t g (foldr place [] gs) ∙ ap (λ u. t g && u) (every-placed t gs)

any-placed : (t : Hit → Bool) (gs : List Hit) → any t (foldr place [] gs) ≡ any t gs
any-placed t [] = refl
any-placed t (g ∷ gs) = any_place t g (foldr place [] gs) ∙ ap (λ u. t g || u) (any-placed t gs)

-- ---- placed hits of different windows fall

abbrev stands_apart_from : Hit → Hit → Bool
stands_apart_from g h = not (eqb h.window g.window)

falls-place : (g : Hit) (l : List Hit) → every (stands_apart_from g) l ≡ true → falls l ≡ true → falls (place g l) ≡ true
falls-place g [] d f = refl
falls-place g (h ∷ l) d f =
    by-test (outranks g h)
    (λ y. ap (λ u. falls (cond u (g ∷ h ∷ l) (h ∷ place g l))) y
    ∙ and_both _ _ (and_both _ _ y (every-from (outranks h) (outranks h) (outranks g) (λ x a b. ranks.across g h x y a) l (and_left _ _ f) (and_left _ _ f))) f)
    (λ n. ap (λ u. falls (cond u (g ∷ h ∷ l) (h ∷ place g l))) n
    ∙ and_both _ _
    (every-place (outranks h) g l
    ∙ and_both _ _ (ranks.either g h (λ e. eqb-false h.window g.window (not-true _ (and_left (stands_apart_from g h) _ d)) (sym e)) ∙ ap not n) (and_left (every (outranks h) l) _ f))
    (falls-place g l (and_right (stands_apart_from g h) _ d) (and_right (every (outranks h) l) _ f)))

apart-all : (g : Hit) (gs : List Hit) → elem g.window (map (λ (h : Hit). h.window) gs) ≡ false → every (stands_apart_from g) gs ≡ true
apart-all g [] e = refl
apart-all g (h ∷ gs) e =
    let o = or-none (eqb h.window g.window) _ e in
    and_both _ _ (ap not o.0) (apart-all g gs o.1)

falls-placed : (gs : List Hit) → different (map (λ (h : Hit). h.window) gs) ≡ true → falls (foldr place [] gs) ≡ true
falls-placed [] d = refl
falls-placed (g ∷ gs) d =
    let e = not-true (elem g.window (map (λ (h : Hit). h.window) gs)) (and_left _ _ d) in
    falls-place g (foldr place [] gs) (every-placed (stands_apart_from g) gs ∙ apart-all g gs e)
    (falls-placed gs (and_right (not (elem g.window (map (λ (h : Hit). h.window) gs))) _ d))

falls-take : (k : ℕ) (l : List Hit) → falls l ≡ true → falls (take k l) ≡ true
falls-take zero l f = refl
falls-take (suc k) [] f = refl
falls-take (suc k) (g ∷ l) f =
    and_both _ _ (every_take (outranks g) k l (and_left _ _ f)) (falls-take k l (and_right (every (outranks g) l) _ f))

-- ---- what is cut away

-- one that is in the list, where t tells it among those that keep s
module _ (s t : Hit → Bool) (x : Hit) (told : (h : Hit) → s h ≡ true → t h ≡ true → h ≡ x) where
  there : (u : Hit → Bool) (l : List Hit) → every s l ≡ true → any t l ≡ true → every u l ≡ true → u x ≡ true
  there u [] a b c = absurd (true≢false (sym b))
  there u (h ∷ l) a b c =
      by-test (t h)
      (λ y. ap u (sym (told h (and_left _ _ a) y)) ∙ and_left (u h) _ c)
      (λ n. there u l (and_right (s h) _ a) (sym (ap (λ v. v || any t l) n) ∙ b) (and_right (u h) _ c))

  cut-away : (k : ℕ) (l : List Hit) → every s l ≡ true → any t l ≡ true → falls l ≡ true → any t (take k l) ≡ false
      → (length (take k l) ≡ k) × (every (λ h. outranks h x) (take k l) ≡ true)
  cut-away zero l a b f n = (refl, refl)
  cut-away (suc k) [] a b f n = absurd (true≢false (sym b))
  cut-away (suc k) (h ∷ l) a b f n =
      let o = or-none (t h) _ n in
      let b' : any t l ≡ true = sym (ap (λ v. v || any t l) o.0) ∙ b in
      let r = cut-away k l (and_right (s h) _ a) b' (and_right (every (outranks h) l) _ f) o.1 in
      (ap suc r.0, and_both _ _ (there (outranks h) l (and_right (s h) _ a) b' (and_left _ _ f)) r.1)

-- ---- the hits of a query

module _ {I : Type 0} (n : ℕ) (count : I → ℕ → ℕ) (windows : List ℕ) (k : ℕ) (is : List I) where
  abbrev hit_of : ℕ → Hit
  hit_of w = record { window = w; score = score n count windows is w }

  abbrev found : List ℕ
  found = matching n count windows is

  -- is a hit of a matching window, with its score
  abbrev pub exact : Hit → Bool
  exact h = elem h.window (matching n count windows is) && eqb h.score (score n count windows is h.window)

  exact-all : (l : List ℕ) → every (λ w. elem w found) l ≡ true → every exact (map hit_of l) ≡ true
  exact-all [] e = refl
  exact-all (w ∷ l) e =
      and_both (exact (hit_of w)) _ (and_both (elem w found) _ (and_left (elem w found) _ e) (eq-eqb (score n count windows is w) _ refl)) (exact-all l (and_right (elem w found) _ e))

  exact-placed : every exact (foldr place [] (map hit_of found)) ≡ true
  exact-placed = every-placed exact (map hit_of found) ∙ exact-all found (elem-every (λ w. elem w found) found (λ w e. e))

  -- every window listed matches, and has exactly the score of the definition
  pub listed-scores : every exact (ranked n count windows k is) ≡ true
  unfolding ranked
  listed-scores = every_take exact k (foldr place [] (map hit_of found)) exact-placed

  windows-of : (l : List ℕ) → map (λ (h : Hit). h.window) (map hit_of l) ≡ l
  windows-of [] = refl
  windows-of (w ∷ l) = ap {B = List ℕ} (λ r. w ∷ r) (windows-of l)

  module _ (once : different windows ≡ true) where
    falls-all : falls (foldr place [] (map hit_of found)) ≡ true
    falls-all = falls-placed (map hit_of found) (ap different (windows-of found) ∙ (unfold matching in different-keep _ windows once))

    -- the list falls: each hit outranks all after it
    pub listed-falls : falls (ranked n count windows k is) ≡ true
    unfolding ranked
    listed-falls = falls-take k (foldr place [] (map hit_of found)) falls-all

    -- a matching window that is not listed is outranked by every listed one, and the list is full
    pub left-out-only-when-full : (w : ℕ) → elem w (matching n count windows is) ≡ true → any (λ (h : Hit). eqb h.window w) (ranked n count windows k is) ≡ false
        → (length (ranked n count windows k is) ≡ k) × (every (λ h. outranks h (record { window = w; score = score n count windows is w })) (ranked n count windows k is) ≡ true)
    unfolding ranked
    left-out-only-when-full w m out =
        cut-away exact (λ h. eqb h.window w) (hit_of w) told k (foldr place [] (map hit_of found)) exact-placed
        (any-placed (λ h. eqb h.window w) (map hit_of found) ∙ any-map (λ h. eqb h.window w) hit_of found ∙ m) falls-all out
      where
        told : (h : Hit) → exact h ≡ true → eqb h.window w ≡ true → h ≡ hit_of w
        told h a b =
            let e : h.window ≡ w = eqb-true _ _ b in
            ap₂ (λ (v p : ℕ). record { window = v; score = p }) e
            (eqb-true _ _ (and_right (elem h.window found) _ a) ∙ ap (score n count windows is) e)
