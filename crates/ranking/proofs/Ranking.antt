-- Hits by rank: in whatever order the windows come, and each cut to the places of the list as it comes.
use Rattle.lists.proofs.Prelude.{true, ◌&&◌, not, List, [], foldr, map, ◌⊎◌, inl, inr, ◌≡◌, refl, ℕ, ◌≤◌, ◌<◌, arith, ltb, eqb, take, ltb-true, ltb-false, lt-ltb, le-ltb, eqb-true, eq-eqb, ne_eqb, different, by-test, and_left, and_right, or_right}
use Rattle.lists.proofs.TopK.{Inserts, Ranks, top_after, top-after}
use Rattle.answers.specs.declared.Hit.{Hit}
use Rattle.ranking.specs.Hits.{outranks, place}

-- ---- the order of hits

-- a higher score is enough
pub outranks-score : (g h : Hit) → h.score < g.score → outranks g h ≡ true
outranks-score g h l = rw (lt-ltb h.score g.score l)

pub outranks-window : (g h : Hit) → h.score ≡ g.score → h.window < g.window → outranks g h ≡ true
outranks-window g h e l = or_right (ltb h.score g.score) _ (rw (eq-eqb h.score g.score e, lt-ltb h.window g.window l))

pub outranks-cases : (g h : Hit) → outranks g h ≡ true → (h.score < g.score) ⊎ ((h.score ≡ g.score) × (h.window < g.window))
outranks-cases g h e =
    by-test (ltb h.score g.score) (λ y. inl (ltb-true _ _ y))
    (λ n. let f : (eqb h.score g.score && ltb h.window g.window) ≡ true = rw n at e in
    inr (eqb-true _ _ (and_left _ _ f), ltb-true _ _ (and_right (eqb h.score g.score) _ f)))

-- hits of different windows are strictly ordered
pub ranks : Ranks (λ (h : Hit). h.window) outranks
ranks = record { across = λ g h x e f. across g h x (outranks-cases g h e) (outranks-cases h x f); either = either }
  where
    across : (g h x : Hit) → (h.score < g.score) ⊎ ((h.score ≡ g.score) × (h.window < g.window)) → (x.score < h.score) ⊎ ((x.score ≡ h.score) × (x.window < h.window)) → outranks g x ≡ true
    across g h x (inl a) (inl b) = outranks-score g x (omega arith)
    across g h x (inl a) (inr b) = outranks-score g x (omega arith)
    across g h x (inr a) (inl b) = outranks-score g x (omega arith)
    across g h x (inr a) (inr b) = outranks-window g x (omega arith) (omega arith)

    either : (g h : Hit) → (g.window ≡ h.window → ⊥) → outranks h g ≡ not (outranks g h)
    either g h d =
        by-test (ltb h.score g.score)
        (λ y. let l : h.score < g.score = ltb-true _ _ y in rw (y, le-ltb g.score h.score (omega arith), ne_eqb g.score h.score (λ e. omega arith)))
        (λ n. let l : g.score ≤ h.score = ltb-false _ _ n in
        by-test (ltb g.score h.score)
        (λ y. let m : g.score < h.score = ltb-true _ _ y in rw (y, n, ne_eqb h.score g.score (λ e. omega arith)))
        (λ k. let m : h.score ≤ g.score = ltb-false _ _ k in
        rw (n, k, eq-eqb g.score h.score (omega arith), eq-eqb h.score g.score (omega arith)) (windows g.window h.window d)))
      where
        windows : (a b : ℕ) → (a ≡ b → ⊥) → ltb a b ≡ not (ltb b a)
        windows a b d =
            by-test (ltb b a) (λ y. let l : b < a = ltb-true _ _ y in rw (y, le-ltb a b (omega arith)))
            (λ n. let l : a ≤ b = ltb-false _ _ n in rw (n, lt-ltb a b (omega arith)))

-- a hit is placed before the first that it outranks
pub places : Inserts outranks place
places = record { last = λ g. refl; next = λ g h l. refl }

-- ---- the order of insertion

-- a walk that places the hits as they come, in a list cut at k, ends with the first k of all by rank
pub walked-hits : (k : ℕ) (gs : List Hit) → different (map (λ (h : Hit). h.window) gs) ≡ true → top_after place k [] gs ≡ take k (foldr place [] gs)
walked-hits k gs d = top-after places ranks k gs d
