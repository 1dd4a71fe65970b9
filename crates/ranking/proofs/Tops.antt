-- The list of the best hits: the rank of a hit in it, and what an insertion makes of it.
use Rattle.lists.proofs.Prelude.{true, false, List, [], ◌∷◌, ◌++◌, ◌≡◌, refl, sym, ap, ap₂, ◌∙◌, ℕ, suc, ◌+◌, ◌-◌, ◌≤◌, ◌<◌, min, add-one, arith, ltb, length, get_or, take, drop, set, replicate, length-take, drop_of_length-le, length-append, length-replicate, take_all, take-append_seam, take-length, drop-cons, get_or-take, length-take-le, ltb-true, ltb-false, by-test}
use Rattle.lists.proofs.Shifts.{raised}
use Rattle.lists.proofs.Places.{length-insert}
use Rattle.lists.proofs.TopK.{filled-over}
use Rattle.answers.specs.declared.Hit.{Hit}
use Rattle.ranking.specs.declared.Top.{Top}
use Rattle.ranking.specs.Hits.{outranks, place}
use Rattle.ranking.specs.Top.{no_hit, listed_hits, top_of, Held, rank}

-- ---- the form in which hits are held

-- hits put into a list are what it holds
pub listed-of : (l : List Hit) → listed_hits (top_of l) ≡ l
listed-of l = take-append_seam l _

-- what is held, in a list of as many places
pub held_of : (places : ℕ) (l : List Hit) → 1 ≤ places → places ≤ 32 → length l ≤ places → Held places (top_of l)
held_of places l a b h = record { some = a; most = b; within = h; clean = ap top_of (sym (listed-of l)) }

-- what is cut to the places is held
pub held-take : (places : ℕ) (l : List Hit) → 1 ≤ places → places ≤ 32 → Held places (top_of (take places l))
held-take places l a b = held_of places (take places l) a b (omega (arith, length-take places l))

-- the count of used places is the number of hits
pub clean-used : (t : Top) → t ≡ top_of (listed_hits t) → length (listed_hits t) ≡ t.used
clean-used t e = sym (ap (λ (x : Top). x.used) e)

-- ---- ranks

module _ (g : Hit) where
  -- a rank is a place of the list or its end
  pub rank-le : (l : List Hit) → rank g l ≤ length l
  unfolding rank
  rank-le [] = omega arith
  rank-le (h ∷ l) = let r = rank-le l in by-test (outranks g h) (λ y. rw y (omega arith)) (λ n. rw n (omega arith))

  -- a hit is placed at its rank
  pub place-rank : (l : List Hit) → place g l ≡ take (rank g l) l ++ g ∷ drop (rank g l) l
  unfolding rank
  place-rank [] = refl
  place-rank (h ∷ l) = by-test (outranks g h) (λ y. rw y) (λ n. rw (n, ← place-rank l))

  module _ (l : List Hit) (n i : ℕ) (f : n ≤ length l) where
    turn : i < n → drop i (take n l) ≡ get_or l i no_hit ∷ drop (suc i) (take n l)
    turn h =
        let e : length (take n l) ≡ n = length-take-le n l f in
        rw (drop-cons (take n l) i no_hit (omega arith), get_or-take n l i no_hit h)

    -- a turn of the search that ends it
    pub rank-here : i < n → outranks g (get_or l i no_hit) ≡ true → rank g (drop i (take n l)) ≡ 0
    unfolding rank
    rank-here h e = rw (turn h, e)

    -- and one that goes on
    pub rank-on : i < n → outranks g (get_or l i no_hit) ≡ false → rank g (drop i (take n l)) ≡ 1 + rank g (drop (i + 1) (take n l))
    unfolding rank
    rank-on h e = rw (add-one i, turn h, e) (omega arith)

    -- and its end
    pub rank-end : n ≤ i → rank g (drop i (take n l)) ≡ 0
    unfolding rank
    rank-end h =
        let e : length (take n l) ≡ n = length-take-le n l f in
        rw (drop_of_length-le (take n l) {i = i} (omega arith))

  -- ---- insertion

  -- what ranks last is cut off a full list
  pub place_out : (places : ℕ) (l : List Hit) → length l ≤ places → places ≤ rank g l → take places (place g l) ≡ l
  place_out places l a b =
      let k : rank g l ≡ length l = omega (arith, rank-le l) in
      let e : places ≡ length l = omega (arith, rank-le l) in
      rw (place-rank l, k, take-length l, e) (take-append_seam l _)

  -- one that stands among the first places pushes the last one out, where there is one too many
  pub place_in : (places : ℕ) (l : List Hit) (last : ℕ) → last ≡ min (length l) (places - 1) → 1 ≤ places → length l ≤ places
      → take (last + 1) (take (rank g l) l ++ g ∷ drop (rank g l) l) ≡ take places (place g l)
  place_in places l last e a b =
      rw (place-rank l)
      (by-test (ltb (length l) places)
      (λ y. let h : length l < places = ltb-true _ _ y in
      let m = length-insert (rank g l) g l in
      let all : length (take (rank g l) l ++ g ∷ drop (rank g l) l) ≤ last + 1 = omega arith in
      let room : length (take (rank g l) l ++ g ∷ drop (rank g l) l) ≤ places = omega arith in
      take_all (last + 1) _ all ∙ sym (take_all places _ room))
      (λ n. let h : places ≤ length l = ltb-false _ _ n in
      let s : last + 1 ≡ places = omega arith in
      rw s))

-- a list of a count and an array
abbrev pub made : ℕ → List Hit → Top
made u xs = record { used = u; hits = xs }

inserted : (l : List Hit) (t : Top) → t ≡ top_of l → (g : Hit) (k last : ℕ) → k ≤ last → last ≤ length l → length l ≤ last + 1 → last < 32
    → made (last + 1) (set (raised last k t.hits) k g) ≡ top_of (take (last + 1) (take k l ++ g ∷ drop k l))
inserted l t e g k last a b c f =
    let h : suc last ≤ length (take k l ++ g ∷ drop k l) = omega (arith, length-insert k g l) in
    rw (e, add-one last) (ap₂ made (sym (length-take-le (suc last) (take k l ++ g ∷ drop k l) h)) (filled-over 32 no_hit l k last g a b (omega arith) f))

-- a hit put in, those behind it having moved up over the last place
pub insert-made : (t : Top) → t ≡ top_of (listed_hits t) → (g : Hit) (k last : ℕ) → k ≤ last → last ≤ t.used → t.used ≤ last + 1 → last < 32
    → made (last + 1) (set (raised last k t.hits) k g) ≡ top_of (take (last + 1) (take k (listed_hits t) ++ g ∷ drop k (listed_hits t)))
insert-made t e g k last a b c f = let u = clean-used t e in inserted (listed_hits t) t e g k last a (omega arith) (omega arith) f

-- the array has 32 places
pub held-length : (places : ℕ) (t : Top) → Held places t → length t.hits ≡ 32
held-length places t h =
    let u = clean-used t h.clean in
    let l = listed_hits t in
    ap (λ (x : Top). length x.hits) h.clean ∙ length-append l (replicate (32 - length l) no_hit) ∙ omega (arith, length-replicate (32 - length l) no_hit, h.within, h.most)
