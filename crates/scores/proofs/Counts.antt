-- How many postings heads have to come, and the numbers in front of a group's heads.
use Rattle.lists.proofs.Prelude.{true, List, [], ◌∷◌, map, ◌≡◌, refl, sym, ap, ◌∙◌, ℕ, zero, suc, ◌+◌, ◌-◌, ◌*◌, ◌<◌, ◌≤◌, arith, ltb, length, get_or, drop, set, length-map, length-take, length-drop, drop_of_length-le, length-append, get_or-take, get_or-drop, ltb-true, ltb-false, total_by, AllOf, by-test, and_left, and_right, total-more, append-nil}
use borrow.Rule.Slice.PartMut.{put_mid}
use Rattle.keyed.specs.Keys.{Item, falls, all_fall}
use Rattle.card.proofs.Cursors.{length-ahead}
use Rattle.kway.specs.Parts.{part, parts}
use Rattle.kway.proofs.Parts.{views-more, all-at}
use Rattle.heads.specs.Heads.{item_of, cursor_at, comes, Lies, coming, view, Kept, views}
use Rattle.heads.proofs.Heads.{comes-none}

-- ---- how many are to come

-- at most one a key, where they fall
falls-short : (m : ℕ) (l : List Item) → falls m l ≡ true → length l ≤ m
falls-short m [] e = omega arith
falls-short m (x ∷ l) e =
    let a : x.key < m = ltb-true x.key m (and_left _ _ e) in
    let b = falls-short x.key l (and_right x.fine _ (and_right (ltb x.key m) _ e)) in
    omega arith

module _ (W R : List ℕ) where
  -- as many as the head says
  length-comes : (p n : ℕ) → Lies W R p n → length (comes W R p n) ≡ n
  unfolding comes
  length-comes p zero g = ap length (comes-none W R p 0 refl)
  length-comes p (suc n) g = some (suc n) (omega arith) g
    where
      some : (n : ℕ) → 0 < n → Lies W R p n → length (comes W R p n) ≡ n
      some n h g =
          by-test (ltb p 4194304)
          (λ y. rw y (length-ahead W (cursor_at p n)))
          (λ y. let q = (g.run h (ltb-false p 4194304 y)).0 in
          let a = length-take n (drop (p - 4194304) R) in
          let b = length-drop (p - 4194304) R in
          rw y (omega arith))

  left-view : (h : List ℕ) → Kept W R h → get_or h 3 0 ≡ length (view W R h)
  unfolding view
  left-view h k = sym (length-map (coming W R h) item_of ∙ length-comes (get_or h 2 0) (get_or h 3 0) k.lies)

  module _ (H : List ℕ) (m : ℕ) (kept : AllOf (Kept W R) (parts 4 m H)) (fall : all_fall 65536 (views W R m H) ≡ true) (i : ℕ) (h : i < m) where
    each-falls : (l : List (List ℕ)) → all_fall 65536 (map (view W R) l) ≡ true → AllOf (λ x. falls 65536 (view W R x) ≡ true) l
    unfolding AllOf
    each-falls [] e = tt
    each-falls (x ∷ l) e = (and_left _ _ e, each-falls l (and_right (falls 65536 (view W R x)) _ e))

    pub left_at : get_or H (4 * i + 3) 0 ≡ length (view W R (part 4 i H))
    left_at = sym (get_or-take 4 (drop (4 * i) H) 3 0 (omega arith) ∙ get_or-drop (4 * i) H 3 0) ∙ left-view (part 4 i H) (all-at (Kept W R) 4 m H kept i h)

    pub left-few : get_or H (4 * i + 3) 0 ≤ 65536
    left-few = let f = falls-short 65536 (view W R (part 4 i H)) (all-at (λ x. falls 65536 (view W R x) ≡ true) 4 m H (each-falls (parts 4 m H) fall) i h) in omega (arith, left_at)

    pub left-more : (t : ℕ) → t ≡ total_by length (views W R i H) → t + get_or H (4 * i + 3) 0 ≡ total_by length (views W R (i + 1) H)
    left-more t e = rw (views-more (view W R) 4 i H, total-more length (views W R i H) (view W R (part 4 i H)), ← e, left_at)

-- ---- the numbers in front

-- four numbers, and others
front : (Q : List ℕ → Type 0) → ((a b c d : ℕ) (G : List ℕ) → Q (a ∷ b ∷ c ∷ d ∷ G)) → (G : List ℕ) → 4 ≤ length G → Q G
front Q f [] h = absurd (omega arith)
front Q f (a ∷ []) h = absurd (omega arith)
front Q f (a ∷ b ∷ []) h = absurd (omega arith)
front Q f (a ∷ b ∷ c ∷ []) h = absurd (omega arith)
front Q f (a ∷ b ∷ c ∷ d ∷ G) h = f a b c d G

-- a group of which the four numbers and the others are these
pub record Headed (a b c d : ℕ) (P F : List ℕ) : Type 0 where
  pub first : get_or F 0 0 ≡ a
  pub second : get_or F 1 0 ≡ b
  pub third : get_or F 2 0 ≡ c
  pub fourth : get_or F 3 0 ≡ d
  pub others : drop 4 F ≡ P

pub headed : (G : List ℕ) (a b c d : ℕ) → 4 ≤ length G → Headed a b c d (drop 4 G) (set (set (set (set G 0 a) 1 b) 2 c) 3 d)
headed G a b c d h = front (λ G. Headed a b c d (drop 4 G) (set (set (set (set G 0 a) 1 b) 2 c) 3 d)) (λ p q r s G. record { first = refl; second = refl; third = refl; fourth = refl; others = refl }) G h

-- the numbers behind four put back
pub put-behind : (G P : List ℕ) → 4 ≤ length G → length P ≡ length G - 4 → drop 4 (put_mid 4 (length G - 4) G P) ≡ P
put-behind G P h l = front (λ G. length P ≡ length G - 4 → drop 4 (put_mid 4 (length G - 4) G P) ≡ P) (λ a b c d G l. rw (drop_of_length-le G {i = length (a ∷ b ∷ c ∷ d ∷ G) - 4} (omega arith)) (append-nil P)) G h l

pub put-behind-long : (G P : List ℕ) → 4 ≤ length G → length P ≡ length G - 4 → length (put_mid 4 (length G - 4) G P) ≡ length G
put-behind-long G P h l =
    front (λ G. length P ≡ length G - 4 → length (put_mid 4 (length G - 4) G P) ≡ length G)
    (λ a b c d G l. rw (drop_of_length-le G {i = length (a ∷ b ∷ c ∷ d ∷ G) - 4} (omega arith)) (rw (length-append P []) (omega arith))) G h l

-- and reach and lead
pub topped : (G P : List ℕ) (a c d : ℕ) → 4 ≤ length G → length P ≡ length G - 4 → Headed a (get_or G 1 0) c d P (set (set (set (put_mid 4 (length G - 4) G P) 0 a) 2 c) 3 d)
topped G P a c d h l =
    front (λ G. (drop 4 (put_mid 4 (length G - 4) G P) ≡ P) → Headed a (get_or G 1 0) c d P (set (set (set (put_mid 4 (length G - 4) G P) 0 a) 2 c) 3 d))
    (λ p q r s G e. record { first = refl; second = refl; third = refl; fourth = refl; others = e }) G h (put-behind G P h l)
