-- The order in which blocks are taken, place by place, and a block word by word.
use Rattle.lists.proofs.Prelude.{true, false, List, [], ◌∷◌, ◌≡◌, refl, ap, ◌∙◌, ℕ, zero, suc, ◌+◌, ◌-◌, ◌<◌, ◌≤◌, arith, add-one, eqb, length, get_or, take, drop, length-append, length-drop, List·getD-append, drop_of_length-le, drop-cons, get_or-take, get_or-drop, get_or-append-add, length-take-le, keep, every, up_to, length-rising, get_or-rising, keep-here, keep-past, eqb_swap}
use Rattle.std.specs.List.{range_with_len}
use Rattle.card.specs.Blocks.{is_free, after_taken}

-- every block of the card is tried
pub length-after : (n taken : ℕ) → taken < n → length (after_taken n taken) ≡ n
length-after n taken h =
    let a = length-drop (suc taken) (up_to n) in
    let b = length-take-le (suc taken) (up_to n) (omega (arith, length-rising 0 n)) in
    length-append (drop (suc taken) (up_to n)) (take (suc taken) (up_to n)) ∙ (omega (arith, length-rising 0 n))

-- the block in place i: first upward
pub after-up : (n taken i : ℕ) → taken + 1 + i < n → get_or (after_taken n taken) i 0 ≡ taken + 1 + i
after-up n taken i h =
    let l : i < length (drop (suc taken) (up_to n)) = omega (arith, length-drop (suc taken) (up_to n), length-rising 0 n) in
    List·getD-append (drop (suc taken) (up_to n)) (take (suc taken) (up_to n)) 0 i l
    ∙ get_or-drop (suc taken) (up_to n) i 0
    ∙ get_or-rising 0 n (suc taken + i) (omega arith)
    ∙ (omega arith)

-- then from 0 on
pub after-round : (n taken i : ℕ) → taken < n → i < n → n ≤ taken + 1 + i → get_or (after_taken n taken) i 0 ≡ taken + 1 + i - n
after-round n taken i t l h =
    let e : i ≡ length (drop (suc taken) (up_to n)) + (taken + 1 + i - n) = omega (arith, length-drop (suc taken) (up_to n), length-rising 0 n) in
    ap (λ (k : ℕ). get_or (after_taken n taken) k 0) e
    ∙ get_or-append-add (drop (suc taken) (up_to n)) (take (suc taken) (up_to n)) (taken + 1 + i - n) 0
    ∙ get_or-take (suc taken) (up_to n) (taken + 1 + i - n) 0 (omega arith)
    ∙ get_or-rising 0 n (taken + 1 + i - n) (omega arith)
    ∙ (omega arith)

-- a test of the words at places that count up is one of that part of the words
every-range : (W : List ℕ) (o a k n : ℕ) → o + k + n ≤ length W → every (λ i. eqb (get_or W (o + i) 0) a) (range_with_len k n) ≡ every (eqb a) (take n (drop (o + k) W))
every-range W o a k zero h = refl
every-range W o a k (suc n) h =
    let e : o + (k + 1) ≡ suc (o + k) = omega arith in
    let l : o + k < length W = omega arith in
    let rest = rw e at (every-range W o a (k + 1) n (omega arith)) in
    rw (drop-cons W (o + k) 0 l, eqb_swap (get_or W (o + k) 0) a, rest)

-- from the first place on
pub every-places : (W : List ℕ) (o a n : ℕ) → o + n ≤ length W → every (λ i. eqb (get_or W (o + i) 0) a) (range_with_len 0 n) ≡ every (eqb a) (take n (drop o W))
every-places W o a n h = let e : o + 0 ≡ o = omega arith in rw e at (every-range W o a 0 n (omega arith))

-- the free blocks in the order of taking from place i on
module _ (W : List ℕ) (n taken i : ℕ) (t : taken < n) where
  -- past the last place
  pub free-none : n ≤ i → keep (is_free W) (drop i (after_taken n taken)) ≡ []
  free-none h = let k : length (after_taken n taken) ≤ i = omega (arith, length-after n taken t) in rw (drop_of_length-le (after_taken n taken) k)

  module _ (b : ℕ) (h : i < n) (e : b ≡ get_or (after_taken n taken) i 0) where
    within : i < length (after_taken n taken)
    within = omega (arith, length-after n taken t)

    -- block b is in place i, and is free
    pub free-here : is_free W b ≡ true → keep (is_free W) (drop i (after_taken n taken)) ≡ b ∷ keep (is_free W) (drop (i + 1) (after_taken n taken))
    free-here f = rw (e, add-one i) (keep-here (is_free W) (after_taken n taken) i within (rw e at f))

    -- it is not free
    pub free-not-here : is_free W b ≡ false → keep (is_free W) (drop i (after_taken n taken)) ≡ keep (is_free W) (drop (i + 1) (after_taken n taken))
    free-not-here f = rw (add-one i) (keep-past (is_free W) (after_taken n taken) i within (rw e at f))
