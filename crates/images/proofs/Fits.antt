-- Which places hold numbers below 65,536, and the test of all of them.
use Rattle.lists.proofs.Prelude.{Bool, true, false, ◌&&◌, ◌||◌, List, ◌≡◌, ◌∙◌, ℕ, suc, ◌+◌, ◌-◌, ◌%◌, ◌<◌, ◌≤◌, arith, eqb, ltb, leb, length, get_or, ltb-true, leb-true, eqb-true, eqb-false, lt-ltb, le-ltb, le-leb, lt-leb, eq-eqb, ne_eqb, every, rising, up_to, by-test, and_left, and_right, every-up_to}
use Rattle.words.specs.Words.{words}
use Rattle.words.proofs.Views.{length-words}
use Rattle.images.specs.Images.{wide, fits, image_rule}

-- an image has 716 words
pub image-length : (b : List ℕ) → image_rule b ≡ true → length b ≡ 2864
unfolding image_rule
image-length b h = eqb-true (length b) 2864 (and_left (eqb (length b) 2864) _ h)

pub image-words : (b : List ℕ) → image_rule b ≡ true → length (words b) ≡ 716
image-words b h = omega (arith, length-words b, image-length b h)

-- each number of an image fits its place
pub image-fits : (b : List ℕ) → image_rule b ≡ true → (i : ℕ) → i < 716 → fits (words b) i ≡ true
unfolding image_rule
image-fits b h i l = every-up_to (fits (words b)) 716 (and_right (eqb (length b) 2864) _ h) i l

pub fits_below : (w : List ℕ) (i : ℕ) → fits w i ≡ true → wide i ≡ false → get_or w i 0 < 65536
fits_below w i f n = let g : ltb (get_or w i 0) 65536 ≡ true = rw n at f in ltb-true _ _ g

-- so a number of which no more than 16 bits are kept is below 65,536
pub image-below : (b : List ℕ) → image_rule b ≡ true → (i : ℕ) → i < 716 → wide i ≡ false → get_or (words b) i 0 < 65536
image-below b h i l n = fits_below (words b) i (image-fits b h i l) n

-- Places -----------------------------------------------------------------------------------------------------------

-- among the finished partitions each fifth number is
pub wide-among : (i : ℕ) → 457 ≤ i → i < 712 → wide i ≡ eqb ((i - 457) % 5) 2
wide-among i a b = rw (le-ltb i 2 (omega arith), lt-leb 714 i (omega arith), le-leb 457 i a, lt-ltb i 712 b)

-- before the finished partitions all but the two lengths are narrow
pub narrow-front : (i : ℕ) → 2 ≤ i → i < 457 → wide i ≡ false
narrow-front i a b = rw (le-ltb i 2 (omega arith), lt-leb 714 i (omega arith), lt-leb 457 i (omega arith))

-- of each partition's record all but the length
pub narrow-among : (i : ℕ) → 457 ≤ i → i < 712 → ((i - 457) % 5 ≡ 2 → ⊥) → wide i ≡ false
narrow-among i a b n = wide-among i a b ∙ ne_eqb ((i - 457) % 5) 2 n

-- that each fifth is, by the remainder of its own place
pub wide-fifths : (i : ℕ) → wide i ≡ (ltb i 2 || (leb 714 i || (leb 457 i && (ltb i 712 && eqb (i % 5) 4))))
wide-fifths i =
    by-test (leb 457 i)
    (λ y. let h = leb-true 457 i y in
    by-test (eqb (i % 5) 4)
    (λ t. let k = eqb-true (i % 5) 4 t in rw (y, t, eq-eqb ((i - 457) % 5) 2 (omega arith)))
    (λ f. let k = eqb-false (i % 5) 4 f in rw (y, f, ne_eqb ((i - 457) % 5) 2 (λ e. k (omega arith)))))
    (λ n. rw n)

-- The loop ---------------------------------------------------------------------------------------------------------

-- one place more is tested
pub fits-turn : (t : ℕ → Bool) (i : ℕ) → i < 716 → every t (rising i (716 - i)) ≡ (t i && every t (rising (i + 1) (716 - (i + 1))))
unfolding rising
fits-turn t i l =
    let e : 716 - i ≡ suc (716 - (i + 1)) = omega arith in
    let f : suc i ≡ i + 1 = omega arith in
    rw (e, f)

-- bytes of the right length are an image where all places fit
pub image-whole : (b : List ℕ) → length b ≡ 2864 → image_rule b ≡ every (fits (words b)) (up_to 716)
unfolding image_rule
image-whole b l = rw (eq-eqb (length b) 2864 l)

-- others are none
pub image-short : (b : List ℕ) → (length b ≡ 2864 → ⊥) → image_rule b ≡ false
unfolding image_rule
image-short b l = rw (ne_eqb (length b) 2864 l)
