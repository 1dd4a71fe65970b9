-- The fewest digits of a number are its text in decimal.
use Rattle.lists.proofs.Prelude.{◌≡◌, ℕ, zero, suc, ◌+◌, ◌-◌, ◌*◌, ◌/◌, ◌%◌, ◌^◌, ◌≤◌, ◌<◌, pow-suc, pow-le-pow_right, arith, leb, lt-ltb, le-ltb, leb-true, leb-false, by-test}
use Rattle.io.specs.Digits.{last_digits, hex_digit_ascii, IsDigitCount}
use Rattle.texts.specs.Texts.{decimal_in, decimal}

-- a digit below 10
small-glyph : (d : ℕ) → d < 10 → hex_digit_ascii d ≡ 48 + d
small-glyph d h = rw (lt-ltb d 10 h)

-- turns enough
pub digits_decimal : (k n turns : ℕ) → n ≤ turns → n < 10 ^ suc k → (1 < suc k → 10 ^ k ≤ n) → last_digits 10 (suc k) n ≡ decimal_in turns n
unfolding decimal_in
digits_decimal zero n zero h a b =
    let z : n ≡ 0 = omega arith in
    rw z
digits_decimal zero n (suc turns) h a b =
    let z : n % 10 ≡ n = omega arith in
    rw (z, small-glyph n (omega arith), lt-ltb n 10 (omega arith))
digits_decimal (suc k) n zero h a b =
    let o : 0 ≤ suc k = omega arith in
    let p : 10 ^ 0 ≤ 10 ^ suc k = pow-le-pow_right (omega arith) o in
    let z : ◌≡◌ {A = ℕ} 0 1 = omega (arith, b (omega arith)) in
    cc
digits_decimal (suc k) n (suc turns) h a b =
    let o : 1 ≤ suc k = omega arith in
    let p : 10 ^ 1 ≤ 10 ^ suc k = pow-le-pow_right (omega arith) o in
    let q : 10 ^ suc (suc k) ≡ 10 ^ suc k * 10 = pow-suc 10 (suc k) in
    let r : 10 ^ suc k ≡ 10 ^ k * 10 = pow-suc 10 k in
    let m : 10 ^ suc k ≤ n = b (omega arith) in
    let e : last_digits 10 (suc k) (n / 10) ≡ decimal_in turns (n / 10) = digits_decimal k (n / 10) turns (omega arith) (omega arith) (λ w. omega arith) in
    rw (e, small-glyph (n % 10) (omega arith), le-ltb n 10 (omega arith))

pub fewest-decimal : (k n : ℕ) → IsDigitCount 10 1 n k → last_digits 10 k n ≡ decimal n
unfolding decimal
fewest-decimal zero n f = let z : ◌≡◌ {A = ℕ} 0 1 = omega (arith, f.0) in cc
fewest-decimal (suc k) n f = digits_decimal k n n (omega arith) f.1 (λ h. lower h)
  where
    e : suc k - 1 ≡ k
    e = omega arith

    lower : 1 < suc k → 10 ^ k ≤ n
    lower h = rw e at (f.2 h)

-- a number of 32 bits has at most 10 digits
pub few-digits : (k n : ℕ) → IsDigitCount 10 1 n k → n < 4294967296 → k ≤ 10
few-digits k n f h = by-test (leb k 10) (λ a. leb-true k 10 a) (λ a. more (leb-false k 10 a))
  where
    more : 10 < k → k ≤ 10
    more a =
        let o : 10 ≤ k - 1 = omega arith in
        let p : 10 ^ 10 ≤ 10 ^ (k - 1) = pow-le-pow_right (omega arith) o in
        omega (arith, f.2 (omega arith))
