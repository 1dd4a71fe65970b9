-- A count and a window that were packed are read back, and so is a word that holds a posting.
use Rattle.lists.proofs.Prelude.{true, false, not, ◌≡◌, refl, ℕ, zero, suc, ◌+◌, ◌*◌, ◌/◌, ◌%◌, ◌<◌, ◌≤◌, arith, eqb, ℤ, pos, negsuc, nat_abs, eqb-false, not-true, and_left, and_right}
use Rattle.postings.specs.Merge.{is_zero}
use Rattle.postings.specs.Pack.{half, packed, signed, count_of, word_count, word_window, is_posting}

-- a half has 16 bits
pub half_lt : (c : ℤ) → nat_abs c ≤ 32767 → half c < 65536
half_lt (pos n) h = omega arith
half_lt (negsuc n) h = omega arith

half_back : (c : ℤ) → nat_abs c ≤ 32767 → count_of (half c) ≡ c
half_back (pos n) h =
    let d : n / 32768 ≡ 0 = omega arith in
    let m : n % 32768 ≡ n = omega arith in
    rw (d, m)
half_back (negsuc n) h =
    let d : (32768 + (n + 1)) / 32768 ≡ 1 = omega arith in
    let m : (32768 + (n + 1)) % 32768 ≡ suc n = omega arith in
    rw (d, m)

module _ (c : ℤ) (w : ℕ) (small : nat_abs c ≤ 32767) where
  -- the count is read back
  pub packed-count : word_count (packed c w) ≡ c
  packed-count =
      let b = half_lt c small in
      let m : packed c w % 65536 ≡ half c = omega arith in
      rw m (half_back c small)

  -- the window is read back
  pub packed-window : word_window (packed c w) ≡ w
  packed-window = let b = half_lt c small in omega arith

half-signed : (b n : ℕ) → b < 2 → 1 ≤ n → half (signed b n) ≡ b * 32768 + n
half-signed zero n l h = omega arith
half-signed (suc zero) zero l h = absurd (omega arith)
half-signed (suc zero) (suc n) l h = omega arith
half-signed (suc (suc b)) n l h = absurd (omega arith)

size-signed : (b n : ℕ) → nat_abs (signed b n) ≡ n
size-signed zero n = refl
size-signed (suc b) zero = refl
size-signed (suc b) (suc n) = refl

size-zero : (c : ℤ) → 1 ≤ nat_abs c → is_zero c ≡ false
size-zero (pos zero) h = absurd (omega arith)
size-zero (pos (suc n)) h = refl
size-zero (negsuc n) h = refl

module _ (x : ℕ) where
  module _ (holds : is_posting x ≡ true) where
    size : 1 ≤ x % 32768
    size =
        let e = eqb-false (x % 32768) 0 (not-true _ (and_right (not (eqb (x / 65536) 0)) _ holds)) in
        omega arith

    -- a posting's window is not 0
    pub posting-window : 1 ≤ word_window x
    posting-window = let e = eqb-false (x / 65536) 0 (not-true _ (and_left _ _ holds)) in omega arith

    -- a posting's count is not 0
    pub posting-count : is_zero (word_count x) ≡ false
    posting-count =
        let s = size in
        let n = size-signed (x % 65536 / 32768) (x % 65536 % 32768) in
        size-zero (word_count x) (omega arith)

    -- a word that holds a posting is the word of its count and its window
    pub word_back : packed (word_count x) (word_window x) ≡ x
    word_back =
        let s = size in
        let h = half-signed (x % 65536 / 32768) (x % 65536 % 32768) (omega arith) (omega arith) in
        omega arith
