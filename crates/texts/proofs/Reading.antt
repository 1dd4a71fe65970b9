-- Digits read one after another.
use Rattle.lists.proofs.Prelude.{true, false, ◌&&◌, List, ◌∷◌, ◌≡◌, sym, ◌∙◌, ap, ℕ, ◌+◌, ◌-◌, ◌*◌, ◌^◌, ◌≤◌, ◌<◌, add-one, pow-succ', pow-le-pow_right, arith, leb, length, get_or, drop, leb-true, and_left, and_right, turn, end}
use Rattle.std.specs.Prelude.{None, Some}
use Rattle.texts.specs.Fields.{is_digit, digits_from, number_in}

-- the digits up to i are read, and n is their value
pub record Reading (f : List ℕ) (n i : ℕ) : Type 0 where
  pub within : i ≤ length f
  pub short : length f ≤ 5
  pub small : n < 10 ^ i
  pub rest : number_in f ≡ digits_from n (drop i f)

pub none-long : (f : List ℕ) → (leb 1 (length f) && leb (length f) 5) ≡ false → None ≡ number_in f
unfolding number_in
none-long f e = rw e

pub start-reading : (f : List ℕ) → (leb 1 (length f) && leb (length f) 5) ≡ true → Reading f 0 0
unfolding number_in
start-reading f e = record { within = omega arith; short = leb-true (length f) 5 (and_right (leb 1 (length f)) _ e); small = omega arith; rest = rw e }

-- a digit's value
pub digit-range : (b : ℕ) → is_digit b ≡ true → (48 ≤ b) × (b ≤ 57)
digit-range b e = (leb-true 48 b (and_left (leb 48 b) _ e), leb-true b 57 (and_right (leb 48 b) _ e))

module _ {f : List ℕ} {n i : ℕ} (s : Reading f n i) where
  -- a number that may get another digit is below 10,000
  pub room : i < length f → n < 10000
  room h =
      let i4 : i ≤ 4 = omega (arith, s.short) in
      let p : 10 ^ i ≤ 10 ^ 4 = pow-le-pow_right (omega arith) i4 in
      omega (arith, s.small)

  module _ (b : ℕ) (h : i < length f) (e : b ≡ get_or f i 0) where
    at_byte : number_in f ≡ digits_from n (b ∷ drop (i + 1) f)
    at_byte = rw e (turn (digits_from n) f i 0 h s.rest)

    pub no_digit : is_digit b ≡ false → None ≡ number_in f
    unfolding digits_from
    no_digit k = sym (at_byte ∙ rw k)

    pub on-digit : is_digit b ≡ true → Reading f (n * 10 + (b - 48)) (i + 1)
    unfolding digits_from
    on-digit k =
        let p : 10 ^ (i + 1) ≡ 10 * 10 ^ i = ap (λ (k : ℕ). 10 ^ k) (add-one i) ∙ pow-succ' 10 i in
        let d = digit-range b k in
        record { within = omega arith; short = s.short; small = omega (arith, p, s.small, d.1); rest = at_byte ∙ rw k }

  pub all_read : length f ≤ i → Some n ≡ number_in f
  unfolding digits_from
  all_read h = sym (end (digits_from n) f i h s.rest)
