-- Marks bit by bit: setting one bit of one word marks one block more.
use Rattle.lists.proofs.Prelude.{false, ◌&&◌, ◌||◌, List, ◌++◌, ◌≡◌, refl, sym, ap, ap₂, ◌∙◌, ℕ, zero, suc, ◌+◌, ◌-◌, ◌*◌, ◌/◌, ◌%◌, ◌^◌, ◌<◌, ◌≤◌, arith, eqb, ltb, lit≤, length, get_or, set, replicate, get_or-set_same, get_or-set_other, eqb-true, eqb-false, eq-eqb, ne_eqb, ltb-true, ltb-false, elem, different, by-test, apart-append, apart_none, get_or-same, div-add-mod'}
use lib.Bits.{bit_or, or_shr, or_mod, or_zero_r, shifted_even}
use lib.Pow.{pow-add, pow-lt, shl-shr, shl_exact, shr_lt, shr_le}
use Rattle.card.specs.declared.Marks.{Marks}
use Rattle.card.specs.Marks.{bit_of, marked, unmarked}

-- bit j of 2 ^ s
power-same : (s : ℕ) → 2 ^ s / 2 ^ s % 2 ≡ 1
power-same s = let e : 1 * 2 ^ s ≡ 2 ^ s = omega arith in rw (rw e at (shl-shr 1 s))

power-other : (s j : ℕ) → (s ≡ j → ⊥) → 2 ^ s / 2 ^ j % 2 ≡ 0
power-other s j d =
    by-test (ltb s j)
    (λ y. let l : s < j = ltb-true s j y in
    let z : 0 + j ≡ j = omega arith in
    let h : 2 ^ s / 2 ^ j < 1 = shr_lt 0 j (rw z (pow-lt l)) in
    omega arith)
    (λ y. let l : j ≤ s = ltb-false s j y in
    let e : s ≡ suc (s - j - 1) + j = omega arith in
    let z : 1 * 2 ^ suc (s - j - 1) % 2 ≡ 0 = shifted_even 1 (s - j - 1) in
    let m : 1 * 2 ^ suc (s - j - 1) ≡ 2 ^ suc (s - j - 1) = omega arith in
    let p : 2 ^ s ≡ 2 ^ suc (s - j - 1) * 2 ^ j = ap (λ (n : ℕ). 2 ^ n) e ∙ pow-add 2 (suc (s - j - 1)) j in
    rw (p, shl-shr (2 ^ suc (s - j - 1)) j) (rw m at z))

or-one : (x : ℕ) → x < 2 → bit_or x 1 ≡ 1
or-one zero h = refl
or-one (suc zero) h = refl
or-one (suc (suc x)) h = absurd (omega arith)

-- bit j of a word in which bit s was set
bit-set : (w s j : ℕ) → eqb (bit_or w (2 ^ s) / 2 ^ j % 2) 1 ≡ (eqb s j || eqb (w / 2 ^ j % 2) 1)
bit-set w s j =
    let e : bit_or w (2 ^ s) / 2 ^ j % 2 ≡ bit_or (w / 2 ^ j % 2) (2 ^ s / 2 ^ j % 2) = rw (or_shr w (2 ^ s) j) (or_mod (w / 2 ^ j) (2 ^ s / 2 ^ j) 1) in
    by-test (eqb s j)
    (λ y. let q : s ≡ j = eqb-true s j y in
    let o : 2 ^ s / 2 ^ j % 2 ≡ 1 = rw q (power-same j) in
    rw (y, e, o, or-one (w / 2 ^ j % 2) (omega arith)))
    (λ y. let o : 2 ^ s / 2 ^ j % 2 ≡ 0 = power-other s j (eqb-false s j y) in
    rw (y, e, o, or_zero_r (w / 2 ^ j % 2)))

-- bit b set in numbers of d bits each
pub bits-set : (d : ℕ) (l : List ℕ) (b k : ℕ) → b / d < length l
    → bit_of d (set l (b / d) (bit_or (get_or l (b / d) 0) (2 ^ (b % d)))) k ≡ (eqb b k || bit_of d l k)
bits-set d l b k h =
    by-test (eqb (b / d) (k / d))
    (λ y. let q : b / d ≡ k / d = eqb-true _ _ y in
    let s : eqb (b % d) (k % d) ≡ eqb b k =
    by-test (eqb b k) (λ t. let u = eqb-true b k t in rw t (eq-eqb (b % d) (k % d) (ap (λ (x : ℕ). x % d) u)))
    (λ t. let u : b ≡ k → ⊥ = eqb-false b k t in rw t (ne_eqb (b % d) (k % d) (λ v. u (sym (div-add-mod' b d) ∙ ap₂ (λ (x y : ℕ). x * d + y) q v ∙ div-add-mod' k d)))) in
    let g : k / d < length l = rw q at h in
    rw (q, get_or-set_same l (k / d) (bit_or (get_or l (k / d) 0) (2 ^ (b % d))) 0 g, bit-set (get_or l (k / d) 0) (b % d) (k % d), s))
    (λ y. let q : b / d ≡ k / d → ⊥ = eqb-false _ _ y in
    rw (get_or-set_other l (b / d) (k / d) (bit_or (get_or l (b / d) 0) (2 ^ (b % d))) 0 (λ e. q (sym e)), ne_eqb b k (λ e. q (ap (λ (x : ℕ). x / d) e))))

-- a zero has no bit
pub bit-none : (j : ℕ) → eqb (0 / 2 ^ j % 2) 1 ≡ false
bit-none j = let z : 0 / 2 ^ j ≡ 0 = omega (arith, shr_le 0 j) in rw z

-- no bit is set in words of zero
pub bits_none : (d n k : ℕ) → bit_of d (replicate n 0) k ≡ false
bits_none d n k = rw (get_or-same {A = ℕ} n (k / d) 0) (bit-none (k % d))

-- a one shifted up in a number of d bits
pub one_at : (s d : ℕ) → s < d → 1 * 2 ^ s % 2 ^ d ≡ 2 ^ s
one_at s d h = let e : 1 * 2 ^ s ≡ 2 ^ s = omega arith in shl_exact 1 s d (lit≤ tt) (omega arith) ∙ e

-- marks handed on from list to list: r has the marks of m and those of l, after which k comes
pub unmarked-append : (m r : Marks) (l k : List ℕ) → ((b : ℕ) → marked r b ≡ (marked m b || elem b l)) → unmarked m (l ++ k) ≡ (unmarked m l && unmarked r k)
unmarked-append m r l k more = apart-append (marked m) (marked r) l k more

-- a list that is not unmarked, and a list after it
pub unmarked-stop : (m : Marks) (l k : List ℕ) → unmarked m l ≡ false → unmarked m (l ++ k) ≡ false
unmarked-stop m l k e = apart-append (marked m) (λ b. marked m b || elem b l) l k (λ b. refl) ∙ rw e

-- without marks a list is unmarked where its numbers are different
pub unmarked-first : (m : Marks) (l : List ℕ) → ((b : ℕ) → marked m b ≡ false) → unmarked m l ≡ different l
unmarked-first m l h = apart_none (marked m) l h
