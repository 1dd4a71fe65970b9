-- Cases by a test, and what a conjunction or a disjunction tells of its parts.
use mathlib.Core.Bool.{Bool, true, false, ◌&&◌, ◌||◌, not, cond, and_assoc, and_comm, or-false}
use mathlib.Core.Path.{◌≡◌, refl, sym, ap, ◌∙◌}

-- both cases of a test, each with what the test says
pub by-test : {A : Type 0} → (t : Bool) → (t ≡ true → A) → (t ≡ false → A) → A
by-test true f g = f refl
by-test false f g = g refl

pub and_left : (a b : Bool) → (a && b) ≡ true → a ≡ true
and_left true b e = refl
and_left false b e = e

pub and_right : (a b : Bool) → (a && b) ≡ true → b ≡ true
and_right true b e = e
and_right false b e = cc

pub and_both : (a b : Bool) → a ≡ true → b ≡ true → (a && b) ≡ true
and_both true b p q = q
and_both false b p q = p

pub or_right : (a b : Bool) → b ≡ true → (a || b) ≡ true
or_right true b e = refl
or_right false b e = e

pub or-none : (a b : Bool) → (a || b) ≡ false → (a ≡ false) × (b ≡ false)
or-none true b e = (cc, cc)
or-none false b e = (refl, e)

pub and-swap : (a b c d : Bool) → ((a && b) && (c && d)) ≡ ((a && c) && (b && d))
and-swap true true c d = refl
and-swap true false true d = refl
and-swap true false false d = refl
and-swap false b c d = refl

pub or_swap : (a b c : Bool) → (a || (b || c)) ≡ (b || (a || c))
or_swap true true c = refl
or_swap true false c = refl
or_swap false b c = refl

-- a conjunct moves past another
pub and-past : (a b c : Bool) → (a && (b && c)) ≡ (b && (a && c))
and-past true b c = refl
and-past false true c = refl
and-past false false c = refl

-- and past two
pub and-past-two : (a b c d : Bool) → (a && (b && (c && d))) ≡ ((b && c) && (a && d))
and-past-two a b c d = ap (λ (t : Bool). a && t) (sym (and_assoc b c d)) ∙ and-past a (b && c) d

-- four conjuncts in another order
pub and-turned : (a b c d : Bool) → ((a && (b && c)) && d) ≡ (b && (a && (d && c)))
and-turned true true c d = and_comm c d
and-turned true false c d = refl
and-turned false true c d = refl
and-turned false false c d = refl

-- one of two by a test
pub choose : (a b c : Bool) → ((a && b) || (not a && c)) ≡ cond a b c
choose true b c = or-false b
choose false b c = refl

-- one of two that are the same
pub cond_same : {A : Type 0} (t : Bool) (x : A) → cond t x x ≡ x
cond_same true x = refl
cond_same false x = refl
