-- Laws of sums of signed numbers that the kit's library lacks.
use mathlib.Core.Path.{◌≡◌, sym, ap, ◌∙◌}
use lib.IntN.{ℤ, neg_ℤ, ◌+ℤ◌, +ℤ_idl, +ℤ_invl, +ℤ_assoc, +ℤ_comm}

-- two summands change places
pub sum-swap : (a b c : ℤ) → a +ℤ (b +ℤ c) ≡ b +ℤ (a +ℤ c)
sum-swap a b c = sym (+ℤ_assoc a b c) ∙ ap (λ (z : ℤ). z +ℤ c) (+ℤ_comm a b) ∙ +ℤ_assoc b a c

-- an equal first summand can go
pub sum-cancel : (a b c : ℤ) → a +ℤ b ≡ a +ℤ c → b ≡ c
sum-cancel a b c e = sym (off b) ∙ ap (λ (z : ℤ). neg_ℤ a +ℤ z) e ∙ off c
  where
    off : (z : ℤ) → neg_ℤ a +ℤ (a +ℤ z) ≡ z
    off z = sym (+ℤ_assoc (neg_ℤ a) a z) ∙ ap (λ (y : ℤ). y +ℤ z) (+ℤ_invl a) ∙ +ℤ_idl z
