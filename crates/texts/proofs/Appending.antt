-- Text written behind the first bytes of a buffer, piece by piece.
use Rattle.lists.proofs.Prelude.{List, [], ◌∷◌, ◌++◌, append_assoc, ◌≡◌, refl, ◌∙◌, ap, ℕ, ◌+◌, ◌≤◌, ◌<◌, add-one, arith, length, take, set, length-set, length-append, take-suc-set}
use Rattle.texts.specs.Texts.{Wrote, Says}

pub wrote-byte : (l : List ℕ) (n b : ℕ) → n < length l → Wrote l n (b ∷ []) (set l n b) (n + 1)
wrote-byte l n b h = record { text = rw add-one (take-suc-set l n b h); count = refl; long = length-set l n b }

-- two pieces one after the other
pub wrote_then : {o o' o'' t t' : List ℕ} {a m r : ℕ} → Wrote o a t o' m → Wrote o' m t' o'' r → Wrote o a (t ++ t') o'' r
wrote_then {o = o} {t = t} {t' = t'} {a = a} u v = record {
  text = v.text ∙ ap (λ (l : List ℕ). l ++ t') u.text ∙ append_assoc (take a o) t t';
  count = omega (arith, u.count, v.count, length-append t t');
  long = v.long ∙ u.long;
}

-- a piece that is another one by an equation
pub wrote_as : {o o' t t' : List ℕ} {a m : ℕ} → t ≡ t' → Wrote o a t o' m → Wrote o a t' o' m
wrote_as e u = rw e at u

-- a text from the beginning of a buffer
pub says_all : {o o' t : List ℕ} {m : ℕ} → Wrote o 0 t o' m → m ≤ length o → Says o' m t
says_all u h = record { same = u.text; fits = omega (arith, u.long) }
