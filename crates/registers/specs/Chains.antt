-- Chains of places whose identifiers have equal hashes, by which a repeated identifier is found without comparing all pairs.
use Rattle.std.specs.Prelude.{cond, List, [], ◌∷◌, ◌≡◌, ℕ, zero, suc, ◌+◌, ◌*◌, ◌%◌, ◌<◌, eqb, length, get_or}
use Rattle.identifiers.specs.Names.{Name}

-- the hash h, taken on over bytes
unfoldable pub hash_from : ℕ → List ℕ → ℕ
hash_from h [] = h
hash_from h (b ∷ bs) = hash_from ((31 * h + b) % 1024) bs

-- the hash of an identifier, from its length and its bytes; any function of the identifier below 1,024 would do
unfoldable pub hash_of : Name → ℕ
hash_of n = hash_from (length n % 1024) n

-- one more than the last place before i whose identifier has the hash h, and 0 where there is none
unfoldable pub last_with : List Name → ℕ → ℕ → ℕ
last_with ms h zero = zero
last_with ms h (suc i) = cond (eqb (hash_of (get_or ms i [])) h) (suc i) (last_with ms h i)

-- by hash: where the chain of the places before i begins
abbrev pub Heads : List Name → ℕ → List ℕ → Type 0
Heads ms i heads = (h : ℕ) → h < 1024 → get_or heads h 0 ≡ last_with ms h i

-- by place, of those before i: where its chain goes on
abbrev pub Links : List Name → ℕ → List ℕ → Type 0
Links ms i links = (p : ℕ) → p < i → get_or links p 0 ≡ last_with ms (hash_of (get_or ms p [])) p

-- what is known of the chain of place i
pub record Chained (ms : List Name) (i first : ℕ) (links : List ℕ) : Type 0 where
  pub there : i < length ms
  pub room : i < 1024
  pub linked : Links ms i links
  pub begins : first ≡ last_with ms (hash_of (get_or ms i [])) i
