-- Laws of the hash and of chains of places with equal hashes. Of the hash they need only that it is a function of the identifier.
use Rattle.lists.proofs.Prelude.{false, List, [], ◌∷◌, ◌≡◌, refl, sym, ap, ◌∙◌, ℕ, zero, suc, ◌+◌, ◌*◌, ◌%◌, ◌<◌, ◌≤◌, arith, eqb-true, eqb-false, eq-eqb, ne_eqb, eqb, length, get_or, take, drop, set, replicate, get_or-replicate, drop-cons, get_or-set_same, get_or-set_other, same, by-test, same_true}
use Rattle.identifiers.specs.Names.{Name, among}
use Rattle.registers.specs.Chains.{hash_from, hash_of, last_with, Heads, Links}
use Rattle.identifiers.proofs.Names.{among-upto}

-- The hash ----------------------------------------------------------------------------------------------------------

-- one byte more
pub hash-step : (h : ℕ) (n : List ℕ) (i : ℕ) → i < length n → hash_from h (drop i n) ≡ hash_from ((31 * h + get_or n i 0) % 1024) (drop (suc i) n)
unfolding hash_from
hash-step h n i k = rw (drop-cons n i 0 k)

-- a hash is a place of the array of heads
pub hash-below : (n : Name) → hash_of n < 1024
unfolding hash_from hash_of
hash-below n = from (length n % 1024) n (omega arith)
  where
    from : (h : ℕ) (l : List ℕ) → h < 1024 → hash_from h l < 1024
    from h [] k = k
    from h (b ∷ l) k = from ((31 * h + b) % 1024) l (omega arith)

-- The last place with a hash ----------------------------------------------------------------------------------------

module _ (ms : List Name) (h : ℕ) where
  -- at place i itself, by whether it has the hash
  pub last-is : (i : ℕ) → hash_of (get_or ms i []) ≡ h → last_with ms h (suc i) ≡ suc i
  unfolding last_with
  last-is i e = rw (eq-eqb (hash_of (get_or ms i [])) h e)

  -- or else an earlier one
  pub last-not : (i : ℕ) → (hash_of (get_or ms i []) ≡ h → ⊥) → last_with ms h (suc i) ≡ last_with ms h i
  unfolding last_with
  last-not i e = rw (ne_eqb (hash_of (get_or ms i [])) h e)

  -- it is no later than i
  pub last_within : (i : ℕ) → last_with ms h i ≤ i
  unfolding last_with
  last_within zero = omega arith
  last_within (suc i) =
      let k = last_within i in
      by-test (eqb (hash_of (get_or ms i [])) h) (λ e. rw e (omega arith)) (λ e. rw e (omega arith))

  -- it has the hash
  pub last-hash : (i p : ℕ) → last_with ms h i ≡ suc p → hash_of (get_or ms p []) ≡ h
  unfolding last_with
  last-hash zero p e = absurd (omega arith)
  last-hash (suc i) p e =
      by-test
      (eqb (hash_of (get_or ms i [])) h)
      (λ t. let q : i ≡ p = (let r : suc i ≡ suc p = rw t at e in omega arith) in rw (← q) (eqb-true (hash_of (get_or ms i [])) h t))
      (λ t. last-hash i p (rw t at e))

-- an identifier among those before i is among those up to the last one with its hash
pub last-among : (ms : List Name) (n : Name) (i : ℕ) → i ≤ length ms → among n (take i ms) ≡ among n (take (last_with ms (hash_of n) i) ms)
unfolding last_with
last-among ms n zero k = refl
last-among ms n (suc i) k =
    by-test
    (eqb (hash_of (get_or ms i [])) (hash_of n))
    (λ t. rw t)
    (λ t.
    let d : same (get_or ms i []) n ≡ false = by-test (same (get_or ms i []) n) (λ e. absurd (eqb-false _ _ t (ap hash_of (same_true (get_or ms i []) n e)))) (λ e. e) in
    among-upto ms i (omega arith) n ∙ rw (d, t) (last-among ms n i (omega arith)))

-- a chain goes back from place to place
pub link-below : (ms : List Name) (i : ℕ) (links : List ℕ) → Links ms i links → (p : ℕ) → p < i → get_or links p 0 ≤ p
link-below ms i links g p k = rw (g p k) (last_within ms (hash_of (get_or ms p [])) p)

-- No place yet, and one more ----------------------------------------------------------------------------------------------------

-- no chain has begun
pub heads-none : (ms : List Name) → Heads ms 0 (replicate 1024 0)
unfolding last_with
heads-none ms h k = get_or-replicate 1024 h 0 0 k

module _ (ms : List Name) (i : ℕ) where
  -- the chain of place i begins there
  pub heads-on : (heads : List ℕ) → length heads ≡ 1024 → Heads ms i heads → Heads ms (suc i) (set heads (hash_of (get_or ms i [])) (suc i))
  heads-on heads l g h k =
      by-test
      (eqb (hash_of (get_or ms i [])) h)
      (λ t.
      let q : hash_of (get_or ms i []) ≡ h = eqb-true _ _ t in
      rw q (get_or-set_same heads h (suc i) 0 (omega arith)) ∙ sym (last-is ms h i q))
      (λ t.
      let q : hash_of (get_or ms i []) ≡ h → ⊥ = eqb-false _ _ t in
      get_or-set_other heads (hash_of (get_or ms i [])) h (suc i) 0 (λ e. q (sym e)) ∙ g h k ∙ sym (last-not ms h i q))

  -- and goes on where it began before
  pub links-on : (links : List ℕ) → i < length links → Links ms i links → Links ms (suc i) (set links i (last_with ms (hash_of (get_or ms i [])) i))
  links-on links l g p k =
      by-test
      (eqb i p)
      (λ t. let q : i ≡ p = eqb-true i p t in rw q (get_or-set_same links p _ 0 (omega arith)))
      (λ t.
      let q : i ≡ p → ⊥ = eqb-false i p t in
      get_or-set_other links i p _ 0 (λ e. q (sym e)) ∙ g p (omega (arith, q)))
