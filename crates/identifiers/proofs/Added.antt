-- A register with an identifier added: its identifiers, its rule and its bytes; and a register of zeros.
use Rattle.lists.proofs.Prelude.{true, false, not, List, [], ◌∷◌, ◌++◌, map, map-append, ◌≡◌, refl, ap, ◌∙◌, ℕ, zero, suc, ◌+◌, ◌-◌, ◌*◌, ◌/◌, ◌<◌, ◌≤◌, arith, not-true, le-leb, ltb-false, lt-ltb, le-ltb, eqb-true, eqb, leb, length, get_or, take, drop, set, replicate, length-drop, sets, length-sets, sets-eq, take_at, drop_at, drop-drop, keep, every, by-test, and_left, and_right, and_both, every-at, every_drop, every_take, every-replicate, every_set, take-sets-le, drop-sets-add, take-over, drop-over}
use Rattle.identifiers.specs.Names.{Name, bad_length, among, distinct}
use Rattle.identifiers.specs.Register.{entries_of, entries, size, used, name_of, entry_rule, used_first, names, register_rule, added}
use Rattle.identifiers.specs.Formed.{formed_from, formed}
use Rattle.identifiers.proofs.Names.{distinct_snoc}
use Rattle.identifiers.proofs.Entries.{length-entries, rule-parts, rule-formed, rule-distinct, formed-first, formed-rules, unused-none, count-names}

-- an identifier of a good length has 1 to 64 bytes
pub good_length : (n : Name) → bad_length n ≡ false → (0 < length n) × (length n ≤ 64)
unfolding bad_length
good_length [] b = let z : ◌≡◌ {A = ℕ} 0 1 = cc in absurd (omega arith)
good_length (x ∷ n) b = (omega arith, ltb-false 64 (length (x ∷ n)) b)

-- One entry written -------------------------------------------------------------------------------------------------

-- stores within one entry change that entry alone
entries-stored : (m k : ℕ) (r vs : List ℕ) → k < m → 65 * m ≤ length r → length vs ≤ 65
    → entries_of m (sets r (65 * k) vs) ≡ set (entries_of m r) k (vs ++ drop (length vs) (get_or (entries_of m r) k []))
entries-stored zero k r vs h room short = absurd (omega arith)
entries-stored (suc m) zero r vs h room short =
    let e : 0 + length vs ≡ length vs = omega arith in
    rw (sets-eq vs r 0 (omega arith), e, take-over 65 vs r short (omega arith), drop-over 65 vs r short (omega arith))
entries-stored (suc m) (suc k) r vs h room short =
    let e : 65 * suc k ≡ 65 + 65 * k = omega arith in
    let s : length (drop 65 r) ≡ length r - 65 = length-drop 65 r in
    rw (e, take-sets-le 65 r (65 + 65 * k) vs (omega arith), drop-sets-add 65 r (65 * k) vs)
    (ap (λ (l : List (List ℕ)). take 65 r ∷ l) (entries-stored m k (drop 65 r) vs (omega arith) (omega arith) short))

-- The first unused entry --------------------------------------------------------------------------------------------

-- where all are unused, used ones come first
unused-first : (es : List (List ℕ)) → every (λ f. not (used f)) es ≡ true → used_first es ≡ true
unused-first [] g = refl
unused-first (e ∷ es) g = rw (not-true (used e) (and_left (not (used e)) _ g)) (and_right (not (used e)) _ g)

module _ (x : List ℕ) (y : used x ≡ true) where
  -- a used entry in place of the first unused one is one more
  keep-put : (es : List (List ℕ)) → used_first es ≡ true → length (keep used es) < length es
      → keep used (set es (length (keep used es)) x) ≡ keep used es ++ (x ∷ [])
  keep-put [] f h = absurd (omega arith)
  keep-put (e ∷ es) f h =
      by-test
      (used e)
      (λ t. rw t (rw t (ap (λ (l : List (List ℕ)). e ∷ l) (keep-put es (rw t at f) (let k : suc (length (keep used es)) < suc (length es) = rw t at h in omega arith)))))
      (λ t. rw (t, unused-none es (rw t at f)) (rw (y, unused-none es (rw t at f))))

  first-put : (es : List (List ℕ)) → used_first es ≡ true → length (keep used es) < length es
      → used_first (set es (length (keep used es)) x) ≡ true
  first-put [] f h = absurd (omega arith)
  first-put (e ∷ es) f h =
      by-test
      (used e)
      (λ t. rw t (rw t (first-put es (rw t at f) (let k : suc (length (keep used es)) < suc (length es) = rw t at h in omega arith))))
      (λ t. rw (t, unused-none es (rw t at f)) (rw y (unused-first es (rw t at f))))

-- the entry after the used ones is unused
next-unused : (es : List (List ℕ)) → used_first es ≡ true → length (keep used es) < length es → used (get_or es (length (keep used es)) []) ≡ false
next-unused [] f h = absurd (omega arith)
next-unused (e ∷ es) f h =
    by-test
    (used e)
    (λ t. rw t (next-unused es (rw t at f) (let k : suc (length (keep used es)) < suc (length es) = rw t at h in omega arith)))
    (λ t. rw (t, unused-none es (rw t at f)) t)

-- so, by its rule, it holds zeros after its length byte
unused-zero : (e : List ℕ) → entry_rule e ≡ true → used e ≡ false → (m : ℕ) → every (λ b. eqb b 0) (drop (suc m) e) ≡ true
unused-zero e rule u m =
    let s : size e ≡ 0 = omega (arith, ltb-false 0 (size e) u) in
    let z : every (λ b. eqb b 0) (drop 1 e) ≡ true = rw s at (and_right (leb (size e) 64) _ rule) in
    let q : 1 + m ≡ suc m = omega arith in
    rw (← q, ← drop-drop m 1 e) (every_drop (λ b. eqb b 0) m (drop 1 e) z)

-- An identifier added -----------------------------------------------------------------------------------------------

module _ (r : List ℕ) (n : Name) (rule : register_rule r ≡ true) (good : bad_length n ≡ false) (room : 65 * length (names r) + 65 ≤ length r) where
  abbrev first : List ℕ
  first = get_or (entries r) (length (keep used (entries r))) []

  abbrev entry : List ℕ
  entry = (length n ∷ n) ++ drop (suc (length n)) first

  inside : length (keep used (entries r)) < length (entries r)
  inside = omega (arith, count-names r, length-entries r)

  entry-used : used entry ≡ true
  entry-used = lt-ltb 0 (length n) (good_length n good).0

  entry-name : name_of entry ≡ n
  entry-name = take_at n (drop (suc (length n)) first) (length n) refl

  entry-keeps : entry_rule entry ≡ true
  entry-keeps =
      let e : 1 + length n ≡ suc (length n) = omega arith in
      let u : used first ≡ false = next-unused (entries r) (formed-first r (rule-formed r rule)) inside in
      let f : entry_rule first ≡ true = every-at entry_rule (entries r) [] (formed-rules r (rule-formed r rule)) _ inside in
      rw (le-leb (length n) 64 (good_length n good).1, e, drop_at n (drop (suc (length n)) first) (length n) refl)
      (unused-zero first f u (length n))

  -- the entries with the new one in its place
  entries-added : entries (added r n) ≡ set (entries r) (length (keep used (entries r))) entry
  unfolding added
  entries-added =
      rw (length-sets r (65 * length (names r)) (length n ∷ n), count-names r)
      (entries-stored (length r / 65) (length (keep used (entries r))) r (length n ∷ n) (omega (arith, inside, length-entries r)) (omega arith) (omega (arith, (good_length n good).1)))

  -- the identifier gets the next number, and the others keep theirs
  pub names-added : names (added r n) ≡ names r ++ (n ∷ [])
  unfolding names
  names-added =
      rw (entries-added, keep-put entry entry-used (entries r) (formed-first r (rule-formed r rule)) inside, map-append name_of (keep used (entries r)) (entry ∷ []), entry-name)

  -- the rule is kept by an identifier that is new
  pub rule-added : among n (names r) ≡ false → register_rule (added r n) ≡ true
  unfolding formed_from
  rule-added new =
      let f : formed (added r n) ≡ true =
      rw entries-added
      (and_both
      (every entry_rule (set (entries r) (length (keep used (entries r))) entry))
      _
      (every_set entry_rule (entries r) _ entry (formed-rules r (rule-formed r rule)) entry-keeps)
      (first-put entry entry-used (entries r) (formed-first r (rule-formed r rule)) inside)) in
      let d : distinct (names (added r n)) ≡ true =
      rw (names-added, distinct_snoc (names r) n, rule-distinct r rule, new) in
      rule-parts (added r n) ∙ and_both (formed (added r n)) _ f d

-- the register keeps its length
pub length-added : (r : List ℕ) (n : Name) → length (added r n) ≡ length r
unfolding added
length-added r n = length-sets r (65 * length (names r)) (length n ∷ n)

-- A register of zeros -----------------------------------------------------------------------------------------------

-- entries of zeros are unused
zero-unused : (m : ℕ) (r : List ℕ) → every (λ b. eqb b 0) r ≡ true → every (λ f. not (used f)) (entries_of m r) ≡ true
zero-unused zero r z = refl
zero-unused (suc m) r z =
    rw (unused-one r z) (zero-unused m (drop 65 r) (every_drop (λ b. eqb b 0) 65 r z))
  where
    unused-one : (l : List ℕ) → every (λ b. eqb b 0) l ≡ true → used (take 65 l) ≡ false
    unused-one [] g = refl
    unused-one (x ∷ l) g = le-ltb 0 x (omega (arith, eqb-true x 0 (and_left (eqb x 0) _ g)))

-- and keep their rule
zero-rules : (m : ℕ) (r : List ℕ) → every (λ b. eqb b 0) r ≡ true → every entry_rule (entries_of m r) ≡ true
zero-rules zero r z = refl
zero-rules (suc m) r z =
    and_both
    (entry_rule (take 65 r))
    _
    (rule-one (take 65 r) (every_take (λ b. eqb b 0) 65 r z))
    (zero-rules m (drop 65 r) (every_drop (λ b. eqb b 0) 65 r z))
  where
    rule-one : (l : List ℕ) → every (λ b. eqb b 0) l ≡ true → entry_rule l ≡ true
    rule-one [] g = refl
    rule-one (x ∷ l) g =
        rw (eqb-true x 0 (and_left (eqb x 0) _ g)) (and_right (eqb x 0) _ g)

-- a register of zeros has no identifier
pub names-zeros : (n : ℕ) → names (replicate n 0) ≡ []
unfolding names
names-zeros n = ap (map name_of) (unused-none (entries (replicate n 0)) (zero-unused (length (replicate n 0) / 65) (replicate n 0) (every-replicate (λ b. eqb b 0) n 0 refl)))

-- and keeps its rule
pub rule-zeros : (n : ℕ) → register_rule (replicate n 0) ≡ true
unfolding formed_from
rule-zeros n =
    let z : every (λ b. eqb b 0) (replicate n 0) ≡ true = every-replicate (λ b. eqb b 0) n 0 refl in
    let f : formed (replicate n 0) ≡ true =
    and_both
    (every entry_rule (entries (replicate n 0)))
    _
    (zero-rules (length (replicate n 0) / 65) (replicate n 0) z)
    (unused-first (entries (replicate n 0)) (zero-unused (length (replicate n 0) / 65) (replicate n 0) z)) in
    rule-parts (replicate n 0) ∙ and_both (formed (replicate n 0)) _ f (rw (names-zeros n))
