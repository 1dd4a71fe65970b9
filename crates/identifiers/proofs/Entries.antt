-- Laws of a register's entries: where each lies, and the identifiers of a formed register by their place.
use Rattle.lists.proofs.Prelude.{Bool, true, false, ◌&&◌, not, cond, and_assoc, List, [], ◌∷◌, ◌≡◌, refl, sym, ap, ◌∙◌, ℕ, zero, suc, ◌+◌, ◌*◌, ◌/◌, ◌<◌, ◌≤◌, arith, not-true, leb-true, ltb-true, ltb-false, eq-eqb, ne_eqb, eqb, leb, length, get_or, take, drop, length-drop, length-map, List·getD-map, drop-cons, drop-drop, get_or-take, get_or-drop, length-take-le, keep, every, by-test, and_left, and_right, every-at, length-keep}
use Rattle.identifiers.specs.Names.{distinct}
use Rattle.identifiers.specs.Register.{entries_of, entries, size, used, name_of, entry_rule, used_first, names, register_rule}
use Rattle.identifiers.specs.Formed.{formed_from, formed}

-- Where an entry lies -----------------------------------------------------------------------------------------------

-- as many entries as are asked for
pub length-entries_of : (n : ℕ) (r : List ℕ) → length (entries_of n r) ≡ n
length-entries_of zero r = refl
length-entries_of (suc n) r = ap suc (length-entries_of n (drop 65 r))

-- an entry for each 65 bytes
pub length-entries : (r : List ℕ) → length (entries r) ≡ length r / 65
length-entries r = length-entries_of (length r / 65) r

-- entry i begins at byte 65 * i
pub entry_of-at : (n : ℕ) (r : List ℕ) (i : ℕ) → i < n → get_or (entries_of n r) i [] ≡ take 65 (drop (65 * i) r)
entry_of-at zero r i h = absurd (omega arith)
entry_of-at (suc n) r zero h = refl
entry_of-at (suc n) r (suc i) h =
    let e : 65 * suc i ≡ 65 + 65 * i = omega arith in
    rw e (entry_of-at n (drop 65 r) i (omega arith) ∙ ap (take 65) (drop-drop (65 * i) 65 r))

module _ (r : List ℕ) (i : ℕ) (h : i < length (entries r)) where
  -- it lies within the register
  pub entry-room : 65 * i + 65 ≤ length r
  entry-room = omega (arith, length-entries r)

  -- which 65 bytes it is
  pub entry_at : get_or (entries r) i [] ≡ take 65 (drop (65 * i) r)
  entry_at = entry_of-at (length r / 65) r i (omega (arith, length-entries r))

  -- it is whole
  pub length-entry : length (get_or (entries r) i []) ≡ 65
  length-entry = rw entry_at (length-take-le 65 (drop (65 * i) r) (rw (length-drop (65 * i) r) (omega (arith, entry-room))))

  -- an entry's length byte in the register
  pub size-at : size (get_or (entries r) i []) ≡ get_or r (65 * i) 0
  size-at =
      let e : 65 * i + 0 ≡ 65 * i = omega arith in
      ap size entry_at ∙ get_or-take 65 (drop (65 * i) r) 0 0 (omega arith) ∙ get_or-drop (65 * i) r 0 0 ∙ rw e

-- A formed register -------------------------------------------------------------------------------------------------

-- the rule is that of a formed register whose identifiers differ
pub rule-parts : (r : List ℕ) → register_rule r ≡ (formed r && distinct (names r))
unfolding register_rule formed_from
rule-parts r = sym (and_assoc (every entry_rule (entries r)) (used_first (entries r)) (distinct (names r)))

-- what keeps the rule is formed
pub rule-formed : (r : List ℕ) → register_rule r ≡ true → formed r ≡ true
rule-formed r e = and_left (formed r) _ (sym (rule-parts r) ∙ e)

-- and its identifiers differ
pub rule-distinct : (r : List ℕ) → register_rule r ≡ true → distinct (names r) ≡ true
rule-distinct r e = and_right (formed r) _ (sym (rule-parts r) ∙ e)

-- one entry tells of itself, and whether the used ones have ended
pub formed-step : (ended : Bool) (e : List ℕ) (es : List (List ℕ))
    → formed_from ended (e ∷ es) ≡ ((entry_rule e && not (ended && used e)) && formed_from (not (used e)) es)
unfolding formed_from
formed-step ended e es = parts ended (used e) (entry_rule e) (every entry_rule es) (every (λ f. not (used f)) es) (used_first es)
  where
    parts : (ended u a b n f : Bool)
        → ((a && b) && cond ended (not u && n) (cond u f n)) ≡ ((a && not (ended && u)) && (b && cond (not u) n f))
    parts true true true true n f = refl
    parts true true true false n f = refl
    parts true true false b n f = refl
    parts true false true b n f = refl
    parts true false false b n f = refl
    parts false true true b n f = refl
    parts false true false b n f = refl
    parts false false true b n f = refl
    parts false false false b n f = refl

-- the entries from place i on
pub formed-at : (ended : Bool) (r : List ℕ) (i : ℕ) → i < length (entries r)
    → formed_from ended (drop i (entries r))
    ≡ ((entry_rule (get_or (entries r) i []) && not (ended && used (get_or (entries r) i []))) && formed_from (not (used (get_or (entries r) i []))) (drop (suc i) (entries r)))
formed-at ended r i h = rw (drop-cons (entries r) i [] h) (formed-step ended (get_or (entries r) i []) (drop (suc i) (entries r)))

-- no entries are left
pub formed-end : (ended : Bool) → formed_from ended [] ≡ true
unfolding formed_from
formed-end true = refl
formed-end false = refl

-- an entry is unused where its length byte is zero
pub unused-flag : (e : List ℕ) → eqb (size e) 0 ≡ not (used e)
unused-flag e =
    by-test
    (used e)
    (λ y. rw y (ne_eqb (size e) 0 (λ z. absurd (omega (arith, ltb-true 0 (size e) y)))))
    (λ n. rw n (eq-eqb (size e) 0 (omega (arith, ltb-false 0 (size e) n))))

-- where all are unused, none is kept
pub unused-none : (es : List (List ℕ)) → every (λ f. not (used f)) es ≡ true → keep used es ≡ []
unused-none [] e = refl
unused-none (x ∷ es) e =
    rw (not-true (used x) (and_left (not (used x)) _ e), unused-none es (and_right (not (used x)) _ e))

-- in a formed register the used entries are those in front
pub used-front : (es : List (List ℕ)) → used_first es ≡ true → keep used es ≡ take (length (keep used es)) es
used-front [] e = refl
used-front (x ∷ es) e =
    by-test
    (used x)
    (λ y. rw y (ap (λ (l : List (List ℕ)). x ∷ l) (used-front es (rw y at e))))
    (λ y. rw (y, unused-none es (rw y at e)))

module _ (es : List (List ℕ)) (i : ℕ) (h : i < length es) (f : used_first (drop i es) ≡ true) where
  -- an unused entry ends the used ones
  pub used-stopped : used (get_or es i []) ≡ false → keep used (drop i es) ≡ []
  used-stopped n =
      let g : used_first (get_or es i [] ∷ drop (suc i) es) ≡ true = rw (drop-cons es i [] h) at f in
      rw (drop-cons es i [] h) (rw n (unused-none (drop (suc i) es) (rw n at g)))

  -- a used one counts
  pub used-on : used (get_or es i []) ≡ true
      → (length (keep used (drop i es)) ≡ suc (length (keep used (drop (suc i) es)))) × (used_first (drop (suc i) es) ≡ true)
  used-on y =
      let g : used_first (get_or es i [] ∷ drop (suc i) es) ≡ true = rw (drop-cons es i [] h) at f in
      (rw (drop-cons es i [] h) (rw y), rw y at g)

-- a register has as many identifiers as used entries
pub count-names : (r : List ℕ) → length (names r) ≡ length (keep used (entries r))
unfolding names
count-names r = length-map (keep used (entries r)) name_of

module _ (r : List ℕ) (f : formed r ≡ true) where
  -- its used entries come first
  pub formed-first : used_first (entries r) ≡ true
  unfolding formed_from
  formed-first = and_right (every entry_rule (entries r)) _ f

  -- its entries keep their rule
  pub formed-rules : every entry_rule (entries r) ≡ true
  unfolding formed_from
  formed-rules = and_left (every entry_rule (entries r)) _ f

  -- each identifier has an entry
  pub names-within : length (names r) ≤ length (entries r)
  names-within = rw (count-names r) (length-keep used (entries r))

  -- a register of at most 1,024 entries has at most as many identifiers
  pub names-bound : length r ≤ 66560 → length (names r) ≤ 1024
  names-bound l = omega (arith, names-within, length-entries r)

  -- a number is a place of the register
  pub name-inside : (i : ℕ) → i < length (names r) → i < length (entries r)
  name-inside i h = omega (arith, names-within)

  -- the identifier with a number is that of the entry at that place
  pub name-entry : (i : ℕ) → i < length (names r) → get_or (names r) i [] ≡ name_of (get_or (entries r) i [])
  unfolding names
  name-entry i h =
      let k : i < length (keep used (entries r)) = rw (count-names r) at h in
      List·getD-map name_of (keep used (entries r)) i []
      ∙ ap (λ (l : List (List ℕ)). name_of (get_or l i [])) (used-front (entries r) formed-first)
      ∙ ap name_of (get_or-take (length (keep used (entries r))) (entries r) i [] k)

  -- a length byte is at most 64
  pub name-size : (i : ℕ) → i < length (entries r) → size (get_or (entries r) i []) ≤ 64
  name-size i h = leb-true _ _ (and_left (leb (size (get_or (entries r) i [])) 64) _ (every-at entry_rule (entries r) [] formed-rules i h))
