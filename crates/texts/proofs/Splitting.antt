-- How far a line is split: the fields put so far, and what is left.
use Rattle.lists.proofs.Prelude.{true, false, List, [], ◌∷◌, ◌++◌, map, map-append, append_assoc, ◌≡◌, refl, sym, ◌∙◌, ap, ℕ, suc, ◌+◌, ◌-◌, ◌*◌, ◌≤◌, ◌<◌, add-one, arith, sub_self, eqb, length, get_or, take, drop, set, length-set, length-drop, drop_of_length-le, drop-cons, take-suc, take-suc-set, get_or-drop, length-take-le, le-leb, lt-leb, any, empty, any_append, or_right}
use denote.Ref.{Bor}
use Rattle.texts.specs.Fields.{fields_from, fields, parts_of}

abbrev pub Part : Type 0
Part = Bor (List ℕ)

-- n fields stand in `parts`, each with a byte at least; the field at hand began at `start`, and the byte at i is the next
pub record Splitting (line : List ℕ) (size : ℕ) (parts : List Part) (n start i : ℕ) : Type 0 where
  pub within : i ≤ length line
  pub begun : start ≤ i
  pub twice : n * 2 ≤ start
  pub long : length parts ≡ size
  pub rest : fields line ≡ map (λ x. x.now) (take n parts) ++ fields_from (take (i - start) (drop start line)) (drop i line)
  pub full : any empty (map (λ x. x.now) (take n parts)) ≡ false

pub start-split : (line : List ℕ) (parts : List Part) → Splitting line (length parts) parts 0 0 0
start-split line parts =
    record { within = omega arith; begun = omega arith; twice = omega arith; long = refl; rest = refl; full = refl }

-- the field at hand with its next byte
longer : (l : List ℕ) (start i : ℕ) → start ≤ i → i < length l → take (i + 1 - start) (drop start l) ≡ take (i - start) (drop start l) ++ (get_or l i 0 ∷ [])
longer l start i b h =
    let e : i + 1 - start ≡ suc (i - start) = omega (arith, add-one (i - start)) in
    let w : start + (i - start) ≡ i = omega arith in
    let k : i - start < length (drop start l) = simp length-drop (omega arith) in
    ap (λ (k : ℕ). take k (drop start l)) e ∙ take-suc (drop start l) (i - start) 0 k
    ∙ ap (λ (x : ℕ). take (i - start) (drop start l) ++ (x ∷ [])) (get_or-drop start l (i - start) 0 ∙ ap (λ (k : ℕ). get_or l k 0) w)

-- one field more in the list
put-part : (parts : List Part) (n : ℕ) (p : Part) → n < length parts → map (λ x. x.now) (take (n + 1) (set parts n p)) ≡ map (λ x. x.now) (take n parts) ++ (p.now ∷ [])
put-part parts n p h = ap (λ (k : ℕ). map (λ x. x.now) (take k (set parts n p))) (add-one n) ∙ ap (map (λ x. x.now)) (take-suc-set parts n p h) ∙ map-append _ (take n parts) (p ∷ [])

-- a field that has a byte is not empty
filled : (l : List ℕ) → 1 ≤ length l → empty l ≡ false
filled [] h = let z : ◌≡◌ {A = ℕ} 0 1 = omega arith in cc
filled (x ∷ l) h = refl

-- no more empty fields than before
still_full : (a : List (List ℕ)) (f : List ℕ) → any empty a ≡ false → empty f ≡ false → any empty (a ++ (f ∷ [])) ≡ false
still_full a f h k = any_append empty a (f ∷ []) ∙ rw (h, k)

-- what a line's parts are
pub too_long : (line : List ℕ) → 512 < length line → parts_of line ≡ []
unfolding parts_of
too_long line h = rw (lt-leb (length line) 512 h)

parts-empty : (line : List ℕ) (a b : List (List ℕ)) → length line ≤ 512 → fields line ≡ a ++ ([] ∷ b) → parts_of line ≡ []
unfolding parts_of
parts-empty line a b h e =
    let t : any empty (fields line) ≡ true = ap (any empty) e ∙ any_append empty a ([] ∷ b) ∙ or_right (any empty a) true refl in
    rw (le-leb (length line) 512 h, t)

parts-full : (line : List ℕ) (a : List (List ℕ)) → length line ≤ 512 → fields line ≡ a → any empty a ≡ false → parts_of line ≡ a
unfolding parts_of
parts-full line a h e f = rw (le-leb (length line) 512 h, e, f)

module _ {line : List ℕ} {size : ℕ} {parts : List Part} {n start i : ℕ} (s : Splitting line size parts n start i) where
  abbrev held : List ℕ
  held = take (i - start) (drop start line)

  held-long : length held ≡ i - start
  held-long = length-take-le (i - start) (drop start line) (simp length-drop (omega (arith, s.begun, s.within)))

  module _ (h : i < length line) where
    at_byte : fields line ≡ map (λ x. x.now) (take n parts) ++ fields_from held (get_or line i 0 ∷ drop (suc i) line)
    at_byte = rw (← drop-cons line i 0 h) s.rest

    pub on-byte : eqb (get_or line i 0) 32 ≡ false → Splitting line size parts n start (i + 1)
    unfolding fields_from
    on-byte e = record {
      within = omega arith;
      begun = omega (arith, s.begun);
      twice = s.twice;
      long = s.long;
      full = s.full;
      rest = at_byte ∙ rw (e, longer line start i s.begun h, add-one i);
    }

    at-space : eqb (get_or line i 0) 32 ≡ true → fields line ≡ map (λ x. x.now) (take n parts) ++ (held ∷ fields_from [] (drop (suc i) line))
    unfolding fields_from
    at-space e = at_byte ∙ rw e

    pub on-space : (p : Part) → eqb (get_or line i 0) 32 ≡ true → start < i → n < size → p.now ≡ held → Splitting line size (set parts n p) (n + 1) (i + 1) (i + 1)
    on-space p e b m q =
        let k : n < length parts = omega (arith, s.long) in
        record {
          within = omega arith;
          begun = omega arith;
          twice = omega (arith, s.twice);
          long = length-set parts n p ∙ s.long;
          full = rw (put-part parts n p k) (still_full (map (λ x. x.now) (take n parts)) p.now s.full (filled p.now (rw q (omega (arith, held-long)))));
          rest = at-space e ∙ rw (put-part parts n p k, q, sub_self (i + 1), append_assoc, add-one i);
        }

    -- a space where a field should begin
    pub on-gap : eqb (get_or line i 0) 32 ≡ true → start ≡ i → length line ≤ 512 → parts_of line ≡ []
    on-gap e b m =
        let w : i - start ≡ 0 = omega arith in
        let z : held ≡ [] = ap (λ (k : ℕ). take k (drop start line)) w in
        parts-empty line (map (λ x. x.now) (take n parts)) (fields_from [] (drop (suc i) line)) m (at-space e ∙ rw z)

  module _ (h : length line ≤ i) (m : length line ≤ 512) where
    at-end : fields line ≡ map (λ x. x.now) (take n parts) ++ (held ∷ [])
    unfolding fields_from
    at-end = rw (drop_of_length-le line h) at s.rest

    -- nothing after the last space
    pub on-nothing : start ≡ i → parts_of line ≡ []
    on-nothing b =
        let w : i - start ≡ 0 = omega arith in
        let z : held ≡ [] = ap (λ (k : ℕ). take k (drop start line)) w in
        parts-empty line (map (λ x. x.now) (take n parts)) [] m (at-end ∙ rw z)

    pub on-last : (p : Part) → start < i → n < size → p.now ≡ held → map (λ x. x.now) (take (n + 1) (set parts n p)) ≡ parts_of line
    on-last p b w q =
        let k : n < length parts = omega (arith, s.long) in
        let o : empty held ≡ false = filled held (omega (arith, held-long)) in
        put-part parts n p k ∙ rw q (sym (parts-full line (map (λ x. x.now) (take n parts) ++ (held ∷ [])) m at-end (still_full (map (λ x. x.now) (take n parts)) held s.full o)))
