-- Laws of windows of identifiers as they are lent: what an entry tells, what the rule says, and where each window lies.
use Rattle.lists.proofs.Prelude.{true, false, ◌||◌, List, [], ◌∷◌, map, append-nil, ◌≡◌, refl, sym, ap, ◌∙◌, ℕ, zero, suc, ◌+◌, ◌-◌, ◌/◌, ◌%◌, ◌<◌, ◌≤◌, zero-le, add-one, arith, eqb-true, ltb-false, eqb-false, eq-eqb, ne_eqb, eqb, ltb, length, get_or, take, drop, length-append, length-take, length-drop, length-replicate, drop_of_length-le, List·getD-map, take-nil, take-suc, drop-drop, every, total_by, by-test, and_left, and_right, or-none, empty-length, total-more}
use Rattle.identifiers.specs.Names.{bad_length}
use Rattle.identifiers.specs.Register.{entries, size, name_of}
use Rattle.recordings.specs.Recording.{zero_after, listed_in_all, recording_rule, identifier_in, cut_into}

-- The identifier of an entry ----------------------------------------------------------------------------------------

module _ (e : List ℕ) (whole : length e ≡ 65) where
  -- it is as long as its length byte says
  pub length-identifier : length (identifier_in e) ≡ size e
  length-identifier = simp (length-append, length-take, length-drop, length-replicate) (omega arith)

  -- so the length byte tells whether it is refused
  pub bad-size : bad_length (identifier_in e) ≡ (eqb (size e) 0 || ltb 64 (size e))
  unfolding bad_length
  bad-size = rw (← empty-length (identifier_in e), length-identifier)

  module _ (good : bad_length (identifier_in e) ≡ false) where
    -- a good one has at most 64 bytes
    pub good-size : size e ≤ 64
    good-size = ltb-false 64 (size e) (or-none (eqb (size e) 0) _ (sym bad-size ∙ good)).1

    -- so it stands in the entry
    pub good-identifier : identifier_in e ≡ name_of e
    good-identifier =
        let z : size e - 64 ≡ 0 = omega (arith, good-size) in
        rw z (append-nil (name_of e))

-- the identifier at a place is that of the entry there
pub identifier-at-place : (r : List ℕ) (i : ℕ) → get_or (map identifier_in (entries r)) i [] ≡ identifier_in (get_or (entries r) i [])
identifier-at-place r i = List·getD-map identifier_in (entries r) i []

-- The rule ----------------------------------------------------------------------------------------------------------

-- the three parts of the rule: whole entries, as many as the list adds up to, and each zero after its identifier
pub record Whole (r counts : List ℕ) : Type 0 where
  pub whole : length r % 65 ≡ 0
  pub adds : listed_in_all counts ≡ length r / 65
  pub clean : every zero_after (entries r) ≡ true

-- lent windows that keep the rule have all three
pub recording-kept : (r counts : List ℕ) → recording_rule r counts ≡ true → Whole r counts
unfolding recording_rule
recording-kept r counts e =
    let t = and_right (eqb (length r % 65) 0) _ e in
    record {
      whole = eqb-true _ _ (and_left (eqb (length r % 65) 0) _ e);
      adds = eqb-true _ _ (and_left (eqb (listed_in_all counts) (length r / 65)) _ t);
      clean = and_right (eqb (listed_in_all counts) (length r / 65)) _ t;
    }

-- The parts of a list -----------------------------------------------------------------------------------------------

-- the parts from place i on: the one at i begins after those before it
pub cut-drop : {A : Type 0} (counts : List ℕ) (l : List A) (i : ℕ) → i < length counts
    → drop i (cut_into counts l) ≡ take (get_or counts i 0) (drop (total_by (λ n. n) (take i counts)) l) ∷ drop (i + 1) (cut_into counts l)
cut-drop [] l i h = absurd (omega arith)
cut-drop (n ∷ counts) l zero h = refl
cut-drop (n ∷ counts) l (suc i) h =
    rw (add-one (suc i)) (rw (add-one i, drop-drop) at (cut-drop counts (drop n l) i (omega arith)))

-- as many parts as numbers
pub length_cut : {A : Type 0} (counts : List ℕ) (l : List A) → length (cut_into counts l) ≡ length counts
length_cut [] l = refl
length_cut (n ∷ counts) l = ap suc (length_cut counts (drop n l))

-- so past them there is none
pub cut-end : {A : Type 0} (counts : List ℕ) (l : List A) (i : ℕ) → length counts ≤ i → drop i (cut_into counts l) ≡ []
cut-end counts l i h = drop_of_length-le (cut_into counts l) {i = i} (omega (arith, length_cut counts l))

-- Sums --------------------------------------------------------------------------------------------------------------

-- the sum of the first ones, with one number more
pub total-take : (counts : List ℕ) (i : ℕ) → i < length counts → total_by (λ n. n) (take (i + 1) counts) ≡ total_by (λ n. n) (take i counts) + get_or counts i 0
total-take counts i h = rw (add-one i, take-suc counts i 0 h) (total-more (λ n. n) (take i counts) (get_or counts i 0))

-- the sum of the first ones is at most that of all
pub total-front : (counts : List ℕ) (i : ℕ) → total_by (λ n. n) (take i counts) ≤ total_by (λ n. n) counts
total-front [] i = rw (take-nil i) zero-le
total-front (n ∷ counts) zero = zero-le
total-front (n ∷ counts) (suc i) = let t = total-front counts i in omega arith

-- where a sum and what is left are the count, nothing is left just where the sum is the count
pub none_left : (n left count : ℕ) → n + left ≡ count → eqb left 0 ≡ eqb n count
none_left n left count e =
    by-test
    (eqb left 0)
    (λ y. rw y (sym (eq-eqb n count (omega (arith, eqb-true left 0 y)))))
    (λ f. rw f (sym (ne_eqb n count (λ q. eqb-false left 0 f (omega arith)))))
