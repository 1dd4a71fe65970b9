-- The run of an identifier in the buffer: where it lies, and its words.
use Rattle.lists.proofs.Prelude.{true, List, [], ◌∷◌, map, ⊎_elim, ◌≡◌, refl, sym, ap, ◌∙◌, ℕ, suc, ◌+◌, ◌-◌, ◌≤◌, add-one, arith, ltb, eqb, nat_abs, length, take, drop, slice, take-take, length-take-le, lt-ltb, le-ltb, ne_eqb, ltb-true, ltb-false, eqb-true, eqb-false, leb-true, every, by-test, and_left, and_right, every-keep, every-kept, map-take, map-drop, take-drop}
use Rattle.postings.specs.declared.Posting.{Posting}
use Rattle.postings.specs.Order.{precedes, ordered}
use Rattle.postings.specs.Pack.{posted}
use Rattle.postings.specs.Sums.{under}
use Rattle.postings.proofs.Order.{precedes-cases}
use Rattle.postings.proofs.Trips.{packed-count, packed-window}
use Rattle.state.specs.declared.Buffer.{Buffer}
use Rattle.state.specs.Views.{buffered}
use Rattle.partitions.specs.Formed.{in_range}
use Rattle.heads.specs.Heads.{comes, Lies}
use Rattle.terms.specs.Opening.{lower, word_for, Packed}

-- ---- where the run lies

module _ (i : ℕ) where
  -- no later posting has a lower identifier
  later : (p : Posting) (l : List Posting) → i ≤ p.id → every (precedes p) l ≡ true → lower i l ≡ 0
  later p [] h e = refl
  later p (q ∷ l) h e =
      let g : p.id ≤ q.id = ⊎_elim (λ a. omega arith) (λ a. omega arith) (precedes-cases p q (and_left _ _ e)) in
      rw (le-ltb q.id i (omega arith))

  -- a lower bound lies in the list
  pub lower-length : (l : List Posting) → lower i l ≤ length l
  lower-length [] = omega arith
  lower-length (p ∷ l) = let h = lower-length l in by-test (ltb p.id i) (λ y. rw y (omega arith)) (λ n. rw n (omega arith))

  -- from the lower bound of an identifier to that of the next lie its postings
  pub lower-run : (l : List Posting) → ordered l ≡ true → (lower i l ≤ lower (suc i) l) × (slice (lower i l) (lower (suc i) l) l ≡ under i l)
  lower-run [] e = (omega arith, refl)
  lower-run (p ∷ l) e =
      let o = and_right (every (precedes p) l) _ e in
      let f = and_left (every (precedes p) l) _ e in
      let r = lower-run l o in
      by-test (ltb p.id i)
      (λ y. let h = ltb-true p.id i y in
      rw (y, lt-ltb p.id (suc i) (omega arith), ne_eqb p.id i (λ q. omega arith)) (omega arith, rw (next (lower i l), next (lower (suc i) l)) r.1))
      (λ n. let h : i ≤ p.id = ltb-false p.id i n in
      let z = later p l h f in
      by-test (eqb p.id i)
      (λ y. let q = eqb-true p.id i y in
      rw (n, y, lt-ltb p.id (suc i) (omega arith)) (omega arith, rw (next (lower (suc i) l)) (ap (λ (t : List Posting). p ∷ t) (rw z at r.1))))
      (λ m. let q : suc i ≤ p.id = omega (arith, eqb-false p.id i m) in
      let u : slice 0 0 l ≡ under i l = rw (z, nothing p l q f) at r.1 in
      rw (n, m, le-ltb p.id (suc i) q) (omega arith, u)))
    where
      next : (n : ℕ) → 1 + n ≡ suc n
      next n = omega arith

      nothing : (p : Posting) (l : List Posting) → suc i ≤ p.id → every (precedes p) l ≡ true → lower (suc i) l ≡ 0
      nothing p [] h e = refl
      nothing p (q ∷ l) h e =
          let g : p.id ≤ q.id = ⊎_elim (λ a. omega arith) (λ a. omega arith) (precedes-cases p q (and_left _ _ e)) in
          rw (le-ltb q.id (suc i) (omega arith))

-- the places between two lower bounds are those of the identifier
pub run_lies : (i n : ℕ) (all : List Posting) → n ≤ length all → ordered (take n all) ≡ true
    → (a e : ℕ) → a ≡ lower i (take n all) → e ≡ lower (i + 1) (take n all) → (a ≤ e) × (e ≤ n) × (slice a e all ≡ under i (take n all))
run_lies i n all fits o a e p q =
    let l : length (take n all) ≡ n = length-take-le n all fits in
    let s : e ≡ lower (suc i) (take n all) = rw (add-one i) at q in
    let r = lower-run i (take n all) o in
    let h : e ≤ n = omega (arith, lower-length (suc i) (take n all)) in
    (omega (arith, r.0), h, ap (drop a) (sym (take-take e n all h)) ∙ rw (p, s) r.1)

-- ---- the words of an identifier's postings

-- they stand for the postings
read_back : (i : ℕ) (l : List Posting) → every (λ p. eqb p.id i) l ≡ true → every (λ p. in_range p.count) l ≡ true → map (posted i) (map word_for l) ≡ l
read_back i [] a b = refl
read_back i (p ∷ l) a b =
    let h = leb-true (nat_abs p.count) 32767 (and_left _ _ b) in
    let e : p.id ≡ i = eqb-true p.id i (and_left _ _ a) in
    let r = read_back i l (and_right (eqb p.id i) _ a) (and_right (in_range p.count) _ b) in
    rw (packed-count p.count p.window h, packed-window p.count p.window h, r, ← e)

module _ (W R : List ℕ) (b : Buffer) (i : ℕ) (packed : Packed b R) (fits : b.used ≤ length b.postings) (few : b.used ≤ 128)
    (order : ordered (buffered b) ≡ true) (sizes : every (λ p. in_range p.count) (buffered b) ≡ true)
    (a e : ℕ) (p : a ≡ lower i (buffered b)) (q : e ≡ lower (i + 1) (buffered b)) where
  lies : (a ≤ e) × (e ≤ b.used) × (slice a e b.postings ≡ under i (buffered b))
  lies = run_lies i b.used b.postings fits order a e p q

  -- they can be read
  pub run-lies-in : Lies W R (4194304 + a) (e - a)
  run-lies-in =
      let r = lies in
      let r0 = r.0 in
      let r1 = r.1 in
      record { card = λ h g. absurd (omega arith); run = λ h g. (omega (arith, packed.long), omega arith) }

  -- and are the identifier's postings
  pub run-under : map (posted i) (comes W R (4194304 + a) (e - a)) ≡ under i (buffered b)
  unfolding comes
  run-under =
      let r = lies in
      let r0 = r.0 in
      let r1 = r.1 in
      let z : 4194304 + a - 4194304 ≡ a = omega arith in
      let s : a + (e - a) ≡ e = omega arith in
      let cut : drop a (take e R) ≡ map word_for (slice a e b.postings) =
      ap (drop a) (sym (take-take e b.used R r1) ∙ ap (take e) packed.words ∙ sym (map-take word_for e (buffered b)) ∙ ap (map word_for) (take-take e b.used b.postings r1))
      ∙ sym (map-drop word_for a (take e b.postings)) in
      rw (le-ltb (4194304 + a) 4194304 (omega arith), z, take-drop a (e - a) R, s, cut, r.2)
      (read_back i (under i (buffered b)) (every-kept (λ p. eqb p.id i) (buffered b)) (every-keep (λ p. eqb p.id i) (λ p. in_range p.count) (buffered b) sizes))
