-- An event keeps what holds of the ledger.
use Rattle.lists.proofs.Prelude.{Bool, true, false, ◌||◌, ◌&&◌, not, cond, true≢false, or-false, ◌≡◌, refl, sym, ap, ◌∙◌, fun_ext, ℕ, suc, ◌≤◌, arith, eqb, ltb, leb, length, eqb-true, eqb-false, eq-eqb, ne_eqb, lt-ltb, leb-false, keep, same, by-test, or-none, or_right, same_refl, same_true, keep_same, and-false}
use Rattle.identifiers.specs.Names.{Name, among}
use Rattle.accounts.specs.Ledger.{Ledger, live, including, counts}
use Rattle.accounts.proofs.Numbers.{has_good_length, among-including, among-grows, distinct-including, every-including, length-including}
use Rattle.accounts.proofs.Picks.{keep-including, flip}
use Rattle.accounts.proofs.Live.{live-counts}
use Rattle.accounts.proofs.Lawful.{Lawful, counted_in}

-- the count of an identifier after an event of n in the open window
abbrev more : Ledger → Name → Name → ℕ → ℕ
more l n m w = cond (same n m && eqb l.last w) (suc (l.count m w)) (l.count m w)

-- another identifier's count, or one of another window, stays
pub more-other : (l : Ledger) (n m : Name) (w : ℕ) → (same n m && eqb l.last w) ≡ false → more l n m w ≡ l.count m w
more-other l n m w e = rw e

pub more-elsewhere : (l : Ledger) (n m : Name) (w : ℕ) → (l.last ≡ w → ⊥) → more l n m w ≡ l.count m w
more-elsewhere l n m w d = rw (ne_eqb l.last w d, and-false (same n m))

-- in the open window
pub more-here : (l : Ledger) (n m : Name) → more l n m l.last ≡ cond (same n m) (suc (l.count m l.last)) (l.count m l.last)
more-here l n m = rw (eq-eqb l.last l.last refl) (by-test (same n m) (λ y. rw y) (λ z. rw z))

-- does an identifier count in the open window, before and after the event
abbrev counted : Ledger → Name → Bool
counted l m = ltb 0 (l.count m l.last)

abbrev now_counts : Ledger → Name → Name → Bool
now_counts l n m = ltb 0 (cond (same n m) (suc (l.count m l.last)) (l.count m l.last))

-- how many identifiers a list has after one that it has room for
pub room_for : (t : Bool) (k m : ℕ) → k ≤ m → (not t && leb m k) ≡ false → cond t k (suc k) ≤ m
room_for true k m h e = h
room_for false k m h e = leb-false m k e

module _ (entries : ℕ) (l : Ledger) (s : Lawful entries l) (n : Name) (good : has_good_length n ≡ true) (o : l.is_open ≡ true) (six : leb 32767 l.events ≡ false)
    (eight : (not (among n l.identifiers) && leb entries (length l.identifiers)) ≡ false)
    (nine : (not (among n l.listed) && leb 64 (length l.listed)) ≡ false) where
  events-fit : suc l.events ≤ 32767
  events-fit = leb-false 32767 l.events six

  -- ---- how many identifiers count in a window

  -- in another window as many as before
  counted-elsewhere : (w : ℕ) → (l.last ≡ w → ⊥) → counted_in (counts l n) w ≡ counted_in l w
  unfolding counted_in counts
  counted-elsewhere w d =
      ap (λ (t : Name → Bool). length (keep t (including l.identifiers n))) (fun_ext λ m. ap (ltb 0) (more-elsewhere l n m w d))
      ∙ ap length (keep-including (λ m. ltb 0 (l.count m w)) l.identifiers n (λ z. ap (ltb 0) (s.uncounted n w z)))

  -- in the open one those that are listed
  counted-here : counted_in (counts l n) l.last ≡ length (including l.listed n)
  counted-here = by-test (among n l.listed) there new
    where
      counted-now : counted_in (counts l n) l.last ≡ length (keep (now_counts l n) (including l.identifiers n))
      counted-now = unfold counted_in counts in ap (λ (t : Name → Bool). length (keep t (including l.identifiers n))) (fun_ext λ m. ap (ltb 0) (more-here l n m))

      counted-before : length (keep (counted l) l.identifiers) ≡ length l.listed
      counted-before = unfold counted_in in (s.held_now o)

      is-before : counted l n ≡ among n l.listed
      is-before = sym (s.listed_all o n)

      now-own : now_counts l n n ≡ true
      now-own = rw (same_refl n) (lt-ltb 0 (suc (l.count n l.last)) (omega arith))

      now-other : (m : Name) → same n m ≡ false → now_counts l n m ≡ counted l m
      now-other m e = rw e

      there : among n l.listed ≡ true → counted_in (counts l n) l.last ≡ length (including l.listed n)
      there y =
          counted-now
          ∙ ap length (keep_same (now_counts l n) (counted l) (λ m. by-test (same n m) (λ e. let q = same_true n m e in rw (← q) (now-own ∙ sym (is-before ∙ y))) (now-other m)) (including l.identifiers n))
          ∙ ap length (keep-including (counted l) l.identifiers n (λ z. absurd (true≢false (sym (s.listed_in n y) ∙ z))))
          ∙ counted-before ∙ rw y

      new : among n l.listed ≡ false → counted_in (counts l n) l.last ≡ length (including l.listed n)
      new z =
          counted-now ∙ flip (counted l) (now_counts l n) n now-other (is-before ∙ z) now-own l.identifiers s.once ∙ ap suc counted-before ∙ sym (length-including l.listed n ∙ rw z)

  listed-fit : length (including l.listed n) ≤ 64
  listed-fit = rw (length-including l.listed n) (room_for (among n l.listed) (length l.listed) 64 s.listed_fit nine)

  -- ---- the ledger afterwards

  pub identifiers-fit : length (including l.identifiers n) ≤ entries
  identifiers-fit = rw (length-including l.identifiers n) (room_for (among n l.identifiers) (length l.identifiers) entries s.fits eight)

  bound : (m : Name) (w : ℕ) → more l n m w ≤ 32767
  bound m w =
      by-test (eqb l.last w)
      (λ y. rw (← eqb-true l.last w y, more-here l n m)
      (by-test (same n m) (λ e. rw e (omega (arith, events-fit, s.within o m))) (λ e. rw e (s.bounded m l.last))))
      (λ z. rw (more-elsewhere l n m w (eqb-false l.last w z)) (s.bounded m w))

  near : (m : Name) → more l n m l.last ≤ suc l.events
  near m = rw (more-here l n m) (by-test (same n m) (λ e. rw e (omega (arith, s.within o m))) (λ e. rw e (omega (arith, s.within o m))))

  listed-all : (m : Name) → among m (including l.listed n) ≡ ltb 0 (more l n m l.last)
  listed-all m =
      among-including l.listed n m
      ∙ by-test (same n m)
      (λ e. rw (more-here l n m, e) (or_right (among m l.listed) true refl ∙ sym (lt-ltb 0 (suc (l.count m l.last)) (omega arith))))
      (λ e. rw (more-here l n m, e, or-false (among m l.listed)) (s.listed_all o m))

  pub lawful-counts : Lawful entries (counts l n)
  lawful-counts = record {
    fits = unfold counts in identifiers-fit;
    last_fits = unfold counts in s.last_fits;
    given = unfold counts in s.given;
    good = unfold counts in every-including has_good_length l.identifiers n s.good good;
    once = unfold counts in distinct-including l.identifiers n s.once;
    uncounted = unfold counts in (λ m w e.
        let d = or-none (among m l.identifiers) _ (sym (among-including l.identifiers n m) ∙ e) in
        more-other l n m w (rw d.1) ∙ s.uncounted m w d.0);
    unborn = unfold counts in (λ m w h. more-elsewhere l n m w (λ q. omega arith) ∙ s.unborn m w h);
    nought = unfold counts in (λ m. more-elsewhere l n m 0 (λ q. omega (arith, s.given o)) ∙ s.nought m);
    bounded = unfold counts in bound;
    held = λ w. by-test (eqb l.last w)
        (λ y. rw (← eqb-true l.last w y, counted-here) listed-fit)
        (λ z. rw (counted-elsewhere w (eqb-false l.last w z)) (s.held w));
    shut = unfold counts in (λ p. absurd (true≢false (sym o ∙ p)));
    untouched = unfold counts in (λ p e. absurd (omega arith));
    touched = touch;
    events_fit = unfold counts in events-fit;
    within = unfold counts in (λ p m. near m);
    listed_once = unfold counts in distinct-including l.listed n s.listed_once;
    listed_in = unfold counts in (λ m e. listed_in m e);
    listed_fit = unfold counts in listed-fit;
    listed_all = unfold counts in (λ p m. listed-all m);
    held_now = held-now;
  }
    where
      listed_in : (m : Name) → among m (including l.listed n) ≡ true → among m (including l.identifiers n) ≡ true
      listed_in m e =
          by-test (same n m)
          (λ y. among-including l.identifiers n m ∙ or_right (among m l.identifiers) _ y)
          (λ z. among-grows l.identifiers n m (s.listed_in m (sym (or-false (among m l.listed)) ∙ ap (λ t. among m l.listed || t) (sym z) ∙ sym (among-including l.listed n m) ∙ e)))

      last-is : (counts l n).last ≡ l.last
      last-is = unfold counts in refl

      touch : (counts l n).is_open ≡ true → 1 ≤ (counts l n).events → live (counts l n) (counts l n).last ≡ true
      touch p h = ap (live (counts l n)) last-is ∙ live-counts l n

      held-now : (counts l n).is_open ≡ true → counted_in (counts l n) (counts l n).last ≡ length (counts l n).listed
      held-now p = ap (counted_in (counts l n)) last-is ∙ counted-here ∙ listed-is
        where
          listed-is : length (including l.listed n) ≡ length (counts l n).listed
          listed-is = unfold counts in refl
