-- What holds of every ledger that calls lead to: bounds of its counts, its numbers and its identifiers. Each call keeps it.
use Rattle.lists.proofs.Prelude.{Bool, true, false, ◌&&◌, cond, false≢true, true≢false, [], ◌≡◌, refl, sym, ap, ◌∙◌, ℕ, suc, ◌-◌, ◌<◌, ◌≤◌, arith, eqb, ltb, leb, length, eqb-true, eqb-false, leb-false, keep, every, by-test, any_none, keep-none}
use Rattle.identifiers.specs.Names.{Name, among, distinct}
use Rattle.accounts.specs.Ledger.{Ledger, empty_ledger, live, opens, closes, removes}
use Rattle.accounts.proofs.Numbers.{has_good_length, Within}
use Rattle.accounts.proofs.Live.{live-removes}

-- how many identifiers count in a window
unfoldable pub counted_in : Ledger → ℕ → ℕ
counted_in l w = length (keep (λ n. ltb 0 (l.count n w)) l.identifiers)

pub record Lawful (entries : ℕ) (l : Ledger) : Type 0 where
  -- numbers and names
  pub fits : length l.identifiers ≤ entries
  pub last_fits : l.last ≤ 65535
  pub given : l.is_open ≡ true → 1 ≤ l.last
  pub good : every has_good_length l.identifiers ≡ true
  pub once : distinct l.identifiers ≡ true
  -- where nothing counts
  pub uncounted : (n : Name) (w : ℕ) → among n l.identifiers ≡ false → l.count n w ≡ 0
  pub unborn : (n : Name) (w : ℕ) → l.last < w → l.count n w ≡ 0
  pub nought : (n : Name) → l.count n 0 ≡ 0
  -- how much counts
  pub bounded : (n : Name) (w : ℕ) → l.count n w ≤ 32767
  pub held : (w : ℕ) → counted_in l w ≤ 64
  -- the open window
  pub shut : l.is_open ≡ false → (l.events ≡ 0) × (l.listed ≡ [])
  pub untouched : l.is_open ≡ true → l.events ≡ 0 → (n : Name) → l.count n l.last ≡ 0
  pub touched : l.is_open ≡ true → 1 ≤ l.events → live l l.last ≡ true
  pub events_fit : l.events ≤ 32767
  pub within : l.is_open ≡ true → (n : Name) → l.count n l.last ≤ l.events
  pub listed_once : distinct l.listed ≡ true
  pub listed_in : Within l.listed l.identifiers
  pub listed_fit : length l.listed ≤ 64
  pub listed_all : l.is_open ≡ true → (n : Name) → among n l.listed ≡ ltb 0 (l.count n l.last)
  pub held_now : l.is_open ≡ true → counted_in l l.last ≡ length l.listed

pub lawful-empty : (entries : ℕ) → Lawful entries empty_ledger
unfolding empty_ledger counted_in
lawful-empty entries = record {
  fits = omega arith;
  last_fits = omega arith;
  given = λ o. absurd (false≢true o);
  good = refl;
  once = refl;
  uncounted = λ n w e. refl;
  unborn = λ n w h. refl;
  nought = λ n. refl;
  bounded = λ n w. omega arith;
  held = λ w. omega arith;
  shut = λ o. (refl, refl);
  untouched = λ o. absurd (false≢true o);
  touched = λ o. absurd (false≢true o);
  events_fit = omega arith;
  within = λ o. absurd (false≢true o);
  listed_once = refl;
  listed_in = λ n e. absurd (false≢true e);
  listed_fit = omega arith;
  listed_all = λ o. absurd (false≢true o);
  held_now = λ o. absurd (false≢true o);
}

-- where nothing counts, no identifier does
pub counted_none : (l : Ledger) (w : ℕ) → ((n : Name) → l.count n w ≡ 0) → counted_in l w ≡ 0
unfolding counted_in
counted_none l w h =
    ap length (keep-none (λ n. ltb 0 (l.count n w)) l.identifiers (any_none (λ n. ltb 0 (l.count n w)) (λ n. ap (ltb 0) (h n)) l.identifiers))

module _ (entries : ℕ) (l : Ledger) (s : Lawful entries l) where
  -- ---- opening

  pub lawful-opens : leb 65535 l.last ≡ false → Lawful entries (opens l)
  unfolding opens
  lawful-opens room = record {
    fits = s.fits;
    last_fits = leb-false 65535 l.last room;
    given = λ o. omega arith;
    good = s.good;
    once = s.once;
    uncounted = s.uncounted;
    unborn = λ n w h. s.unborn n w (omega arith);
    nought = s.nought;
    bounded = s.bounded;
    held = unfold counted_in in held_same;
    shut = λ o. absurd (true≢false o);
    untouched = λ o e n. fresh n;
    touched = λ o h. absurd (omega arith);
    events_fit = omega arith;
    within = λ o n. omega (arith, fresh n);
    listed_once = refl;
    listed_in = λ n e. absurd (false≢true e);
    listed_fit = omega arith;
    listed_all = λ o n. ap (ltb 0) (sym (fresh n));
    held_now = λ o. unfold counted_in in none-held;
  }
    where
      fresh : (n : Name) → l.count n (suc l.last) ≡ 0
      fresh n = s.unborn n (suc l.last) (omega arith)

      held_same : (w : ℕ) → length (keep (λ n. ltb 0 (l.count n w)) l.identifiers) ≤ 64
      held_same w = unfold counted_in in (s.held w)

      none-held : length (keep (λ n. ltb 0 (l.count n (suc l.last))) l.identifiers) ≡ 0
      none-held = unfold counted_in in counted_none l (suc l.last) fresh

  -- ---- closing

  pub lawful-closes : l.is_open ≡ true → Lawful entries (closes l)
  unfolding closes
  lawful-closes o = record {
    fits = s.fits;
    last_fits = by-test (eqb l.events 0) (λ y. rw y (omega (arith, s.last_fits))) (λ n. rw n s.last_fits);
    given = λ p. absurd (false≢true p);
    good = s.good;
    once = s.once;
    uncounted = s.uncounted;
    unborn = λ n w h. by-test (eqb l.events 0) (λ y. back n w (eqb-true l.events 0 y) (rw y at h)) (λ z. s.unborn n w (rw z at h));
    nought = s.nought;
    bounded = s.bounded;
    held = unfold counted_in in held_same;
    shut = λ p. (refl, refl);
    untouched = λ p. absurd (false≢true p);
    touched = λ p. absurd (false≢true p);
    events_fit = omega arith;
    within = λ p. absurd (false≢true p);
    listed_once = refl;
    listed_in = λ n e. absurd (false≢true e);
    listed_fit = omega arith;
    listed_all = λ p. absurd (false≢true p);
    held_now = λ p. absurd (false≢true p);
  }
    where
      -- the number that is given back counted nothing
      back : (n : Name) (w : ℕ) → l.events ≡ 0 → l.last - 1 < w → l.count n w ≡ 0
      back n w z h =
          by-test (eqb l.last w)
          (λ y. ap (l.count n) (sym (eqb-true l.last w y)) ∙ s.untouched o z n)
          (λ d. let apart = eqb-false l.last w d in s.unborn n w (omega arith))

      held_same : (w : ℕ) → length (keep (λ n. ltb 0 (l.count n w)) l.identifiers) ≤ 64
      held_same w = unfold counted_in in (s.held w)

  -- ---- removal of a window that is not open

  module _ (w : ℕ) (other : (l.is_open && eqb w l.last) ≡ false) where
    apart : l.is_open ≡ true → eqb w l.last ≡ false
    apart o = ap (λ t. t && eqb w l.last) (sym o) ∙ other

    pub lawful-removes : Lawful entries (removes l w)
    lawful-removes = record {
      fits = unfold removes in s.fits;
      last_fits = unfold removes in s.last_fits;
      given = unfold removes in s.given;
      good = unfold removes in s.good;
      once = unfold removes in s.once;
      uncounted = unfold removes in (λ n v e. none (eqb w v) (s.uncounted n v e));
      unborn = unfold removes in (λ n v h. none (eqb w v) (s.unborn n v h));
      nought = unfold removes in (λ n. none (eqb w 0) (s.nought n));
      bounded = unfold removes in (λ n v. gone (eqb w v) (l.count n v) 32767 (s.bounded n v));
      held = held-less;
      shut = unfold removes in s.shut;
      untouched = unfold removes in (λ o e n. none (eqb w l.last) (s.untouched o e n));
      touched = λ o h. still o h;
      events_fit = unfold removes in s.events_fit;
      within = unfold removes in (λ o n. gone (eqb w l.last) (l.count n l.last) l.events (s.within o n));
      listed_once = unfold removes in s.listed_once;
      listed_in = unfold removes in s.listed_in;
      listed_fit = unfold removes in s.listed_fit;
      listed_all = unfold removes in (λ o n. s.listed_all o n ∙ rw (apart o));
      held_now = λ o. same-now o;
    }
      where
        none : (t : Bool) {c : ℕ} → c ≡ 0 → cond t 0 c ≡ 0
        none true e = refl
        none false e = e

        gone : (t : Bool) (c m : ℕ) → c ≤ m → cond t 0 c ≤ m
        gone true c m h = omega arith
        gone false c m h = h

        -- what counts in a window afterwards
        counted-after : (v : ℕ) → counted_in (removes l w) v ≡ cond (eqb w v) 0 (counted_in l v)
        counted-after v =
            by-test (eqb w v)
            (λ y. rw y (counted_none (removes l w) v (λ n. unfold removes in rw y)))
            (λ z. rw z (unfold counted_in removes in rw z))

        held-less : (v : ℕ) → counted_in (removes l w) v ≤ 64
        held-less v = rw (counted-after v) (gone (eqb w v) (counted_in l v) 64 (s.held v))

        still : (removes l w).is_open ≡ true → 1 ≤ (removes l w).events → live (removes l w) (removes l w).last ≡ true
        still o h = unfold removes in (live-after (was o) (some h))
          where
            was : (removes l w).is_open ≡ true → l.is_open ≡ true
            was o = unfold removes in o

            some : 1 ≤ (removes l w).events → 1 ≤ l.events
            some h = unfold removes in h

            live-after : l.is_open ≡ true → 1 ≤ l.events → live (removes l w) l.last ≡ true
            live-after o h = live-removes l w l.last ∙ rw (apart o) (s.touched o h)

        same-now : (removes l w).is_open ≡ true → counted_in (removes l w) (removes l w).last ≡ length (removes l w).listed
        same-now o = unfold removes in (now (was o))
          where
            was : (removes l w).is_open ≡ true → l.is_open ≡ true
            was o = unfold removes in o

            now : l.is_open ≡ true → counted_in (removes l w) l.last ≡ length l.listed
            now o = counted-after l.last ∙ rw (apart o) (s.held_now o)
