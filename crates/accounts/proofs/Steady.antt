-- No rise of a pair is above 32,767, and in the open window it is the count: no part holds less than nothing of it, until the window is removed.
use Rattle.lists.proofs.Prelude.{Bool, true, false, ◌&&◌, cond, false≢true, List, [], ◌∷◌, ◌≡◌, refl, sym, ap, ap₂, ◌∙◌, ℕ, zero, suc, ◌+◌, ◌-◌, ◌<◌, ◌≤◌, arith, eqb, pos, neg_ℤ, get_or, ne_eqb, eqb-true, every, by-test, and_left, and_right}
use Rattle.postings.specs.Sums.{sum, above}
use Rattle.postings.proofs.Sums.{sum-negated}
use Rattle.identifiers.specs.Names.{Name, number_of}
use Rattle.removals.specs.Removal.{counts_of}
use Rattle.accounts.specs.Account.{Portion, Account, empty_account, stored_in, stepped_account, flushed_account, added_to}
use Rattle.accounts.specs.Ledger.{Ledger, empty_ledger, opens, closes, including, counts, removes, count_by_number}
use Rattle.accounts.specs.Books.{once, taken_back}
use Rattle.accounts.proofs.Stored.{sum-counts}
use Rattle.accounts.proofs.Rises.{rises, rise, rise-flushed, rise-stepped, rise-added}
use Rattle.accounts.proofs.Numbers.{has_good_length, good-nonempty, among-itself, distinct-including, number-including, nth-same, nth-including}
use Rattle.accounts.proofs.Lawful.{Lawful}
use Rattle.accounts.proofs.Held.{nameless, counts-back}
use Rattle.accounts.proofs.Ranged.{stored_rule, Ranged, ranged-partitions, ranged-buffer, every-portion, sum-later}

-- ---- the last number given to a window that has events

unfoldable pub top : Ledger → ℕ
top l = cond (l.is_open && eqb l.events 0) (l.last - 1) l.last

pub top-le : (l : Ledger) → top l ≤ l.last
unfolding top
top-le l = by-test (l.is_open && eqb l.events 0) (λ y. rw y (omega arith)) (λ n. rw n (omega arith))

pub top-opens : (l : Ledger) → top (opens l) ≡ l.last
unfolding top opens
top-opens l = omega arith

pub top-closes : (l : Ledger) → l.is_open ≡ true → top (closes l) ≡ top l
unfolding top closes
top-closes l o = rw o

pub top-counts : (l : Ledger) (n : Name) → top (counts l n) ≡ l.last
unfolding top counts
top-counts l n = rw (ne_eqb (suc l.events) 0 (λ e. omega arith)) (by-test l.is_open (λ y. rw y) (λ z. rw z))

pub top-removes : (l : Ledger) (w : ℕ) → top (removes l w) ≡ top l
unfolding top removes
top-removes l w = refl

-- ---- the ledger by number

-- an event adds 1 under its identifier's number
pub number_counts : (entries : ℕ) (l : Ledger) → Lawful entries l → (n : Name) → has_good_length n ≡ true → (i v : ℕ)
    → count_by_number (counts l n) i v ≡ cond (eqb (number_of l.identifiers n) i && eqb l.last v) (suc (count_by_number l i v)) (count_by_number l i v)
unfolding counts
number_counts entries l s n good i v =
    ap₂ (λ (t : Bool) (c : ℕ). cond (t && eqb l.last v) (suc c) c)
    (nth-same (including l.identifiers n) n i (distinct-including l.identifiers n s.once) (good-nonempty n good) (among-itself l.identifiers n)
    ∙ ap (λ j. eqb j i) (number-including l.identifiers n))
    (nth-including l.identifiers n i (λ m. l.count m v) (λ z. s.uncounted n v z ∙ sym (s.uncounted [] v (nameless l.identifiers s.good))))

-- a removal leaves 0 in its window and every other count
pub number-removes : (l : Ledger) (w i v : ℕ) → count_by_number (removes l w) i v ≡ cond (eqb w v) 0 (count_by_number l i v)
unfolding removes
number-removes l w i v = refl

pub number-grows : (entries : ℕ) (l : Ledger) → Lawful entries l → (n : Name) → has_good_length n ≡ true → (i v : ℕ) → count_by_number l i v ≤ count_by_number (counts l n) i v
number-grows entries l s n good i v =
    rw (number_counts entries l s n good i v) (by-test (eqb (number_of l.identifiers n) i && eqb l.last v) (λ y. rw y (omega arith)) (λ z. rw z (omega arith)))

-- ---- the invariant

pub record Steady (l : Ledger) (a : Account) : Type 0 where
  pub most : (i w : ℕ) → rise a i w ≤ 32767
  pub own : l.is_open ≡ true → (i : ℕ) → rise a i l.last ≤ count_by_number l i l.last

pub steady-empty : Steady empty_ledger empty_account
unfolding empty_ledger empty_account
steady-empty = record { most = λ i w. omega arith; own = λ o. absurd (false≢true o) }

-- ---- flush and step

-- a rise that is no higher
steady-lower : (l : Ledger) (a b : Account) → ((i w : ℕ) → rise b i w ≤ rise a i w) → Steady l a → Steady l b
steady-lower l a b h s = record { most = λ i w. omega (arith, h i w, s.most i w); own = λ o i. omega (arith, h i l.last, s.own o i) }

pub steady-flushed : (l : Ledger) (a : Account) → Steady l a → Steady l (flushed_account a)
steady-flushed l a s = steady-lower l a (flushed_account a) (λ i w. omega (arith, rise-flushed a i w)) s

pub steady-stepped : (l : Ledger) (a : Account) → Steady l a → Steady l (stepped_account a)
steady-stepped l a s = steady-lower l a (stepped_account a) (λ i w. rise-stepped a i w) s

-- ---- open and close

-- windows above t have no rise
rises-later : (t : ℕ) (ps : List Portion) (i w : ℕ) → every (λ (p : Portion). every (stored_rule t) p.postings) ps ≡ true → t < w → rises ps i w ≡ 0
rises-later t [] i w e h = refl
rises-later t (p ∷ ps) i w e h =
    omega (arith, ap above (sum-later t p.postings i w (and_left (every (stored_rule t) p.postings) _ e) h), rises-later t ps i w (and_right (every (stored_rule t) p.postings) _ e) h)

pub steady-opens : (l : Ledger) (a : Account) → Ranged (top l) a → Steady l a → Steady (opens l) a
unfolding opens
steady-opens l a r s = record { most = s.most; own = λ o i. omega (arith, fresh i) }
  where
    fresh : (i : ℕ) → rise a i (suc l.last) ≡ 0
    fresh i =
        ap₂ (λ (m : ℕ) z. m + above z)
        (rises-later (top l) a.partitions i (suc l.last) (sym (every-portion (stored_rule (top l)) a.partitions) ∙ ranged-partitions (top l) a r) (omega (arith, top-le l)))
        (sum-later (top l) a.buffer i (suc l.last) (ranged-buffer (top l) a r) (omega (arith, top-le l)))

pub steady-closes : (l : Ledger) (a : Account) → Steady l a → Steady (closes l) a
unfolding closes
steady-closes l a s = record { most = s.most; own = λ o. absurd (false≢true o) }

-- ---- an event

pub steady-counts : (entries : ℕ) (l : Ledger) → Lawful entries l → (n : Name) → has_good_length n ≡ true → Lawful entries (counts l n) → l.is_open ≡ true → (a : Account) → Steady l a
    → Steady (counts l n) (added_to (once l n ∷ []) a)
steady-counts entries l s n good after o a h = record {
  most = λ i w. by-test (eqb number i && eqb l.last w)
      (λ y. let e : l.last ≡ w = eqb-true l.last w (and_right (eqb number i) _ y) in
      rw (← e) (omega (arith, more i, after.bounded (get_or (counts l n).identifiers i []) l.last)))
      (λ z. omega (arith, rise-added a i w (once l n ∷ []), ap above (none i w z), h.most i w));
  own = λ p i. rw last-is (more i);
}
  where
    number : ℕ
    number = number_of l.identifiers n

    last-is : (counts l n).last ≡ l.last
    last-is = unfold counts in refl

    none : (i w : ℕ) → (eqb number i && eqb l.last w) ≡ false → sum (once l n ∷ []) i w ≡ pos 0
    none i w z = rw z

    -- in the open window the rise grows no more than the count
    more : (i : ℕ) → rise (added_to (once l n ∷ []) a) i l.last ≤ count_by_number (counts l n) i l.last
    more i =
        by-test (eqb number i && eqb l.last l.last)
        (λ y. let one : sum (once l n ∷ []) i l.last ≡ pos 1 = rw y in
        let next : count_by_number (counts l n) i l.last ≡ suc (count_by_number l i l.last) = rw (number_counts entries l s n good i l.last, y) in
        omega (arith, rise-added a i l.last (once l n ∷ []), ap above one, h.own o i))
        (λ z. omega (arith, rise-added a i l.last (once l n ∷ []), ap above (none i l.last z), h.own o i, number-grows entries l s n good i l.last))

-- ---- a removal

-- what takes counts back raises nothing
back-falls : (t : Bool) (c : ℕ) → above (neg_ℤ (cond t (pos c) (pos 0))) ≡ 0
back-falls true zero = refl
back-falls true (suc c) = refl
back-falls false c = refl

pub steady-removes : (entries : ℕ) (l : Ledger) → Lawful entries l → (a : Account) → ((i w : ℕ) → sum (stored_in a) i w ≡ pos (count_by_number l i w)) → (w : ℕ) → (l.is_open && eqb w l.last) ≡ false → Steady l a
    → Steady (removes l w) (added_to (taken_back l w) a)
steady-removes entries l s a sums w other h = record { most = λ i v. omega (arith, lower i v, h.most i v); own = still }
  where
    taken : (i v : ℕ) → sum (taken_back l w) i v ≡ neg_ℤ (cond (eqb w v) (pos (count_by_number l i v)) (pos 0))
    taken i v =
        ap (λ ps. sum ps i v) (sym (counts-back entries l s (stored_in a) w (λ j. sums j w))) ∙ sum-negated i v (counts_of w (stored_in a))
        ∙ ap neg_ℤ (sum-counts w (stored_in a) i v ∙ ap (λ z. cond (eqb w v) z (pos 0)) (sums i v))

    lower : (i v : ℕ) → rise (added_to (taken_back l w) a) i v ≤ rise a i v
    lower i v = omega (arith, rise-added a i v (taken_back l w), ap above (taken i v) ∙ back-falls (eqb w v) (count_by_number l i v))

    still : (removes l w).is_open ≡ true → (i : ℕ) → rise (added_to (taken_back l w) a) i (removes l w).last ≤ count_by_number (removes l w) i (removes l w).last
    still o i = unfold removes in (now (was o))
      where
        was : (removes l w).is_open ≡ true → l.is_open ≡ true
        was p = unfold removes in p

        now : l.is_open ≡ true → rise (added_to (taken_back l w) a) i l.last ≤ count_by_number (removes l w) i l.last
        now p =
            let apart : eqb w l.last ≡ false = ap (λ t. t && eqb w l.last) (sym p) ∙ other in
            let same : count_by_number (removes l w) i l.last ≡ count_by_number l i l.last = rw (number-removes l w i l.last, apart) in
            omega (arith, lower i l.last, h.own p i)
