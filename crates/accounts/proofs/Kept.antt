-- What holds of ledger and account together, after every list of calls: the invariant of the history theorem, and that each change keeps it.
use Rattle.lists.proofs.Prelude.{Bool, true, false, ◌&&◌, not, cond, [], ◌∷◌, List, ◌++◌, foldr, ◌≡◌, refl, sym, ap, ◌∙◌, subst, ℕ, suc, ◌+◌, ◌<◌, ◌≤◌, arith, eqb, ltb, leb, pos, nat_abs, ◌+ℤ◌, +ℤ_idl, length, every, empty}
use Rattle.postings.specs.Merge.{put, nonzero, negated}
use Rattle.removals.specs.Removal.{counts_of}
use Rattle.postings.specs.Sums.{sum}
use Rattle.state.specs.Levels.{of_level}
use Rattle.identifiers.specs.Names.{Name, among, number_of}
use Rattle.identifiers.proofs.Names.{number-there}
use Rattle.accounts.specs.Account.{Portion, Account, empty_account, postings_in, stored_in, due_of, inputs_of, blocks_in, blocks_of, merged, blocks_ahead, stepped_account, flushed_account, added_to}
use Rattle.accounts.specs.Ledger.{Ledger, empty_ledger, opens, closes, including, counts, removes, count_by_number}
use Rattle.accounts.specs.Books.{once, taken_back}
use Rattle.accounts.proofs.Stored.{level_of, sum-flushed, sum-stored-stepped, sum_added, sum-removed}
use Rattle.accounts.proofs.Rises.{Chosen, chosen-all, chosen_none, chosen-inputs, chosen-small, chosen-with-buffer}
use Rattle.accounts.proofs.Shaped.{Shaped, shaped-empty, shaped-flushed, shaped-stepped, shaped-added}
use Rattle.accounts.proofs.Fits.{Fits, fits-flushed, fits-stepped, fits-added}
use Rattle.accounts.proofs.Numbers.{has_good_length, among-itself, number-including}
use Rattle.accounts.proofs.Lawful.{Lawful, lawful-empty, lawful-opens, lawful-closes, lawful-removes}
use Rattle.accounts.proofs.Counted.{lawful-counts, identifiers-fit}
use Rattle.accounts.proofs.Held.{counts-back}
use Rattle.accounts.proofs.Ranged.{stored_rule, stored-rule, Ranged, ranged-up, ranged-flushed, ranged-stepped, ranged-added, ranged-back}
use Rattle.accounts.proofs.Steady.{top, top-le, top-opens, top-closes, top-counts, top-removes, number_counts, number-removes, Steady, steady-empty, steady-flushed, steady-stepped, steady-opens, steady-closes, steady-counts, steady-removes}

-- every sum of what is stored is the ledger's count
abbrev pub Agrees : Ledger → Account → Type 0
Agrees l a = (i w : ℕ) → sum (stored_in a) i w ≡ pos (count_by_number l i w)

pub record Kept (blocks entries : ℕ) (l : Ledger) (a : Account) : Type 0 where
  pub lawful : Lawful entries l
  pub sums : Agrees l a
  pub shaped : Shaped a
  pub fits : Fits blocks a
  pub ranged : Ranged (top l) a
  pub steady : Steady l a

module _ (blocks entries : ℕ) where
  pub kept-empty : Kept blocks entries empty_ledger empty_account
  kept-empty = record {
    lawful = lawful-empty entries;
    sums = unfold empty_ledger empty_account in (λ i w. refl);
    shaped = unfold empty_account in shaped-empty;
    fits = unfold empty_account Fits blocks_in blocks_ahead in omega arith;
    ranged = unfold empty_account in refl;
    steady = steady-empty;
  }

  module _ (l : Ledger) (a : Account) (k : Kept blocks entries l a) where
    -- ---- no sum over some of the partitions, whichever they are, with the buffer or without it, leaves ±32,767

    pub some-small : {some others : List Portion} → Chosen a.partitions some others → (i w : ℕ) → nat_abs (sum (postings_in some) i w) ≤ 32767
    some-small c i w = omega (arith, chosen-small a c i w (count_by_number l i w) (k.sums i w), k.steady.most i w)

    pub some-buffer-small : {some others : List Portion} → Chosen a.partitions some others → (i w : ℕ) → nat_abs (sum (postings_in some ++ a.buffer) i w) ≤ 32767
    some-buffer-small c i w = omega (arith, chosen-with-buffer a c i w (count_by_number l i w) (k.sums i w), k.steady.most i w)

    -- of all, of a step's inputs, and of none but the buffer
    pub partitions-small : (i w : ℕ) → nat_abs (sum (postings_in a.partitions) i w) ≤ 32767
    partitions-small = some-small (chosen-all a.partitions)

    pub stored-small : (i w : ℕ) → nat_abs (sum (stored_in a) i w) ≤ 32767
    stored-small = some-buffer-small (chosen-all a.partitions)

    pub inputs-small : (i w : ℕ) → nat_abs (sum (inputs_of a) i w) ≤ 32767
    unfolding inputs_of
    inputs-small = some-small (chosen-inputs (due_of a) a.partitions).1

    pub buffer-small : (i w : ℕ) → nat_abs (sum a.buffer i w) ≤ 32767
    buffer-small = some-buffer-small (chosen_none a.partitions)

    -- ---- flush and step

    pub kept-flushed : empty a.buffer ≡ false → leb 16 (of_level level_of 0 a.partitions) ≡ false → ltb blocks (suc (blocks_in a + blocks_ahead a)) ≡ false → Kept blocks entries l (flushed_account a)
    kept-flushed some ten twelve = record {
      lawful = k.lawful;
      sums = λ i w. sum-flushed a i w ∙ k.sums i w;
      shaped = shaped-flushed a k.shaped some ten;
      fits = fits-flushed blocks a k.shaped.progress k.shaped.room some twelve;
      ranged = ranged-flushed (top l) a k.ranged;
      steady = steady-flushed l a k.steady;
    }

    pub kept-stepped : (eqb a.steps 0 && ltb blocks (blocks_in a + blocks_of (merged a))) ≡ false → Kept blocks entries l (stepped_account a)
    kept-stepped twelve = record {
      lawful = k.lawful;
      sums = λ i w. sum-stored-stepped a i w ∙ k.sums i w;
      shaped = shaped-stepped a k.shaped;
      fits = fits-stepped blocks a k.fits twelve;
      ranged = ranged-stepped (top l) a k.ranged;
      steady = steady-stepped l a k.steady;
    }

    -- ---- open and close

    pub kept-opens : leb 65535 l.last ≡ false → Kept blocks entries (opens l) a
    kept-opens room = record {
      lawful = lawful-opens entries l k.lawful room;
      sums = unfold opens in k.sums;
      shaped = k.shaped;
      fits = k.fits;
      ranged = ranged-up (top l) (top (opens l)) (omega (arith, top-le l, top-opens l)) (stored_in a) k.ranged;
      steady = steady-opens l a k.ranged k.steady;
    }

    pub kept-closes : l.is_open ≡ true → Kept blocks entries (closes l) a
    kept-closes o = record {
      lawful = lawful-closes entries l k.lawful o;
      sums = unfold closes in k.sums;
      shaped = k.shaped;
      fits = k.fits;
      ranged = rw (top-closes l o) k.ranged;
      steady = steady-closes l a k.steady;
    }

    -- ---- an event

    module _ (small : entries ≤ 1024) (n : Name) (good : has_good_length n ≡ true) (o : l.is_open ≡ true) (six : leb 32767 l.events ≡ false)
        (eight : (not (among n l.identifiers) && leb entries (length l.identifiers)) ≡ false)
        (nine : (not (among n l.listed) && leb 64 (length l.listed)) ≡ false) where
      -- the event's number is one of the register's
      pub event-number : number_of l.identifiers n < entries
      event-number =
          omega (
            arith,
            identifiers-fit entries l k.lawful n good o six eight nine,
            number-there (including l.identifiers n) n (among-itself l.identifiers n),
            number-including l.identifiers n,
          )

      event-ranged : every (stored_rule (top (counts l n))) (once l n ∷ []) ≡ true
      event-ranged =
          rw (stored-rule (top (counts l n)) (once l n) (omega (arith, event-number)) (k.lawful.given o) (omega (arith, top-counts l n)))

      event-lawful : Lawful entries (counts l n)
      event-lawful = lawful-counts entries l k.lawful n good o six eight nine

      pub kept-counts : length (nonzero (foldr put a.buffer (once l n ∷ []))) ≤ 128 → Kept blocks entries (counts l n) (added_to (once l n ∷ []) a)
      kept-counts room = record {
        lawful = event-lawful;
        sums = λ i v. sum_added (once l n ∷ []) a i v ∙ ap (λ z. sum (once l n ∷ []) i v +ℤ z) (k.sums i v)
            ∙ one_more i v ∙ ap pos (sym (number_counts entries l k.lawful n good i v));
        shaped = shaped-added (once l n ∷ []) a k.shaped room;
        fits = fits-added blocks (once l n ∷ []) a k.fits;
        ranged = ranged-added (top (counts l n)) (once l n ∷ []) a event-ranged
            (ranged-up (top l) (top (counts l n)) (omega (arith, top-le l, top-counts l n)) (stored_in a) k.ranged);
        steady = steady-counts entries l k.lawful n good event-lawful o a k.steady;
      }
        where
          one_more : (i v : ℕ) → sum (once l n ∷ []) i v +ℤ pos (count_by_number l i v) ≡ pos (cond (eqb (number_of l.identifiers n) i && eqb l.last v) (suc (count_by_number l i v)) (count_by_number l i v))
          one_more i v = go (eqb (number_of l.identifiers n) i && eqb l.last v)
            where
              go : (t : Bool) → (cond t (pos 1) (pos 0) +ℤ pos 0) +ℤ pos (count_by_number l i v) ≡ pos (cond t (suc (count_by_number l i v)) (count_by_number l i v))
              go true = ap pos (omega arith)
              go false = +ℤ_idl (pos (count_by_number l i v))

    -- ---- a removal

    pub kept-removes : (w : ℕ) → (l.is_open && eqb w l.last) ≡ false → length (nonzero (foldr put a.buffer (taken_back l w))) ≤ 128 → Kept blocks entries (removes l w) (added_to (taken_back l w) a)
    kept-removes w other room = record {
      lawful = lawful-removes entries l k.lawful w other;
      sums = λ i v. ap (λ ps. sum (stored_in (added_to ps a)) i v) (sym back) ∙ sum-removed w a a (λ j u. refl) i v
          ∙ ap (λ z. cond (eqb w v) (pos 0) z) (k.sums i v) ∙ out (eqb w v) (count_by_number l i v) ∙ ap pos (sym (number-removes l w i v));
      shaped = shaped-added (taken_back l w) a k.shaped room;
      fits = fits-added blocks (taken_back l w) a k.fits;
      ranged = rw (top-removes l w) (ranged-added (top l) (taken_back l w) a (subst (λ ps. every (stored_rule (top l)) ps ≡ true) back (ranged-back (top l) w (stored_in a) k.ranged)) k.ranged);
      steady = steady-removes entries l k.lawful a k.sums w other k.steady;
    }
      where
        back : negated (counts_of w (stored_in a)) ≡ taken_back l w
        back = counts-back entries l k.lawful (stored_in a) w (λ i. k.sums i w)

        out : (t : Bool) (c : ℕ) → cond t (pos 0) (pos c) ≡ pos (cond t 0 c)
        out true c = refl
        out false c = refl
