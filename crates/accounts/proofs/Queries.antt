-- What a query and a mean find in the lists is what the ledger says, of all windows that show and of a stretch.
use Rattle.lists.proofs.Prelude.{true, false, not, cond, List, [], ◌≡◌, sym, ap, ap₂, ◌∙◌, fun_ext, ℕ, suc, ◌-◌, ◌<◌, ◌≤◌, arith, ltb, pos, length, get_or, eqb-false, ne_eqb, not-true, up_to, different, by-test, any_none, keep_low, keep-agree, different-keep}
use Rattle.lists.proofs.TopK.{different-down}
use Rattle.postings.specs.declared.Stretch.{Stretch}
use Rattle.postings.specs.Sums.{sum, above}
use Rattle.state.specs.Shown as S
use Rattle.state.specs.Shown.{within, shown_in}
use Rattle.stretches.specs.Reached.{whole}
use Rattle.identifiers.specs.Names.{Name, numbers_of}
use Rattle.ranking.specs.Hits.{frequency, ranked}
use Rattle.averages.specs.Average.{total}
use Rattle.accounts.specs.Account.{Account, stored_in, read_by}
use Rattle.accounts.specs.Ledger.{Ledger, live, shown, existing, shown_within, existing_within, count_by_number}
use Rattle.accounts.specs.Lists as lists
use Rattle.accounts.specs.Lists.{count_of, frequency_of, total_of}
use Rattle.accounts.proofs.Ranked.{SameCounted, counted-kept, frequency-windows, total-windows, ranked-windows, ranked-agree, frequency-none, total-none, one-query, ranked-names}
use Rattle.accounts.proofs.Lawful.{Lawful}
use Rattle.accounts.proofs.Held.{any-by-number, counts-live}
use Rattle.accounts.proofs.Kept.{Kept}
use Rattle.accounts.proofs.Stretches.{sum-read, shown-in, every-within, shown-whole, read_whole}
use Rattle.accounts.proofs.Sound.{windows_of, lists_of}

-- ---- the windows that show

-- of those that show in the lists, those that the ledger has not count nothing
module _ (entries : ℕ) (l : Ledger) (s : Lawful entries l) where
  -- the last closed window
  last_shown : ℕ
  last_shown = cond l.is_open (l.last - 1) l.last

  fits : last_shown ≤ 65535
  unfolding last_shown
  fits = by-test l.is_open (λ o. rw o (omega (arith, s.last_fits))) (λ n. rw n s.last_fits)

  low : (v : ℕ) → v < last_shown → S.shows (windows_of l).current (suc v) ≡ true
  unfolding last_shown
  low v h =
      by-test l.is_open
      (λ o. let b : v < l.last - 1 = rw o at h in rw o (ap not (ne_eqb (suc v) l.last (λ q. omega arith))))
      (λ n. rw n (ap not (ne_eqb (suc v) 0 (λ q. omega arith))))

  high : (i v : ℕ) → last_shown < v → S.shows (windows_of l).current v ≡ true → count_by_number l i v ≡ 0
  unfolding last_shown
  high i v h e =
      by-test l.is_open
      (λ o. let b : l.last - 1 < v = rw o at h in
      let d = eqb-false v l.last (not-true _ (rw o at e)) in
      s.unborn (get_or l.identifiers i []) v (omega arith))
      (λ n. s.unborn (get_or l.identifiers i []) v (rw n at h))

  pub shown-same : SameCounted (count_by_number l) (S.shown (windows_of l)) (shown l)
  unfolding S.shown shown last_shown
  shown-same t silent = keep_low t (S.shows (windows_of l).current) last_shown 65535 fits low (λ v h y. silent v (λ i. high i v h y))

  -- so of a stretch
  pub within_same : (t : Stretch) → SameCounted (count_by_number l) (shown_in t (windows_of l)) (shown_within t l)
  unfolding shown_within
  within_same t = rw (shown-in t (windows_of l)) (counted-kept (count_by_number l) (S.shown (windows_of l)) (shown l) shown-same (within t))

-- no window stands twice among a stretch's
pub within-different : (t : Stretch) (l : Ledger) → different (shown_within t l) ≡ true
unfolding shown_within shown
within-different t l = different-keep (within t) (shown l) (different-down _)

-- a window in which no number counts is not live
none-live : (l : Ledger) (v : ℕ) → ((i : ℕ) → count_by_number l i v ≡ 0) → live l v ≡ false
unfolding live
none-live l v z =
    sym (any-by-number (λ n. ltb 0 (l.count n v)) l.identifiers) ∙ any_none (λ i. ltb 0 (count_by_number l i v)) (λ i. ap (ltb 0) (z i)) (up_to (length l.identifiers))

module _ (blocks entries : ℕ) (l : Ledger) (a : Account) (k : Kept blocks entries l a) where
  counts-read : count_of a ≡ count_by_number l
  unfolding count_of
  counts-read = fun_ext λ i. fun_ext λ w. ap above (k.sums i w)

  shown-alike : SameCounted (count_by_number l) (S.shown (windows_of l)) (shown l)
  shown-alike = shown-same entries l k.lawful

  -- ---- a query of a stretch

  module _ (t : Stretch) where
    -- what is read has the ledger's sums there
    sums-read : (w : ℕ) → within t w ≡ true → (i : ℕ) → sum (stored_in (read_by t a)) i w ≡ pos (count_by_number l i w)
    sums-read w y i = sum-read t a i w y ∙ k.sums i w

    -- N
    pub existing-within : lists.existing (stored_in (read_by t a)) (shown_in t (windows_of l)) ≡ existing_within t l
    unfolding lists.existing existing_within
    existing-within =
        ap length
        (keep-agree _ (live l) (within t) (λ w y. counts-live entries l k.lawful (stored_in (read_by t a)) w (sums-read w y)) (shown_in t (windows_of l)) (every-within t (windows_of l))
        ∙ within_same entries l k.lawful t (live l) (none-live l))

    -- the hits are those of the ledger cut down to the stretch
    pub query-within : (m : ℕ) (ns : List Name)
        → ranked (lists.existing (stored_in (read_by t a)) (shown_in t (windows_of l))) (count_of (read_by t a)) (shown_in t (windows_of l)) m (numbers_of l.identifiers ns)
        ≡ ranked (existing_within t l) l.count (shown_within t l) m ns
    unfolding count_of
    query-within m ns =
        let is = numbers_of l.identifiers ns in
        ap (λ (n : ℕ). ranked n (count_of (read_by t a)) (shown_in t (windows_of l)) m is) existing-within
        ∙ ranked-agree (existing_within t l) (count_of (read_by t a)) (count_by_number l) (within t) (shown_in t (windows_of l)) m is (every-within t (windows_of l)) (λ i w y. ap above (sums-read w y i))
        ∙ ranked-windows (count_by_number l) (shown_in t (windows_of l)) (shown_within t l) (within_same entries l k.lawful t) (existing_within t l) m is
        ∙ ranked-names (existing_within t l) l.count l.identifiers ns (shown_within t l) m (λ n w z. k.lawful.uncounted n w z)

  -- ---- a mean, which reads all

  -- what is read
  read_all : count_of (read_by whole a) ≡ count_by_number l
  unfolding count_of
  read_all = ap (λ (b : Account). λ i w. above (sum (stored_in b) i w)) (read_whole blocks entries l a k whole (omega arith) (omega arith)) ∙ unfold count_of in counts-read

  shown-all : shown_in whole (windows_of l) ≡ S.shown (windows_of l)
  shown-all = shown-whole whole (omega arith) (omega arith) (windows_of l)

  pub frequency-same : (n : Name) → frequency_of (lists_of l a) n ≡ frequency l.count (shown l) n
  unfolding frequency_of frequency
  frequency-same n =
      one-query (frequency (count_of (read_by whole a)) (shown_in whole (windows_of l))) (frequency l.count (shown l)) l.identifiers n
      (λ i. ap₂ (λ (c : ℕ → ℕ → ℕ) (ws : List ℕ). frequency c ws i) read_all shown-all ∙ frequency-windows (count_by_number l) (S.shown (windows_of l)) (shown l) shown-alike i)
      (λ m z. frequency-none l.count m (λ w. k.lawful.uncounted m w z) (shown l))

  pub total-same : (n : Name) → total_of (lists_of l a) n ≡ total l.count (shown l) n
  unfolding total_of total
  total-same n =
      one-query (total (count_of (read_by whole a)) (shown_in whole (windows_of l))) (total l.count (shown l)) l.identifiers n
      (λ i. ap₂ (λ (c : ℕ → ℕ → ℕ) (ws : List ℕ). total c ws i) read_all shown-all ∙ total-windows (count_by_number l) (S.shown (windows_of l)) (shown l) shown-alike i)
      (λ m z. total-none l.count m (λ w. k.lawful.uncounted m w z) (shown l))
