-- Stretches of windows: the partitions passed over have no posting of its windows, so that what is read has every count there; and after every history each sum over
-- what is read fits.
use Rattle.lists.proofs.Prelude.{Bool, true, false, ◌&&◌, not, List, [], ◌∷◌, ◌++◌, ◌≡◌, refl, sym, ap, ◌∙◌, ℕ, suc, ◌≤◌, arith, leb, pos, ◌+ℤ◌, +ℤ_idl, le-leb, leb-true, leb-false, not-true, keep, every, empty, down, by-test, and_left, and_right, and_both, every-keep, every-kept, every-from, every-down, keep_all, keep-both, empty-not}
use Rattle.postings.specs.declared.Posting.{Posting}
use Rattle.postings.specs.declared.Stretch.{Stretch}
use Rattle.postings.specs.Sums.{sum, under}
use Rattle.postings.specs.Spans.{lowest, highest}
use Rattle.postings.proofs.Sums.{sum-append}
use Rattle.postings.proofs.Spans.{lowest-some, span-some, highest-most, sum_below, sum-beyond}
use Rattle.state.specs.declared.Windows.{Windows}
use Rattle.state.specs.Shown.{shows, shown, within, shows_in, shown_in}
use Rattle.partitions.specs.Formed.{sums_in_range}
use Rattle.accounts.specs.Account.{Portion, Account, postings_in, stored_in, reaches, read_by}
use Rattle.accounts.specs.Ledger.{Ledger}
use Rattle.accounts.proofs.Parts.{identifier-in-range}
use Rattle.accounts.proofs.Rises.{chosen_by}
use Rattle.accounts.proofs.Shaped.{portion_rule}
use Rattle.accounts.proofs.Ranged.{stored_rule, stored-kept, ranged-partitions, every-portion}
use Rattle.accounts.proofs.Steady.{top, top-le}
use Rattle.accounts.proofs.Kept.{Kept, some-small, some-buffer-small}

-- ---- what is passed over

module _ (t : Stretch) where
  -- a partition wholly outside has nothing in a window of the stretch
  passed_over : (p : Portion) (i w : ℕ) → reaches t p ≡ false → within t w ≡ true → sum p.postings i w ≡ pos 0
  passed_over p i w n y =
      let low = leb-true t.first w (and_left (leb t.first w) _ y) in
      let high = leb-true w t.last (and_right (leb t.first w) _ y) in
      by-test (leb t.first (highest p.postings))
      (λ e. let above-last = leb-false (lowest p.postings) t.last (sym (ap (λ b. b && leb (lowest p.postings) t.last) e) ∙ n) in
      sum_below i w p.postings (omega arith))
      (λ e. let below-first = leb-false t.first (highest p.postings) e in sum-beyond i w p.postings (omega arith))

  sum-reached : (ps : List Portion) (i w : ℕ) → within t w ≡ true → sum (postings_in (keep (reaches t) ps)) i w ≡ sum (postings_in ps) i w
  sum-reached [] i w y = refl
  sum-reached (p ∷ ps) i w y =
      let rest = sum-reached ps i w y in
      by-test (reaches t p)
      (λ r. rw r (sum-append i w p.postings _ ∙ ap (λ z. sum p.postings i w +ℤ z) rest ∙ sym (sum-append i w p.postings (postings_in ps))))
      (λ n. rw n (rest ∙ sym (+ℤ_idl _) ∙ ap (λ z. z +ℤ sum (postings_in ps) i w) (sym (passed_over p i w n y)) ∙ sym (sum-append i w p.postings (postings_in ps))))

  -- what is read has every sum of the stretch's windows
  pub sum-read : (a : Account) (i w : ℕ) → within t w ≡ true → sum (stored_in (read_by t a)) i w ≡ sum (stored_in a) i w
  unfolding read_by
  sum-read a i w y =
      sum-append i w (postings_in (keep (reaches t) a.partitions)) a.buffer
      ∙ ap (λ z. z +ℤ sum a.buffer i w) (sum-reached a.partitions i w y) ∙ sym (sum-append i w (postings_in a.partitions) a.buffer)

  -- ---- the windows looked at

  -- those that show, cut down to the stretch
  pub shown-in : (v : Windows) → shown_in t v ≡ keep (within t) (shown v)
  unfolding shown_in shown
  shown-in v = keep-both (within t) (shows v.current) (shows_in t v.current) (λ w. refl) (down 65535)

  pub every-within : (v : Windows) → every (within t) (shown_in t v) ≡ true
  every-within v = rw (shown-in v) (every-kept (within t) (shown v))

  -- a stretch of all windows cuts nothing off
  pub shown-whole : t.first ≤ 1 → 65535 ≤ t.last → (v : Windows) → shown_in t v ≡ shown v
  shown-whole low high v =
      shown-in v
      ∙ keep_all (within t) (shown v)
      (unfold shown in every-keep (shows v.current) (within t) (down 65535)
      (every-down (within t) 65535 (λ w h. and_both (leb t.first (suc w)) _ (le-leb t.first (suc w) (omega arith)) (le-leb (suc w) t.last (omega arith)))))

-- ---- after every history

-- the rule of a span: the lowest at least 1, at most the highest, which is at most 65,535
abbrev pub span_rule : List Posting → Bool
span_rule l = leb 1 (lowest l) && (leb (lowest l) (highest l) && leb (highest l) 65535)

-- as plain facts
pub record Spanned (l : List Posting) : Type 0 where
  pub some : 1 ≤ lowest l
  pub least : lowest l ≤ highest l
  pub most : highest l ≤ 65535

pub span-kept : (l : List Posting) → span_rule l ≡ true → Spanned l
span-kept l e =
    let r = and_right (leb 1 (lowest l)) _ e in
    record {
      some = leb-true _ _ (and_left (leb 1 (lowest l)) _ e);
      least = leb-true _ _ (and_left (leb (lowest l) (highest l)) _ r);
      most = leb-true _ _ (and_right (leb (lowest l) (highest l)) _ r);
    }

module _ (blocks entries : ℕ) (l : Ledger) (a : Account) (k : Kept blocks entries l a) where
  -- every partition keeps it
  pub spans-hold : every (λ (p : Portion). span_rule p.postings) a.partitions ≡ true
  spans-hold =
      every-from portion_rule (λ (p : Portion). every (stored_rule (top l)) p.postings) (λ (p : Portion). span_rule p.postings) spans
      a.partitions k.shaped.parts (sym (every-portion (stored_rule (top l)) a.partitions) ∙ ranged-partitions (top l) a k.ranged)
    where
      given : (q : Posting) → stored_rule (top l) q ≡ true → stored_rule (top l) q ≡ true → leb q.window 65535 ≡ true
      given q r _ = le-leb q.window 65535 (omega (arith, (stored-kept (top l) q r).most, top-le l, k.lawful.last_fits))

      spans : (p : Portion) → portion_rule p ≡ true → every (stored_rule (top l)) p.postings ≡ true → span_rule p.postings ≡ true
      spans p x y =
          let m = p.postings in
          let some = lowest-some m (every-from (stored_rule (top l)) (stored_rule (top l)) (λ q. leb 1 q.window) (λ q r _. le-leb 1 q.window (stored-kept (top l) q r).some) m y y) in
          let least = span-some m (empty-not m (not-true _ (and_left (not (empty m)) _ x))) in
          let most = highest-most m (every-from (stored_rule (top l)) (stored_rule (top l)) (λ q. leb q.window 65535) given m y y) in
          rw (le-leb _ _ some, le-leb _ _ least, le-leb _ _ most)

  -- a stretch of all windows passes over none
  module _ (t : Stretch) (low : t.first ≤ 1) (high : 65535 ≤ t.last) where
    pub all-reached : every (reaches t) a.partitions ≡ true
    all-reached = every-from spanned-in spanned-in (reaches t) reached a.partitions spans-hold spans-hold
      where
        spanned-in : Portion → Bool
        spanned-in p = span_rule p.postings

        reached : (p : Portion) → spanned-in p ≡ true → spanned-in p ≡ true → reaches t p ≡ true
        reached p x _ =
            let s = span-kept p.postings x in
            and_both (leb t.first (highest p.postings)) _
            (le-leb t.first (highest p.postings) (omega (arith, s.some, s.least))) (le-leb (lowest p.postings) t.last (omega (arith, s.least, s.most)))

    pub read_whole : read_by t a ≡ record { buffer = a.buffer; partitions = a.partitions; steps = 0 }
    unfolding read_by
    read_whole = ap (λ ps. record { buffer = a.buffer; partitions = ps; steps = 0 }) (keep_all (reaches t) a.partitions all-reached)

  -- ---- refusal 3: the sums over partitions that pass a test, whichever, and with the buffer

  module _ (test : Portion → Bool) (i : ℕ) where
    pub some-in-range : sums_in_range (under i (postings_in (keep test a.partitions))) ≡ true
    some-in-range = identifier-in-range i (postings_in (keep test a.partitions)) (some-small blocks entries l a k (chosen_by test a.partitions))

    pub some-buffer-in-range : sums_in_range (under i (postings_in (keep test a.partitions) ++ a.buffer)) ≡ true
    some-buffer-in-range = identifier-in-range i (postings_in (keep test a.partitions) ++ a.buffer) (some-buffer-small blocks entries l a k (chosen_by test a.partitions))
