-- After a removal the rules hold that held before it, and nothing has moved for any other window.
use Rattle.lists.proofs.Prelude.{Bool, true, false, ◌&&◌, not, ⊎_elim, inl, inr, List, [], ◌∷◌, ◌++◌, map, foldr, List-as-Memᴰ, List·Memᴰ·head, List·Memᴰ·tail, ◌≡◌, refl, sym, ap, ◌∙◌, ℕ, ◌+◌, ◌-◌, ◌≤◌, arith, eqb, leb, ltb, ℤ, pos, neg_ℤ, ◌+ℤ◌, +ℤ_idl, +ℤ_idr, length, length-append, length-map, replicate, length-replicate, leb-true, le-leb, eqb-true, eqb-false, eq-eqb, ne_eqb, ltb-false, keep, every, joined, true≢false, every-keep, by-test, and_left, and_right, and_both, or-none, every_append, every-from, every-mem, every-member, every-kept, length-keep, never, not-true}
use Rattle.postings.specs.declared.Posting.{Posting}
use Rattle.postings.specs.Order.{precedes, ordered}
use Rattle.postings.specs.Merge.{counting, is_zero, put, is_counted, pairs, nonzero, negated}
use Rattle.postings.specs.Sums.{sum}
use Rattle.postings.proofs.Order.{any-before}
use Rattle.postings.proofs.Sums.{sum-append, sum-puts, sum-pairs, sum-nonzero, sum-negated}
use Rattle.postings.proofs.Merge.{every-puts, puts-ordered, pairs-ordered, nonzero-ordered, nonzero-counts, length-puts, sum-none, ordered-sum, same-sums}
use Rattle.state.specs.declared.Partition.{Partition}
use Rattle.state.specs.declared.State.{State}
use Rattle.state.specs.Views.{no_posting, buffered, finished}
use Rattle.state.specs.Rules.{listed_rule, posting_rule, state_rule}
use Rattle.state.proofs.Rows.{held}
use Rattle.state.proofs.Forms.{buffer-rule}
use Rattle.state.proofs.Kept.{Shut, Opened, rules-of, state-rule, state-kept, windows-rule, posting-kept, posting-rule}
use Rattle.partitions.specs.Reading.{postings_of, in_partitions, stored}
use Rattle.partitions.specs.Formed.{list_rule, lists_rule, in_range, sums_in_range}
use Rattle.flushes.proofs.Flushed.{list-windows}
use Rattle.scans.specs.Keys.{is_keyed}
use Rattle.sums.specs.Tally.{of_window, counts_of, lists_ruled, window_formed}
use Rattle.sums.proofs.Windowed.{window-sum, window-fits, counts-ordered, counts_some, counts-own, counts-other, counts-pass}
use Rattle.removals.specs.Removal.{is_live, removed}
use Rattle.removals.proofs.Given.{names_open, no_live_window}
use Rattle.removals.proofs.Takeables.{nat_abs-neg, back}

-- ---- lists of postings

-- a sum that is not 0 stands in a list in order
sum-in : (l : List Posting) → ordered l ≡ true → (i v : ℕ) → is_zero (sum l i v) ≡ false → List-as-Memᴰ (record { id = i; window = v; count = sum l i v }) l
sum-in [] o i v n = never (sym n)
sum-in (p ∷ l) o i v n =
    by-test (eqb p.id i && eqb p.window v)
    (λ y. let a : p.id ≡ i = eqb-true _ _ (and_left (eqb p.id i) _ y) in
    let b : p.window ≡ v = eqb-true _ _ (and_right (eqb p.id i) _ y) in
    let z : sum l i v ≡ pos 0 = rw (a, b) at (sum-none p l (any-before p l (and_left (every (precedes p) l) _ o))) in
    rw (y, z, +ℤ_idr p.count, ← a, ← b) (List·Memᴰ·head refl))
    (λ f. rw (f, +ℤ_idl (sum l i v)) (List·Memᴰ·tail (sum-in l (and_right (every (precedes p) l) _ o) i v (rw (f, +ℤ_idl (sum l i v)) at n))))

-- all lists of a partition may be used, where they keep their rule
list-alone : (W : List ℕ) (p : Partition) → lists_rule W p ≡ true → list_rule (postings_of W p) ≡ true
unfolding lists_rule
list-alone W p e = and_left (list_rule (postings_of W p)) _ e

-- windows with the same sums
module _ (v : ℕ) (l m : List Posting) (same : (i : ℕ) → sum l i v ≡ sum m i v) where
  -- are in range alike
  range_same : sums_in_range (of_window v m) ≡ true → sums_in_range (of_window v l) ≡ true
  unfolding sums_in_range pairs
  range_same e =
      every-member (λ p. in_range p.count) (pairs (of_window v l))
      (λ p h. let q : p.window ≡ v = eqb-true _ _ (every-mem (λ q. eqb q.window v) (pairs (of_window v l)) (every-puts (λ q. eqb q.window v) (λ q c e. e) (of_window v l) [] (every-kept (λ q. eqb q.window v) l) refl) h) in
      let s : p.count ≡ sum m p.id v =
      sym (ordered-sum (pairs (of_window v l)) (pairs-ordered (of_window v l)) h) ∙ sum-pairs p.id p.window (of_window v l) ∙ rw q (window-sum v p.id l ∙ same p.id) in
      rw s (le-leb _ _ (window-fits v p.id m e)))

  -- and have the same counts
  counts_same : counts_of v l ≡ counts_of v m
  counts_same =
      same-sums (counts_of v l) (counts_of v m) (counts-ordered v l) (counts-ordered v m) (counts_some v l) (counts_some v m)
      (λ i u. by-test (eqb u v)
      (λ y. let q = eqb-true u v y in rw q (counts-own v l i ∙ same i ∙ sym (counts-own v m i)))
      (λ n. let q = eqb-false u v n in counts-other v l i u q ∙ sym (counts-other v m i u q)))

-- ---- a removal

module _ (s : State) (W : List ℕ) (rule : state_rule s ≡ true) (lists : lists_ruled W s ≡ true) (w : ℕ) (formed : window_formed W s w ≡ true)
    (keyed : every is_keyed (counts_of w (stored W s)) ≡ true) (shut : names_open s w ≡ false) (live : no_live_window s w (counts_of w (stored W s)) ≡ false)
    (room : length (counts_of w (stored W s)) + length (buffered s.buffer) ≤ 128) where
  abbrev cs : List Posting
  cs = counts_of w (stored W s)

  abbrev parts : List Posting
  parts = in_partitions W (finished s.partitions)

  abbrev old : List Posting
  old = buffered s.buffer

  abbrev left : List Posting
  left = nonzero (foldr put old (negated cs))

  split : (i v : ℕ) → sum (stored W s) i v ≡ sum parts i v +ℤ sum old i v
  unfolding stored
  split i v = sum-append i v parts old

  sum_left : (i v : ℕ) → sum left i v ≡ neg_ℤ (sum cs i v) +ℤ sum old i v
  sum_left i v = sum-nonzero i v (foldr put old (negated cs)) ∙ sum-puts i v (negated cs) old ∙ ap (λ (z : ℤ). z +ℤ sum old i v) (sum-negated i v cs)

  -- of the window the buffer has the sums over the partitions, negated
  sum-own : (i : ℕ) → sum left i w ≡ neg_ℤ (sum parts i w)
  sum-own i = sum_left i w ∙ rw (counts-own w (stored W s) i, split i w) (back (sum parts i w) (sum old i w))

  -- of every other what it had
  sum-other : (i v : ℕ) → (v ≡ w → ⊥) → sum left i v ≡ sum old i v
  sum-other i v n = sum_left i v ∙ rw (counts-other w (stored W s) i v n) (+ℤ_idl (sum old i v))

  order : ordered left ≡ true
  order = nonzero-ordered _ (puts-ordered (negated cs) old (state-kept s rule).buffer.order)

  short : length left ≤ 128
  unfolding nonzero negated
  short = omega (arith, room, length-keep is_counted (foldr put old (negated cs)), length-puts (negated cs) old, length-map (keep is_counted cs) (λ p. counting p (neg_ℤ p.count)), length-keep is_counted cs)

  -- has a posting an identifier of the register and a window of its own
  abbrev proper : Posting → Bool
  proper p = leb p.id 1023 && leb 1 p.window

  stored-windows : every (λ p. leb 1 p.window) (stored W s) ≡ true
  unfolding stored in_partitions
  stored-windows =
      every_append (λ p. leb 1 p.window) parts old
      ∙ and_both (every (λ p. leb 1 p.window) parts) _ (each (finished s.partitions) lists)
      (every-from (posting_rule s.windows) (posting_rule s.windows) (λ p. leb 1 p.window) (λ p e f. le-leb _ _ (posting-kept s.windows p e).some) old (state-kept s rule).buffer.rules (state-kept s rule).buffer.rules)
    where
      each : (l : List Partition) → every (lists_rule W) l ≡ true → every (λ p. leb 1 p.window) (joined (map (postings_of W) l)) ≡ true
      each [] e = refl
      each (p ∷ l) e =
          every_append (λ q. leb 1 q.window) (postings_of W p) (joined (map (postings_of W) l))
          ∙ and_both (every (λ q. leb 1 q.window) (postings_of W p)) _ (list-windows (postings_of W p) (list-alone W p (and_left (lists_rule W p) _ e))) (each l (and_right (lists_rule W p) _ e))

  counts-proper : every proper cs ≡ true
  counts-proper =
      every-from is_keyed (λ p. leb 1 p.window) proper (λ p e f. and_both (leb p.id 1023) _ (and_left (leb p.id 1023) _ e) f) cs keyed
      (counts-pass w (stored W s) (λ p. leb 1 p.window) (λ q c e. e) stored-windows)

  left-proper : every proper left ≡ true
  unfolding nonzero negated
  left-proper =
      every-keep is_counted proper (foldr put old (negated cs))
      (every-puts proper (λ q c e. e) (negated cs) old (turned (keep is_counted cs) (every-keep is_counted proper cs counts-proper))
      (every-from (posting_rule s.windows) (posting_rule s.windows) proper (λ p e f. let k = posting-kept s.windows p e in and_both (leb p.id 1023) _ (le-leb _ _ k.id) (le-leb _ _ k.some)) old (state-kept s rule).buffer.rules (state-kept s rule).buffer.rules))
    where
      turned : (l : List Posting) → every proper l ≡ true → every proper (map (λ p. counting p (neg_ℤ p.count)) l) ≡ true
      turned [] e = refl
      turned (p ∷ l) e = and_both (proper p) _ (and_left (proper p) _ e) (turned l (and_right (proper p) _ e))

  -- the window was given, and is not open
  given : w ≤ s.windows.last
  given = ltb-false s.windows.last w (or-none (ltb s.windows.last w) _ (or-none (not (is_live cs)) _ live).1).0

  not-open : 1 ≤ w → w ≡ s.windows.current → ⊥
  not-open h e = absurd (true≢false (sym named ∙ shut))
    where
      named : names_open s w ≡ true
      named = rw (ne_eqb s.windows.current 0 (λ z. absurd (omega arith)), eq-eqb w s.windows.current e)

  -- a buffered posting of the window
  of-own : (p : Posting) → p.window ≡ w → p.count ≡ neg_ℤ (sum parts p.id w) → is_zero p.count ≡ false → proper p ≡ true → posting_rule s.windows p ≡ true
  of-own p q e z f = posting-rule s.windows p (record {
    id = leb-true _ _ (and_left (leb p.id 1023) _ f);
    some = leb-true _ _ (and_right (leb p.id 1023) _ f);
    given = omega (arith, given);
    counts = z;
    small = rw (e, nat_abs-neg (sum parts p.id w)) (window-fits w p.id parts (and_left (sums_in_range (of_window w parts)) _ formed));
    own = λ h. absurd (not-open (omega (arith, leb-true 1 p.window (and_right (leb p.id 1023) _ f))) (sym q ∙ h));
  })

  -- and of another, which was buffered before
  of_other : (p : Posting) → p.count ≡ sum old p.id p.window → is_zero p.count ≡ false → posting_rule s.windows p ≡ true
  of_other p e z =
      every-mem (posting_rule s.windows) old (state-kept s rule).buffer.rules
      (rw (← e) at (sum-in old (state-kept s rule).buffer.order p.id p.window (rw e at z)))

  -- what is buffered keeps the rule of a buffered posting
  postings : every (posting_rule s.windows) left ≡ true
  postings =
      every-member (posting_rule s.windows) left
      (λ p m. let e = sym (ordered-sum left order m) in
      let z = not-true (is_zero p.count) (every-mem is_counted left (nonzero-counts _) m) in
      by-test (eqb p.window w)
      (λ y. let q = eqb-true p.window w y in of-own p q (e ∙ rw q (sum-own p.id)) z (every-mem proper left left-proper m))
      (λ n. of_other p (e ∙ sum-other p.id p.window (eqb-false p.window w n)) z))

  pub buffered-removed : buffered (removed s cs).buffer ≡ left
  unfolding removed
  buffered-removed = held 128 no_posting left

  pub wide-removed : length (removed s cs).buffer.postings ≡ 128
  unfolding removed
  wide-removed = omega (arith, short, length-append left (replicate (128 - length left) no_posting), length-replicate (128 - length left) no_posting)

  pub rule-removed : state_rule (removed s cs) ≡ true
  unfolding removed listed_rule posting_rule
  rule-removed =
      let a = rules-of s rule in
      let k = (state-kept s rule).windows in
      state-rule (removed s cs) (record {
        lengths = a.lengths;
        windows = windows-rule _ (record {
          live = omega (arith, k.live);
          window = ⊎_elim
              (λ (o : Shut s.windows). inl (record { number = o.number; events = o.events }))
              (λ (o : Opened s.windows). inr (record { some = o.some; number = o.number; events = o.events; below = omega (arith, o.below) }))
              k.window;
        });
        listed = a.listed;
        buffer = buffer-rule _ left short order postings;
        partitions = a.partitions;
        taken = a.taken;
        merge = a.merge;
      })

  pub stored-removed : stored W (removed s cs) ≡ parts ++ left
  unfolding stored removed
  stored-removed = ap (λ (l : List Posting). parts ++ l) (held 128 no_posting left)

  -- nothing has moved for another window
  module _ (v : ℕ) (n : v ≡ w → ⊥) where
    sum_same : (i : ℕ) → sum (stored W (removed s cs)) i v ≡ sum (stored W s) i v
    sum_same i = ap (λ (l : List Posting). sum l i v) stored-removed ∙ sum-append i v parts left ∙ rw (sum-other i v n) (sym (split i v))

    pub counts-removed : counts_of v (stored W (removed s cs)) ≡ counts_of v (stored W s)
    counts-removed = counts_same v (stored W (removed s cs)) (stored W s) sum_same

    pub formed-removed : window_formed W s v ≡ true → window_formed W (removed s cs) v ≡ true
    unfolding removed
    formed-removed e =
        let b = and_right (sums_in_range (of_window v parts)) _ e in
        and_both (sums_in_range (of_window v parts)) _ (and_left (sums_in_range (of_window v parts)) _ e)
        (and_both (sums_in_range (of_window v (stored W (removed s cs)))) _ (range_same v (stored W (removed s cs)) (stored W s) sum_same (and_left (sums_in_range (of_window v (stored W s))) _ b))
        (rw counts-removed (and_right (sums_in_range (of_window v (stored W s))) _ b)))
