-- Lists that stand for a ledger and its account keep every rule of the state, and what a call uses of them is well formed: refusals 1 and 3 have no
-- cause.
use Rattle.lists.proofs.Prelude.{Bool, true, false, ◌||◌, ◌&&◌, not, cond, true≢false, List, [], ◌∷◌, map, List-as-Memᴰ, ◌⊎◌, inl, inr, ◌≡◌, refl, sym, ap, ap₂, ◌∙◌, ℕ, zero, suc, ◌+◌, ◌-◌, ◌*◌, ◌<◌, ◌≤◌, arith, eqb, leb, ℤ, pos, negsuc, ◌+ℤ◌, pos-ne-negsuc, length, get_or, length-map, eqb-false, le-leb, lt-leb, leb-true, not-true, keep, every, empty, total_by, down, by-test, and_left, and_right, and_both, every-from, every-keep, every-mem, length-keep, elem-every, every_map, every-member, empty-is, every-both}
use Rattle.postings.specs.declared.Posting.{Posting}
use Rattle.postings.specs.declared.Stretch.{Stretch}
use Rattle.postings.specs.Order.{ordered}
use Rattle.postings.specs.Merge.{is_zero, is_counted, pairs}
use Rattle.postings.specs.Sums.{sum, under, above}
use Rattle.postings.proofs.Order.{keep-ordered}
use Rattle.postings.proofs.Merge.{ordered-sum}
use Rattle.state.specs.declared.Windows.{Windows}
use Rattle.state.specs.declared.Partition.{Partition}
use Rattle.state.specs.Views.{listed_of, buffer_of, partitions_of}
use Rattle.state.specs.Levels.{level_limit, levels, of_level}
use Rattle.state.specs.Rules.{windows_rule, listed_rule, posting_rule, buffer_rule, record_rule, never_rise, partitions_rule}
use Rattle.state.proofs.Forms.{listed-rule, buffer-rule, partitions-rule}
use Rattle.state.proofs.Kept.{Shut, Opened, windows-rule, PostingKept, posting-rule, record-rule}
use Rattle.levels.proofs.Runs.{falls}
use Rattle.levels.proofs.Replaced.{at-levels, levels-room}
use Rattle.identifiers.specs.Names.{number_of, numbers_of}
use Rattle.partitions.specs.Layout.{length_of}
use Rattle.partitions.specs.Formed.{list_rule, in_range, sums_in_range}
use Rattle.stretches.specs.Reached.{whole}
use Rattle.removals.specs.Removal.{counts_of}
use Rattle.plans.specs.Merging.{is_last}
use Rattle.engine.specs.Calls.{Call, Open, Event, Close, Remove, RemoveAll, Flush, Step, Query, Mean, Forecast}
use Rattle.accounts.specs.Account.{Portion, Account, postings_in, stored_in, reaches, read_by, blocks_of, blocks_in, blocks_ahead, due_of, inputs_of}
use Rattle.accounts.specs.Ledger.{Ledger, live, existing, count_by_number}
use Rattle.accounts.specs.Lists.{Lists, record_like, lists_rule, identifier_rule, lists_ruled, read_rule, window_sums, window_rule, inputs_rule, call_rule}
use Rattle.accounts.proofs.Parts.{sums-in-range, window-in-range}
use Rattle.accounts.proofs.Stored.{level_of, sum-stored}
use Rattle.accounts.proofs.Steps.{progress-due}
use Rattle.accounts.proofs.Rises.{rises-most, part-counts}
use Rattle.accounts.proofs.Shaped.{portion_rule}
use Rattle.accounts.proofs.Fits.{Fits, cost, lengths-fit}
use Rattle.accounts.proofs.Numbers.{numbers-different, numbers-small}
use Rattle.accounts.proofs.Live.{existing-shut, existing-open}
use Rattle.accounts.proofs.Lawful.{Lawful}
use Rattle.accounts.proofs.Held.{counts-length}
use Rattle.accounts.proofs.Ranged.{stored_rule, stored-kept, ranged-partitions, ranged-buffer, every-portion, every-oldest}
use Rattle.accounts.proofs.Steady.{top, top-le}
use Rattle.accounts.proofs.Stretches.{span_rule, span-kept, spans-hold, some-in-range, some-buffer-in-range}
use Rattle.accounts.proofs.Kept.{Kept, partitions-small, stored-small, inputs-small, buffer-small}

-- the ledger's numbers as the state has them
abbrev pub windows_of : Ledger → Windows
windows_of l = record { last = l.last; live = existing l; current = cond l.is_open l.last 0; events = l.events }

-- the lists that stand for a ledger and an account
abbrev pub lists_of : Ledger → Account → Lists
lists_of l a = record { windows = windows_of l; names = l.identifiers; listed = map (number_of l.identifiers) l.listed; account = a }

-- ---- windows

-- the open window's number
pub current-open : (l : Ledger) → l.is_open ≡ true → (windows_of l).current ≡ l.last
current-open l o = ap (λ t. cond t l.last 0) o

pub current-shut : (l : Ledger) → l.is_open ≡ false → (windows_of l).current ≡ 0
current-shut l n = ap (λ t. cond t l.last 0) n

length-down : (m : ℕ) → length (down m) ≡ m
unfolding down
length-down zero = refl
length-down (suc m) = ap suc (length-down m)

few-live : (l : Ledger) (m : ℕ) → length (keep (live l) (down m)) ≤ m
few-live l m = omega (arith, length-keep (live l) (down m), length-down m)

module _ (entries : ℕ) (l : Ledger) (s : Lawful entries l) where
  -- N is below an open window's number
  below-open : l.is_open ≡ true → existing l < l.last
  below-open o = omega (arith, existing-open l o, few-live l (l.last - 1), s.given o)

  existing-most : existing l ≤ l.last
  existing-most = by-test l.is_open (λ o. omega (arith, below-open o)) (λ n. omega (arith, existing-shut l n, few-live l l.last))

  windows-hold : windows_rule (windows_of l) ≡ true
  windows-hold = windows-rule (windows_of l) (record { live = existing-most; window = by-test l.is_open opened shut })
    where
      shut : l.is_open ≡ false → Shut (windows_of l) ⊎ Opened (windows_of l)
      shut n = inl (record { number = current-shut l n; events = (s.shut n).0 })

      opened : l.is_open ≡ true → Shut (windows_of l) ⊎ Opened (windows_of l)
      opened o = inr (record {
        some = omega (arith, current-open l o, s.given o);
        number = current-open l o;
        events = s.events_fit;
        below = omega (arith, current-open l o, below-open o);
      })

  listed-holds : entries ≤ 1024 → listed_rule (windows_of l) (listed_of (map (number_of l.identifiers) l.listed)) ≡ true
  listed-holds small =
      listed-rule (windows_of l) (map (number_of l.identifiers) l.listed)
      (rw (length-map l.listed (number_of l.identifiers)) s.listed_fit)
      (numbers-small l.identifiers l.listed 1023 (omega (arith, s.fits)) s.listed_in)
      (numbers-different l.identifiers l.listed s.listed_in s.listed_once)
      (λ z. by-test l.is_open (λ o. absurd (omega (arith, s.given o, current-open l o))) (λ n. ap (λ ms. length (map (number_of l.identifiers) ms)) (s.shut n).1))

-- ---- partitions

-- the part of a well-formed list that one identifier has is well formed
part-formed : (i : ℕ) (m : List Posting) → list_rule m ≡ true → list_rule (under i m) ≡ true
unfolding list_rule
part-formed i m x =
    and_both (ordered (under i m)) _ (keep-ordered (λ q. eqb q.id i) m (and_left (ordered m) _ x))
    (every-keep (λ q. eqb q.id i) (λ q. leb 1 q.window && not (is_zero q.count)) m (and_right (ordered m) _ x))

-- a partition's record has its level
level-records : (v : ℕ) (ps : List Portion) → of_level (λ (q : Partition). q.level) v (map record_like ps) ≡ of_level level_of v ps
level-records v [] = refl
level-records v (p ∷ ps) = by-test (eqb (level_of p) v) (λ y. rw y (ap suc (level-records v ps))) (λ n. rw n (level-records v ps))

rise-records : (ps : List Portion) → never_rise (map record_like ps) ≡ falls level_of ps
rise-records [] = refl
rise-records (p ∷ ps) = ap₂ ◌&&◌ (every_map (λ (q : Partition). leb q.level (level_of p)) record_like ps) (rise-records ps)

module _ (blocks entries : ℕ) (l : Ledger) (a : Account) (k : Kept blocks entries l a) where
  -- at most 16 of level 0, so at most 51 in all
  partitions-few : length a.partitions ≤ 51
  partitions-few = omega (arith, levels-room level_of a.partitions k.shaped.low k.shaped.limits, zero_room)
    where
      zero_room : of_level level_of 0 a.partitions ≤ 16
      zero_room = leb-true _ _ (at-levels (λ u. leb (of_level level_of u a.partitions) (level_limit u)) k.shaped.limits 0 (omega arith))

  records-hold : every (record_rule blocks) (map record_like a.partitions) ≡ true
  records-hold =
      every_map (record_rule blocks) record_like a.partitions
      ∙ every-from (λ p. leb (level_of p) 5) (λ p. fit p && span_rule p.postings) (λ p. record_rule blocks (record_like p)) ruled a.partitions k.shaped.low
      (every-both fit (λ (p : Portion). span_rule p.postings) a.partitions
      ∙ and_both (every fit a.partitions) _ (lengths-fit blocks a.partitions k.shaped.parts room) (spans-hold blocks entries l a k))
    where
      fit : Portion → Bool
      fit p = leb (length_of p.postings) (4092 * blocks)

      ruled : (p : Portion) → leb (level_of p) 5 ≡ true → (fit p && span_rule p.postings) ≡ true → record_rule blocks (record_like p) ≡ true
      ruled p x y =
          let s = span-kept p.postings (and_right (fit p) _ y) in
          record-rule blocks (record_like p) (record { level = leb-true _ _ x; length = leb-true _ _ (and_left (fit p) _ y); some = s.some; span = s.least })

      room : cost a.partitions ≤ blocks
      room = omega (arith, all)
        where
          all : cost a.partitions + blocks_ahead a ≤ blocks
          all = unfold cost in (within k.fits)
            where
              within : Fits blocks a → total_by (λ (p : Portion). blocks_of p.postings) a.partitions + blocks_ahead a ≤ blocks
              within h = unfold Fits blocks_in in h

  partitions-hold : partitions_rule blocks (partitions_of (map record_like a.partitions)) ≡ true
  partitions-hold =
      partitions-rule blocks (map record_like a.partitions) (rw (length-map a.partitions record_like) partitions-few) records-hold
      (rise-records a.partitions ∙ k.shaped.fall)
      (every-from within within (λ v. leb (of_level (λ (q : Partition). q.level) v (map record_like a.partitions)) (level_limit v)) (λ v x y. rw (level-records v a.partitions) x) levels k.shaped.limits k.shaped.limits)
    where
      within : ℕ → Bool
      within v = leb (of_level level_of v a.partitions) (level_limit v)

  -- ---- the buffer

  pub buffer-hold : buffer_rule (windows_of l) (buffer_of a.buffer) ≡ true
  buffer-hold =
      buffer-rule (windows_of l) a.buffer k.shaped.room k.shaped.order
      (every-member (posting_rule (windows_of l)) a.buffer (λ p m. posting-rule (windows_of l) p (kept p m)))
    where
      kept : (p : Posting) → List-as-Memᴰ p a.buffer → PostingKept (windows_of l) p
      kept p m =
          let r = stored-kept (top l) p (every-mem (stored_rule (top l)) a.buffer (ranged-buffer (top l) a k.ranged) m) in
          let one : sum a.buffer p.id p.window ≡ p.count = ordered-sum a.buffer k.shaped.order m in
          let some : is_zero p.count ≡ false = not-true _ (every-mem is_counted a.buffer k.shaped.counted m) in
          record {
            id = r.id;
            some = r.some;
            given = omega (arith, r.most, top-le l);
            counts = some;
            small = rw (← one) (buffer-small blocks entries l a k p.id p.window);
            own = λ q. by-test l.is_open (λ o. own p o (q ∙ current-open l o) one some) (λ n. absurd (omega (arith, r.some, q, current-shut l n)));
          }
        where
          -- a count that is not 0 is at least 1
          not_none : (z : ℤ) → z ≡ pos (above z) → is_zero z ≡ false → 1 ≤ above z
          not_none (pos zero) e f = absurd (true≢false f)
          not_none (pos (suc n)) e f = omega arith
          not_none (negsuc n) e f = absurd (pos-ne-negsuc 0 n (sym e))

          own : (p : Posting) → l.is_open ≡ true → p.window ≡ l.last → sum a.buffer p.id p.window ≡ p.count → is_zero p.count ≡ false → (1 ≤ above p.count) × (above p.count ≤ l.events)
          own p o q one some =
              let i = p.id in
              let here : sum a.buffer i l.last ≡ p.count = ap (sum a.buffer i) (sym q) ∙ one in
              let parts = sum (postings_in a.partitions) i l.last in
              let above-none : above parts + above p.count ≤ count_by_number l i l.last = omega (arith, rises-most i l.last a.partitions, ap above here, k.steady.own o i) in
              let m = part-counts parts p.count (count_by_number l i l.last) (ap (λ z. parts +ℤ z) (sym here) ∙ sym (sum-stored i l.last a) ∙ k.sums i l.last) above-none in
              (not_none p.count m some, omega (arith, k.lawful.within o (get_or l.identifiers i [])))

  -- ---- refusal 1

  merge-holds : (eqb a.steps 0 || not (empty (due_of a))) ≡ true
  merge-holds =
      by-test (eqb a.steps 0) (λ y. rw y)
      (λ n. let d = eqb-false a.steps 0 n in
      rw n (by-test (empty (due_of a)) (λ e. absurd (progress-due a k.shaped.progress (omega arith) (empty-is (due_of a) e))) (λ e. rw e)))

  pub rules-hold : entries ≤ 1024 → lists_rule blocks (lists_of l a) ≡ true
  unfolding lists_rule
  rules-hold small = rw (windows-hold entries l k.lawful, listed-holds entries l k.lawful small, buffer-hold, partitions-hold) merge-holds

  -- ---- refusal 3

  -- every list of every partition is well formed
  pub lists-formed : every (λ (p : Portion). list_rule p.postings) a.partitions ≡ true
  lists-formed =
      every-from portion_rule (λ (p : Portion). every (stored_rule (top l)) p.postings) (λ (p : Portion). list_rule p.postings)
      (λ p x y. unfold list_rule in formed p.postings (and_right (not (empty p.postings)) _ x) y)
      a.partitions k.shaped.parts (sym (every-portion (stored_rule (top l)) a.partitions) ∙ ranged-partitions (top l) a k.ranged)
    where
      formed : (m : List Posting) → (ordered m && every is_counted m) ≡ true → every (stored_rule (top l)) m ≡ true → (ordered m && every (λ q. leb 1 q.window && not (is_zero q.count)) m) ≡ true
      formed m x y =
          and_both (ordered m) _ (and_left (ordered m) _ x)
          (every-from is_counted (stored_rule (top l)) (λ q. leb 1 q.window && not (is_zero q.count))
          (λ q c r. and_both (leb 1 q.window) _ (le-leb _ _ (stored-kept (top l) q r).some) c) m (and_right (ordered m) _ x) y)

  -- so of those that pass a test
  pub some-formed : (test : Portion → Bool) → every (λ (p : Portion). list_rule p.postings) (keep test a.partitions) ≡ true
  some-formed test = every-keep test (λ (p : Portion). list_rule p.postings) a.partitions lists-formed

  -- and so is the part of it that one identifier has
  under-formed : (i : ℕ) → every (λ (p : Portion). list_rule (under i p.postings)) a.partitions ≡ true
  under-formed i =
      every-from (λ (p : Portion). list_rule p.postings) (λ (p : Portion). list_rule p.postings) (λ (p : Portion). list_rule (under i p.postings))
      (λ p x y. part-formed i p.postings x) a.partitions lists-formed lists-formed

  -- what a query of a stretch reads
  module _ (t : Stretch) where
    lists-read : lists_ruled (read_by t a) ≡ true
    unfolding read_by
    lists-read = some-formed (reaches t)

    identifier-read : (i : ℕ) → identifier_rule (read_by t a) i ≡ true
    unfolding identifier_rule read_by
    identifier-read i =
        rw (every-keep (reaches t) (λ (p : Portion). list_rule (under i p.postings)) a.partitions (under-formed i), some-in-range blocks entries l a k (reaches t) i)
        (some-buffer-in-range blocks entries l a k (reaches t) i)

    read-formed : (is : List ℕ) → read_rule (read_by t a) is ≡ true
    read-formed is = and_both (lists_ruled (read_by t a)) _ lists-read (elem-every (identifier_rule (read_by t a)) is (λ i e. identifier-read i))

  window-sums : (w : ℕ) → window_sums a w ≡ true
  window-sums w =
      rw (window-in-range w (postings_in a.partitions) (partitions-small blocks entries l a k), window-in-range w (stored_in a) (stored-small blocks entries l a k))
      (le-leb (length (counts_of w (stored_in a))) 64 (rw (counts-length entries l k.lawful (stored_in a) w (λ i. k.sums i w)) (k.lawful.held w)))

  pub window-formed : (w : ℕ) → window_rule a w ≡ true
  unfolding window_rule
  window-formed w = and_both (lists_ruled a) _ lists-formed (window-sums w)

  pub inputs-formed : inputs_rule a ≡ true
  unfolding inputs_rule
  inputs-formed =
      rw (every-oldest (λ (p : Portion). list_rule p.postings) (due_of a) a.partitions lists-formed, fit) left
    where
      fit : every (λ p. in_range p.count) (pairs (inputs_of a)) ≡ true
      fit = unfold sums_in_range in sums-in-range (inputs_of a) (inputs-small blocks entries l a k)

      left : (eqb a.steps 0 || not (is_last (pairs (inputs_of a)) a.steps)) ≡ true
      left =
          by-test (eqb a.steps 0) (λ y. rw y)
          (λ n. let d = eqb-false a.steps 0 n in rw (n, lt-leb (length (pairs (inputs_of a))) (16 * a.steps) (k.shaped.progress (omega arith))))

  pub call-formed : (c : Call) → call_rule (lists_of l a) c ≡ true
  unfolding call_rule
  call-formed Open = refl
  call-formed (Event n) = refl
  call-formed Close = refl
  call-formed (Remove w) = window-formed w
  call-formed (RemoveAll ws) = and_both (lists_ruled a) _ lists-formed (elem-every (window_sums a) ws (λ w e. window-sums w))
  call-formed Flush = refl
  call-formed Step = inputs-formed
  call-formed (Query m t ns) = read-formed t (numbers_of l.identifiers ns)
  call-formed (Mean n) = read-formed whole (numbers_of l.identifiers (n ∷ []))
  call-formed (Forecast plan numbers) = refl
