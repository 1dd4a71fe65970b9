-- The engine on lists answers every call as ledger and account do, and leaves the lists that stand for what they leave.
use Rattle.lists.proofs.Prelude.{Bool, true, false, ◌||◌, ◌&&◌, not, true≢false, List, [], ◌∷◌, map, ◌≡◌, refl, sym, ap, ap₂, ◌∙◌, subst, ℕ, suc, ◌+◌, ◌*◌, ◌≤◌, arith, eqb, ltb, leb, pos, length, length-map, eqb-true, eqb-false, ne_eqb, ltb-true, ltb-false, le-ltb, not-false, empty, by-test, empty-is}
use Rattle.postings.specs.declared.Posting.{Posting}
use Rattle.postings.specs.Merge.{put, nonzero, negated}
use Rattle.answers.specs.Answers.{Answer, done, hits, Outcome, refuse, leave, refuse_if, choose, next, in_turn}
use Rattle.state.specs.declared.Windows.{Windows}
use Rattle.state.specs.Views.{buffer_of}
use Rattle.state.specs.Levels.{of_level}
use Rattle.buffer.proofs.Canonical.{buffered-of}
use Rattle.identifiers.specs.Names.{Name, bad_length, among, number_of, numbers_of}
use Rattle.recordings.specs.Recording.{recorded}
use Rattle.events.proofs.Pairs.{pair-kept}
use Rattle.forecasts.specs.Plan.{Planned, Placed, opening, counting, closing, plan_calls}
use Rattle.forecasts.specs.Course.{follow}
use Rattle.forecasts.proofs.Alike as course
use Rattle.ranking.specs.Hits.{frequency, ranked}
use Rattle.averages.specs.Average.{total, averaged}
use Rattle.removals.specs.Removal.{counts_of, is_live}
use Rattle.engine.specs.Calls.{Call, Open, Event, Close, Remove, RemoveAll, Flush, Step, Query, Mean, Forecast}
use Rattle.accounts.specs.Account.{Account, stored_in, taken_from, read_by, blocks_in, blocks_ahead, stepped_account, flushed_account, overflows, exceeds, added_to, stepping, flushing, flushing_if}
use Rattle.accounts.specs.Ledger.{Ledger, live, shown, existing, shown_within, existing_within, opens, closes, including, counts, removes}
use Rattle.accounts.specs.Books.{once, taken_back, Books, books_gauge, removal_in, planned_in, books}
use Rattle.accounts.specs.Lists.{Lists, is_open, opened_lists, closed_lists, once_of, counted_lists, removed_lists, lists_gauge, removing_lists, removal_of, planned_lists, pursued, lists_call}
use Rattle.accounts.proofs.Stored.{level_of}
use Rattle.accounts.proofs.Shaped.{Roomed, as_before, emptied, event-room, removal-room}
use Rattle.accounts.proofs.Numbers.{new_is, noted-is, elem-numbers, numbers-including}
use Rattle.accounts.proofs.Live.{not_live, existing-opens, existing-closes, existing-counts, existing-removes}
use Rattle.accounts.proofs.Lawful.{Lawful}
use Rattle.accounts.proofs.Held.{counts-back, counts-live, counts-length, length_back}
use Rattle.accounts.proofs.Kept.{Kept, kept-flushed, kept-stepped, kept-opens, kept-closes, kept-counts, kept-removes}
use Rattle.accounts.proofs.Sound.{windows_of, lists_of, current-open, current-shut, buffer-hold, rules-hold, call-formed}
use Rattle.accounts.proofs.Queries.{query-within, frequency-same, total-same}

-- ---- the lists after each change

-- lists that differ in no part are the same
same_lists : {x y : Windows} {ms ns : List Name} {is js : List ℕ} {a b : Account} → x ≡ y → ms ≡ ns → is ≡ js → a ≡ b
    → ◌≡◌ {A = Lists} (record { windows = x; names = ms; listed = is; account = a }) (record { windows = y; names = ns; listed = js; account = b })
same_lists p q r s = λ k. record { windows = p k; names = q k; listed = r k; account = s k }

same-windows : {last live current events last' live' current' events' : ℕ} → last ≡ last' → live ≡ live' → current ≡ current' → events ≡ events'
    → ◌≡◌ {A = Windows} (record { last = last; live = live; current = current; events = events }) (record { last = last'; live = live'; current = current'; events = events' })
same-windows p q r s = λ k. record { last = p k; live = q k; current = r k; events = s k }

module _ (entries : ℕ) (l : Ledger) (s : Lawful entries l) (a : Account) where
  -- a window is open in the lists where it is in the ledger
  pub open_is : is_open (lists_of l a) ≡ l.is_open
  open_is =
      by-test l.is_open
      (λ o. ap not (ne_eqb (windows_of l).current 0 (λ z. omega (arith, s.given o, current-open l o))) ∙ sym o)
      (λ n. ap (λ c. not (eqb c 0)) (current-shut l n) ∙ sym n)

  open-same : l.is_open ≡ false → opened_lists (lists_of l a) ≡ lists_of (opens l) a
  unfolding opened_lists opens
  open-same n =
      same_lists
      (same-windows refl (sym (existing-opens l n)) refl refl)
      refl (ap (map (number_of l.identifiers)) (s.shut n).1) refl

  close-same : l.is_open ≡ true → closed_lists (lists_of l a) ≡ lists_of (closes l) a
  unfolding closed_lists closes
  close-same o =
      same_lists
      (same-windows refl (sym (existing-closes l o (s.given o) (s.touched o))) refl refl)
      refl refl refl

  -- N after an event
  event-existing : (n : Name) → l.is_open ≡ true → existing l ≡ existing (counts l n)
  event-existing n o = sym (existing-counts l n o (s.given o) (λ v z. s.uncounted n v z))

  -- what an event counts
  once_is : (n : Name) → l.is_open ≡ true → once_of (lists_of l a) n ≡ once l n
  once_is n o = ap (λ w. record { id = number_of l.identifiers n; window = w; count = pos 1 }) (current-open l o)

module _ (blocks entries : ℕ) (l : Ledger) (a : Account) (k : Kept blocks entries l a) where
  -- the count of the open window's pair never comes to 0
  added_is : (n : Name) → l.is_open ≡ true → (x : Posting) → x ≡ once l n → record { buffer = put x a.buffer; partitions = a.partitions; steps = a.steps } ≡ added_to (once l n ∷ []) a
  unfolding added_to
  added_is n o x e =
      ap (λ b. record { buffer = b; partitions = a.partitions; steps = a.steps }) (ap (λ y. put y a.buffer) (e ∙ sym there) ∙ sym kept ∙ ap (λ y. nonzero (put y a.buffer)) there)
    where
      mine : Posting
      mine = record { id = number_of l.identifiers n; window = (windows_of l).current; count = pos 1 }

      there : mine ≡ once l n
      there = ap (λ w. record { id = number_of l.identifiers n; window = w; count = pos 1 }) (current-open l o)

      kept : nonzero (put mine a.buffer) ≡ put mine a.buffer
      kept = subst (λ b. nonzero (put mine b) ≡ put mine b) (buffered-of a.buffer) (pair-kept (windows_of l) (buffer_of a.buffer) (number_of l.identifiers n) (buffer-hold blocks entries l a k))

  event-same : (n : Name) → l.is_open ≡ true → (before : Account) → counted_lists (lists_of l before) n a ≡ lists_of (counts l n) (added_to (once l n ∷ []) a)
  unfolding counted_lists
  event-same n o before =
      same_lists (same-windows last-same (event-existing entries l k.lawful before n o) current-same events-same)
      (noted-is l.identifiers n ∙ names_same)
      (numbers-including l.identifiers l.listed n k.lawful.listed_in ∙ listed_same)
      (added_is n o (once_of (lists_of l before) n) (once_is entries l k.lawful before n o))
    where
      last-same : l.last ≡ (counts l n).last
      last-same = unfold counts in refl

      current-same : (windows_of l).current ≡ (windows_of (counts l n)).current
      current-same = unfold counts in refl

      events-same : suc l.events ≡ (counts l n).events
      events-same = unfold counts in refl

      names_same : including l.identifiers n ≡ (counts l n).identifiers
      names_same = unfold counts in refl

      listed_same : map (number_of (including l.identifiers n)) (including l.listed n) ≡ map (number_of (counts l n).identifiers) (counts l n).listed
      listed_same = unfold counts in refl

  -- ---- a removal

  module _ (w : ℕ) (other : (l.is_open && eqb w l.last) ≡ false) where
    -- a live window has a number that was given
    live-given : live l w ≡ true → (1 ≤ w) × (w ≤ l.last)
    live-given e = (
      by-test (eqb w 0) (λ y. absurd (true≢false (sym e ∙ not_live l w (λ n. ap (l.count n) (eqb-true w 0 y) ∙ k.lawful.nought n)))) (λ d. let z = eqb-false w 0 d in omega arith),
      by-test (ltb l.last w) (λ y. absurd (true≢false (sym e ∙ not_live l w (λ n. k.lawful.unborn n w (ltb-true l.last w y))))) (λ d. ltb-false l.last w d),
    )

    -- N has it, and is one less without it
    one_less : live l w ≡ true → existing l ≡ suc (existing (removes l w))
    one_less e = let g = live-given e in existing-removes l w g.0 g.1 other e

    -- the test for refusal 7 is whether the window is live
    seven_is : (cs : List Posting) → is_live cs ≡ live l w → (not (is_live cs) || (ltb l.last w || eqb (existing l) 0)) ≡ not (live l w)
    seven_is cs same =
        by-test (live l w)
        (λ y. let g = live-given y in
        ap₂ ◌||◌ (ap not (same ∙ y)) (ap₂ ◌||◌ (le-ltb l.last w g.1) (ne_eqb (existing l) 0 (λ z. omega (arith, one_less y)))) ∙ sym (ap not y))
        (λ n. ap (λ t. not t || (ltb l.last w || eqb (existing l) 0)) (same ∙ n) ∙ sym (ap not n))

    remove-same : (cs : List Posting) (b : Account) → negated cs ≡ taken_back l w → live l w ≡ true → removed_lists (lists_of l a) cs b ≡ lists_of (removes l w) (added_to (taken_back l w) b)
    unfolding removed_lists
    remove-same cs b same e =
        same_lists (same-windows last-same (omega (arith, one_less e)) current-same events-same) names_same listed_same (ap (λ ps. added_to ps b) same)
      where
        last-same : l.last ≡ (removes l w).last
        last-same = unfold removes in refl

        current-same : (windows_of l).current ≡ (windows_of (removes l w)).current
        current-same = unfold removes in refl

        events-same : l.events ≡ (removes l w).events
        events-same = unfold removes in refl

        names_same : l.identifiers ≡ (removes l w).identifiers
        names_same = unfold removes in refl

        listed_same : map (number_of l.identifiers) l.listed ≡ map (number_of (removes l w).identifiers) (removes l w).listed
        listed_same = unfold removes in refl

-- ---- outcomes that are alike

-- both refuse with one number, or both answer the same, and the lists stand for what ledger and account are, which keep the invariant
pub data Alike (blocks entries : ℕ) : Outcome Lists → Outcome Books → Type 0 where
  both_refuse : {n : ℕ} → Alike blocks entries (refuse n) (refuse n)
  both_leave : {x : Answer} {e : Lists} {l : Ledger} {a : Account} → e ≡ lists_of l a → Kept blocks entries l a → Alike blocks entries (leave x e) (leave x (record { ledger = l; account = a }))

module _ (blocks entries : ℕ) where
  refusing : (t u : Bool) (n : ℕ) (o : Outcome Lists) (q : Outcome Books) → t ≡ u → (u ≡ false → Alike blocks entries o q) → Alike blocks entries (refuse_if t n o) (refuse_if u n q)
  refusing t u n o q e h = subst (λ v. Alike blocks entries (refuse_if v n o) (refuse_if u n q)) (sym e) (go u h)
    where
      go : (u : Bool) → (u ≡ false → Alike blocks entries o q) → Alike blocks entries (refuse_if u n o) (refuse_if u n q)
      go true h = unfold refuse_if in both_refuse
      go false h = unfold refuse_if in (h refl)

  module _ (l : Ledger) (a : Account) (k : Kept blocks entries l a) (f : Account → Outcome Lists) (g : Account → Outcome Books) where
    flush-alike : ((b : Account) → Kept blocks entries l b → b.buffer ≡ [] → Alike blocks entries (f b) (g b)) → Alike blocks entries (flushing blocks a f) (flushing blocks a g)
    unfolding flushing choose
    flush-alike h = go (empty a.buffer) refl
      where
        emptied-flush : (flushed_account a).buffer ≡ []
        emptied-flush = unfold flushed_account in refl

        go : (t : Bool) → empty a.buffer ≡ t
            → Alike blocks entries
            (choose t (f a) (refuse_if (leb 16 (of_level level_of 0 a.partitions)) 10 (refuse_if (ltb blocks (2 * suc (blocks_in a))) 11 (refuse_if (ltb blocks (suc (blocks_in a + blocks_ahead a))) 12 (f (flushed_account a))))))
            (choose t (g a) (refuse_if (leb 16 (of_level level_of 0 a.partitions)) 10 (refuse_if (ltb blocks (2 * suc (blocks_in a))) 11 (refuse_if (ltb blocks (suc (blocks_in a + blocks_ahead a))) 12 (g (flushed_account a))))))
        go true e = h a k (empty-is a.buffer e)
        go false e =
            refusing _ _ 10 _ _ refl λ ten. refusing _ _ 11 _ _ refl λ eleven. refusing _ _ 12 _ _ refl λ twelve.
            h (flushed_account a) (kept-flushed blocks entries l a k e ten twelve) emptied-flush

    flush_if-alike : (t : Bool) → ((b : Account) → Kept blocks entries l b → Roomed t a b → Alike blocks entries (f b) (g b)) → Alike blocks entries (flushing_if blocks t a f) (flushing_if blocks t a g)
    unfolding flushing_if choose
    flush_if-alike true h = flush-alike (λ b q e. h b q (emptied e))
    flush_if-alike false h = h a k (as_before refl)

    step-alike : ((b : Account) → Kept blocks entries l b → Alike blocks entries (f b) (g b)) → Alike blocks entries (stepping blocks a f) (stepping blocks a g)
    unfolding stepping
    step-alike h = refusing _ _ 12 _ _ refl λ twelve. refusing _ _ 13 _ _ refl λ _. h (stepped_account a) (kept-stepped blocks entries l a k twelve)

  -- ---- every call

  module _ (small : entries ≤ 1024) (l : Ledger) (a : Account) (k : Kept blocks entries l a) where
    opened-is : is_open (lists_of l a) ≡ l.is_open
    opened-is = open_is entries l k.lawful a

    event-alike : (n : Name) → bad_length n ≡ false → l.is_open ≡ true → leb 32767 l.events ≡ false
        → (not (among n l.identifiers) && leb entries (length l.identifiers)) ≡ false → (not (among n l.listed) && leb 64 (length l.listed)) ≡ false
        → Alike blocks entries
        (flushing_if blocks (overflows (once_of (lists_of l a) n) a) a (λ b. leave done (counted_lists (lists_of l a) n b)))
        (flushing_if blocks (overflows (once l n) a) a (λ b. leave done (record { ledger = counts l n; account = added_to (once l n ∷ []) b })))
    event-alike n four o six eight nine =
        subst (λ x. Alike blocks entries (flushing_if blocks (overflows x a) a (λ b. leave done (counted_lists (lists_of l a) n b))) (flushing_if blocks (overflows (once l n) a) a (λ b. leave done (record { ledger = counts l n; account = added_to (once l n ∷ []) b }))))
        (sym (once_is entries l k.lawful a n o))
        (flush_if-alike l a k _ _ (overflows (once l n) a)
        (λ b q r. both_leave (event-same blocks entries l b q n o a)
        (kept-counts blocks entries l b q small n (ap not four) o six eight nine (event-room (once l n) a b q.shaped r))))

    remove-alike : (w : ℕ) → Alike blocks entries (removal_of blocks entries (lists_of l a) w) (removal_in blocks entries (record { ledger = l; account = a }) w)
    unfolding removing_lists
    remove-alike w =
        refusing _ _ 5 _ _ (named l.is_open refl) λ other.
        refusing _ _ 7 _ _ (seven_is blocks entries l a k w other (counts_of w (stored_in a)) (counts-live entries l k.lawful (stored_in a) w (λ i. k.sums i w))) λ seven.
        subst (λ t. Alike blocks entries (flushing_if blocks t a (λ b. leave done (removed_lists (lists_of l a) (counts_of w (stored_in a)) b))) (flushing_if blocks (exceeds (taken_back l w) a) a (λ b. leave done (record { ledger = removes l w; account = added_to (taken_back l w) b }))))
        exceeding
        (flush_if-alike l a k _ _ (exceeds (taken_back l w) a)
        (λ b q r. both_leave (remove-same blocks entries l a k w other (counts_of w (stored_in a)) b (counts-back entries l k.lawful (stored_in a) w (λ i. k.sums i w)) (not-false _ seven))
        (kept-removes blocks entries l b q w other (removal-room (taken_back l w) a b few r))))
      where
        named : (t : Bool) → l.is_open ≡ t → (is_open (lists_of l a) && eqb w (windows_of l).current) ≡ (l.is_open && eqb w l.last)
        named true o = ap₂ (λ s c. s && eqb w c) opened-is (current-open l o)
        named false n = ap (λ s. s && eqb w (windows_of l).current) (opened-is ∙ n) ∙ sym (ap (λ s. s && eqb w l.last) n)

        exceeding : exceeds (taken_back l w) a ≡ exceeds (counts_of w (stored_in a)) a
        exceeding = unfold exceeds in ap (λ m. ltb 128 (length a.buffer + m)) (length_back entries l k.lawful (stored_in a) w (λ i. k.sums i w))

        few : length (taken_back l w) ≤ 64
        few = omega (arith, length_back entries l k.lawful (stored_in a) w (λ i. k.sums i w), counts-length entries l k.lawful (stored_in a) w (λ i. k.sums i w), k.lawful.held w)

  -- several removals, one after another
  next-alike : {o : Outcome Lists} {q : Outcome Books} → Alike blocks entries o q → (f : Lists → Outcome Lists) (g : Books → Outcome Books)
      → ((l : Ledger) (a : Account) → Kept blocks entries l a → Alike blocks entries (f (lists_of l a)) (g (record { ledger = l; account = a }))) → Alike blocks entries (next o f) (next q g)
  unfolding next
  next-alike both_refuse f g h = both_refuse
  next-alike (both_leave {l = l} {a = a} p k) f g h = subst (λ e. Alike blocks entries (f e) (g (record { ledger = l; account = a }))) (sym p) (h l a k)

  turn-alike : entries ≤ 1024 → (ws : List ℕ) (l : Ledger) (a : Account) → Kept blocks entries l a
      → Alike blocks entries (in_turn (removal_of blocks entries) (lists_of l a) ws) (in_turn (removal_in blocks entries) (record { ledger = l; account = a }) ws)
  unfolding in_turn
  turn-alike small [] l a k = both_leave refl k
  turn-alike small (w ∷ ws) l a k = next-alike (remove-alike small l a k w) _ _ (turn-alike small ws)

  -- a plan's calls
  planned-alike : entries ≤ 1024 → (l : Ledger) (a : Account) → Kept blocks entries l a → (c : Planned)
      → Alike blocks entries (planned_lists blocks entries (lists_of l a) c) (planned_in blocks entries l a c)
  unfolding planned_lists planned_in
  planned-alike small l a k opening =
      refusing _ _ 5 _ _ (opened-is small l a k) λ n. refusing _ _ 6 _ _ refl λ room.
      both_leave (open-same entries l k.lawful a n) (kept-opens blocks entries l a k room)
  planned-alike small l a k (counting n) =
      refusing _ _ 4 _ _ refl λ four.
      refusing _ _ 5 _ _ (ap not (opened-is small l a k)) λ five.
      refusing _ _ 6 _ _ refl λ six.
      refusing _ _ 8 _ _ (ap (λ t. t && leb entries (length l.identifiers)) (new_is l.identifiers n)) λ eight.
      refusing _ _ 9 _ _ (ap₂ (λ t m. not t && leb 64 m) (elem-numbers l.identifiers l.listed n k.lawful.listed_in) (length-map l.listed (number_of l.identifiers))) λ nine.
      event-alike small l a k n four (not-false _ five) six eight nine
  planned-alike small l a k closing =
      refusing _ _ 5 _ _ (ap not (opened-is small l a k)) λ five.
      both_leave (close-same entries l k.lawful a (not-false _ five)) (kept-closes blocks entries l a k (not-false _ five))

  module _ (small : entries ≤ 1024) where
    -- the lists stand for ledger and account, and these keep the invariant
    pub record Stands (e : Lists) (b : Books) : Type 0 where
      pub same : e ≡ lists_of b.ledger b.account
      pub kept : Kept blocks entries b.ledger b.account

    alike-agree : {o : Outcome Lists} {q : Outcome Books} → Alike blocks entries o q → course.Agree Stands o q
    alike-agree both_refuse = course.both_refuse
    alike-agree (both_leave p k) = course.both_leave (record { same = p; kept = k })

    -- lists that stand for ledger and account, with a plan's calls made on both
    pub planned-agree : (e : Lists) (b : Books) → Stands e b → (c : Planned) → course.Agree Stands (planned_lists blocks entries e c) (planned_in blocks entries b.ledger b.account c)
    planned-agree e b s c =
        subst (λ x. course.Agree Stands (planned_lists blocks entries x c) (planned_in blocks entries b.ledger b.account c)) (sym s.same)
        (alike-agree (planned-alike small b.ledger b.account s.kept c))

    -- a plan comes to the same on both
    pub follow-alike : (cs : List Placed) (e : Lists) (b : Books) → Stands e b
        → follow lists_gauge (planned_lists blocks entries) 0 e cs ≡ follow books_gauge (λ c p. planned_in blocks entries c.ledger c.account p) 0 b cs
    follow-alike cs e b s =
        course.follow-same lists_gauge books_gauge _ _ Stands
        (λ d c r. record {
          low = ap (λ (x : Lists). of_level level_of 0 x.account.partitions) r.same;
          blocks = ap (λ (x : Lists). blocks_in x.account) r.same;
          entries = ap (λ (x : Lists). length x.names) r.same;
        })
        planned-agree cs 0 e b s

  module _ (small : entries ≤ 1024) (l : Ledger) (a : Account) (k : Kept blocks entries l a) where
    pursued-alike : (c : Call) → Alike blocks entries (pursued blocks entries (lists_of l a) c) (books blocks entries l a c)
    unfolding pursued books
    pursued-alike Open = planned-alike small l a k opening
    pursued-alike (Event n) = planned-alike small l a k (counting n)
    pursued-alike Close = planned-alike small l a k closing
    pursued-alike (Remove w) = remove-alike small l a k w
    pursued-alike (RemoveAll ws) = refusing _ _ 16 _ _ refl λ _. turn-alike small ws l a k
    pursued-alike Flush = flush-alike l a k _ _ λ b q e. both_leave refl q
    pursued-alike Step = step-alike l a k _ _ λ b q. both_leave refl q
    pursued-alike (Query m t ns) =
        refusing _ _ 4 _ _ refl λ _. refusing _ _ 14 _ _ refl λ _. refusing _ _ 17 _ _ refl λ _.
        subst
        (λ hs. Alike blocks entries (leave (hits hs taken) (lists_of l a)) (leave (hits (ranked (existing_within t l) l.count (shown_within t l) m ns) taken) (record { ledger = l; account = a })))
        (sym (query-within blocks entries l a k t m ns)) (both_leave refl k)
      where
        taken : ℕ
        taken = taken_from (numbers_of l.identifiers ns) (read_by t a)
    pursued-alike (Mean n) =
        refusing _ _ 4 _ _ refl λ _. refusing _ _ 15 _ _ (ap (λ f. eqb f 0) (frequency-same blocks entries l a k n)) λ _.
        subst (λ x. Alike blocks entries (leave x (lists_of l a)) (leave (averaged (frequency l.count (shown l) n) (total l.count (shown l) n)) (record { ledger = l; account = a })))
        (sym (ap₂ averaged (frequency-same blocks entries l a k n) (total-same blocks entries l a k n))) (both_leave refl k)
    pursued-alike (Forecast plan numbers) =
        let cs = plan_calls (recorded plan numbers) in
        refusing _ _ 3 _ _ refl λ _.
        subst (λ x. Alike blocks entries (leave x (lists_of l a)) (leave (follow books_gauge (λ b c. planned_in blocks entries b.ledger b.account c) 0 (record { ledger = l; account = a }) cs) (record { ledger = l; account = a })))
        (sym (follow-alike small cs (lists_of l a) (record { ledger = l; account = a }) (record { same = refl; kept = k }))) (both_leave refl k)

    -- refusals 1 and 3 are not given
    pub unrefused : (c : Call) → lists_call blocks entries (lists_of l a) c ≡ pursued blocks entries (lists_of l a) c
    unfolding lists_call refuse_if
    unrefused c = rw (rules-hold blocks entries l a k small, call-formed blocks entries l a k c)

    pub call-alike : (c : Call) → Alike blocks entries (lists_call blocks entries (lists_of l a) c) (books blocks entries l a c)
    call-alike c = subst (λ o. Alike blocks entries o (books blocks entries l a c)) (sym (unrefused c)) (pursued-alike c)
