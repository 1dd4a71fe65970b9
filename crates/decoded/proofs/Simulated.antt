-- Every call on bytes is the call on lists, as long as the lists stand for ledger and account; so every list of calls is answered the same.
use Rattle.lists.proofs.Prelude.{true, false, ◌&&◌, not, List, [], ◌∷◌, ◌≡◌, refl, sym, ap, ap₂, ◌∙◌, subst, ℕ, ◌/◌, ◌≤◌, leb, pos, le-leb, every, empty, and_both, every-from, every-keep, empty-not}
use Rattle.postings.specs.Order.{ordered}
use Rattle.postings.specs.Merge.{is_zero, is_counted, nonzero, pairs}
use Rattle.postings.specs.Sums.{sum}
use Rattle.answers.specs.Answers.{Outcome, in_turn, answer_of, state_of}
use Rattle.words.specs.Words.{words}
use Rattle.state.specs.declared.Lengths.{Lengths}
use Rattle.state.specs.Views.{blocks, register_size}
use Rattle.state.specs.Rules.{state_rule}
use Rattle.state.specs.Probe.{Store, Probe, has_length}
use Rattle.partitions.specs.Reading.{stored}
use Rattle.partitions.specs.Formed.{list_rule, in_range, sums_in_range, Writable}
use Rattle.removals.specs.Removal.{remove_of}
use Rattle.batches.specs.Batch.{batch_formed}
use Rattle.engine.specs.Calls.{Call, Open, Event, Close, Remove, RemoveAll, Flush, Step, Query, Mean, Forecast, store_in, with_store, probe_call, run, afterwards}
use Rattle.accounts.specs.Account.{Account, stored_in, inputs_of, merged}
use Rattle.accounts.specs.Ledger.{Ledger, count_by_number}
use Rattle.accounts.specs.Books.{Books, books_call}
use Rattle.accounts.specs.Lists.{Lists, call_rule, removal_of, pursued, lists_call}
use Rattle.accounts.proofs.Parts.{sums-in-range}
use Rattle.accounts.proofs.Stored.{merged-ordered, merged-counts}
use Rattle.accounts.proofs.Ranged.{stored_rule, stored-kept, ranged-partitions, merged-ranged}
use Rattle.accounts.proofs.Steady.{top}
use Rattle.accounts.proofs.Kept.{Kept, inputs-small}
use Rattle.accounts.proofs.Sound.{rules-hold}
use Rattle.accounts.proofs.Agree.{Stands, unrefused}
use Rattle.accounts.proofs.History.{call_same, call-sound}
use Rattle.decoded.proofs.Holds.{Stored, stored_is}
use Rattle.decoded.proofs.Ruled.{ruled, same_length}
use Rattle.decoded.proofs.Flushing.{Same, both_refuse, both_leave, same_next, Fine}
use Rattle.decoded.proofs.WindowCalls.{open-same, close-same, flush-call-same, event-same}
use Rattle.decoded.proofs.Readings.{query-same, mean-same, removal-same, batch-same, remove-same, removals-same}
use Rattle.decoded.proofs.Forecasts.{forecast-same}
use Rattle.decoded.proofs.StepCall.{step_same}

-- ---- what ledger and account keep is what a probe can hold

-- a result can be written
result-writable : (n m : ℕ) (l : Ledger) (a : Account) → Kept n m l a → empty (merged a) ≡ false → Writable (merged a)
result-writable n m l a k some = record {
  some = empty-not (merged a) some;
  formed = unfold list_rule in and_both (ordered (merged a)) _ (merged-ordered a)
      (every-from is_counted (stored_rule (top l)) (λ p. leb 1 p.window && not (is_zero p.count))
      (λ p c r. and_both (leb 1 p.window) _ (le-leb _ _ (stored-kept (top l) p r).some) c) (merged a) (merged-counts a) ranged);
  numbered = every-from (stored_rule (top l)) (stored_rule (top l)) (λ p. leb p.id 1023) (λ p x y. le-leb _ _ (stored-kept (top l) p x).id) (merged a) ranged ranged;
  fitting = fit;
}
  where
    ranged : every (stored_rule (top l)) (merged a) ≡ true
    ranged = merged-ranged (top l) a (ranged-partitions (top l) a k.ranged)

    all_fit : every (λ p. in_range p.count) (pairs (inputs_of a)) ≡ true
    all_fit = unfold sums_in_range in sums-in-range (inputs_of a) (inputs-small n m l a k)

    fit : every (λ p. in_range p.count) (merged a) ≡ true
    fit = unfold merged nonzero in every-keep is_counted (λ p. in_range p.count) (pairs (inputs_of a)) all_fit

module _ (ls : Lengths) where
  abbrev n : ℕ
  n = ls.card / 4096

  abbrev m : ℕ
  m = ls.register / 65

  module _ (small : m ≤ 1024) where
    fine_of : (e : Lists) (b : Books) → Stands n m small e b → Fine n e
    fine_of e b s = subst (Fine n) (sym s.same) (record {
      rule = rules-hold n m b.ledger b.account s.kept small;
      parts = s.kept.shaped.parts;
      progress = s.kept.shaped.progress;
      writable = result-writable n m b.ledger b.account s.kept;
    })

    pub fine-stored : (p : Probe) (e : Lists) (b : Books) → Stored ls p e → Stands n m small e b → Fine (blocks p.state) e
    fine-stored p e b k s = subst (λ (q : Lengths). Fine (q.card / 4096) e) (sym k.sized) (fine_of e b s)

    pub lists-pursued : (e : Lists) (b : Books) → Stands n m small e b → (c : Call) → lists_call n m e c ≡ pursued n m e c
    lists-pursued e b s c = subst (λ x. lists_call n m x c ≡ pursued n m x c) (sym s.same) (unrefused n m small b.ledger b.account s.kept c)

    -- refusals 1 to 3 of a list of windows to be removed have no cause
    pub removals-formed : (p : Probe) (e : Lists) (b : Books) → Stored ls p e → Stands n m small e b → (ws : List ℕ)
        → (state_rule p.state ≡ true) × (has_length p.card p.state.lengths.card ≡ true) × (batch_formed (words p.card) p.state ws ≡ true)
    removals-formed p e b k s ws =
        let f = fine-stored p e b k s in
        (ruled p.state (words p.card) e k.holds f.rule, same_length p.card p.state.lengths.card k.card, batch-same p e k f ws (call-sound n m small e b s (RemoveAll ws)).1)

    -- removals one after another, each on what the one before left
    removals-simulated : (p : Probe) (ws : List ℕ) (q : Store) (e : Lists) (b : Books) → Stored ls (with_store p q) e → Stands n m small e b
        → Same (λ r d. Stored ls (with_store p r) d) (in_turn remove_of q ws) (in_turn (removal_of n m) e ws)
    unfolding in_turn
    removals-simulated p [] q e b k s = both_leave k
    removals-simulated p (w ∷ ws) q e b k s =
        same_next R (λ d. Stands n m small d (state_of b (books_call n m b (Remove w)))) one e stands _ _ (λ r d k' s'. removals-simulated p ws r d _ k' s')
      where
        R : Store → Lists → Type 0
        R r d = Stored ls (with_store p r) d

        one : Same R (remove_of q w) (removal_of n m e w)
        one =
            subst (λ (l : Lengths). Same R (remove_of q w) (removal_of (l.card / 4096) (l.register / 65) e w)) k.sized
            (removal-same (with_store p q) e k (fine-stored (with_store p q) e b k s) w (call-sound n m small e b s (Remove w)).1)

        pursues : lists_call n m e (Remove w) ≡ removal_of n m e w
        pursues = unfold pursued in lists-pursued e b s (Remove w)

        stands : Stands n m small (state_of e (removal_of n m e w)) (state_of b (books_call n m b (Remove w)))
        stands = subst (λ (o : Outcome Lists). Stands n m small (state_of e o) (state_of b (books_call n m b (Remove w)))) pursues (call_same n m small e b s (Remove w)).1

    -- each call, where refusals 1 and 3 have no cause
    pursued-same : (p : Probe) (e : Lists) (b : Books) → Stands n m small e b → Stored ls p e → Fine (blocks p.state) e → (c : Call) → call_rule e c ≡ true → Same (Stored ls) (probe_call p c) (pursued (blocks p.state) (register_size p.state) e c)
    pursued-same p e b s k f Open r = open-same p e k f
    pursued-same p e b s k f (Event x) r = event-same p e k f x
    pursued-same p e b s k f Close r = close-same p e k f
    pursued-same p e b s k f (Remove w) r = remove-same p e k f w r
    pursued-same p e b s k f (RemoveAll ws) r =
        removals-same p e k f ws r
        (subst (λ (l : Lengths). Same (λ q d. Stored ls (with_store p q) d) (in_turn remove_of (store_in p) ws) (in_turn (removal_of (l.card / 4096) (l.register / 65)) e ws)) (sym k.sized)
        (removals-simulated p ws (store_in p) e b k s))
    pursued-same p e b s k f Flush r = flush-call-same p e k f
    pursued-same p e b s k f Step r = step_same p e k f r
    pursued-same p e b s k f (Query x t ns) r = query-same p e k f t x ns r
    pursued-same p e b s k f (Mean x) r = mean-same p e k f x r
    pursued-same p e b s k f (Forecast plan counts) r = forecast-same p e k f plan counts

    pub call-simulated : (p : Probe) (e : Lists) (b : Books) → Stored ls p e → Stands n m small e b → (c : Call) → Same (Stored ls) (probe_call p c) (lists_call n m e c)
    call-simulated p e b k s c =
        subst (λ o. Same (Stored ls) (probe_call p c) o) (sym (lists-pursued e b s c))
        (subst (λ (q : Lengths). Same (Stored ls) (probe_call p c) (pursued (q.card / 4096) (q.register / 65) e c)) k.sized
        (pursued-same p e b s k (fine-stored p e b k s) c (call-sound n m small e b s c).1))

    answered-same : (p : Probe) (e : Lists) (o : Outcome Probe) (q : Outcome Lists) → Stored ls p e → Same (Stored ls) o q → (answer_of o ≡ answer_of q) × Stored ls (state_of p o) (state_of e q)
    answered-same p e o q k both_refuse = (refl, k)
    answered-same p e o q k (both_leave r) = (refl, r)

    -- and every list of calls
    pub runs-simulated : (cs : List Call) (p : Probe) (e : Lists) (b : Books) → Stored ls p e → Stands n m small e b → run probe_call p cs ≡ run (books_call n m) b cs
    unfolding run
    runs-simulated [] p e b k s = refl
    runs-simulated (c ∷ cs) p e b k s =
        let x = answered-same p e _ _ k (call-simulated p e b k s c) in
        let y = call_same n m small e b s c in
        ap₂ ◌∷◌ (x.0 ∙ y.0) (runs-simulated cs _ _ _ x.1 y.1)

    -- what a list of calls leaves: bytes that hold lists which stand for what ledger and account are
    pub record Left (p : Probe) (b : Books) : Type 0 where
      pub lists : Lists
      pub stored : Stored ls p lists
      pub stands : Stands n m small lists b

    pub left_after : (cs : List Call) (p : Probe) (b : Books) → Left p b → Left (afterwards probe_call p cs) (afterwards (books_call n m) b cs)
    unfolding afterwards
    left_after [] p b x = x
    left_after (c ∷ cs) p b x =
        let y = answered-same p x.lists _ _ x.stored (call-simulated p x.lists b x.stored x.stands c) in
        left_after cs _ _ (record { lists = _; stored = y.1; stands = (call_same n m small x.lists b x.stands c).1 })

    -- every sum of what is stored on the card and in the buffer is the ledger's count
    pub left-sums : (p : Probe) (b : Books) → Left p b → (i w : ℕ) → sum (stored (words p.card) p.state) i w ≡ pos (count_by_number b.ledger i w)
    left-sums p b x i w =
        ap (λ l. sum l i w) (stored_is p.state (words p.card) x.lists x.stored.holds)
        ∙ ap (λ (e : Lists). sum (stored_in e.account) i w) x.stands.same ∙ x.stands.kept.sums i w
