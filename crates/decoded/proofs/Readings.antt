-- Query, mean and removals on bytes are those on lists.
use Rattle.lists.proofs.Prelude.{Bool, true, ◌||◌, ◌&&◌, not, List, [], ◌∷◌, foldr, ◌≡◌, refl, sym, ap, ap₂, ◌∙◌, subst, fun_ext, ℕ, ◌+◌, ◌-◌, eqb, ltb, leb, length, replicate, length-replicate, every, total_by, and_both, every_map}
use Rattle.words.specs.Words.{words}
use Rattle.postings.specs.declared.Posting.{Posting}
use Rattle.postings.specs.declared.Stretch.{Stretch}
use Rattle.postings.specs.Merge.{put, nonzero, negated}
use Rattle.answers.specs.Answers.{Answer, done, hits, leave, in_turn}
use Rattle.answers.specs.declared.Hit.{Hit}
use Rattle.state.specs.declared.Lengths.{Lengths}
use Rattle.state.specs.declared.Windows.{Windows}
use Rattle.state.specs.declared.Partition.{Partition}
use Rattle.state.specs.declared.State.{State}
use Rattle.state.specs.Views.{blocks, register_size, buffered, finished, buffer_of}
use Rattle.state.specs.Probe.{Store, Probe}
use Rattle.state.specs.Shown.{shown_in}
use Rattle.identifiers.specs.Names.{Name, numbers_of}
use Rattle.identifiers.specs.Register.{register_rule}
use Rattle.partitions.specs.Reading.{postings_of, in_partitions, stored}
use Rattle.partitions.specs.Formed.{partitions_formed, list_rule, sums_in_range}
use Rattle.flushes.specs.Flush.{flushing_if}
use Rattle.ranking.specs.Hits.{frequency, ranked}
use Rattle.averages.specs.Average.{total, averaged}
use Rattle.means.specs.Mean.{frequency_in, total_in, meaning, mean_of}
use Rattle.queries.specs.Query.{count_in, taken_up, numbers, query_formed, existing_in, hits_of, querying, query_of, fill}
use Rattle.ranking.specs.Asked.{bad_query}
use Rattle.removals.specs.Removal.{of_window, counts_of, is_live, lists_formed, removal_formed, removal_flushes, removed, removing, remove_of}
use Rattle.sums.specs.Tally.{lists_ruled, window_formed}
use Rattle.stretches.specs.Reached as bytes
use Rattle.stretches.specs.Reached.{whole}
use Rattle.census.specs.Existing.{existing}
use Rattle.batches.specs.Batch.{batch_formed, remove_all_of}
use Rattle.engine.specs.Calls.{Remove, RemoveAll, Query, Mean, no_hit, store_in, with_store, probe_call}
use Rattle.accounts.specs.Account.{Portion, Account, postings_in, stored_in, taken_from, read_by, exceeds, added_to, flushing_if as account_flushing_if}
use Rattle.accounts.specs.Lists as accounts
use Rattle.accounts.specs.Lists.{Lists, read_rule, window_sums, window_rule, call_rule, count_of, frequency_of, total_of, removed_lists, removing_lists, removal_of, with_account, pursued}
use Rattle.decoded.specs.Portions.{portion_on}
use Rattle.decoded.proofs.Holds.{Holds, Stored, partitions-is, buffer-is, stored_is}
use Rattle.decoded.proofs.Reached.{lists-told, rule-read, counts-read, existing-read, taken-read}
use Rattle.decoded.proofs.Fronts.{holds-fronted}
use Rattle.decoded.proofs.Flushing.{Same, both_leave, same-carry, refusing, passing, Fine, flush_if-same}
use Rattle.decoded.proofs.WindowCalls.{stored-store, no-first, no_second, no-second-both}

module _ {ls : Lengths} (p : Probe) (e : Lists) (k : Stored ls p e) (fine : Fine (blocks p.state) e) where
  abbrev s : State
  s = p.state

  abbrev W : List ℕ
  W = words p.card

  abbrev h : Holds s W e
  h = k.holds

  -- a test of every partition's postings
  pub every-partition : (t : List Posting → Bool) → every (λ (q : Partition). t (postings_of W q)) (finished s.partitions) ≡ every (λ (q : Portion). t q.postings) e.account.partitions
  every-partition t = sym (every_map (λ (q : Portion). t q.postings) (portion_on W) (finished s.partitions)) ∙ ap (every (λ (q : Portion). t q.postings)) h.portions

  partitions-same : in_partitions W (finished s.partitions) ≡ postings_in e.account.partitions
  partitions-same = partitions-is s W e.account h.portions

  stored_same : stored W s ≡ stored_in e.account
  stored_same = stored_is s W e h

  -- ---- query

  numbers-same : (ns : List Name) → numbers p.register ns ≡ numbers_of e.names ns
  numbers-same ns = ap (λ ms. numbers_of ms ns) k.names

  -- refusal 3 has no cause
  well-formed : (t : Stretch) (ns : List Name) → read_rule (read_by t e.account) (numbers_of e.names ns) ≡ true → query_formed W s t p.register (numbers p.register ns) ≡ true
  unfolding query_formed
  well-formed t ns rule =
      and_both (register_rule p.register) _ k.rule
      (and_both (partitions_formed W (blocks s) (finished s.partitions)) _ h.formed
      (rule-read s W e h t (numbers p.register ns) ∙ ap (read_rule (read_by t e.account)) (numbers-same ns) ∙ rule))

  module _ (t : Stretch) where
    abbrev read : State
    read = bytes.read_by t s

    hits-same : (m : ℕ) (ns : List Name) → hits_of W read t (existing_in W read t) m (numbers p.register ns)
        ≡ ranked (existing (stored_in (read_by t e.account)) (shown_in t e.windows)) (count_of (read_by t e.account)) (shown_in t e.windows) m (numbers_of e.names ns)
    unfolding hits_of
    hits-same m ns =
        ap₂ (λ (n : ℕ) (w : Windows). ranked n (count_in W read) (shown_in t w) m (numbers p.register ns)) (existing-read s W e h t) h.windows
        ∙ ap₂ (λ (c : ℕ → ℕ → ℕ) (is : List ℕ). ranked (existing (stored_in (read_by t e.account)) (shown_in t e.windows)) c (shown_in t e.windows) m is) (counts-read s W e h t) (numbers-same ns)

    taken-same : (ns : List Name) → taken_up W read (numbers p.register ns) ≡ taken_from (numbers_of e.names ns) (read_by t e.account)
    taken-same ns = taken-read s W e h t (numbers p.register ns) ∙ ap (λ is. taken_from is (read_by t e.account)) (numbers-same ns)

    pub query-same : (m : ℕ) (ns : List Name) → call_rule e (Query m t ns) ≡ true → Same (Stored ls) (probe_call p (Query m t ns)) (pursued (blocks s) (register_size s) e (Query m t ns))
    unfolding probe_call query_of querying pursued
    query-same m ns rule =
        same-carry R (Stored ls) (λ (l : List Hit). p) (λ l e' r. r)
        (passing R _ 1 _ _ (no-first p e k fine)
        (passing R _ 2 _ _ (no-second-both p e k fine)
        (passing R _ 3 _ _ (ap not well)
        (refusing R _ _ 4 _ _ refl λ _.
        refusing R _ _ 14 _ _ (ap (λ n. bad_query n ns) places) λ _.
        refusing R _ _ 17 _ _ refl λ _.
        subst (λ (x : Answer). Same R (leave x (fill found (replicate m no_hit))) (leave answer e)) (sym said) (both_leave k)))))
      where
        R : List Hit → Lists → Type 0
        R l e' = Stored ls p e'

        places : length (replicate m no_hit) ≡ m
        places = length-replicate m no_hit

        found : List Hit
        found = hits_of W read t (existing_in W read t) (length (replicate m no_hit)) (numbers p.register ns)

        answer : Answer
        answer =
            hits (ranked (existing (stored_in (read_by t e.account)) (shown_in t e.windows)) (count_of (read_by t e.account)) (shown_in t e.windows) m (numbers_of e.names ns))
            (taken_from (numbers_of e.names ns) (read_by t e.account))

        said : hits found (taken_up W read (numbers p.register ns)) ≡ answer
        said = ap₂ hits (ap (λ n. hits_of W read t (existing_in W read t) n (numbers p.register ns)) places ∙ hits-same m ns) (taken-same ns)

        well : query_formed W s t p.register (numbers p.register ns) ≡ true
        well = well-formed t ns (unfold call_rule in rule)

  -- ---- mean

  -- whatever is told of counts in the windows that show
  told_same : (g : (ℕ → ℕ → ℕ) → List ℕ → ℕ → ℕ) (n : Name)
      → total_by (g (count_in W (bytes.read_by whole s)) (shown_in whole s.windows)) (numbers p.register (n ∷ []))
      ≡ total_by (g (count_of (read_by whole e.account)) (shown_in whole e.windows)) (numbers_of e.names (n ∷ []))
  told_same g n =
      ap (λ (w : Windows). total_by (g (count_in W (bytes.read_by whole s)) (shown_in whole w)) (numbers p.register (n ∷ []))) h.windows
      ∙ ap₂ (λ (c : ℕ → ℕ → ℕ) (is : List ℕ). total_by (g c (shown_in whole e.windows)) is) (counts-read s W e h whole) (numbers-same (n ∷ []))

  frequency-same : (n : Name) → frequency_in W (bytes.read_by whole s) (numbers p.register (n ∷ [])) ≡ frequency_of e n
  unfolding frequency_in frequency_of
  frequency-same = told_same frequency

  total-same : (n : Name) → total_in W (bytes.read_by whole s) (numbers p.register (n ∷ [])) ≡ total_of e n
  unfolding total_in total_of
  total-same = told_same total

  pub mean-same : (n : Name) → call_rule e (Mean n) ≡ true → Same (Stored ls) (probe_call p (Mean n)) (pursued (blocks s) (register_size s) e (Mean n))
  unfolding probe_call mean_of meaning pursued
  mean-same n rule =
      same-carry R (Stored ls) (λ (u : Unit {0}). p) (λ u e' r. r)
      (passing R _ 1 _ _ (no-first p e k fine)
      (passing R _ 2 _ _ (no-second-both p e k fine)
      (passing R _ 3 _ _ (ap not (well-formed whole (n ∷ []) (unfold call_rule in rule)))
      (refusing R _ _ 4 _ _ refl λ _.
      refusing R _ _ 15 _ _ (ap (λ f. eqb f 0) (frequency-same n)) λ _.
      subst (λ (x : Answer). Same R (leave x tt) (leave (averaged (frequency_of e n) (total_of e n)) e)) (sym (ap₂ averaged (frequency-same n) (total-same n))) (both_leave k)))))
    where
      R : Unit {0} → Lists → Type 0
      R u e' = Stored ls p e'

  -- ---- removal

  -- all lists
  lists-same : lists_ruled W s ≡ accounts.lists_ruled e.account
  lists-same = lists-told W (finished s.partitions) h.sizes ∙ every-partition list_rule

  sums_same : (w : ℕ) → window_formed W s w ≡ window_sums e.account w
  sums_same w =
      ap₂ ◌&&◌ (ap (λ l. sums_in_range (of_window w l)) partitions-same)
      (ap (λ l. sums_in_range (of_window w l) && leb (length (counts_of w l)) 64) stored_same)

  window_same : (w : ℕ) → window_rule e.account w ≡ true → removal_formed W s w ≡ true
  unfolding removal_formed lists_formed window_rule
  window_same w rule =
      and_both (partitions_formed W (blocks s) (finished s.partitions)) _ h.formed
      (ap₂ ◌&&◌ lists-same (sums_same w) ∙ rule)

  pub batch-same : (ws : List ℕ) → call_rule e (RemoveAll ws) ≡ true → batch_formed W s ws ≡ true
  unfolding batch_formed
  batch-same ws rule =
      and_both (partitions_formed W (blocks s) (finished s.partitions)) _ h.formed
      (ap₂ (λ (t : Bool) (f : ℕ → Bool). t && every f ws) lists-same (fun_ext sums_same) ∙ (unfold call_rule in rule))

  -- the state with the window's counts taken back, after a flush or without one
  holds-removed : (t : State) (X : List ℕ) (a : Account) (cs : List Posting) → Holds t X (with_account e a) → Holds (removed t cs) X (removed_lists e cs a)
  unfolding removed removed_lists added_to
  holds-removed t X a cs g =
      holds-fronted t X (with_account e a) (removed_lists e cs a) g
      (record { last = t.windows.last; live = t.windows.live - 1; current = t.windows.current; events = t.windows.events }) t.listed
      (buffer_of (nonzero (foldr put (buffered t.buffer) (negated cs))))
      (ap (λ (w : Windows). record { last = w.last; live = w.live - 1; current = w.current; events = w.events }) g.windows) g.listed
      (ap (λ l. buffer_of (nonzero (foldr put l (negated cs)))) (buffer-is t X (with_account e a) g)) refl refl

  -- what is there with a store that a removal leaves
  abbrev Left : Store → Lists → Type 0
  Left q e' = Stored ls (with_store p q) e'

  removing-same : (w : ℕ) (cs : List Posting) → Same Left (removing s p.card w cs) (removing_lists (blocks s) (register_size s) e w cs)
  unfolding removing removing_lists
  removing-same w cs =
      refusing Left _ _ 5 _ _ (ap (λ (x : Windows). not (eqb x.current 0) && eqb w x.current) h.windows) λ _.
      refusing Left _ _ 7 _ _ (ap (λ (x : Windows). not (is_live cs) || (ltb x.last w || eqb x.live 0)) h.windows) λ _.
      subst (λ t. Same Left (flushing_if t s p.card (λ u c. leave done (record { state = removed u cs; card = c }))) (account_flushing_if (blocks s) (exceeds cs e.account) e.account (λ a. leave done (removed_lists e cs a)))) (sym flushes)
      (flush_if-same s p.card e h fine Left (λ u c. leave done (record { state = removed u cs; card = c })) (λ a. leave done (removed_lists e cs a)) (exceeds cs e.account)
      (λ u c a g same long. both_leave (stored-store p e (removed_lists e cs a) (record { state = removed u cs; card = c }) k (holds-removed u (words c) a cs g) (lengths-same u ∙ same) long (names_same a)))
      k.card)
    where
      flushes : removal_flushes s cs ≡ exceeds cs e.account
      flushes = unfold removal_flushes exceeds in ap (λ l. ltb 128 (length l + length cs)) (buffer-is s W e h)

      lengths-same : (u : State) → (removed u cs).lengths ≡ u.lengths
      lengths-same u = unfold removed in refl

      names_same : (a : Account) → (removed_lists e cs a).names ≡ e.names
      names_same a = unfold removed_lists in refl

  pub removal-same : (w : ℕ) → call_rule e (Remove w) ≡ true → Same Left (remove_of (store_in p) w) (removal_of (blocks s) (register_size s) e w)
  unfolding remove_of
  removal-same w rule =
      passing Left _ 1 _ _ (no-first p e k fine)
      (passing Left _ 2 _ _ (no_second p e k fine)
      (passing Left _ 3 _ _ (ap not (window_same w (unfold call_rule in rule)))
      (subst (λ l. Same Left (removing s p.card w (counts_of w l)) (removal_of (blocks s) (register_size s) e w)) (sym stored_same)
      (removing-same w (counts_of w (stored_in e.account))))))

  pub remove-same : (w : ℕ) → call_rule e (Remove w) ≡ true → Same (Stored ls) (probe_call p (Remove w)) (pursued (blocks s) (register_size s) e (Remove w))
  unfolding probe_call pursued
  remove-same w rule = same-carry Left (Stored ls) (with_store p) (λ q e' r. r) (removal-same w rule)

  -- several, where their removals one after another are the same
  pub removals-same : (ws : List ℕ) → call_rule e (RemoveAll ws) ≡ true → Same Left (in_turn remove_of (store_in p) ws) (in_turn (removal_of (blocks s) (register_size s)) e ws)
      → Same (Stored ls) (probe_call p (RemoveAll ws)) (pursued (blocks s) (register_size s) e (RemoveAll ws))
  unfolding probe_call remove_all_of pursued
  removals-same ws rule each =
      same-carry Left (Stored ls) (with_store p) (λ q e' r. r)
      (passing Left _ 1 _ _ (no-first p e k fine)
      (passing Left _ 2 _ _ (no_second p e k fine)
      (passing Left _ 3 _ _ (ap not (batch-same ws rule))
      (refusing Left _ _ 16 _ _ refl λ _. each))))
