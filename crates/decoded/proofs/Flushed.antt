-- After a flush the state and the card hold what the account holds after it.
use Rattle.lists.proofs.Prelude.{Bool, true, false, ◌||◌, ◌&&◌, not, cond, true≢false, or-false, List, [], ◌∷◌, ◌++◌, map, append-nil, append_assoc, ◌≡◌, refl, sym, ap, ap₂, ◌∙◌, subst, ℕ, ◌*◌, ◌<◌, ◌≤◌, arith, eqb, ltb, length, eqb-true, eqb-false, ne_eqb, lt-ltb, not-true, AllOf, every, empty, elem, different, same, by-test, and_left, and_right, and_both, or-none, or_right, every_append, any_append, elem-every, different-insert, map-append}
use Rattle.lists.proofs.Stores.{joined-append}
use Rattle.words.specs.Words.{all_ones}
use Rattle.postings.specs.declared.Posting.{Posting}
use Rattle.postings.specs.Merge.{pairs}
use Rattle.state.specs.declared.Partition.{Partition}
use Rattle.state.specs.declared.MergeJob.{MergeJob}
use Rattle.state.specs.declared.State.{State}
use Rattle.state.specs.Views.{padded, no_partition, blocks, buffered, finished, partitions_of}
use Rattle.state.proofs.Rows.{held}
use Rattle.state.proofs.Kept.{lengths-kept}
use Rattle.card.specs.Blocks.{no_block, is_free}
use Rattle.card.specs.Chains.{blocks_for, chain, chain_rule, content}
use Rattle.blocks.proofs.Stores.{Agree, apart, store-agrees, length-store, chain-agree, rule-agree, content-agree}
use Rattle.blocks.proofs.FreeBlocks.{store_other, chain-taken}
use Rattle.partitions.specs.Layout.{length_of, encode}
use Rattle.partitions.specs.Reading.{chain_of, postings_of}
use Rattle.partitions.specs.Formed.{partition_rule, chains_of, partitions_formed, Writable}
use Rattle.partitions.proofs.Lengths.{one_block}
use Rattle.partitions.proofs.Kept.{AgreeAll, postings-kept, chains-kept}
use Rattle.flushes.proofs.Flushed.{flush_record, flush_card, flush-chain, flush-rule, flush-postings, flush-keeps, flush-formed}
use Rattle.flushes.specs.Flush.{flushed_to, flushed_card}
use Rattle.plans.specs.Merging.{taking, result, output_length, output_blocks, progress, is_last}
use Rattle.plans.specs.Step.{in_progress, output_chain, output_rule}
use Rattle.accounts.specs.Account.{Portion, due_of, inputs_of, flushed_account}
use Rattle.accounts.specs.Lists.{Lists, with_account}
use Rattle.accounts.proofs.Steps.{Progress, progress-due, inputs-flushed}
use Rattle.decoded.specs.Portions.{portion_on, output_of, occupied, clean_past, tells}
use Rattle.decoded.proofs.Holds.{Holds, taking-is, buffer-is, tells-own}
use Rattle.decoded.proofs.Past.{past-agree, past-written}
use Rattle.decoded.proofs.Unused.{output-kept, chains-once}

-- ---- the output in progress on another card

-- the output's rule by what it looks at: a merge's record, and the blocks of finished partitions
unfoldable pub rule_of : List ℕ → ℕ → MergeJob → List ℕ → List Posting → Bool
rule_of W n m chains ps =
    not (is_last ps m.steps)
    && (eqb m.length (output_length (result ps))
    && cond (empty (result ps)) (eqb m.first no_block)
    (chain_rule W n m.first (output_blocks (result ps))
    && (different (chain W m.first (output_blocks (result ps)) ++ chains)
    && same (content W (chain W m.first (output_blocks (result ps)))) (padded (1023 * output_blocks (result ps)) all_ones (progress ps m.steps)))))

pub rule-is : (W : List ℕ) (s : State) (ps : List Posting) → output_rule W s ps ≡ rule_of W (blocks s) s.merge (chains_of W (finished s.partitions)) ps
unfolding output_rule rule_of
rule-is W s ps = refl

-- where two cards agree on the output's blocks, and these are no blocks of finished partitions, it is well formed on both
pub rule-carried : (W' W : List ℕ) (n : ℕ) (m : MergeJob) (chains' chains : List ℕ) (ps : List Posting)
    → Agree W' W (chain W m.first (output_blocks (result ps))) → different (chain W m.first (output_blocks (result ps)) ++ chains') ≡ true
    → rule_of W n m chains ps ≡ true → rule_of W' n m chains' ps ≡ true
unfolding rule_of
rule-carried W' W n m chains' chains ps agree once rule =
    let k = output_blocks (result ps) in
    let a = and_right (not (is_last ps m.steps)) _ rule in
    let b = and_right (eqb m.length (output_length (result ps))) _ a in
    and_both (not (is_last ps m.steps)) _ (and_left (not (is_last ps m.steps)) _ rule)
    (and_both (eqb m.length (output_length (result ps))) _ (and_left (eqb m.length (output_length (result ps))) _ a)
    (by-test (empty (result ps))
    (λ y. ap (λ t. cond t (eqb m.first no_block) (rest W' chains')) y ∙ sym (ap (λ t. cond t (eqb m.first no_block) (rest W chains)) y) ∙ b)
    (λ z. ap (λ t. cond t (eqb m.first no_block) (rest W' chains')) z
    ∙ moved (sym (ap (λ t. cond t (eqb m.first no_block) (rest W chains)) z) ∙ b))))
  where
    rest : List ℕ → List ℕ → Bool
    rest X cs =
        chain_rule X n m.first (output_blocks (result ps))
        && (different (chain X m.first (output_blocks (result ps)) ++ cs)
        && same (content X (chain X m.first (output_blocks (result ps)))) (padded (1023 * output_blocks (result ps)) all_ones (progress ps m.steps)))

    moved : rest W chains ≡ true → rest W' chains' ≡ true
    moved e =
        let k = output_blocks (result ps) in
        let c = and_right (chain_rule W n m.first k) _ e in
        let same-chain = chain-agree W' W m.first k agree in
        and_both (chain_rule W' n m.first k) _ (rule-agree W' W n m.first k agree ∙ and_left (chain_rule W n m.first k) _ e)
        (and_both (different (chain W' m.first k ++ chains')) _ (ap (λ l. different (l ++ chains')) same-chain ∙ once)
        (ap (λ l. same l (padded (1023 * k) all_ones (progress ps m.steps))) (ap (content W') same-chain ∙ content-agree W' W (chain W m.first k) agree)
        ∙ and_right (different (chain W m.first k ++ chains)) _ c))

-- ---- a flush to block b

module _ (s : State) (W : List ℕ) (e : Lists) (h : Holds s W e) (b : ℕ) (on : b < blocks s) (freed : is_free W b ≡ true)
    (few : length (buffered s.buffer) ≤ 128) (fine : Writable (buffered s.buffer)) (going : Progress e.account) where
  most : blocks s ≤ all_ones
  most = omega (arith, (lengths-kept s.lengths h.lengths).most_blocks)

  abbrev held-there : List Posting
  held-there = buffered s.buffer

  abbrev W' : List ℕ
  W' = flush_card W b held-there

  abbrev r : Partition
  r = flush_record b held-there

  abbrev qs : List Partition
  qs = finished s.partitions

  keeps : AgreeAll W' W qs
  keeps = flush-keeps W (blocks s) b held-there h.long on few fine qs most freed h.formed

  -- what was there is read as before
  portions-kept : (l : List Partition) → AgreeAll W' W l → map (portion_on W') l ≡ map (portion_on W) l
  unfolding AllOf
  portions-kept [] g = refl
  portions-kept (q ∷ l) g = ap₂ ◌∷◌ (ap (λ ps. record { level = q.level; postings = ps }) (postings-kept W' W q g.0)) (portions-kept l g.1)

  sizes-kept : (l : List Partition) → AgreeAll W' W l → every (λ p. tells p (postings_of W' p)) l ≡ every (λ p. tells p (postings_of W p)) l
  unfolding AllOf
  sizes-kept [] g = refl
  sizes-kept (q ∷ l) g = ap₂ ◌&&◌ (ap (λ ps. tells q ps) (postings-kept W' W q g.0)) (sizes-kept l g.1)

  written : postings_of W' r ≡ held-there
  written = flush-postings W (blocks s) b held-there h.long on few fine

  -- what is read afterwards
  new-portions : map (portion_on W') (qs ++ (r ∷ [])) ≡ (flushed_account e.account).partitions
  unfolding flushed_account
  new-portions =
      map-append (portion_on W') qs (r ∷ [])
      ∙ ap₂ (λ (x y : List Portion). x ++ y) (portions-kept qs keeps ∙ h.portions) (ap (λ ps. record { level = 0; postings = ps } ∷ []) (written ∙ buffer-is s W e h))

  new-chains : chains_of W' (qs ++ (r ∷ [])) ≡ chains_of W qs ++ (b ∷ [])
  unfolding chains_of
  new-chains =
      joined-append (chain_of W') qs (r ∷ [])
      ∙ ap₂ (λ (x y : List ℕ). x ++ y) (chains-kept W' W qs keeps) (append-nil (chain_of W' r) ∙ flush-chain W (blocks s) b held-there h.long on few)

  -- the block was no one's
  unoccupied : elem b (occupied W s) ≡ false
  unoccupied = not-true (elem b (occupied W s)) (sym (h.free b on) ∙ freed)

  apart_from : (l : List ℕ) → elem b l ≡ false → apart l (b ∷ []) ≡ true
  apart_from l z =
      elem-every (λ d. not (elem d (b ∷ []))) l
      (λ d y. ap not (ap (λ t. t || false) (ne_eqb b d (λ q. true≢false (sym y ∙ ap (λ x. elem x l) (sym q) ∙ z)))))

  -- ---- the state afterwards

  abbrev s' : State
  s' = flushed_to s b

  parts-after : finished s'.partitions ≡ qs ++ (r ∷ [])
  unfolding flushed_to
  parts-after = held 51 no_partition (qs ++ (r ∷ []))

  merge-after : s'.merge ≡ s.merge
  unfolding flushed_to
  merge-after = refl

  blocks-after : blocks s' ≡ blocks s
  unfolding flushed_to
  blocks-after = refl

  portions-after : map (portion_on W') (finished s'.partitions) ≡ (flushed_account e.account).partitions
  portions-after = ap (map (portion_on W')) parts-after ∙ new-portions

  chains-after : chains_of W' (finished s'.partitions) ≡ chains_of W qs ++ (b ∷ [])
  chains-after = ap (chains_of W') parts-after ∙ new-chains

  going-after : in_progress s' ≡ in_progress s
  going-after = ap (λ (m : MergeJob). not (eqb m.steps 0)) merge-after

  -- a merge in progress has the same inputs
  taking-after : in_progress s ≡ true → taking W' s' ≡ taking W s
  taking-after y =
      taking-is s' W' (flushed_account e.account) portions-after
      ∙ ap pairs (same_inputs (due_of e.account) refl)
      ∙ sym (taking-is s W e.account h.portions)
    where
      some : 1 ≤ e.account.steps
      some =
          let d = eqb-false s.merge.steps 0 (not-true (eqb s.merge.steps 0) y) in
          omega (arith, h.steps)

      same_inputs : (vs : List ℕ) → due_of e.account ≡ vs → inputs_of (flushed_account e.account) ≡ inputs_of e.account
      same_inputs [] q = absurd (progress-due e.account going some q)
      same_inputs (v ∷ vs) q = inputs-flushed e.account v vs q

  -- its output stays
  unoccupied-output : in_progress s ≡ true → elem b (output_chain W s (taking W s)) ≡ false
  unoccupied-output y = (or-none (elem b (output_chain W s (taking W s))) _ (sym (any_append (λ m. eqb m b) (output_chain W s (taking W s)) (chains_of W qs)) ∙ ap (λ l. elem b (l ++ chains_of W qs)) (sym out) ∙ unoccupied)).0
    where
      out : output_of W s ≡ output_chain W s (taking W s)
      out = unfold output_of in ap (λ t. cond t (output_chain W s (taking W s)) []) y

  output-agrees : in_progress s ≡ true → Agree W' W (output_chain W s (taking W s))
  output-agrees y = store-agrees W (b ∷ []) (encode 0 held-there) (output_chain W s (taking W s)) (apart_from (output_chain W s (taking W s)) (unoccupied-output y))

  chain-after : in_progress s ≡ true → output_chain W' s' (taking W' s') ≡ output_chain W s (taking W s)
  chain-after y =
      ap₂ (λ (m : MergeJob) (ps : List Posting). chain W' m.first (output_blocks (result ps))) merge-after (taking-after y)
      ∙ chain-agree W' W s.merge.first (output_blocks (result (taking W s))) (output-agrees y)

  output-after : output_of W' s' ≡ output_of W s
  unfolding output_of
  output-after =
      by-test (in_progress s)
      (λ y. ap (λ t. cond t (output_chain W' s' (taking W' s')) []) (going-after ∙ y) ∙ chain-after y ∙ sym (ap (λ t. cond t (output_chain W s (taking W s)) []) y))
      (λ n. ap (λ t. cond t (output_chain W' s' (taking W' s')) []) (going-after ∙ n) ∙ sym (ap (λ t. cond t (output_chain W s (taking W s)) []) n))

  occupied-after : occupied W' s' ≡ occupied W s ++ (b ∷ [])
  occupied-after = ap₂ (λ (x y : List ℕ). x ++ y) output-after chains-after ∙ sym (append_assoc (output_of W s) (chains_of W qs) (b ∷ []))

  rule-after : in_progress s ≡ true → output_rule W' s' (taking W' s') ≡ true
  rule-after y =
      ap (output_rule W' s') (taking-after y) ∙ rule-is W' s' (taking W s)
      ∙ ap₂ (λ (n : ℕ) (m : MergeJob). rule_of W' n m (chains_of W' (finished s'.partitions)) (taking W s)) blocks-after merge-after
      ∙ rule-carried W' W (blocks s) s.merge (chains_of W' (finished s'.partitions)) (chains_of W qs) (taking W s) (output-agrees y) once
      (sym (rule-is W s (taking W s)) ∙ h.output y)
    where
      once : different (output_chain W s (taking W s) ++ chains_of W' (finished s'.partitions)) ≡ true
      once =
          ap (λ l. different (output_chain W s (taking W s) ++ l)) chains-after
          ∙ ap different (sym (append_assoc (output_chain W s (taking W s)) (chains_of W qs) (b ∷ [])))
          ∙ different-insert (output_chain W s (taking W s) ++ chains_of W qs) [] b
          (ap (elem b) (append-nil (output_chain W s (taking W s) ++ chains_of W qs)) ∙ ap (λ l. elem b (l ++ chains_of W qs)) (sym out) ∙ unoccupied)
          (ap different (append-nil (output_chain W s (taking W s) ++ chains_of W qs)) ∙ (output-kept W s (chains-once s W e h) (h.output y)).apart)
        where
          out : output_of W s ≡ output_chain W s (taking W s)
          out = unfold output_of in ap (λ t. cond t (output_chain W s (taking W s)) []) y

  -- the block is free no more, and every other as it was
  free-after : (c : ℕ) → c < blocks s → is_free W' c ≡ not (elem c (occupied W' s'))
  unfolding partition_rule
  free-after c low =
      by-test (eqb b c)
      (λ y. let q = eqb-true b c y in
      ap (is_free W') (sym q) ∙ used ∙ sym (ap (λ l. not (elem c l)) occupied-after ∙ ap not (any_append (λ m. eqb m c) (occupied W s) (b ∷ []) ∙ or_right (elem c (occupied W s)) _ (ap (λ t. t || false) y))))
      (λ n. store_other W (b ∷ []) (encode 0 held-there) c (ap (λ t. t || false) n) ∙ h.free c low
      ∙ ap not (sym (ap (elem c) occupied-after ∙ any_append (λ m. eqb m c) (occupied W s) (b ∷ []) ∙ ap (λ t. elem c (occupied W s) || (t || false)) n ∙ or-false (elem c (occupied W s)))))
    where
      chain-ruled : chain_rule W' (blocks s) b (blocks_for (length_of held-there)) ≡ true
      chain-ruled = and_left (chain_rule W' (blocks s) b (blocks_for (length_of held-there))) _ whole
        where
          whole : partition_rule W' (blocks s) r ≡ true
          whole = flush-rule W (blocks s) b held-there h.long on few fine

      used : is_free W' b ≡ false
      used = not-true (is_free W' b) (and_left (not (is_free W' b)) true taken)
        where
          taken : every (λ d. not (is_free W' d)) (b ∷ []) ≡ true
          taken =
              ap (every (λ d. not (is_free W' d))) (sym (flush-chain W (blocks s) b held-there h.long on few))
              ∙ chain-taken W' (blocks s) b (blocks_for (length_of held-there)) (length-store W (b ∷ []) (encode 0 held-there) ∙ h.long) most chain-ruled

  -- the state after the flush, and the card, hold what the account holds after it
  pub holds-flushed : Holds (flushed_to s b) (flushed_card s W b) (with_account e (flushed_account e.account))
  unfolding flushed_card
  holds-flushed = record {
    lengths = unfold flushed_to in h.lengths;
    long = length-store W (b ∷ []) (encode 0 held-there) ∙ h.long ∙ ap (λ n. 1024 * n) (sym blocks-after);
    windows = unfold flushed_to in h.windows;
    listed = unfold flushed_to in h.listed;
    buffer = unfold flushed_to flushed_account in refl;
    partitions = parts_same ∙ ap partitions_of (sym parts-after);
    taken = taken-same;
    steps = steps-same;
    idle = λ z. merge-after ∙ h.idle (ap (λ (m : MergeJob). m.steps) (sym merge-after) ∙ z);
    portions = portions-after;
    sizes = ap (every sized) parts-after ∙ every_append sized qs (r ∷ [])
        ∙ and_both (every sized qs) _ (sizes-kept qs keeps ∙ h.sizes) (ap (λ t. t && true) (tells-own (b ∷ []) 0 held-there _ (sym written)));
    formed = ap₂ (λ (n : ℕ) (l : List Partition). partitions_formed W' n l) blocks-after parts-after
        ∙ flush-formed W (blocks s) b held-there h.long on few fine qs most freed h.formed;
    past = ap (every (clean_past W')) parts-after ∙ every_append (clean_past W') qs (r ∷ [])
        ∙ and_both (every (clean_past W') qs) _ (past-agree W' W qs keeps ∙ h.past) (ap (λ t. t && true) past-new);
    output = λ y. rule-after (sym going-after ∙ y);
    free = λ c low. free-after c (subst (λ n. c < n) blocks-after low);
  }
    where
      past-new : clean_past W' r ≡ true
      past-new = past-written W (b ∷ []) (blocks s) 0 held-there h.long (and_both (ltb b (blocks s)) true (lt-ltb b (blocks s) on) refl) refl (sym (one_block held-there few))

      sized : Partition → Bool
      sized p = tells p (postings_of W' p)

      parts_same : s'.partitions ≡ partitions_of (qs ++ (r ∷ []))
      parts_same = unfold flushed_to in refl

      taken-same : s'.taken < blocks s'
      taken-same = unfold flushed_to in on

      steps-same : s'.merge.steps ≡ (flushed_account e.account).steps
      steps-same = unfold flushed_to flushed_account in h.steps
