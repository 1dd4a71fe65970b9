-- How many blocks are free: all that neither a finished partition nor the output in progress has.
use Rattle.lists.proofs.Prelude.{Bool, true, false, ◌&&◌, not, cond, List, [], ◌∷◌, ◌++◌, map, ◌≡◌, refl, sym, ap, ap₂, ◌∙◌, ℕ, suc, ◌+◌, ◌*◌, arith, eqb, ltb, length, length-append, eqb-true, lt-ltb, le-ltb, not-true, keep, every, empty, elem, different, total_by, joined, same, up_to, by-test, and_left, and_right, and_both, every_append, length-all, same_true, keep-rising, keep-without, not-false}
use Rattle.words.specs.Words.{all_ones}
use Rattle.state.specs.declared.Partition.{Partition}
use Rattle.state.specs.declared.State.{State}
use Rattle.postings.specs.declared.Posting.{Posting}
use Rattle.state.specs.Views.{padded, blocks, finished}
use Rattle.card.specs.Blocks.{no_block, is_free, free_blocks, on_card}
use Rattle.card.specs.Chains.{blocks_for, chain, chain_rule, content}
use Rattle.card.proofs.Links.{length-chain, rule-on}
use Rattle.blocks.proofs.FreeBlocks.{free-count}
use Rattle.partitions.specs.Layout.{length_of}
use Rattle.partitions.specs.Reading.{chain_of, postings_of}
use Rattle.partitions.specs.Formed.{partition_rule, chains_of, partitions_formed}
use Rattle.flushes.specs.Flush.{finished_blocks}
use Rattle.plans.specs.Merging.{taking, result, output_length, output_blocks, progress, is_last}
use Rattle.plans.specs.Step.{in_progress, output_chain, output_rule}
use Rattle.accounts.specs.Account.{Portion, blocks_of, blocks_in, merged, blocks_ahead}
use Rattle.accounts.specs.Lists.{Lists}
use Rattle.accounts.proofs.Shaped.{portion_rule}
use Rattle.decoded.specs.Portions.{portion_on, output_of, occupied, tells}
use Rattle.decoded.proofs.Holds.{Holds, taking-is}

-- ---- the blocks of finished partitions

module _ (W : List ℕ) (n : ℕ) where
  chain-on : (p : Partition) → partition_rule W n p ≡ true → on_card n (chain_of W p) ≡ true
  unfolding partition_rule
  chain-on p e = rule-on W n p.first (blocks_for p.length) (and_left (chain_rule W n p.first (blocks_for p.length)) _ e)

  pub chains-on : (ps : List Partition) → every (partition_rule W n) ps ≡ true → on_card n (chains_of W ps) ≡ true
  unfolding chains_of
  chains-on [] e = refl
  chains-on (p ∷ ps) e =
      every_append (λ b. ltb b n) (chain_of W p) (joined (map (chain_of W) ps))
      ∙ and_both (every (λ b. ltb b n) (chain_of W p)) _ (chain-on p (and_left (partition_rule W n p) _ e)) (chains-on ps (and_right (partition_rule W n p) _ e))

pub chains-length : (W : List ℕ) (ps : List Partition) → length (chains_of W ps) ≡ total_by (λ p. blocks_for p.length) ps
unfolding chains_of
chains-length W ps = length-all (chain_of W) ps ∙ each ps
  where
    each : (l : List Partition) → total_by (λ p. length (chain_of W p)) l ≡ total_by (λ p. blocks_for p.length) l
    each [] = refl
    each (p ∷ l) = ap₂ ◌+◌ (length-chain W p.first (blocks_for p.length)) (each l)

-- ---- the output in progress

-- what the output's rule says
pub record OutputKept (W : List ℕ) (s : State) : Type 0 where
  pub left : is_last (taking W s) s.merge.steps ≡ false
  pub length : s.merge.length ≡ output_length (result (taking W s))
  pub none : empty (result (taking W s)) ≡ true → s.merge.first ≡ no_block
  pub on : on_card (blocks s) (output_chain W s (taking W s)) ≡ true
  pub apart : different (output_chain W s (taking W s) ++ chains_of W (finished s.partitions)) ≡ true
  pub filled : empty (result (taking W s)) ≡ false → content W (output_chain W s (taking W s)) ≡ padded (1023 * output_blocks (result (taking W s))) all_ones (progress (taking W s) s.merge.steps)

pub output-kept : (W : List ℕ) (s : State) → different (chains_of W (finished s.partitions)) ≡ true → output_rule W s (taking W s) ≡ true → OutputKept W s
unfolding output_rule
output-kept W s once rule =
    let ps = taking W s in
    let a = and_right (not (is_last ps s.merge.steps)) _ rule in
    let b = and_right (eqb s.merge.length (output_length (result ps))) _ a in
    record {
      left = not-true _ (and_left (not (is_last ps s.merge.steps)) _ rule);
      length = eqb-true _ _ (and_left (eqb s.merge.length (output_length (result ps))) _ a);
      none = λ y. eqb-true _ _ (sym (ap (λ t. cond t (eqb s.merge.first no_block) (rest ps)) y) ∙ b);
      on = by-test (empty (result ps)) (λ y. nothing ps y) (λ n. rule-on W (blocks s) s.merge.first (output_blocks (result ps)) (and_left (chain_rule W (blocks s) s.merge.first (output_blocks (result ps))) _ (some ps b n)));
      apart = by-test (empty (result ps)) (λ y. ap (λ l. different (l ++ chains_of W (finished s.partitions))) (no-chain ps y) ∙ once)
          (λ n. and_left (different (output_chain W s ps ++ chains_of W (finished s.partitions))) _ (and_right (chain_rule W (blocks s) s.merge.first (output_blocks (result ps))) _ (some ps b n)));
      filled = λ n. same_true _ _ (and_right (different (output_chain W s ps ++ chains_of W (finished s.partitions))) _ (and_right (chain_rule W (blocks s) s.merge.first (output_blocks (result ps))) _ (some ps b n)));
    }
  where
    rest : List Posting → Bool
    rest ps =
        chain_rule W (blocks s) s.merge.first (output_blocks (result ps))
        && (different (output_chain W s ps ++ chains_of W (finished s.partitions))
        && same (content W (output_chain W s ps)) (padded (1023 * output_blocks (result ps)) all_ones (progress ps s.merge.steps)))

    some : (ps : List Posting) → cond (empty (result ps)) (eqb s.merge.first no_block) (rest ps) ≡ true → empty (result ps) ≡ false → rest ps ≡ true
    some ps b n = sym (ap (λ t. cond t (eqb s.merge.first no_block) (rest ps)) n) ∙ b

    no-chain : (ps : List Posting) → empty (result ps) ≡ true → output_chain W s ps ≡ []
    no-chain ps y = unfold chain in ap (chain W s.merge.first) (ap (λ t. cond t 0 (blocks_for (length_of (result ps)))) y)

    nothing : (ps : List Posting) → empty (result ps) ≡ true → on_card (blocks s) (output_chain W s ps) ≡ true
    nothing ps y = ap (on_card (blocks s)) (no-chain ps y)

-- ---- all that is occupied

module _ (s : State) (W : List ℕ) (e : Lists) (h : Holds s W e) where
  pub chains-once : different (chains_of W (finished s.partitions)) ≡ true
  chains-once = and_right (every (partition_rule W (blocks s)) (finished s.partitions)) _ whole
    where
      whole : (every (partition_rule W (blocks s)) (finished s.partitions) && different (chains_of W (finished s.partitions))) ≡ true
      whole = unfold partitions_formed in h.formed

  pub each-formed : every (partition_rule W (blocks s)) (finished s.partitions) ≡ true
  each-formed = and_left (every (partition_rule W (blocks s)) (finished s.partitions)) _ whole
    where
      whole : (every (partition_rule W (blocks s)) (finished s.partitions) && different (chains_of W (finished s.partitions))) ≡ true
      whole = unfold partitions_formed in h.formed

  -- the output in progress
  pub going : in_progress s ≡ true → OutputKept W s
  going y = output-kept W s chains-once (h.output y)

  pub output-going : in_progress s ≡ true → output_of W s ≡ output_chain W s (taking W s)
  unfolding output_of
  output-going y = ap (λ t. cond t (output_chain W s (taking W s)) []) y

  output-idle : in_progress s ≡ false → output_of W s ≡ []
  unfolding output_of
  output-idle n = ap (λ t. cond t (output_chain W s (taking W s)) []) n

  pub occupied-once : different (occupied W s) ≡ true
  occupied-once =
      by-test (in_progress s)
      (λ y. ap (λ l. different (l ++ chains_of W (finished s.partitions))) (output-going y) ∙ (going y).apart)
      (λ n. ap (λ l. different (l ++ chains_of W (finished s.partitions))) (output-idle n) ∙ chains-once)

  pub output_on : on_card (blocks s) (output_of W s) ≡ true
  output_on =
      by-test (in_progress s) (λ y. ap (on_card (blocks s)) (output-going y) ∙ (going y).on) (λ n. ap (on_card (blocks s)) (output-idle n))

  occupied-on : on_card (blocks s) (occupied W s) ≡ true
  occupied-on =
      every_append (λ b. ltb b (blocks s)) (output_of W s) (chains_of W (finished s.partitions))
      ∙ and_both (on_card (blocks s) (output_of W s)) _ output_on (chains-on W (blocks s) (finished s.partitions) each-formed)

  -- ---- how many, as the account counts

  module _ (parts : every portion_rule e.account.partitions ≡ true) where
    pub finished-is : finished_blocks s ≡ blocks_in e.account
    unfolding finished_blocks blocks_in
    finished-is = each (finished s.partitions) h.sizes (ap (every portion_rule) h.portions ∙ parts) ∙ ap (total_by (λ (p : Portion). blocks_of p.postings)) h.portions
      where
        one : (p : Partition) → tells p (postings_of W p) ≡ true → empty (postings_of W p) ≡ false → blocks_for p.length ≡ blocks_of (postings_of W p)
        one p y n = unfold blocks_of in (ap blocks_for (eqb-true p.length (length_of (postings_of W p)) (and_left (eqb p.length (length_of (postings_of W p))) _ y)) ∙ sym (ap (λ t. cond t 0 (blocks_for (length_of (postings_of W p)))) n))

        each : (l : List Partition) → every (λ p. tells p (postings_of W p)) l ≡ true → every portion_rule (map (portion_on W) l) ≡ true
            → total_by (λ p. blocks_for p.length) l ≡ total_by (λ (p : Portion). blocks_of p.postings) (map (portion_on W) l)
        each [] y z = refl
        each (p ∷ l) y z =
            ap₂ ◌+◌
            (one p (and_left (tells p (postings_of W p)) _ y) (not-true _ (and_left (not (empty (postings_of W p))) _ (and_left (portion_rule (portion_on W p)) _ z))))
            (each l (and_right (tells p (postings_of W p)) _ y) (and_right (portion_rule (portion_on W p)) _ z))

    -- a result takes as many blocks as the account says
    pub result-is : output_blocks (result (taking W s)) ≡ blocks_of (merged e.account)
    unfolding blocks_of merged
    result-is = ap (λ ps. output_blocks (result ps)) (taking-is s W e.account h.portions)

    progress-is : in_progress s ≡ not (eqb e.account.steps 0)
    progress-is = ap (λ n. not (eqb n 0)) h.steps

    pub output-length : length (output_of W s) ≡ blocks_ahead e.account
    output-length =
        by-test (in_progress s)
        (λ y. ap length (output-going y) ∙ length-chain W s.merge.first (output_blocks (result (taking W s))) ∙ result-is
        ∙ sym (ahead-is (not-true (eqb e.account.steps 0) (sym progress-is ∙ y))))
        (λ n. ap length (output-idle n) ∙ sym (none_ahead (not-false (eqb e.account.steps 0) (sym progress-is ∙ n))))
      where
        ahead-is : eqb e.account.steps 0 ≡ false → blocks_ahead e.account ≡ blocks_of (merged e.account)
        ahead-is n = unfold blocks_ahead in ap (λ t. cond t 0 (blocks_of (merged e.account))) n

        none_ahead : eqb e.account.steps 0 ≡ true → blocks_ahead e.account ≡ 0
        none_ahead y = unfold blocks_ahead in ap (λ t. cond t 0 (blocks_of (merged e.account))) y

    -- every block is free or occupied
    pub free-left : length (free_blocks W (blocks s) s.taken) + (blocks_in e.account + blocks_ahead e.account) ≡ blocks s
    free-left =
        omega (
          arith,
          free-count W (blocks s) s.taken,
          kept,
          keep-without (blocks s) (occupied W s) occupied-once occupied-on,
          length-append (output_of W s) (chains_of W (finished s.partitions)),
          output-length,
          chains-length W (finished s.partitions),
          counted,
        )
      where
        kept : length (keep (is_free W) (up_to (blocks s))) ≡ length (keep (λ b. not (elem b (occupied W s))) (up_to (blocks s)))
        kept = ap length (keep-rising (is_free W) (λ b. not (elem b (occupied W s))) 0 (blocks s) (λ b x y. h.free b (omega arith)))

        counted : total_by (λ (p : Partition). blocks_for p.length) (finished s.partitions) ≡ blocks_in e.account
        counted = unfold finished_blocks in finished-is

    -- a flush finds none exactly where the account says so
    pub none_free : empty (free_blocks W (blocks s) s.taken) ≡ ltb (blocks s) (suc (blocks_in e.account + blocks_ahead e.account))
    none_free = go (free_blocks W (blocks s) s.taken) free-left
      where
        go : (l : List ℕ) → length l + (blocks_in e.account + blocks_ahead e.account) ≡ blocks s → empty l ≡ ltb (blocks s) (suc (blocks_in e.account + blocks_ahead e.account))
        go [] q = sym (lt-ltb (blocks s) (suc (blocks_in e.account + blocks_ahead e.account)) (omega arith))
        go (b ∷ l) q = sym (le-ltb (blocks s) (suc (blocks_in e.account + blocks_ahead e.account)) (omega arith))
