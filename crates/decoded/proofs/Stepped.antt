-- After a step that does not end the merge, state and card hold what the account holds after it: the same partitions, and one step more.
use Rattle.lists.proofs.Prelude.{Bool, true, false, ◌||◌, ◌&&◌, not, cond, List, [], ◌∷◌, ◌++◌, map, ◌≡◌, refl, sym, ap, ap₂, ◌∙◌, ℕ, zero, suc, ◌+◌, ◌*◌, ◌<◌, ◌≤◌, arith, eqb, length, get_or, take, replicate, length-append, length-map, length-replicate, eq-eqb, ne_eqb, AllOf, every, empty, elem, different, same, by-test, and_both, eq-same, elem-left, elem-append}
use Rattle.words.specs.Words.{all_ones}
use Rattle.postings.specs.declared.Posting.{Posting}
use Rattle.postings.specs.Merge.{is_counted, nonzero}
use Rattle.state.specs.declared.Partition.{Partition}
use Rattle.state.specs.declared.MergeJob.{MergeJob}
use Rattle.state.specs.declared.State.{State}
use Rattle.state.specs.Views.{padded, blocks, finished, with_taken, with_merge}
use Rattle.state.proofs.Kept.{lengths-kept}
use Rattle.card.specs.Blocks.{no_block, is_free, on_card}
use Rattle.card.specs.Chains.{blocks_for, chain, chain_rule, content}
use Rattle.blocks.specs.Writes.{store}
use Rattle.blocks.proofs.Stores.{length-store}
use Rattle.blocks.proofs.Stored.{chain-stored, rule-stored, content-stored}
use Rattle.blocks.proofs.FreeBlocks.{store_other, written-taken}
use Rattle.partitions.specs.Layout.{term_count, length_of, word_of}
use Rattle.partitions.specs.Reading.{postings_of}
use Rattle.partitions.specs.Formed.{chains_of}
use Rattle.partitions.proofs.Lengths.{blocks-some}
use Rattle.partitions.proofs.Kept.{AgreeAll, postings-kept, chains-kept, formed-kept, store_keeps}
use Rattle.plans.specs.Merging.{taking, result, output_length, output_blocks, progress, is_last}
use Rattle.plans.specs.Step.{in_progress, output_chain, output_rule}
use Rattle.accounts.specs.Account.{furthered}
use Rattle.accounts.specs.Lists.{Lists, with_account}
use Rattle.decoded.specs.Portions.{portion_on, output_of, occupied, tells}
use Rattle.decoded.proofs.Disjoint.{different-join}
use Rattle.decoded.proofs.Holds.{Holds, taking-is}
use Rattle.decoded.proofs.Past.{past-agree}
use Rattle.decoded.proofs.Unused.{chains-once}
use Rattle.decoded.proofs.Flushed.{rule_of, rule-is}
use Rattle.decoded.proofs.Outputs.{Output, each-apart}

-- ---- cards that agree on partitions

pub portions-agree : (W' W : List ℕ) (l : List Partition) → AgreeAll W' W l → map (portion_on W') l ≡ map (portion_on W) l
unfolding AllOf
portions-agree W' W [] g = refl
portions-agree W' W (q ∷ l) g = ap₂ ◌∷◌ (ap (λ ps. record { level = q.level; postings = ps }) (postings-kept W' W q g.0)) (portions-agree W' W l g.1)

pub sizes-agree : (W' W : List ℕ) (l : List Partition) → AgreeAll W' W l → every (λ p. tells p (postings_of W' p)) l ≡ every (λ p. tells p (postings_of W p)) l
unfolding AllOf
sizes-agree W' W [] g = refl
sizes-agree W' W (q ∷ l) g = ap₂ ◌&&◌ (ap (λ ps. tells q ps) (postings-kept W' W q g.0)) (sizes-agree W' W l g.1)

-- ---- the posting space never exceeds the result's

taken-few : (n : ℕ) (l : List Posting) → length (nonzero (take n l)) ≤ length (nonzero l)
unfolding nonzero
taken-few zero l = omega arith
taken-few (suc n) [] = omega arith
taken-few (suc n) (p ∷ l) = let r = taken-few n l in by-test (is_counted p) (λ y. rw y (omega arith)) (λ z. rw z (omega arith))

pub progress-fits : (ps : List Posting) (j : ℕ) → empty (result ps) ≡ false → length (progress ps j) ≤ 1023 * output_blocks (result ps)
unfolding progress length_of
progress-fits ps j n =
    let long : length (replicate (8 + 3 * term_count (result ps)) all_ones ++ map word_of (nonzero (take (16 * j) ps))) ≡ 8 + 3 * term_count (result ps) + length (nonzero (take (16 * j) ps))
    = length-append (replicate (8 + 3 * term_count (result ps)) all_ones) (map word_of (nonzero (take (16 * j) ps)))
    ∙ ap₂ ◌+◌ (length-replicate (8 + 3 * term_count (result ps)) all_ones) (length-map (nonzero (take (16 * j) ps)) word_of) in
    let room : output_blocks (result ps) ≡ blocks_for (32 + 12 * term_count (result ps) + 4 * length (result ps)) = ap (λ t. cond t 0 (blocks_for (32 + 12 * term_count (result ps) + 4 * length (result ps)))) n in
    omega (arith, taken-few (16 * j) ps)

-- ---- words written along blocks

-- the chain of what is stored, whichever number stands for none
pub chain-of : (W bs c : List ℕ) (n : ℕ) → length W ≡ 1024 * n → on_card n bs ≡ true → different bs ≡ true → chain (store W bs c) (get_or bs 0 no_block) (length bs) ≡ bs
chain-of W [] c n long on once = unfold chain in refl
chain-of W (b ∷ bs) c n long on once = chain-stored W (b ∷ bs) c n long on once

pub rule-of : (W bs c : List ℕ) (n : ℕ) → length W ≡ 1024 * n → on_card n bs ≡ true → different bs ≡ true → 1 ≤ length bs → chain_rule (store W bs c) n (get_or bs 0 no_block) (length bs) ≡ true
rule-of W [] c n long on once some = absurd (omega arith)
rule-of W (b ∷ bs) c n long on once some = rule-stored W (b ∷ bs) c n long on once some

module _ (s : State) (W : List ℕ) (e : Lists) (h : Holds s W e) (bs : List ℕ) (out : Output W s bs) (t : ℕ) (low : t < blocks s)
    (left : is_last (taking W s) (suc s.merge.steps) ≡ false) where
  abbrev j : ℕ
  j = suc s.merge.steps

  abbrev ps : List Posting
  ps = taking W s

  abbrev W' : List ℕ
  W' = store W bs (progress ps j)

  abbrev job : MergeJob
  job = record { first = get_or bs 0 no_block; length = output_length (result ps); steps = j }

  abbrev s' : State
  s' = with_taken (with_merge s job) t

  abbrev qs : List Partition
  qs = finished s.partitions

  most : blocks s ≤ all_ones
  most = omega (arith, (lengths-kept s.lengths h.lengths).most_blocks)

  keeps : AgreeAll W' W qs
  keeps = store_keeps W bs (progress ps j) qs (each-apart W bs qs out.apart)

  portions-same : map (portion_on W') (finished s'.partitions) ≡ e.account.partitions
  portions-same = portions-agree W' W qs keeps ∙ h.portions

  taking-same : taking W' s' ≡ ps
  taking-same = taking-is s' W' e.account portions-same ∙ sym (taking-is s W e.account h.portions)

  chain_same : output_chain W' s' (taking W' s') ≡ bs
  chain_same =
      ap (λ l. chain W' (get_or bs 0 no_block) (output_blocks (result l))) taking-same ∙ ap (chain W' (get_or bs 0 no_block)) (sym out.size)
      ∙ chain-of W bs (progress ps j) (blocks s) h.long out.on out.once

  going-now : in_progress s' ≡ true
  going-now = ap not (ne_eqb j 0 (λ z. omega arith))

  output-same : output_of W' s' ≡ bs
  unfolding output_of
  output-same = ap (λ u. cond u (output_chain W' s' (taking W' s')) []) going-now ∙ chain_same

  chains-same : chains_of W' qs ≡ chains_of W qs
  chains-same = chains-kept W' W qs keeps

  apart-once : different (bs ++ chains_of W qs) ≡ true
  apart-once = different-join bs (chains_of W qs) out.once (chains-once s W e h) out.apart

  -- the output is what its inputs give so far
  output-formed : output_rule W' s' (taking W' s') ≡ true
  output-formed = ap (output_rule W' s') taking-same ∙ rule-is W' s' ps ∙ whole
    where
      rest : Bool
      rest =
          chain_rule W' (blocks s) (get_or bs 0 no_block) (output_blocks (result ps))
          && (different (chain W' (get_or bs 0 no_block) (output_blocks (result ps)) ++ chains_of W' qs)
          && same (content W' (chain W' (get_or bs 0 no_block) (output_blocks (result ps)))) (padded (1023 * output_blocks (result ps)) all_ones (progress ps j)))

      chain-is : chain W' (get_or bs 0 no_block) (output_blocks (result ps)) ≡ bs
      chain-is = ap (chain W' (get_or bs 0 no_block)) (sym out.size) ∙ chain-of W bs (progress ps j) (blocks s) h.long out.on out.once

      some-blocks : empty (result ps) ≡ false → 1 ≤ length bs
      some-blocks n = omega (arith, out.size, ap (λ u. cond u 0 (blocks_for (length_of (result ps)))) n, blocks-some (result ps))

      written : empty (result ps) ≡ false → rest ≡ true
      written n =
          and_both (chain_rule W' (blocks s) (get_or bs 0 no_block) (output_blocks (result ps))) _
          (ap (chain_rule W' (blocks s) (get_or bs 0 no_block)) (sym out.size) ∙ rule-of W bs (progress ps j) (blocks s) h.long out.on out.once (some-blocks n))
          (and_both (different (chain W' (get_or bs 0 no_block) (output_blocks (result ps)) ++ chains_of W' qs)) _
          (ap₂ (λ (x y : List ℕ). different (x ++ y)) chain-is chains-same ∙ apart-once)
          (eq-same (content W' (chain W' (get_or bs 0 no_block) (output_blocks (result ps)))) (padded (1023 * output_blocks (result ps)) all_ones (progress ps j))
          (ap (content W') chain-is
          ∙ content-stored W bs (progress ps j) (blocks s) h.long out.on out.once (omega (arith, progress-fits ps j n, out.size))
          ∙ ap (λ m. padded (1023 * m) all_ones (progress ps j)) out.size)))

      no_blocks : (l : List ℕ) → length l ≡ 0 → get_or l 0 no_block ≡ no_block
      no_blocks [] z = refl
      no_blocks (b ∷ l) z = absurd (omega arith)

      none : empty (result ps) ≡ true → eqb (get_or bs 0 no_block) no_block ≡ true
      none y = eq-eqb (get_or bs 0 no_block) no_block (no_blocks bs (out.size ∙ ap (λ u. cond u 0 (blocks_for (length_of (result ps)))) y))

      whole : rule_of W' (blocks s) job (chains_of W' qs) ps ≡ true
      whole = unfold rule_of in
          and_both (not (is_last ps j)) _ (ap not left)
          (and_both (eqb (output_length (result ps)) (output_length (result ps))) _ (eq-eqb (output_length (result ps)) (output_length (result ps)) refl)
          (by-test (empty (result ps))
          (λ y. ap (λ u. cond u (eqb (get_or bs 0 no_block) no_block) rest) y ∙ none y)
          (λ n. ap (λ u. cond u (eqb (get_or bs 0 no_block) no_block) rest) n ∙ written n)))

  -- its blocks are free no more, and every other is as it was
  free-same : (b : ℕ) → b < blocks s → is_free W' b ≡ not (elem b (occupied W' s'))
  free-same b within =
      by-test (elem b bs)
      (λ y. written-taken W bs (progress ps j) (blocks s) b h.long most out.on out.once y
      ∙ sym (ap not (ap (elem b) occupied-is ∙ elem-left b bs (chains_of W qs) y)))
      (λ n. store_other W bs (progress ps j) b n ∙ h.free b within
      ∙ ap not (elem-append b (output_of W s) (chains_of W qs) ∙ ap (λ u. u || elem b (chains_of W qs)) (out.covers b n)
      ∙ sym (ap (elem b) occupied-is ∙ elem-append b bs (chains_of W qs) ∙ ap (λ u. u || elem b (chains_of W qs)) n)))
    where
      occupied-is : occupied W' s' ≡ bs ++ chains_of W qs
      occupied-is = ap₂ (λ (x y : List ℕ). x ++ y) output-same chains-same

  pub holds-stepped : Holds s' W' (with_account e (furthered e.account))
  unfolding furthered
  holds-stepped = record {
    lengths = h.lengths;
    long = length-store W bs (progress ps j) ∙ h.long;
    windows = h.windows;
    listed = h.listed;
    buffer = h.buffer;
    partitions = h.partitions;
    taken = low;
    steps = ap suc h.steps;
    idle = λ z. absurd (omega arith);
    portions = portions-same;
    sizes = sizes-agree W' W qs keeps ∙ h.sizes;
    formed = formed-kept W' W (blocks s) qs keeps ∙ h.formed;
    past = past-agree W' W qs keeps ∙ h.past;
    output = λ y. output-formed;
    free = free-same;
  }
