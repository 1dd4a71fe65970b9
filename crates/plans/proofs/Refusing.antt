-- The rule of the output in progress, test by test.
use Rattle.lists.proofs.Prelude.{Bool, true, false, cond, ◌&&◌, List, [], ◌≡◌, sym, ap, ◌∙◌, ℕ, suc, ◌+◌, ◌*◌, ◌<◌, ◌≤◌, arith, eqb, length, take, drop, length-append, take-append-drop, eqb-true, eq-eqb, ne_eqb, le-leb, lt-leb, empty, by-test, and_left, and_right, same_true, empty-length, empty-none}
use Rattle.postings.specs.declared.Posting.{Posting}
use Rattle.postings.specs.Merge.{nonzero, pairs}
use Rattle.state.specs.declared.Partition.{Partition}
use Rattle.state.specs.declared.Partitions.{Partitions}
use Rattle.state.specs.declared.State.{State}
use Rattle.state.specs.Views.{blocks, finished}
use Rattle.card.specs.Blocks.{no_block}
use Rattle.card.specs.Chains.{blocks_for, chain_rule}
use Rattle.partitions.specs.Layout.{length_of}
use Rattle.partitions.specs.Reading.{in_partitions}
use Rattle.inputs.specs.declared.Totals.{Totals}
use Rattle.inputs.specs.declared.Batch.{Batch}
use Rattle.inputs.specs.Ahead.{batched}
use Rattle.drafts.specs.Drafted.{holds_draft, stands_apart}
use Rattle.plans.specs.declared.Output.{Output}
use Rattle.plans.specs.Merging.{inputs, taking, result, output_length, output_blocks, progress, is_last}
use Rattle.plans.specs.Step.{output_rule}
use Rattle.plans.specs.Acting.{stands_on, standing, Judged, Acts, length_from}
use Rattle.levels.proofs.Choosing.{finished-of}
use Rattle.plans.proofs.Progress.{nonzero-append, nonzero-take, result-room, last_taken}
use Rattle.plans.proofs.Drafting.{terms-told, postings-told, pairs-told}

-- Told by the totals -----------------------------------------------------------------------------------------------------

module _ (W : List ℕ) (s : State) (is : Partitions) (t : Totals) (g : Judged W s is t) where
  abbrev ps : List Posting
  ps = taking W s

  pub empty-told : eqb t.postings 0 ≡ empty (result ps)
  empty-told = ap (λ (k : ℕ). eqb k 0) (postings-told W s is t g) ∙ empty-length (result ps)

  pub length-told : length_from t ≡ output_length (result ps)
  unfolding length_of
  length-told = rw (empty-told, terms-told W s is t g, postings-told W s is t g)

  pub blocks-told : blocks_for (length_from t) ≡ output_blocks (result ps)
  blocks-told = ap blocks_for length-told ∙ by-test (empty (result ps)) (λ y. rw y) (λ y. rw y)

  -- no block is there for an empty result alone
  pub none-empty : blocks_for (length_from t) ≡ 0 → empty (result ps) ≡ true
  unfolding length_of
  none-empty e = by-test (empty (result ps)) (λ y. y) (λ f. absurd (omega (arith, e, ap blocks_for (length-told ∙ ap (λ (u : Bool). cond u 0 (length_of (result ps))) f))))

  pub some-there : (blocks_for (length_from t) ≡ 0 → ⊥) → empty (result ps) ≡ false
  some-there h = by-test (empty (result ps)) (λ y. absurd (h (blocks-told ∙ rw y))) (λ f. f)

  -- the pairs of the inputs, as they are read
  pub pairs-read : pairs (in_partitions W (finished is)) ≡ ps
  unfolding taking
  pairs-read = ap (λ (l : List Partition). pairs (in_partitions W l)) (ap finished g.are ∙ finished-of (inputs s))

  -- The rule -----------------------------------------------------------------------------------------------------------------

  abbrev j : ℕ
  j = s.merge.steps

  abbrev n : ℕ
  n = blocks_for (length_from t)

  -- the blocks of an output of its length stand as they were judged to
  pub standing_apart : 1 ≤ j → s.merge.length ≡ length_from t → (n ≡ 0 → ⊥) → standing W s ≡ true
      → (chain_rule W (blocks s) s.merge.first n ≡ true) × (stands_apart W s.merge.first n (finished s.partitions) ≡ true)
  unfolding stands_on
  standing_apart h l some e =
      let busy : eqb j 0 ≡ false = ne_eqb j 0 (λ z. omega arith) in
      let c = rw (busy, ne_eqb n 0 some) at (rw l at e) in
      (and_left (chain_rule W (blocks s) s.merge.first n) _ c, and_right (chain_rule W (blocks s) s.merge.first n) _ c)

  pub rule-late : t.pairs ≤ 16 * j → false ≡ output_rule W s ps
  unfolding output_rule
  rule-late h = rw (le-leb (length ps) (16 * j) (omega (arith, pairs-told W s is t g)))

  module _ (early : 16 * j < t.pairs) where
    left : is_last ps j ≡ false
    left = lt-leb (length ps) (16 * j) (omega (arith, pairs-told W s is t g))

    pub rule-long : (s.merge.length ≡ length_from t → ⊥) → false ≡ output_rule W s ps
    unfolding output_rule
    rule-long h = rw (left, ne_eqb s.merge.length (output_length (result ps)) (λ e. h (e ∙ sym length-told)))

    module _ (same_length : s.merge.length ≡ length_from t) where
      fits : eqb s.merge.length (output_length (result ps)) ≡ true
      fits = eq-eqb s.merge.length (output_length (result ps)) (same_length ∙ length-told)

      pub rule-none : n ≡ 0 → eqb s.merge.first no_block ≡ output_rule W s ps
      unfolding output_rule
      rule-none z = rw (left, fits, none-empty z)

      module _ (some : n ≡ 0 → ⊥) where
        rest : output_rule W s ps
            ≡ (chain_rule W (blocks s) s.merge.first n
            && (stands_apart W s.merge.first n (finished s.partitions) && holds_draft W s.merge.first n (8 + 3 * t.terms) (16 * j) ps))
        unfolding output_rule progress
        rest = rw (left, fits, blocks-told, terms-told W s is t g, some-there some)

        pub rule-held : chain_rule W (blocks s) s.merge.first n ≡ true → stands_apart W s.merge.first n (finished s.partitions) ≡ true
            → holds_draft W s.merge.first n (8 + 3 * t.terms) (16 * j) ps ≡ output_rule W s ps
        rule-held e f = sym (rest ∙ rw (e, f))

        pub room-held : 8 + 3 * t.terms + length (nonzero ps) ≤ 1023 * n
        room-held = omega (arith, terms-told W s is t g, result-room ps n blocks-told (some-there some))

  -- In order -----------------------------------------------------------------------------------------------------------------

  module _ (o : Output) (b : Batch) (first : o.first ≡ s.merge.first) (many : o.blocks ≡ n) where
    -- an empty result
    pub acts-none : n ≡ 0 → s.merge.first ≡ no_block → o.written ≡ 0 → b.used ≡ 0 → b.taken ≡ 16 → Acts W s o b
    acts-none z e w u k =
        let nothing : length (nonzero ps) ≡ 0 = eqb-true (length (nonzero ps)) 0 (empty-length (nonzero ps) ∙ none-empty z) in
        let after : nonzero (take 16 (drop (16 * j) ps)) ≡ [] =
        empty-none (nonzero (take 16 (drop (16 * j) ps)))
        (omega (arith, nonzero-take 16 (drop (16 * j) ps), ap (λ (l : List Posting). length (nonzero l)) (take-append-drop (16 * j) ps), ap length (nonzero-append (take (16 * j) ps) (drop (16 * j) ps)), length-append (nonzero (take (16 * j) ps)) (nonzero (drop (16 * j) ps)))) in
        record {
          blocks = many ∙ blocks-told;
          none = λ x. first ∙ e;
          draft = λ h. absurd (omega (arith, many));
          written = w ∙ sym (let q : length (nonzero (take (16 * j) ps)) ≡ 0 = omega (arith, nonzero-take (16 * j) ps) in q);
          batch = ap (λ (k : ℕ). take k b.pairs) u ∙ sym after;
          few = omega arith;
          last = let q : 16 * j + b.taken ≡ 16 * suc j = omega arith in rw q;
        }

    -- one with blocks that hold it
    pub acts-held : (n ≡ 0 → ⊥) → chain_rule W (blocks s) s.merge.first n ≡ true → stands_apart W s.merge.first n (finished s.partitions) ≡ true
        → holds_draft W s.merge.first n (8 + 3 * t.terms) (16 * j) ps ≡ true
        → o.written ≡ length (nonzero (take (16 * j) ps)) → batched b ≡ nonzero (take 16 (drop (16 * j) ps)) → b.taken ≡ length (take 16 (drop (16 * j) ps)) → b.used ≤ 16 → Acts W s o b
    unfolding progress
    acts-held some e f h w x k u =
        record {
          blocks = many ∙ blocks-told;
          none = λ z. absurd (some (sym many ∙ z));
          draft = λ z. rw (first, many) (record {
            rule = e;
            apart = f;
            full = rw (← terms-told W s is t g) (same_true _ _ h);
          });
          written = w;
          batch = x;
          few = u;
          last = last_taken ps j b.taken k;
        }
