-- The output on its blocks, from one step to the next.
use Rattle.lists.proofs.Prelude.{Bool, true, false, cond, List, ◌++◌, map, ◌≡◌, refl, sym, ap, ◌∙◌, ℕ, zero, suc, ◌+◌, ◌*◌, ◌<◌, ◌≤◌, arith, leb, eqb, length, get_or, take, drop, length-append, length-map, sets, length-sets, eqb-true, eqb-false, AllOf, every, empty, joined, different, up_to, by-test, and_left, and_right, every_take, every_drop, every-keep, length-joined, length-rising, Parted, different-parts}
use Rattle.postings.specs.declared.Posting.{Posting}
use Rattle.postings.specs.Order.{ordered}
use Rattle.postings.specs.Merge.{is_counted, nonzero, pairs}
use Rattle.postings.specs.Sums.{under}
use Rattle.postings.proofs.Merge.{pairs-ordered, nonzero-ordered}
use Rattle.postings.specs.Spans.{lowest, highest}
use Rattle.state.specs.declared.Partition.{Partition}
use Rattle.state.specs.declared.Partitions.{Partitions}
use Rattle.state.specs.declared.State.{State}
use Rattle.state.specs.Views.{blocks, finished}
use Rattle.card.specs.Chains.{blocks_for, chain}
use Rattle.card.specs.Cursors.{Chained}
use Rattle.blocks.specs.Writes.{store, release}
use Rattle.card.proofs.Chains.{chain-none}
use Rattle.card.proofs.Links.{length-chain, rule-on}
use Rattle.card.proofs.Seeking.{rule-chained}
use Rattle.blocks.proofs.Stores.{apart}
use Rattle.blocks.proofs.Stored.{chain-stored}
use Rattle.partitions.specs.Layout.{identifiers_of, term_count, length_of, header, entry_of, word_of, encode}
use Rattle.partitions.specs.Reading.{chain_of, in_partitions}
use Rattle.partitions.specs.Formed.{partition_rule, partitions_formed, chains_of, in_range}
use Rattle.partitions.specs.Terms.{Readable}
use Rattle.partitions.proofs.Kept.{AgreeAll, chains-kept, store_keeps}
use Rattle.inputs.specs.declared.Totals.{Totals}
use Rattle.inputs.specs.declared.Batch.{Batch}
use Rattle.inputs.specs.Judging.{totals_of, counts_by_id}
use Rattle.inputs.specs.Ahead.{batched}
use Rattle.outputs.specs.Contents.{written}
use Rattle.outputs.specs.Entries.{entries_onward}
use Rattle.outputs.proofs.Contents.{Blocks, Holds, holds-store, store-past, store-over}
use Rattle.outputs.proofs.Entries.{entries_by}
use Rattle.outputs.proofs.Freeing.{every-chains}
use Rattle.plans.specs.declared.Output.{Output}
use Rattle.plans.specs.Merging.{due_in, inputs, taking, result, output_blocks, output_level, progress, is_last, output_content}
use Rattle.plans.specs.Step.{written_on}
use Rattle.plans.specs.Acting.{Drafted, Judged, Acts, Fits, with_sums, with_front, output_written}
use Rattle.plans.proofs.Merged.{Part, oldest-part, oldest-few, part-all, part-every, part-different, all-readable, all-chained, chained-kept, agrees-self, numbered, pairs-numbered}
use Rattle.plans.proofs.Progress.{nonzero-take, progress-more, length-progress, result-room, progress-room, completed}

-- a chain of at least one block begins with its first
pub chain_first : (W : List ℕ) (b n : ℕ) → 0 < n → get_or (chain W b n) 0 0 ≡ b
unfolding chain
chain_first W b zero h = absurd (omega arith)
chain_first W b (suc n) h = refl

-- where there are blocks there is something to write
some_result : (ps : List Posting) → 0 < output_blocks (result ps) → empty (result ps) ≡ false
some_result ps h = by-test (empty (result ps)) (λ y. absurd (omega (arith, ap (λ (t : Bool). cond t 0 (blocks_for (length_of (result ps)))) y))) (λ f. f)

-- The output as it stands ------------------------------------------------------------------------------------------------

module _ (W : List ℕ) (s : State) (is : Partitions) (t : Totals) (g : Judged W s is t) where
  abbrev fin : List Partition
  fin = finished s.partitions

  abbrev ps : List Posting
  ps = taking W s

  pub rules : every (partition_rule W (blocks s)) fin ≡ true
  unfolding partitions_formed
  rules = and_left (every (partition_rule W (blocks s)) fin) _ g.formed

  pub chains-apart : different (chains_of W fin) ≡ true
  unfolding partitions_formed
  chains-apart = and_right (every (partition_rule W (blocks s)) fin) _ g.formed

  pub part : Part (inputs s) fin
  part = oldest-part (due_in s) fin

  pub readable : AllOf (Readable W) (inputs s)
  readable = part-all (inputs s) fin part (Readable W) (all-readable W (blocks s) g.long g.few fin rules)

  ids-small : every numbered (result ps) ≡ true
  unfolding taking
  ids-small = pairs-numbered W (inputs s) readable

  in_order : ordered (result ps) ≡ true
  unfolding taking
  in_order = nonzero-ordered (pairs (in_partitions W (inputs s))) (pairs-ordered (in_partitions W (inputs s)))

  -- the entries by the numbers of postings are those of the layout
  entries-told : (ns : List ℕ) → ns ≡ counts_by_id ps → entries_onward 0 0 ns ≡ joined (map (entry_of (result ps)) (identifiers_of (result ps)))
  unfolding counts_by_id
  entries-told ns e = entries_by (result ps) in_order ids-small ns e

  counts-long : (ns : List ℕ) → ns ≡ counts_by_id ps → length ns ≡ 1024
  unfolding counts_by_id
  counts-long ns e = ap length e ∙ length-map (up_to 1024) (λ i. length (under i (result ps))) ∙ length-rising 0 1024

  pub terms-told : t.terms ≡ term_count (result ps)
  unfolding totals_of
  terms-told = ap (λ (u : Totals). u.terms) g.totals

  pub postings-told : t.postings ≡ length (result ps)
  unfolding totals_of
  postings-told = ap (λ (u : Totals). u.postings) g.totals

  pub lowest-told : t.lowest ≡ lowest (result ps)
  unfolding totals_of
  lowest-told = ap (λ (u : Totals). u.lowest) g.totals

  pub highest-told : t.highest ≡ highest (result ps)
  unfolding totals_of
  highest-told = ap (λ (u : Totals). u.highest) g.totals

  pub pairs-told : t.pairs ≡ length ps
  unfolding totals_of
  pairs-told = ap (λ (u : Totals). u.pairs) g.totals

  module _ (o : Output) (b : Batch) (a : Acts W s o b) where
    abbrev bs : List ℕ
    bs = chain W o.first o.blocks

    abbrev j : ℕ
    j = s.merge.steps

    -- the sums of the step fit a posting
    batch-range : every (λ p. in_range p.count) (batched b) ≡ true
    unfolding nonzero
    batch-range =
        rw a.batch
        (every-keep is_counted (λ p. in_range p.count) (take 16 (drop (16 * j) ps)) (every_take (λ p. in_range p.count) 16 (drop (16 * j) ps) (every_drop (λ p. in_range p.count) (16 * j) ps g.range)))

    module _ (h : 0 < o.blocks) where
      d : Drafted W s ps o.first o.blocks
      d = a.draft h

      chained : Chained W o.first o.blocks
      chained = rule-chained W (blocks s) o.first o.blocks g.long g.few d.rule

      long-bs : length bs ≡ o.blocks
      long-bs = length-chain W o.first o.blocks

      parted : Parted bs (chains_of W fin)
      parted = different-parts bs (chains_of W fin) d.apart

      blocks-of : Blocks bs (blocks s)
      blocks-of = record { on = rule-on W (blocks s) o.first o.blocks d.rule; new = parted.left; some = omega (arith, long-bs) }

      holds : Holds W W bs (progress ps j) (blocks s)
      holds =
          let f = chain_first W o.first o.blocks h in
          record {
            long = refl;
            links = rw (f, long-bs);
            rule = rw (f, long-bs) d.rule;
            full = rw long-bs d.full;
            others = λ e m. refl;
          }

      some : empty (result ps) ≡ false
      some = some_result ps (omega (arith, a.blocks))

      room : (i : ℕ) → length (progress ps i) ≤ 1023 * length bs
      room i = omega (arith, progress-room ps o.blocks i a.blocks some, long-bs)

      -- the card has the output's content stored
      stands : W ≡ store W bs (progress ps j)
      stands = holds-store W bs (blocks s) g.long blocks-of (progress ps j) W (room j) holds

      offset : 8 + 3 * t.terms + o.written ≡ length (progress ps j)
      offset = omega (arith, length-progress ps j, a.written, terms-told)

      more : progress ps (suc j) ≡ progress ps j ++ map word_of (batched b)
      more = rw a.batch (progress-more ps j)

      more-long : length (progress ps (suc j)) ≡ length (progress ps j) + length (batched b)
      more-long = ap length more ∙ length-append (progress ps j) (map word_of (batched b)) ∙ (omega (arith, length-map (batched b) word_of))

      -- room for the step
      batch-room : 8 + 3 * t.terms + o.written + length (batched b) ≤ 1023 * o.blocks
      batch-room = omega (arith, offset, more-long, room (suc j), long-bs)

      -- the step's sums are written
      batch-stored : written W bs (8 + 3 * t.terms + o.written) (map word_of (batched b)) ≡ store W bs (progress ps (suc j))
      batch-stored =
          ap (λ (k : ℕ). written W bs k (map word_of (batched b))) offset
          ∙ ap (λ (U : List ℕ). written U bs (length (progress ps j)) (map word_of (batched b))) stands
          ∙ store-past W bs (blocks s) g.long blocks-of (progress ps j) (map word_of (batched b)) (omega (arith, more-long, room (suc j), length-map (batched b) word_of))
          ∙ ap (store W bs) (sym more)

      -- they are written, after the last step's sums
      module _ (X : List ℕ) (x : X ≡ store W bs (progress ps (suc j))) where
        links-kept : chain X o.first o.blocks ≡ bs
        links-kept =
            let f = chain_first W o.first o.blocks h in
            rw x (rw (f, long-bs) at (chain-stored W bs (progress ps (suc j)) (blocks s) g.long blocks-of.on blocks-of.new))

        whole-stored : (ns : List ℕ) → ns ≡ counts_by_id ps → (level : ℕ) → is_last ps (suc j) ≡ true → with_front X level t ns o ≡ store W bs (encode level (result ps))
        whole-stored ns n level e =
            let r = result ps in
            let c = progress ps (suc j) in
            let hs = header level (term_count r) (length r) (lowest r) (highest r) in
            let es = joined (map (entry_of r) (identifiers_of r)) in
            let le = length-joined (entry_of r) 3 (λ x. refl) (identifiers_of r) in
            let lp = length-progress ps (suc j) in
            rw (links-kept, x, terms-told, postings-told, lowest-told, highest-told, entries-told ns n)
            (ap (λ (U : List ℕ). written U bs 8 es) (store-over W bs (blocks s) g.long blocks-of c 0 hs (room (suc j)) (omega arith))
            ∙ store-over W bs (blocks s) g.long blocks-of (sets c 0 hs) 8 es (omega (arith, length-sets c 0 hs, room (suc j))) (omega (arith, length-sets c 0 hs))
            ∙ ap (store W bs) (completed ps level (suc j) e))

      module _ (ns : List ℕ) (n : ns ≡ counts_by_id ps) where
        -- all that a step writes has room
        pub step_fits : Fits W t ns o b
        step_fits = record {
          some = h;
          chained = chained;
          written = omega (arith, a.written, nonzero-take (16 * j) ps, postings-told, g.small.postings, g.small.pairs);
          few = a.few;
          range = batch-range;
          room = batch-room;
          small = g.small;
          long = counts-long ns n;
          entries = omega (arith, ap length (entries-told ns n), length-joined (entry_of (result ps)) 3 (λ x. refl) (identifiers_of (result ps)), result-room ps o.blocks a.blocks some);
        }

        -- and then the output has its content
        pub step-stored : output_written W (is_last ps (suc j)) (output_level s) t ns o b ≡ store W bs (output_content s ps (suc j))
        unfolding output_content
        step-stored =
            by-test (is_last ps (suc j))
            (λ y. rw y (whole-stored (with_sums W t o b) batch-stored ns n (output_level s) y))
            (λ f. rw f batch-stored)

      -- storing to the output leaves the inputs
      pub inputs-kept : (c : List ℕ) → AgreeAll (store W bs c) W (inputs s)
      inputs-kept c = store_keeps W bs c (inputs s) (part-every (inputs s) fin part (λ q. apart (chain_of W q) bs) (every-chains W bs fin parted.apart))

    -- an output without blocks has nothing stored
    pub none-stored : (c : List ℕ) → o.blocks ≡ 0 → W ≡ store W bs c
    unfolding store
    none-stored c z = rw (chain-none W o.first o.blocks z)

    -- either way the inputs are left
    pub step_kept : (c : List ℕ) → AgreeAll (store W bs c) W (inputs s)
    step_kept c =
        by-test (eqb o.blocks 0)
        (λ y. rw (← none-stored c (eqb-true o.blocks 0 y)) (agrees-self W (inputs s)))
        (λ f. inputs-kept (omega (arith, eqb-false o.blocks 0 f)) c)

    -- and the card is as the definition says
    pub step-more : is_last ps (suc j) ≡ false → store W bs (output_content s ps (suc j)) ≡ written_on W s ps (suc j) bs
    unfolding written_on
    step-more e = rw e

    pub step-last : is_last ps (suc j) ≡ true → release (store W bs (output_content s ps (suc j))) (chains_of W (inputs s)) ≡ written_on W s ps (suc j) bs
    unfolding written_on
    step-last e = rw e

    -- which step is the last
    pub last-told : leb t.pairs (16 * j + b.taken) ≡ is_last ps (suc j)
    last-told = rw pairs-told a.last

  -- Freeing the inputs -----------------------------------------------------------------------------------------------------

  -- there are at most eight
  pub inputs-few : is.used ≤ 8
  inputs-few = rw g.are (oldest-few (due_in s) fin)

  -- on a card that agrees on the inputs their blocks can be freed
  pub inputs-free : (Y : List ℕ) → length Y ≡ length W → AgreeAll Y W (inputs s)
      → AllOf (λ p. Chained Y p.first (blocks_for p.length)) (inputs s) × (different (chains_of Y (inputs s)) ≡ true) × (chains_of Y (inputs s) ≡ chains_of W (inputs s))
  inputs-free Y l k =
      let e = chains-kept Y W (inputs s) k in (
        chained-kept Y W l (inputs s) k (part-all (inputs s) fin part (λ p. Chained W p.first (blocks_for p.length)) (all-chained W (blocks s) g.long g.few fin rules)),
        rw e (part-different (inputs s) fin part W chains-apart),
        e,
      )
