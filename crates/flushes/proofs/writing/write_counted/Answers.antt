-- `flushes::writing::write_counted` meets its contract: with its link the block is a chain of one that holds nothing, and the partition is written along it.
use Rattle.lists.proofs.Prelude.{[], ◌∷◌, ◌≡◌, sym, ap, ◌∙◌, ◌-◌, ◌*◌, ◌/◌, ◌%◌, arith, rules, length, take, length-take, length-take-le, unmapped}
use Rattle.words.specs.Words.{words, bytes}
use Rattle.words.proofs.Views.{length-words, bytes-words}
use Rattle.state.specs.Views.{buffered}
use Rattle.blocks.specs.Writes.{store}
use Rattle.partitions.specs.Layout.{encode}
use Rattle.partitions.proofs.Counts.{length-numbers}
use Rattle.partitions.proofs.Lengths.{terms-most}
use Rattle.outputs.proofs.Batches.{packed-words}
use Rattle.outputs.proofs.Entries.{entries-length}
use Rattle.flushes.proofs.Alone.{alone-chained, alone-stored}
use Rattle.flushes.proofs.writing.write_counted.Goals as goal
use Rattle.flushes.proofs.writing.write_counted.Lts as lts
use Rattle.flushes.proofs.writing.write_counted.Tie as tie
use Rattle.flushes.proofs.writing.write_counted.Reads as reads

abbrev Start : Type 0
Start = lts.Start tie.the-claims reads.Pre reads.Post

places : (s : Start) → length s.args.b.postings ≡ 128
places s = search (unmapped, rules)

pub write_header-requires : goal.write_header-requires
write_header-requires c =
    let k = c.put_block_word.auto.card in
    (omega (arith, c.requires.0, k), omega arith, search rules, alone-chained c.args.card.now _ c.args.block k c.requires.1)

pub write_entries-requires : goal.write_entries-requires
write_entries-requires c =
    let ps = buffered c.args.b in
    let l = c.put_block_word.auto.card in
    let h = c.write_header.auto.card in
    let n = c.tally-terms.ensures.1 in (
      omega (arith, c.requires.0, l, h),
      omega arith,
      omega (arith, entries-length ps c.requires.4 c.requires.6 _ n, terms-most ps, length-take c.args.b.used c.args.b.postings, c.requires.3),
      alone-chained c.args.card.now _ c.args.block (h ∙ l) c.requires.1,
      ap length n ∙ length-numbers ps,
    )

pub write_words-requires : goal.write_words-requires
write_words-requires c =
    let u = c.args.b.used in
    let ps = buffered c.args.b in
    let l = c.put_block_word.auto.card in
    let h = c.write_header.auto.card in
    let e = c.write_entries.auto.card in (
      omega (arith, c.requires.0, l, h, e),
      omega arith,
      omega (arith, c.tally-terms.ensures.0, terms-most ps, length-take u c.args.b.postings, length-take (u - 0) c.tally-terms.new.content, c.requires.3),
      alone-chained c.args.card.now _ c.args.block (e ∙ h ∙ l) c.requires.1,
    )

pub returns : goal.returns
returns c =
    let card = c.args.card.now in
    let W = words card in
    let u = c.args.b.used in
    let ps = buffered c.args.b in
    let link = c.put_block_word in
    let counted = c.tally-terms.ensures in
    let h = c.write_header in
    let e = c.write_entries in
    let w = c.write_words in
    let len = places c.before.before.before.before.before.before.before.before.before.before.before.before.before.before.before.before.before.before.before.before.before.before.before.before.before.before.before in
    let n : length ps ≡ u = length-take-le u c.args.b.postings (omega (arith, c.requires.3)) in
    let long : length W ≡ 1024 * (length card / 4096) = omega (arith, length-words card, c.requires.0) in
    let ws : take (u - 0) c.tally-terms.new.content ≡ _ = ap (take (u - 0)) counted.2 ∙ packed-words _ ps u n c.requires.3 in
    let stored : words w.new.card ≡ store W (c.args.block ∷ []) (encode 0 ps) =
    alone-stored W (length card / 4096) c.args.block ps long c.requires.1 c.requires.2 (omega (arith, c.requires.3)) c.requires.4 c.requires.6
    _ _ _ _ _ _ _ _ _ _ counted.0 (sym n) c.requires.7 c.requires.8 counted.1 ws link.ensures h.ensures e.ensures w.ensures in
    let m : length w.new.card % 4 ≡ 0 = omega (arith, w.auto.card, e.auto.card, h.auto.card, link.auto.card, c.requires.0) in
    (counted.0, sym (bytes-words w.new.card (λ i. omega (arith, c.slice_known-5-1.given i)) m) ∙ ap bytes stored)
