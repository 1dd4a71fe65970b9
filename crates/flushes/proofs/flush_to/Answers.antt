use Rattle.lists.proofs.Prelude.{arith}
use Rattle.words.specs.Words.{words}
use Rattle.words.proofs.Views.{length-words}
use Rattle.state.specs.Views.{blocks, buffered}
use Rattle.state.proofs.Kept.{state-kept}
use Rattle.flushes.specs.Flush.{flushed_to, flushed_card}
use Rattle.flushes.proofs.Rooms.{room-left, chosen-there, chosen-free, counts-fit, ids-fit}
use Rattle.flushes.proofs.flush_to.Goals as goal

pub flush-list-requires : goal.flush-list-requires
flush-list-requires c =
    let s = c.args.s in
    let k = state-kept s c.requires.0 in
    let W = words c.args.card.now in
    let there = chosen-there s W c.args.block c.requires.2 in
    let p = k.partitions in (
      omega (arith, c.requires.1, k.lengths.card),
      record { few = omega (arith, k.lengths.most_blocks, there); inside = omega (arith, c.requires.1, k.lengths.card, length-words c.args.card.now, there) },
      chosen-free s W c.args.block c.requires.2,
      k.buffer.used,
      k.buffer.order,
      counts-fit s.windows (buffered s.buffer) k.buffer.rules,
      ids-fit s.windows (buffered s.buffer) k.buffer.rules,
      p.used,
      room-left (blocks s) s.partitions p c.requires.2.room,
      p.form,
    )

pub returns : goal.returns
unfolding flushed_to flushed_card
returns c = (rw (c.new.ensures, c.flush-list.ensures.0), c.flush-list.ensures.1)
