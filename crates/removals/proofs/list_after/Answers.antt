use Rattle.std.specs.Prelude.{Some}
use Rattle.lists.proofs.Prelude.{arith, subst}
use Rattle.words.specs.Words.{words}
use Rattle.words.proofs.Views.{length-words}
use Rattle.state.specs.Views.{blocks, buffered}
use Rattle.state.proofs.Kept.{state-kept}
use Rattle.flushes.specs.Flush.{flushed_to, flushed_card}
use Rattle.flushes.proofs.Rooms.{room-left, chosen-there, chosen-free, counts-fit, ids-fit}
use Rattle.removals.specs.Taking.{Emptiable}
use Rattle.removals.proofs.list_after.Goals as goal

pub flush-requires : goal.flush-requires
flush-requires c =
    let s = c.args.s in
    let r : Emptiable s c.args.card.now (Some c.in-Some.b) = subst (Emptiable s c.args.card.now) c.in-Some.is c.requires in
    let k = state-kept s r.0 in
    let W = words c.args.card.now in
    let there = chosen-there s W c.in-Some.b r.2 in
    let p = k.partitions in (
      omega (arith, r.1, k.lengths.card),
      record { few = omega (arith, k.lengths.most_blocks, there); inside = omega (arith, r.1, k.lengths.card, length-words c.args.card.now, there) },
      chosen-free s W c.in-Some.b r.2,
      k.buffer.used,
      k.buffer.order,
      counts-fit s.windows (buffered s.buffer) k.buffer.rules,
      ids-fit s.windows (buffered s.buffer) k.buffer.rules,
      p.used,
      room-left (blocks s) s.partitions p r.2.room,
      p.form,
    )

pub returns-in-Some : goal.returns-in-Some
unfolding flushed_to flushed_card
returns-in-Some c = rw c.in-Some.is (c.flush.ensures.0, c.flush.ensures.1)
