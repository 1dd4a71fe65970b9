-- `queries::search_sound` meets its contract: what is lent is packed and large enough.
use Rattle.lists.proofs.Prelude.{refl, arith}
use Rattle.state.specs.Views.{buffered}
use Rattle.state.proofs.Kept.{state-kept}
use Rattle.scores.proofs.Opened.{rule-sizes}
use Rattle.queries.proofs.Tested.{sound-words}
use Rattle.queries.proofs.search_sound.Goals as goal

pub pack_run-requires : goal.pack_run-requires
pack_run-requires c =
    let k = (state-kept c.args.s c.requires.rule).buffer in
    (k.used, omega arith, rule-sizes c.args.s.windows (buffered c.args.s.buffer) k.rules)

pub search_with-requires : goal.search_with-requires
search_with-requires c =
    let k = (state-kept c.args.s c.requires.rule).partitions.used in (
      c.requires,
      record {
        rule = c.requires.rule;
        long = sound-words c.args.s c.args.card.now c.args.register.now c.requires;
        partitions = c.requires.partitions;
        packed = c.pack_run.ensures;
        room = omega arith;
        most = omega arith;
        one = refl;
      },
    )
