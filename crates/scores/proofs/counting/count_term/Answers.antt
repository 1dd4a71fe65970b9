-- `scores::counting::count_term` meets its contract: what is told of the opened heads is what is told of the identifier.
use Rattle.lists.proofs.Prelude.{arith}
use Rattle.words.specs.Words.{words, Below}
use Rattle.words.proofs.Views.{words-below}
use Rattle.state.specs.Views.{blocks, buffered, finished}
use Rattle.state.proofs.Kept.{state-kept}
use Rattle.scores.proofs.Opened.{all-readable, rule-sizes, rule-each}
use Rattle.scores.proofs.Serving.{judged-same}
use Rattle.scores.proofs.counting.count_term.Goals as goal

pub open_heads-requires : goal.open_heads-requires
open_heads-requires c =
    let k = state-kept c.args.s c.requires.0 in
    (k.partitions.used, c.requires.4, all-readable (words c.args.card.now) (blocks c.args.s) (finished c.args.s.partitions) c.requires.1 k.lengths.most_blocks c.requires.2, k.buffer.used, k.buffer.order, rule-sizes c.args.s.windows (buffered c.args.s.buffer) k.buffer.rules, c.requires.3)

pub judge-requires : goal.judge-requires
judge-requires c =
    let o = c.open_heads.ensures in
    let k = state-kept c.args.s c.requires.0 in
    (o.long, k.partitions.used, o.ready)

pub returns : goal.returns
returns c =
    let k = state-kept c.args.s c.requires.0 in
    let small = words-below c.args.card.now (λ j. omega (arith, c.shared_slice_known-1.given j)) in
    let few : Below 4294967296 c.args.run.now = λ j. omega (arith, c.shared_slice_known-2-1.given j) in
    let rules = rule-each c.args.s.windows (buffered c.args.s.buffer) k.buffer.rules in
    let o = c.open_heads in
    let j = judged-same (words c.args.card.now) c.args.run.now c.args.s c.args.id o.new.heads o.ensures small few k.buffer.order rules c.args.t _ c.judge.ensures in
    record { told = j.0; fitting = j.1 }
