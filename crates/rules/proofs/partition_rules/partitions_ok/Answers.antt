use Rattle.lists.proofs.Prelude.{leb, drop, le-leb, lt-leb, every, and-turned}
use Rattle.state.specs.Views.{finished}
use Rattle.state.specs.Levels.{levels, level_limit, of_level}
use Rattle.state.specs.Rules.{never_rise, record_rule, unused_record, partitions_rule}
use Rattle.rules.proofs.partition_rules.partitions_ok.Goals as goal

pub returns-then-p-gt51 : goal.returns-then-p-gt51
unfolding partitions_rule
returns-then-p-gt51 c = rw (lt-leb _ _ c.if-p-gt51.true)

pub returns : goal.returns
unfolding partitions_rule
returns c =
    let s = c.args in
    rw (le-leb _ _ c.if-p-gt51.false, c.places_ok.ensures, c.levels_within.ensures)
    (and-turned (never_rise (finished s.p)) (every (record_rule s.blocks) (finished s.p)) (every unused_record (drop s.p.used s.p.records)) (every (λ v. leb (of_level (λ q. q.level) v (finished s.p)) (level_limit v)) levels))
