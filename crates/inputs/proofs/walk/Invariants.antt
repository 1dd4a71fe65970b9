-- `inputs::walk` meets its contract. The invariant: what is told of all heads is what is told where `t` and `counts` are told of what was taken and keys
-- below `bound` are to come. The measure is `bound`.
use Rattle.lists.proofs.Prelude.{◌≡◌}
use Rattle.words.specs.Words.{words}
use Rattle.scans.specs.Heads.{views}
use Rattle.inputs.specs.Judging.{untold, resumed}
use Rattle.inputs.specs.Ahead.{Ready}
use Rattle.inputs.proofs.Room.{Room}
use Rattle.inputs.proofs.walk.Given as goal

abbrev pub invariant-loop-top : goal.invariant-loop-top
invariant-loop-top l = record {
  ready : Ready (words l.card) l.n l.heads l.top;
  room : Room l.t l.counts l.bound;
  told : resumed 67108864 (views (words l.card) l.n l.initial.heads) untold ≡ resumed l.bound (views (words l.card) l.n l.heads) (record { totals = l.t; counts = l.counts });
}

abbrev pub decreases-loop-top : goal.decreases-loop-top
decreases-loop-top l = l.bound
