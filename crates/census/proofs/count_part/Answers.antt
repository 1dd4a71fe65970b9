-- `census::count_part` meets its contract: the heads have the partitions' postings to come.
use Rattle.lists.proofs.Prelude.{arith}
use Rattle.words.specs.Words.{words}
use Rattle.state.specs.Views.{finished}
use Rattle.state.specs.Shown.{shown_in}
use Rattle.census.proofs.Parts.{opened-same}
use Rattle.census.proofs.count_part.Goals as goal

pub walk-requires : goal.walk-requires
walk-requires c =
    let o = c.open_heads.ensures in
    let m = c.clear.ensures in
    (c.requires.0, omega (arith, c.requires.0, c.requires.1, o.0), o.1, c.requires.3, record { some = c.requires.4.some; room = rw m.0 c.requires.4.room }, m.1)

pub returns : goal.returns
returns c =
    let a = c.args in
    opened-same (words a.card.now) a.ps.used _ a.b (finished a.ps) (shown_in a.t a.v) c.walk.result c.open_heads.ensures.2 c.walk.ensures

pub open_heads-requires : goal.open_heads-requires
open_heads-requires c = (c.requires.0, omega (arith, c.requires.0, c.requires.1), omega (arith, c.requires.1), c.requires.2)
