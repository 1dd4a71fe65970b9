-- `outputs::free_after` meets its contract: as some block is free, one is found.
use Rattle.lists.proofs.Prelude.{arith}
use Rattle.std.proofs.lemmas.Option.{slice_get-get_or}
use Rattle.words.specs.Words.{words}
use Rattle.card.specs.Blocks.{free_blocks}
use Rattle.outputs.proofs.free_after.Goals as goal

pub returns : goal.returns
returns c =
    let e = slice_get-get_or (free_blocks (words c.args.card.now) c.args.blocks c.args.taken) 0 0 (omega arith) in
    rw (c.next_free.ensures, e) at c.unwrap_or.ensures
