-- `images::read_state` meets its contract.
use Rattle.images.specs.Images.{state_in}
use Rattle.images.proofs.read_state.Goals as goal

pub returns : goal.returns
unfolding state_in
returns c =
    rw (c.lengths.ensures, c.windows.ensures, c.listed.ensures, c.buffer.ensures, c.partitions.ensures, c.narrow.ensures, c.merge.ensures)
