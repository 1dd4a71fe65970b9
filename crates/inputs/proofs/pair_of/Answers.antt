-- `inputs::pair_of` meets its contract: a sum that fits a posting has 16 bits.
use mir.Facts.{to_z-of_z}
use Rattle.lists.proofs.Sizes.{small-fits}
use Rattle.inputs.proofs.pair_of.Goals as goal

pub overflow_cast-result : goal.overflow_cast-result
overflow_cast-result c = rw (to_z-of_z c.ranges.sum) (small-fits c.args.sum c.requires.1)

pub returns : goal.returns
returns c = rw (to_z-of_z c.ranges.sum, to_z-of_z (small-fits c.args.sum c.requires.1), c.key_id.ensures, c.key_window.ensures)
