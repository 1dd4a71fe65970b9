-- `images::Image::posting` meets its contract.
use Rattle.lists.proofs.Prelude.{arith, ◌+◌, ◌*◌}
use mir.Facts.{to_z-of_z}
use Rattle.images.proofs.Fits.{narrow-front, image-below}
use Rattle.images.proofs.Signs.{lowered-fits}
use Rattle.images.proofs.Image.posting.Goals as goal

pub narrow-id-requires : goal.narrow-id-requires
narrow-id-requires c = (omega arith, narrow-front (72 + 3 * c.args.i) (omega arith) (omega arith))

pub narrow-window-requires : goal.narrow-window-requires
narrow-window-requires c = (omega arith, narrow-front (73 + 3 * c.args.i) (omega arith) (omega arith))

pub narrow-requires : goal.narrow-requires
narrow-requires c = (omega arith, narrow-front (74 + 3 * c.args.i) (omega arith) (omega arith))

pub returns : goal.returns
returns c =
    let below = image-below c.args.self.now.bytes.now c.args.self.now.ruled (74 + 3 * c.args.i) (omega arith) (narrow-front (74 + 3 * c.args.i) (omega arith) (omega arith)) in
    rw (c.narrow-id.ensures, c.narrow-window.ensures, c.lower-count.ensures, c.narrow.ensures, to_z-of_z (lowered-fits _ below))
