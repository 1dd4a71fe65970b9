-- `images::Image::record` meets its contract.
use Rattle.lists.proofs.Prelude.{◌+◌, ◌*◌, arith}
use Rattle.images.proofs.Fits.{narrow-among, image-words}
use Rattle.images.proofs.Image.record.Goals as goal

pub narrow-first-requires : goal.narrow-first-requires
narrow-first-requires c = (omega arith, narrow-among (457 + 5 * c.args.i) (omega arith) (omega arith) (λ e. omega arith))

pub narrow-level-requires : goal.narrow-level-requires
narrow-level-requires c = (omega arith, narrow-among (458 + 5 * c.args.i) (omega arith) (omega arith) (λ e. omega arith))

pub number-length-requires : goal.number-length-requires
number-length-requires c = omega (arith, image-words c.args.self.now.bytes.now c.args.self.now.ruled)

pub narrow-lowest-requires : goal.narrow-lowest-requires
narrow-lowest-requires c = (omega arith, narrow-among (460 + 5 * c.args.i) (omega arith) (omega arith) (λ e. omega arith))

pub narrow-highest-requires : goal.narrow-highest-requires
narrow-highest-requires c =
    (omega arith, narrow-among (461 + 5 * c.args.i) (omega arith) (omega arith) (λ e. omega arith))

pub returns : goal.returns
returns c =
    rw (c.narrow-highest.ensures, c.narrow-lowest.ensures, c.number-length.ensures, c.narrow-level.ensures, c.narrow-first.ensures)
