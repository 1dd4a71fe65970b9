-- `images::Image::narrow` meets its contract.
use Rattle.lists.proofs.Prelude.{arith}
use Rattle.images.proofs.Fits.{image-below}
use Rattle.images.proofs.Image.narrow.Goals as goal

pub overflow_cast-result : goal.overflow_cast-result
overflow_cast-result c =
    omega (arith, image-below c.args.self.now.bytes.now c.args.self.now.ruled c.args.at c.requires.0 c.requires.1)
