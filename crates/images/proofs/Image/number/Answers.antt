use Rattle.lists.proofs.Prelude.{arith}
use Rattle.images.proofs.Fits.{image-words}
use Rattle.images.proofs.Image.number.Goals as goal

pub word_at-requires : goal.word_at-requires
word_at-requires c = omega (arith, image-words c.args.self.now.bytes.now c.args.self.now.ruled)
