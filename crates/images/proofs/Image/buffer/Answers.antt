use Rattle.lists.proofs.Prelude.{rules}
use Rattle.lists.proofs.FromFn.{from_fn-made}
use Rattle.words.specs.Words.{words}
use Rattle.state.specs.Views.{no_posting}
use Rattle.images.specs.Images.{posting_in}
use Rattle.images.proofs.Image.buffer.Goals as goal

pub returns : goal.returns
returns c = rw (c.narrow.ensures, from_fn-made _ _ (posting_in (words c.args.self.now.bytes.now)) 128 (λ i x t l k. search rules) no_posting c.from_fn.result c.from_fn.ensures.items)
