use Rattle.lists.proofs.Prelude.{rules}
use Rattle.lists.proofs.FromFn.{from_fn-made}
use Rattle.words.specs.Words.{words}
use Rattle.state.specs.Views.{no_partition}
use Rattle.images.specs.Images.{record_in}
use Rattle.images.proofs.Image.partitions.Goals as goal

pub returns : goal.returns
returns c = rw (c.narrow.ensures, from_fn-made _ _ (record_in (words c.args.self.now.bytes.now)) 51 (λ i x t l k. search rules) no_partition c.from_fn.result c.from_fn.ensures.items)
