use Rattle.lists.proofs.Prelude.{rules, get_or, ◌+◌}
use Rattle.lists.proofs.FromFn.{from_fn-made}
use Rattle.words.specs.Words.{words}
use Rattle.images.proofs.Image.listed.Goals as goal

pub returns : goal.returns
returns c = rw (c.narrow.ensures, from_fn-made _ _ (λ j. get_or (words c.args.self.now.bytes.now) (7 + j) 0) 64 (λ i x t l k. search rules) 0 c.from_fn.result c.from_fn.ensures.items)
