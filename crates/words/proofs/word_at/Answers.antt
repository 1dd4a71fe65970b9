-- `words::word_at` meets its contract: a word has room for its four bytes, and is those four joined.
use Rattle.lists.proofs.Prelude.{arith}
use Rattle.words.proofs.Views.{word_at}
use Rattle.words.proofs.word_at.Goals as goal

pub returns : goal.returns
returns c = rw (c.from_le_bytes.ensures, word_at c.args.bytes.now c.args.at c.requires) (omega arith)
