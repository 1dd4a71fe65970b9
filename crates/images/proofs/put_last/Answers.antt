use Rattle.lists.proofs.Prelude.{arith}
use Rattle.words.proofs.Views.{length-words}
use Rattle.images.proofs.put_last.Goals as goal

pub put_word-requires : goal.put_word-requires
put_word-requires c = omega (arith, length-words c.put_three.new.image)

pub returns : goal.returns
returns c =
    rw (c.put_word.ensures.put, c.put_three.ensures)
