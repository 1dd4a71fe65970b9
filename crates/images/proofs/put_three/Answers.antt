use Rattle.lists.proofs.Prelude.{add-one, arith, ◌≡◌, suc, ◌+◌}
use Rattle.words.proofs.Views.{length-words}
use Rattle.images.proofs.put_three.Goals as goal

pub put_word-requires : goal.put_word-requires
put_word-requires c = omega (arith, length-words c.args.image.now)

pub put_word-requires-2 : goal.put_word-requires-2
put_word-requires-2 c = omega (arith, length-words c.put_word.new.bytes)

pub put_word-requires-3 : goal.put_word-requires-3
put_word-requires-3 c = omega (arith, length-words c.put_word-2.new.bytes)

pub returns : goal.returns
returns c =
    let k : suc (suc c.args.at) ≡ c.args.at + 2 = omega arith in
    rw (k, ← add-one, c.put_word-3.ensures.put, c.put_word-2.ensures.put, c.put_word.ensures.put)
