use Rattle.lists.proofs.Prelude.{arith, ◌≡◌, suc, ◌+◌, ◌*◌}
use Rattle.words.proofs.Views.{length-words}
use Rattle.images.proofs.put_record.Goals as goal

pub put_word-requires : goal.put_word-requires
put_word-requires c = omega (arith, length-words c.put_three.new.image)

pub put_word-requires-2 : goal.put_word-requires-2
put_word-requires-2 c = omega (arith, length-words c.put_word.new.bytes)

pub returns : goal.returns
returns c =
    let i = c.args.i in
    let k : suc (suc (suc (457 + 5 * i))) ≡ 457 + 5 * i + 3 = omega arith in
    let m : suc (457 + 5 * i + 3) ≡ 457 + 5 * i + 4 = omega arith in
    rw (k, m, c.put_word-2.ensures.put, c.put_word.ensures.put, c.put_three.ensures)
