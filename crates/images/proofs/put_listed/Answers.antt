use Rattle.lists.proofs.Prelude.{◌≡◌, refl, sym, ◌∙◌, ◌+◌, arith, rules, unmapped}
use Rattle.lists.proofs.Stores.{sets-turn, sets_end}
use Rattle.words.specs.Words.{words}
use Rattle.words.proofs.Views.{length-words}
use Rattle.images.proofs.put_listed.Goals as goal

pub put_word-requires : goal.put_word-requires
put_word-requires c = omega (arith, length-words c.args.image.now)

pub loop-i-init : goal.loop-i-init
loop-i-init c = (c.put_word.auto.bytes ∙ c.requires, refl)

pub put_word-requires-in-loop-i : goal.put_word-requires-in-loop-i
put_word-requires-in-loop-i c = omega (arith, length-words c.loop-i.image)

pub loop-i-preserved : goal.loop-i-preserved
loop-i-preserved c =
    let v = c.loop-i.invariant in
    let put = c.put_word-in-loop-i in
    let k : 7 + (c.loop-i.i + 1) ≡ 7 + c.loop-i.i + 1 = omega arith in
    (put.auto.bytes ∙ v.0, v.1 ∙ sets-turn (words c.loop-i.image) (7 + c.loop-i.i) c.args.l.ids c.loop-i.i 0 (omega arith) ∙ rw (put.ensures.put, k))

pub shape_of-image : goal.shape_of-image
shape_of-image c = c.loop-i.invariant.0 ∙ sym c.requires

pub returns : goal.returns
returns c =
    (sym (rw (sym c.put_word.ensures.put) (c.loop-i.invariant.1 ∙ sets_end (words c.loop-i.image) (7 + c.loop-i.i) c.args.l.ids _ (omega arith))), search (unmapped, rules))
