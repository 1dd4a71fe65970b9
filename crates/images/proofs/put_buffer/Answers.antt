use Rattle.lists.proofs.Prelude.{refl, sym, ◌∙◌, arith, rules, get_or, unmapped}
use mir.Syntax.{w16}
use mir.Val.{SFits}
use mir.Facts.{to_z-of_z}
use Rattle.words.specs.Words.{words}
use Rattle.words.proofs.Views.{length-words}
use Rattle.state.specs.Views.{no_posting}
use Rattle.images.specs.Images.{posting_words}
use Rattle.lists.proofs.Stores.{parts-turn, parts-end}
use Rattle.images.proofs.put_buffer.Goals as goal

pub put_word-requires : goal.put_word-requires
put_word-requires c = omega (arith, length-words c.args.image.now)

pub loop-i-init : goal.loop-i-init
loop-i-init c = (c.put_word.auto.bytes ∙ c.requires, refl)

pub put_three-requires : goal.put_three-requires
put_three-requires c = (c.loop-i.invariant.0, omega arith)

pub loop-i-preserved : goal.loop-i-preserved
loop-i-preserved c =
    let v = c.loop-i.invariant in
    let put = c.put_three in
    let f : SFits w16 (get_or c.args.b.postings c.loop-i.i no_posting).count = search rules in
    (put.auto.image ∙ v.0, v.1 ∙ parts-turn posting_words 3 72 (words c.loop-i.image) c.args.b.postings c.loop-i.i no_posting (omega arith) refl ∙ rw (put.ensures, c.raise.ensures, to_z-of_z f))

pub shape_of-image : goal.shape_of-image
shape_of-image c = c.loop-i.invariant.0 ∙ sym c.requires

pub returns : goal.returns
returns c =
    (sym (rw (sym c.put_word.ensures.put) (c.loop-i.invariant.1 ∙ parts-end posting_words 3 72 (words c.loop-i.image) c.args.b.postings _ (omega arith))), search (unmapped, rules))
