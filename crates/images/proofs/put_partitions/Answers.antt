use Rattle.lists.proofs.Prelude.{refl, sym, ◌∙◌, arith, rules, unmapped}
use Rattle.words.specs.Words.{words}
use Rattle.words.proofs.Views.{length-words}
use Rattle.state.specs.Views.{no_partition}
use Rattle.images.specs.Images.{record_words}
use Rattle.lists.proofs.Stores.{parts-turn, parts-end}
use Rattle.images.proofs.put_partitions.Goals as goal

pub put_word-requires : goal.put_word-requires
put_word-requires c = omega (arith, length-words c.args.image.now)

pub loop-i-init : goal.loop-i-init
loop-i-init c = (c.put_word.auto.bytes ∙ c.requires, refl)

pub put_record-requires : goal.put_record-requires
put_record-requires c = (c.loop-i.invariant.0, omega arith)

pub loop-i-preserved : goal.loop-i-preserved
loop-i-preserved c =
    let v = c.loop-i.invariant in
    let put = c.put_record in
    (put.auto.image ∙ v.0, v.1 ∙ parts-turn record_words 5 457 (words c.loop-i.image) c.args.ps.records c.loop-i.i no_partition (omega arith) refl ∙ rw put.ensures)

pub shape_of-image : goal.shape_of-image
shape_of-image c = c.loop-i.invariant.0 ∙ sym c.requires

pub returns : goal.returns
returns c =
    (sym (rw (sym c.put_word.ensures.put) (c.loop-i.invariant.1 ∙ parts-end record_words 5 457 (words c.loop-i.image) c.args.ps.records _ (omega arith))), search (unmapped, rules))
