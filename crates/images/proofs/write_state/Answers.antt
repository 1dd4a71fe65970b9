-- `images::write_state` meets its contract: the parts are the whole.
use Rattle.lists.proofs.Prelude.{◌≡◌, sym, ap, ◌∙◌, ◌%◌, arith, length}
use Rattle.words.specs.Words.{words, bytes}
use Rattle.words.proofs.Views.{length-words, bytes-words}
use Rattle.images.specs.Images.{image_of}
use Rattle.images.proofs.Whole.{Sized, parts_whole}
use Rattle.images.proofs.write_state.Goals as goal

pub returns : goal.returns
returns c =
    let w = words c.args.image.now in
    let l = c.put_last in
    let p = c.put_partitions in
    let b = c.put_buffer in
    let i = c.put_listed in
    let n = c.put_numbers in
    let z : Sized c.args.s = record { ids = i.ensures.1; postings = b.ensures.1; records = p.ensures.1 } in
    let e : words l.new.image ≡ image_of c.args.s =
    rw (l.ensures, p.ensures.0, b.ensures.0, i.ensures.0, n.ensures) (parts_whole c.args.s z w (omega (arith, length-words c.args.image.now, c.requires))) in
    let m : length l.new.image % 4 ≡ 0 = omega (arith, l.auto.image, p.auto.image, b.auto.image, i.auto.image, n.auto.image, c.requires) in
    sym (bytes-words l.new.image (λ i. omega (arith, c.slice_known-6-1.given i)) m) ∙ ap bytes e
