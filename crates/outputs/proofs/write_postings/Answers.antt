use Rattle.lists.proofs.Prelude.{map, ◌≡◌, sym, ap, ◌∙◌, ◌-◌, arith, rules, length, get_or, take, length-map, length-take, sets, length-take-le, unmapped}
use mir.Syntax.{w16}
use mir.Val.{SFits}
use mir.Facts.{to_z-of_z}
use Rattle.lists.proofs.Stores.{sets_end}
use Rattle.state.specs.Views.{no_posting}
use Rattle.partitions.specs.Layout.{word_of}
use Rattle.outputs.proofs.Batches.{packing-turn, posting-fits, packed-words}
use Rattle.outputs.proofs.write_postings.Goals as goal

pub pack-requires : goal.pack-requires
pack-requires c =
    let len : length c.args.postings ≡ 16 = search (unmapped, rules) in
    let z = (get_or c.args.postings c.loop-i.i no_posting).count in
    let f : SFits w16 z = search rules in
    rw (to_z-of_z f) (posting-fits c.args.postings c.args.used c.loop-i.i (omega (arith, c.requires.2)) c.loop-i-test.true c.requires.5)

pub loop-i-preserved : goal.loop-i-preserved
loop-i-preserved c =
    let len : length c.args.postings ≡ 16 = search (unmapped, rules) in
    let z = (get_or c.args.postings c.loop-i.i no_posting).count in
    let f : SFits w16 z = search rules in
    c.loop-i.invariant ∙ packing-turn c.args.postings c.args.used c.loop-i.i (omega (arith, c.requires.2)) c.loop-i-test.true c.loop-i.content ∙ rw (c.pack.ensures, to_z-of_z f)

pub write_words-requires : goal.write_words-requires
write_words-requires c =
    (c.requires.0, c.requires.1, omega (arith, length-take (c.args.used - 0) c.loop-i.content, c.requires.3), c.requires.4)

pub returns : goal.returns
returns c =
    let len : length c.args.postings ≡ 16 = search (unmapped, rules) in
    let u = c.args.used in
    let ps = take u c.args.postings in
    let n : length ps ≡ u = length-take-le u c.args.postings (omega (arith, c.requires.2)) in
    let l : length (map word_of ps) ≡ u = length-map ps word_of ∙ n in
    let e : c.loop-i.content ≡ sets _ 0 (map word_of ps) = sym (c.loop-i.invariant ∙ sets_end c.loop-i.content c.loop-i.i (map word_of ps) c.loop-i.i (omega (arith, c.loop-i-test.false))) in
    let ws : take (u - 0) c.loop-i.content ≡ map word_of ps = ap (take (u - 0)) e ∙ packed-words _ ps u n c.requires.2 in
    c.write_words.ensures ∙ rw ws
