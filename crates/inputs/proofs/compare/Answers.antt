-- `inputs::compare` meets its contract: a sum of 0 has no word, another is compared with the head.
use mir.Facts.{to_z-of_z}
use mir.Syntax.{w16}
use mir.Val.{SFits}
use Rattle.lists.proofs.Prelude.{true, false, and-true, ◌≡◌, refl, sym, ◌∙◌, ◌≤◌, rules, eqb, eqb_swap}
use Rattle.words.specs.Words.{words}
use Rattle.postings.specs.Merge.{is_zero, nonzero}
use Rattle.card.specs.Cursors.{head_of}
use Rattle.partitions.specs.Layout.{word_of}
use Rattle.card.proofs.Cursors.{ahead_more, good-moved}
use Rattle.inputs.proofs.compare.Goals as goal

pub returns-then-is_zero : goal.returns-then-is_zero
unfolding nonzero
returns-then-is_zero c =
    let e : is_zero c.args.p.count ≡ true = sym c.is_zero.ensures ∙ c.if-is_zero.true in
    (rw e (record { same = refl; rest = refl }), c.requires.0)

pub head-requires : goal.head-requires
unfolding nonzero
head-requires c =
    let e : is_zero c.args.p.count ≡ false = sym c.is_zero.ensures ∙ c.if-is_zero.false in
    let l : 1 ≤ c.args.out.left = rw e at c.requires.1 in
    (l, c.requires.0)

pub moved-requires : goal.moved-requires
unfolding nonzero
moved-requires c =
    let e : is_zero c.args.p.count ≡ false = sym c.is_zero.ensures ∙ c.if-is_zero.false in
    let l : 1 ≤ c.args.out.left = rw e at c.requires.1 in
    (l, c.requires.0)

pub returns : goal.returns
unfolding nonzero
returns c =
    let W = words c.args.card.now in
    let e : is_zero c.args.p.count ≡ false = sym c.is_zero.ensures ∙ c.if-is_zero.false in
    let l : 1 ≤ c.args.out.left = rw e at c.requires.1 in
    let f : SFits w16 c.args.p.count = search rules in
    let w = c.pack-word.ensures in
    let a = ahead_more W c.args.out l in
    (rw (e, a, c.moved.ensures, c.head.ensures, w, to_z-of_z f) (record { same = eqb_swap (head_of W c.args.out) (word_of c.args.p) ∙ sym (and-true (eqb (word_of c.args.p) (head_of W c.args.out))); rest = refl }), rw c.moved.ensures (good-moved W c.args.out l c.requires.0))
