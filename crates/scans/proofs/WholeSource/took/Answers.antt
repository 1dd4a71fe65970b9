-- `took` of `scans::Whole` meets its contract: another head, and one with the key.
use Rattle.lists.proofs.Prelude.{sym, ap, ◌∙◌, rules}
use mir.Syntax.{w16}
use mir.Val.{SFits}
use mir.Facts.{to_z-of_z}
use Rattle.words.specs.Words.{words}
use Rattle.keyed.specs.Keys.{reach}
use Rattle.postings.specs.declared.Posting.{Posting}
use Rattle.scans.specs.Items.{items}
use Rattle.kway.proofs.Turns.{missed}
use Rattle.scans.specs.Heads.{view}
use Rattle.scans.proofs.Placed.{some, hit}
use Rattle.scans.proofs.WholeSource.took.Goals as goal

pub returns-then-top-key : goal.returns-then-top-key
returns-then-top-key c =
    let W = words c.args.self.now.card.now in
    let m = missed c.args.key (view W c.args.head.now) (λ q. c.if-top-key.true (c.requires.0.top ∙ q)) in
    (c.requires.0, m.0, m.1, m.2, c.requires.0.top)

pub reader_moved-next-requires : goal.reader_moved-next-requires
reader_moved-next-requires c =
    (some (words c.args.self.now.card.now) c.args.head.now c.requires.0 c.args.key c.if-top-key.false, c.requires.0.good)

pub returns : goal.returns
returns c =
    let W = words c.args.self.now.card.now in
    let h = c.args.head.now in
    let u = c.unpack-q in
    let f : SFits w16 u.result.count = search rules in
    let t = hit W h c.requires.0 c.args.key c.if-top-key.false in
    let p = c.put-reach.ensures in
    let v = p.2 ∙ ap (items W) c.reader_moved-next.ensures.0 ∙ t.0 in
    (p.0, v, to_z-of_z f ∙ ap (λ (p : Posting). p.count) u.ensures ∙ t.1, c.is_posting-fine.ensures ∙ t.2, p.3 ∙ ap reach (sym p.2))
