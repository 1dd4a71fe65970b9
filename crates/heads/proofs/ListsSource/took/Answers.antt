-- `took` of `heads::Lists` meets its contract: another head, the last of its list, one with another after it.
use Rattle.lists.proofs.Prelude.{ap, ◌∙◌, [], lt-length-set, arith, rules}
use mir.Syntax.{w16}
use mir.Val.{SFits}
use mir.Facts.{to_z-of_z}
use Rattle.words.specs.Words.{words}
use Rattle.postings.specs.declared.Posting.{Posting}
use Rattle.kway.proofs.Turns.{missed}
use Rattle.heads.specs.Heads.{view}
use Rattle.heads.proofs.Heads.{comes-last, put-none, some, hit, viewed}
use Rattle.heads.proofs.ListsSource.took.Goals as goal

pub returns-then-top-key : goal.returns-then-top-key
returns-then-top-key c =
    let v = view (words c.args.self.now.card.now) c.args.self.now.run.now c.args.head.now in
    let m = missed c.args.key v (λ q. c.if-top-key.true (c.requires.0.top ∙ q)) in
    (c.requires.0, m.0, m.1, m.2, c.requires.0.top)

pub bounds-head-3-then-left-eq1 : goal.bounds-head-3-then-left-eq1
bounds-head-3-then-left-eq1 c = lt-length-set c.args.head.now 0 0 (omega (arith, c.requires.0.four))

pub returns-then-left-eq1 : goal.returns-then-left-eq1
returns-then-left-eq1 c =
    let W = words c.args.self.now.card.now in
    let R = c.args.self.now.run.now in
    let h = c.args.head.now in
    let u = c.unpack-p in
    let f : SFits w16 u.result.count = search rules in
    let l = some (words c.args.self.now.card.now) c.args.self.now.run.now c.args.head.now c.requires.0 c.args.key c.if-top-key.false in
    let one = comes-last W R _ _ l c.requires.0.lies c.if-left-eq1.true in
    let t = hit (words c.args.self.now.card.now) c.args.self.now.run.now c.args.head.now c.requires.0 c.args.key c.if-top-key.false [] one in
    let p = put-none W R h c.requires.0.four in
    let v = viewed W R _ [] p.1 in
    (p.0, v ∙ t.0, to_z-of_z f ∙ ap (λ (p : Posting). p.count) u.ensures ∙ t.1, c.is_posting-fine.ensures ∙ t.2, p.2)

pub after-next-requires : goal.after-next-requires
after-next-requires c =
    let l = some (words c.args.self.now.card.now) c.args.self.now.run.now c.args.head.now c.requires.0 c.args.key c.if-top-key.false in
    (omega (arith, l, c.if-left-eq1.false), c.requires.0.lies)

pub overflow_sub-left : goal.overflow_sub-left
overflow_sub-left c =
    omega (arith, some (words c.args.self.now.card.now) c.args.self.now.run.now c.args.head.now c.requires.0 c.args.key c.if-top-key.false)

pub put-reach-requires : goal.put-reach-requires
put-reach-requires c = (c.requires.0.four, c.after-next.ensures.0)

pub returns : goal.returns
returns c =
    let W = words c.args.self.now.card.now in
    let R = c.args.self.now.run.now in
    let u = c.unpack-p in
    let f : SFits w16 u.result.count = search rules in
    let a = c.after-next.ensures in
    let t = hit (words c.args.self.now.card.now) c.args.self.now.run.now c.args.head.now c.requires.0 c.args.key c.if-top-key.false _ a.1 in
    let p = c.put-reach.ensures in
    let v = viewed W R _ _ p.1 in
    (p.0, v ∙ t.0, to_z-of_z f ∙ ap (λ (p : Posting). p.count) u.ensures ∙ t.1, c.is_posting-fine.ensures ∙ t.2, p.2)
