-- `scans::put` meets its contract: a spent reader, and another.
use Rattle.lists.proofs.Prelude.{sym, ◌∙◌, arith, length-set, rules}
use mir.Syntax.{w16}
use mir.Val.{Fits}
use Rattle.words.specs.Words.{words}
use Rattle.scans.proofs.Placed.{Narrow, put-none, put_some}
use Rattle.scans.proofs.put.Goals as goal

pub bounds-head-6 : goal.bounds-head-6
bounds-head-6 c =
    simp length-set (omega (arith, c.requires.0))

pub bounds-head-7 : goal.bounds-head-7
bounds-head-7 c =
    simp length-set (omega (arith, c.requires.0))

pub bounds-head-8 : goal.bounds-head-8
bounds-head-8 c =
    simp length-set (omega (arith, c.requires.0))

pub bounds-head-9 : goal.bounds-head-9
bounds-head-9 c =
    simp length-set (omega (arith, c.requires.0))

pub bounds-head-0 : goal.bounds-head-0
bounds-head-0 c =
    simp length-set (omega (arith, c.requires.0))

pub returns-then-p-eq0 : goal.returns-then-p-eq0
returns-then-p-eq0 c =
    let r = c.args.r in
    let a : Fits w16 r.postings.block = search rules in
    let b : Fits w16 r.postings.word = search rules in
    let d : Fits w16 r.entries.block = search rules in
    let f : Fits w16 r.entries.word = search rules in
    let n : Narrow r = record { block = omega (arith, a.fits); word = omega (arith, b.fits); block2 = omega (arith, d.fits); word2 = omega (arith, f.fits); id = omega (arith, c.requires.1.small) } in
    put-none (words c.args.card.now) c.args.head.now c.requires.0 r n c.requires.1 c.if-p-eq0.true

pub bounds-head-0-2 : goal.bounds-head-0-2
bounds-head-0-2 c =
    simp length-set (omega (arith, c.requires.0))

pub bounds-head-1 : goal.bounds-head-1
bounds-head-1 c =
    simp length-set (omega (arith, c.requires.0))

pub returns : goal.returns
returns c =
    let r = c.args.r in
    let a : Fits w16 r.postings.block = search rules in
    let b : Fits w16 r.postings.word = search rules in
    let d : Fits w16 r.entries.block = search rules in
    let f : Fits w16 r.entries.word = search rules in
    let n : Narrow r = record { block = omega (arith, a.fits); word = omega (arith, b.fits); block2 = omega (arith, d.fits); word2 = omega (arith, f.fits); id = omega (arith, c.requires.1.small) } in
    put_some (words c.args.card.now) c.args.head.now c.requires.0 r n c.requires.1 (omega arith) c.head-word.result c.head-word.ensures

pub shape_of-head-then-p-eq0 : goal.shape_of-head-then-p-eq0
shape_of-head-then-p-eq0 c = (returns-then-p-eq0 c).0.ten ∙ sym c.requires.0

pub shape_of-head : goal.shape_of-head
shape_of-head c = (returns c).0.ten ∙ sym c.requires.0
