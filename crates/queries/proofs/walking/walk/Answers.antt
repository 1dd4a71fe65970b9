use Rattle.lists.proofs.Prelude.{Bool, true, false, ◌&&◌, ◌||◌, ◌≡◌, refl, sym, ap, ◌∙◌, ℕ, suc, ◌-◌, ◌<◌, arith, ltb, get_or, take}
use Rattle.words.specs.Words.{words}
use Rattle.answers.specs.declared.Hit.{Hit}
use Rattle.ranking.specs.declared.Top.{Top}
use Rattle.ranking.specs.Hits.{outranks, place}
use Rattle.ranking.specs.Top.{no_hit, top_of, listed_hits}
use Rattle.ranking.proofs.Tops.{held-length}
use Rattle.queries.proofs.Walked.{Walking, walk-begun, walk-ended, walk-window, walk_top, walk-ranges, walk-lower, walk-placed, walk-out, walk-passed}
use Rattle.queries.proofs.walking.walk.Invariants.{seen}
use Rattle.queries.proofs.walking.walk.Goals as goal
use Rattle.queries.proofs.walking.walk.Lts as lts
use Rattle.queries.proofs.walking.walk.Tie as tie
use Rattle.queries.proofs.walking.walk.Reads as reads

abbrev After-take-terms : Type 0
After-take-terms = lts.After-take_terms tie.the-claims reads.Pre reads.Post goal.the-invariant-loop-top goal.the-decreases-loop-top tie.handed_clauses

pub top_terms-top-requires : goal.top_terms-top-requires
top_terms-top-requires c = let w = c.requires.0 in (w.fits, w.short, w.lists, w.kept)

pub loop-top-init : goal.loop-top-init
loop-top-init c =
    let a = c.args in
    walk-begun (words a.card.now) a.run.now a.m a.g (seen a.first a.last a.current) a.places a.heads.now c.requires.0 c.requires.1 c.requires.2 _ c.no_hits-best.ensures _ c.top_terms-top.ensures

pub take_terms-t-requires : goal.take_terms-t-requires
take_terms-t-requires c =
    let W = words c.args.card.now in
    let R = c.args.run.now in
    let H = c.args.heads.now in
    let k = c.loop-top.top - 1 in
    let high : c.loop-top.top ≡ suc k = omega (arith, c.loop-top-test.true) in
    let w = c.requires.0 in
    let v = c.loop-top.invariant in
    (omega (arith, w.fits, v.long), omega (arith, w.short, v.long), w.lists, w.terms, walk-window W R c.args.m c.args.g (seen c.args.first c.args.last c.args.current) c.args.places H c.loop-top.heads c.loop-top.best c.loop-top.top c.loop-top.invariant k high, v.kept, walk_top W R c.args.m c.args.g (seen c.args.first c.args.last c.args.current) c.args.places H c.loop-top.heads c.loop-top.best c.loop-top.top c.loop-top.invariant k high, walk-ranges W R c.args.m c.args.g (seen c.args.first c.args.last c.args.current) c.args.places H c.loop-top.heads c.loop-top.best c.loop-top.top c.loop-top.invariant k high)

-- that window
abbrev window : After-take-terms → ℕ
window m = m.loop-top.top - 1

high : (m : After-take-terms) → m.loop-top.top ≡ suc (window m)
high m = omega (arith, m.loop-top-test.true)

-- whether it shows and counts
abbrev counts : After-take-terms → Bool
counts m = m.take_terms-t.result.counts && seen m.args.first m.args.last m.args.current (window m)

-- its hit
abbrev hit : After-take-terms → Hit
hit m = record { window = window m; score = m.take_terms-t.result.score }

-- the windows to come are lower
lower : (m : After-take-terms) → m.take_terms-t.result.next < m.loop-top.top
lower m =
    let a = m.args in
    let l = m.loop-top in
    let t = m.take_terms-t in
    omega (arith, walk-lower (words a.card.now) a.run.now a.m a.g (seen a.first a.last a.current) a.places a.heads.now l.heads l.best l.top l.invariant (window m) (high m) t.new.heads t.result.next t.ensures.heads.0 t.ensures.heads.1 t.ensures.heads.2 t.ensures.scored.2, high m)

-- the walk goes on with these best hits
abbrev GoesOn : After-take-terms → Top → Type 0
GoesOn m then = Walking (words m.args.card.now) m.args.run.now m.args.m m.args.g (seen m.args.first m.args.last m.args.current) m.args.places m.args.heads.now m.take_terms-t.new.heads then m.take_terms-t.result.next

placed : (m : After-take-terms) → counts m ≡ true → (then : Top) → then ≡ top_of (take m.args.places (place (hit m) (listed_hits m.loop-top.best))) → GoesOn m then
placed m e then f =
    let a = m.args in
    let l = m.loop-top in
    let t = m.take_terms-t in
    walk-placed (words a.card.now) a.run.now a.m a.g (seen a.first a.last a.current) a.places a.heads.now l.heads l.best l.top l.invariant (window m) (high m) t.new.heads t.result.next t.ensures.heads.0 t.ensures.heads.1 t.ensures.heads.2 t.ensures.scored.2 t.result.score t.ensures.scored.0 (ap (λ (b : Bool). b && seen a.first a.last a.current (window m)) (sym t.ensures.scored.1) ∙ e) then f

out : (m : After-take-terms) → counts m ≡ true → (ltb m.loop-top.best.used m.args.places || outranks (hit m) (get_or m.loop-top.best.hits (m.args.places - 1) no_hit)) ≡ false → GoesOn m m.loop-top.best
out m e f =
    let a = m.args in
    let l = m.loop-top in
    let t = m.take_terms-t in
    walk-out (words a.card.now) a.run.now a.m a.g (seen a.first a.last a.current) a.places a.heads.now l.heads l.best l.top l.invariant (window m) (high m) t.new.heads t.result.next t.ensures.heads.0 t.ensures.heads.1 t.ensures.heads.2 t.ensures.scored.2 t.result.score t.ensures.scored.0 (ap (λ (b : Bool). b && seen a.first a.last a.current (window m)) (sym t.ensures.scored.1) ∙ e) f _ refl

passed : (m : After-take-terms) → counts m ≡ false → GoesOn m m.loop-top.best
passed m e =
    let a = m.args in
    let l = m.loop-top in
    let t = m.take_terms-t in
    walk-passed (words a.card.now) a.run.now a.m a.g (seen a.first a.last a.current) a.places a.heads.now l.heads l.best l.top l.invariant (window m) (high m) t.new.heads t.result.next t.ensures.heads.0 t.ensures.heads.1 t.ensures.heads.2 t.ensures.scored.2 (ap (λ (b : Bool). b && seen a.first a.last a.current (window m)) (sym t.ensures.scored.1) ∙ e) _ refl

pub overflow_cast-hit : goal.overflow_cast-hit
overflow_cast-hit c =
    let a = c.before.before.before.before.before.args in
    let l = c.loop-top in
    omega (arith, walk-window (words a.card.now) a.run.now a.m a.g (seen a.first a.last a.current) a.places a.heads.now l.heads l.best l.top l.invariant (window c.before.before.before.before.before) (high c.before.before.before.before.before))

pub overflow_sub-at : goal.overflow_sub-at
overflow_sub-at c = omega (arith, c.requires.1)

pub overflow_cast-at : goal.overflow_cast-at
overflow_cast-at c = omega (arith, c.requires.1)

pub offset_bounds-best-at : goal.offset_bounds-best-at
offset_bounds-best-at c = omega (arith, c.requires.1, c.requires.2)

pub bounds-best-at : goal.bounds-best-at
bounds-best-at c = omega (arith, held-length c.args.places c.loop-top.best c.loop-top.invariant.held, c.requires.1, c.requires.2)

pub place_hit-best-requires : goal.place_hit-best-requires
place_hit-best-requires c = c.loop-top.invariant.held

pub loop-top-smaller-then-enters : goal.loop-top-smaller-then-enters
loop-top-smaller-then-enters c = lower c.before.before.before.before.before.before.before.before.before

pub loop-top-preserved-then-enters : goal.loop-top-preserved-then-enters
loop-top-preserved-then-enters c = placed c.before.before.before.before.before.before.before.before.before c.if-counts.true _ c.place_hit-best.ensures

pub loop-top-smaller-else-enters : goal.loop-top-smaller-else-enters
loop-top-smaller-else-enters c = lower c.before.before.before.before.before.before.before.before

pub loop-top-preserved-else-enters : goal.loop-top-preserved-else-enters
loop-top-preserved-else-enters c = out c.before.before.before.before.before.before.before.before c.if-counts.true (sym c.enters.ensures ∙ c.if-enters.false)

pub loop-top-smaller : goal.loop-top-smaller
loop-top-smaller c = lower c.before.before.before.before.before

pub loop-top-preserved : goal.loop-top-preserved
loop-top-preserved c = passed c.before.before.before.before.before c.if-counts.false

pub shape_of-heads : goal.shape_of-heads
shape_of-heads c = c.loop-top.invariant.long

pub returns : goal.returns
returns c =
    let a = c.args in
    walk-ended (words a.card.now) a.run.now a.m a.g (seen a.first a.last a.current) a.places a.heads.now c.loop-top.heads c.loop-top.best c.loop-top.top c.loop-top.invariant (omega arith)
