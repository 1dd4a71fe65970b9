use mir.Val.{bool_byte}
use Rattle.lists.proofs.Prelude.{true, cond, List, map, by-test, and_right, ◌≡◌, sym, refl, ap, ◌∙◌, ℕ, suc, ◌≤◌, ◌+◌, ◌*◌, ◌-◌, arith, ltb, not-true, not-false}
use Rattle.words.specs.Words.{words}
use Rattle.keyed.specs.Keys.{head_vals}
use Rattle.keyed.specs.Groups.{Group, top_all, heads_fine_all}
use Rattle.kway.specs.Parts.{part}
use Rattle.heads.specs.Heads.{view, views}
use Rattle.terms.specs.Both.{both}
use Rattle.terms.specs.Judged.{count_at, fine_at}
use Rattle.heads.proofs.Heads.{reach-at}
use Rattle.terms.proofs.Steps.{top-step, resume, start, ended, too-high, faulty, counted, total-most, spread-fits}
use Rattle.terms.proofs.judging.judge.Invariants.{seen}
use Rattle.terms.proofs.judging.judge.Goals as goal
use Rattle.terms.proofs.judging.judge.Lts as lts
use Rattle.terms.proofs.judging.judge.Tie as tie
use Rattle.terms.proofs.judging.judge.Reads as reads

abbrev After-shown : Type 0
After-shown = lts.After-shown tie.the-claims reads.Pre reads.Post goal.the-invariant-loop-top goal.the-decreases-loop-top tie.handed_clauses

pub leader-l-requires : goal.leader-l-requires
leader-l-requires c = (omega (arith, c.requires.0), omega (arith, c.requires.1), c.requires.2.lists)

pub loop-top-init : goal.loop-top-init
loop-top-init c =
    let W = words c.args.card.now in
    let R = c.args.run.now in
    let n = c.args.n in
    let H = c.args.heads.now in
    let l = c.leader-l in
    (refl, c.requires.2, sym (top-step (views W R n H) (view W R (part 4 n H)) l.result.top _ _ l.ensures.0 (reach-at W R H n c.requires.2.run) c.max-top.ensures), l.ensures.1, (omega arith, omega arith), start (seen c.args.first c.args.last c.args.current) _)

pub shape_of-heads-then-bound-top : goal.shape_of-heads-then-bound-top
shape_of-heads-then-bound-top c = c.loop-top.invariant.0

pub returns-then-bound-top : goal.returns-then-bound-top
returns-then-bound-top c =
    let gs = both (words c.args.card.now) c.args.run.now c.args.n c.loop-top.heads in
    let v = c.loop-top.invariant in
    sym (v.5 ∙ too-high (seen c.args.first c.args.last c.args.current) c.loop-top.bound c.loop-top.windows c.loop-top.total gs (omega (arith, v.2, c.if-bound-top.true)))

pub judge_window-t-requires : goal.judge_window-t-requires
judge_window-t-requires c =
    let v = c.loop-top.invariant in
    (v.0 ∙ c.requires.0, c.requires.1, omega (arith, c.loop-top-test.true), v.1, v.3)

pub shape_of-heads-then-not-t : goal.shape_of-heads-then-not-t
shape_of-heads-then-not-t c = c.judge_window-t.ensures.heads.0 ∙ c.loop-top.invariant.0

pub returns-then-not-t : goal.returns-then-not-t
returns-then-not-t c =
    let test = c.loop-top-test.true in
    let below = c.if-bound-top.false in
    let gs = both (words c.args.card.now) c.args.run.now c.args.n c.loop-top.heads in
    let v = c.loop-top.invariant in
    let k = c.loop-top.top - 1 in
    let high : top_all 0 gs ≡ suc k = sym v.2 ∙ omega (arith, test) in
    let low : suc k ≤ c.loop-top.bound = omega (arith, below, test) in
    let t = c.judge_window-t in
    sym (v.5 ∙ faulty (seen c.args.first c.args.last c.args.current) c.loop-top.bound c.loop-top.windows c.loop-top.total gs k high low (sym t.ensures.judged.0 ∙ not-true _ c.if-not-t.true))

abbrev window : After-shown → ℕ
window m = m.loop-top.top - 1

abbrev left : After-shown → List Group
left m = both (words m.args.card.now) m.args.run.now m.args.n m.loop-top.heads

low : (m : After-shown) → suc (window m) ≤ m.loop-top.bound
low m = omega (arith, m.if-bound-top.false, m.loop-top-test.true)

high : (m : After-shown) → top_all 0 (left m) ≡ suc (window m)
high m = sym m.loop-top.invariant.2 ∙ omega (arith, m.loop-top-test.true)

-- it is well formed, and this is what it counts
fine : (m : After-shown) → fine_at (window m) (left m) ≡ true
fine m = sym m.judge_window-t.ensures.judged.0 ∙ not-false _ m.if-not-t.false

counts : (m : After-shown) → m.shown-count.result ≡ count_at (seen m.args.first m.args.last m.args.current) (window m) (map (head_vals (window m)) (left m))
counts m = m.shown-count.ensures ∙ ap (λ (n : ℕ). cond (seen m.args.first m.args.last m.args.current (window m)) n 0) m.judge_window-t.ensures.judged.1

counts-few : (m : After-shown) → m.shown-count.result ≤ 32767
counts-few m =
    let a = total-most (map (head_vals (window m)) (left m)) (and_right (heads_fine_all (window m) (left m)) _ (fine m)) in
    by-test (seen m.args.first m.args.last m.args.current (window m))
    (λ y. rw (counts m, y) a)
    (λ y. rw (counts m, y) (omega arith))

fits : (m : After-shown) → let l = m.loop-top in let c = m.shown-count.result in (l.windows + bool_byte (ltb 0 c) + window m ≤ 65536) × (l.total + c ≤ 32767 * (l.windows + bool_byte (ltb 0 c)))
fits m = let v = m.loop-top.invariant.4 in spread-fits _ _ m.loop-top.bound (window m) _ v.0 (low m) v.1 (counts-few m)

pub overflow_add-windows : goal.overflow_add-windows
overflow_add-windows c = omega (arith, (fits c.before).0)

pub overflow_add-total : goal.overflow_add-total
overflow_add-total c = omega (arith, (fits c.before).0, (fits c.before).1)

pub loop-top-preserved : goal.loop-top-preserved
loop-top-preserved c =
    let t = c.judge_window-t.ensures in
    let l = c.before.loop-top in
    let o = seen c.before.args.first c.before.args.last c.before.args.current in
    (t.heads.0 ∙ l.invariant.0, t.heads.1, t.judged.2, t.lead, fits c.before, l.invariant.5 ∙ counted o l.bound l.windows l.total (left c.before) (window c.before) (high c.before) (low c.before) (fine c.before) _ (counts c.before) ∙ ap (resume o (window c.before) (l.windows + bool_byte (ltb 0 c.shown-count.result)) (l.total + c.shown-count.result)) (sym t.heads.2))

pub shape_of-heads : goal.shape_of-heads
shape_of-heads c = c.loop-top.invariant.0

pub returns : goal.returns
returns c =
    let gs = both (words c.args.card.now) c.args.run.now c.args.n c.loop-top.heads in
    let v = c.loop-top.invariant in
    sym (v.5 ∙ ended (seen c.args.first c.args.last c.args.current) c.loop-top.bound c.loop-top.windows c.loop-top.total gs (sym v.2 ∙ omega arith))
