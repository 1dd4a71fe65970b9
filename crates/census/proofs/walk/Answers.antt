use Rattle.lists.proofs.Prelude.{⊎_elim, ◌≡◌, ◌∙◌, suc, ◌-◌, arith, ◌+ℤ◌, length, rules, not-true, not-false, unmapped}
use mir.Syntax.{w16, w32}
use mir.Val.{SFits}
use mir.Facts.{to_z-of_z}
use Rattle.keyed.specs.Keys.{head_val, head_vals}
use Rattle.words.specs.Words.{words}
use Rattle.words.proofs.Views.{words-below}
use Rattle.scans.specs.Heads.{views}
use Rattle.sums.proofs.Tally.{buffer_items}
use Rattle.sums.proofs.Buffers.{Shown, shown-under, shown-some, shown-none, buffer-small, buffer-past}
use Rattle.census.proofs.Marks.{step-few}
use Rattle.census.proofs.Counts.{counted-few}
use Rattle.census.proofs.Walking.{going_start, stop-ended, stop-high, stop-formed, goes_on, told}
use Rattle.census.proofs.walk.Goals as goal
use Rattle.census.proofs.walk.Lts as lts
use Rattle.census.proofs.walk.Tie as tie
use Rattle.census.proofs.walk.Reads as reads

abbrev After-max-top : Type 0
After-max-top = lts.After-max tie.the-claims reads.Pre reads.Post goal.the-invariant-loop-at goal.the-decreases-loop-at tie.handed_clauses

pub leader-l-requires : goal.leader-l-requires
leader-l-requires c = (c.requires.1, omega (arith, c.requires.0), c.requires.2)

pub loop-at-init : goal.loop-at-init
loop-at-init c =
    let a = c.args in
    let len : length a.b.postings ≡ 128 = search (unmapped, rules) in
    let small = words-below a.card.now (λ k. omega (arith, c.shared_slice_known-1.given k)) in
    let l = c.leader-l in
    going_start (words a.card.now) a.n a.heads.now a.b a.t a.v.current a.marks.now small c.requires.2 c.requires.3 len c.requires.0 c.requires.1 l.result.top l.result.at l.result.others l.ensures.0 l.ensures.1 c.requires.4 c.requires.5

pub offset_bounds-b-at : goal.offset_bounds-b-at
offset_bounds-b-at c = omega (arith, c.loop-at.invariant.ok.few)

pub bounds-b-at : goal.bounds-b-at
bounds-b-at c = omega (arith, c.loop-at.invariant.ok.few, c.loop-at.invariant.len)

pub front_of-front-requires : goal.front_of-front-requires
front_of-front-requires c =
    buffer-small c.args.b c.loop-at.invariant.ok c.loop-at.at c.loop-at.invariant.len c.if-at-used.true

-- what the buffer has to come first
shown : (c : After-max-top) → Shown (buffer_items c.args.b c.loop-at.at) c.if-at-used.front
shown c =
    let v = c.loop-at.invariant in
    let b = c.args.b in
    ⊎_elim
    (λ x. rw x.front-is (shown-some b v.ok c.loop-at.at v.len x.if-at-used.true x.front_of-front.result x.front_of-front.ensures.0 x.front_of-front.ensures.1))
    (λ x. shown-none b v.ok c.loop-at.at v.len x.if-at-used.false c.if-at-used.front x.front-is)
    c.if-at-used.branch-raw

pub returns-then-top-eq0 : goal.returns-then-top-eq0
returns-then-top-eq0 c =
    let a = c.args in
    let g = c.loop-at.invariant in
    told a.t a.v _ _ c.loop-at.marks c.loop-at.windows g.counts (stop-ended g c.if-at-used.front (shown c.before.before) c.max-top.result c.max-top.ensures c.if-top-eq0.true)

pub returns-then-bound-top : goal.returns-then-bound-top
returns-then-bound-top c =
    let g = c.loop-at.invariant in
    stop-high g c.if-at-used.front (shown c.before.before.before) c.max-top.result c.max-top.ensures c.if-bound-top.true

pub take_led-k-requires : goal.take_led-k-requires
take_led-k-requires c =
    let v = c.loop-at.invariant in
    (omega (arith, v.room, v.long), omega (arith, v.few), omega (arith, v.low), v.kept, v.leads)

pub returns-then-not-k : goal.returns-then-not-k
returns-then-not-k c =
    let g = c.loop-at.invariant in
    let k = c.take_led-k in
    stop-formed g c.if-at-used.front (shown c.before.before.before.before.before.before.before.before.before.before) c.max-top.result c.max-top.ensures (c.max-top.result - 1) (omega (arith, c.if-top-eq0.false)) c.if-bound-top.false k.result.fine k.ensures.taken.1 (not-true _ c.if-not-k.true)

pub added-total-requires : goal.added-total-requires
added-total-requires c =
    let v = c.loop-at.invariant in
    let k = c.take_led-k in
    let fs : SFits w32 k.result.sum = record { sfits = omega (arith, c.struct_told-1.given) } in
    rw (to_z-of_z fs) (omega (arith, k.ensures.taken.3, v.few))

pub mark_window-windows-requires : goal.mark_window-windows-requires
mark_window-windows-requires c = c.loop-at.invariant.covers

pub overflow_add-windows : goal.overflow_add-windows
overflow_add-windows c =
    let l = c.loop-at in
    let a = c.args in
    omega (arith, l.invariant.counts, counted-few a.t a.v.current l.marks, step-few c.mark_window-windows.ensures)

pub past-at-requires : goal.past-at-requires
past-at-requires c =
    let v = c.loop-at.invariant in
    omega (arith, v.place, v.ok.few)

pub loop-at-preserved : goal.loop-at-preserved
loop-at-preserved c =
    let l = c.loop-at in
    let g = l.invariant in
    let t = c.take_led-k in
    let k = c.max-top.result - 1 in
    let h : c.max-top.result ≡ suc k = omega (arith, c.if-top-eq0.false) in
    let x = c.added-total in
    let u = c.count_under in
    let m = c.mark_window-windows in
    let fs : SFits w32 t.result.sum = record { sfits = omega (arith, c.struct_told-1.given) } in
    let fc : SFits w16 u.result = record { sfits = u.type_inv } in
    let fx : SFits w32 x.result = record { sfits = x.type_inv } in
    let total : x.result ≡ head_vals k (views (words c.args.card.now) c.args.n l.heads) +ℤ head_val k (buffer_items c.args.b l.at) =
    x.ensures ∙ rw (to_z-of_z fs, to_z-of_z fc, u.ensures, shown-under (shown c.before.before.before.before.before.before.before.before.before.before.before.before.before.before.before.before.before.before.before) c.max-top.result k h, t.ensures.taken.0) in
    let step = rw (to_z-of_z fx, c.key_window.ensures) at m.ensures in
    goes_on g c.if-at-used.front (shown c.before.before.before.before.before.before.before.before.before.before.before.before.before.before.before.before.before.before.before) c.max-top.result c.max-top.ensures k h c.if-bound-top.false t.result.fine t.ensures.taken.1 (not-false _ c.if-not-k.false) x.result total m.result _ step
    _ _ _ _ _ t.ensures.heads.0 t.ensures.heads.1 t.ensures.heads.2
    (buffer-past c.args.b g.ok l.at g.len g.place c.if-at-used.front (shown c.before.before.before.before.before.before.before.before.before.before.before.before.before.before.before.before.before.before.before) c.max-top.result k h c.past-at.result c.past-at.ensures) t.ensures.taken.2 t.ensures.lead

pub shape_of-heads-then-top-eq0 : goal.shape_of-heads-then-top-eq0
shape_of-heads-then-top-eq0 c = c.loop-at.invariant.long

pub shape_of-marks-then-top-eq0 : goal.shape_of-marks-then-top-eq0
shape_of-marks-then-top-eq0 c = c.loop-at.invariant.marks

pub shape_of-heads-then-bound-top : goal.shape_of-heads-then-bound-top
shape_of-heads-then-bound-top c = c.loop-at.invariant.long

pub shape_of-marks-then-bound-top : goal.shape_of-marks-then-bound-top
shape_of-marks-then-bound-top c = c.loop-at.invariant.marks

pub shape_of-heads-then-not-k : goal.shape_of-heads-then-not-k
shape_of-heads-then-not-k c = c.take_led-k.ensures.heads.0 ∙ c.loop-at.invariant.long

pub shape_of-marks-then-not-k : goal.shape_of-marks-then-not-k
shape_of-marks-then-not-k c = c.loop-at.invariant.marks
