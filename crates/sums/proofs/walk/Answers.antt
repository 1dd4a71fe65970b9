use Rattle.lists.proofs.Prelude.{⊎_elim, List, ◌≡◌, sym, ap, subst, ◌∙◌, ℕ, suc, ◌-◌, arith, ◌+ℤ◌, length, rules, not-true, not-false, unmapped}
use mir.Syntax.{w16, w32}
use mir.Val.{Fits, SFits}
use mir.Facts.{to_z-of_z}
use Rattle.keyed.specs.Keys.{head_val}
use Rattle.words.specs.Words.{words}
use Rattle.words.proofs.Views.{words-below}
use Rattle.state.proofs.Kept.{state-kept}
use Rattle.sums.proofs.Tally.{buffer_items}
use Rattle.sums.proofs.Buffers.{Shown, shown-under, shown-some, shown-none, buffer-small, buffer-past}
use Rattle.kway.proofs.Parts.{put_in, width}
use Rattle.scans.specs.Keys.{key_window}
use Rattle.sums.specs.Views.{first_place}
use Rattle.sums.proofs.Slots.{place_at, place-missing}
use Rattle.sums.proofs.Keeps.{Step, step_other, step-own}
use Rattle.sums.proofs.ReadBack.{buffer-walkable, read_back, read-fault}
use Rattle.sums.proofs.Walking.{outside, going_start, stop-ended, stop-high, stop-judged, goes_on}
use Rattle.sums.proofs.walk.Goals as goal
use Rattle.sums.proofs.walk.Lts as lts
use Rattle.sums.proofs.walk.Tie as tie
use Rattle.sums.proofs.walk.Reads as reads

abbrev After-max-top : Type 0
After-max-top = lts.After-max tie.the-claims reads.Pre reads.Post goal.the-invariant-loop-at goal.the-decreases-loop-at tie.handed_clauses

abbrev Joined4 : Type 0
Joined4 = lts.Joined4 tie.the-claims reads.Pre reads.Post goal.the-invariant-loop-at goal.the-decreases-loop-at tie.handed_clauses

pub loop-at-init : goal.loop-at-init
loop-at-init c =
    let q = c.args.s in
    let len : length c.args.b.postings ≡ 128 = search (unmapped, rules, c.well_formed.1.1.1.1.0.1.1) in
    let f : Fits w16 q.windows.last = search rules in
    let k = state-kept q c.requires.0.rule in
    going_start (words c.args.card.now) q.partitions.used c.args.b c.args.windows.now c.args.heads.now c.args.start c.args.slots.now len (rw c.requires.0.buffer (buffer-walkable q c.requires.0.rule (omega (arith, f.fits)))) k.partitions.used c.requires.0.room c.requires.0.kept c.requires.0.top c.requires.2

pub offset_bounds-b-at : goal.offset_bounds-b-at
offset_bounds-b-at c = omega (arith, c.loop-at.invariant.ok.few)

pub bounds-b-at : goal.bounds-b-at
bounds-b-at c = omega (arith, c.loop-at.invariant.ok.few, c.loop-at.invariant.len)

pub front_of-front-requires : goal.front_of-front-requires
front_of-front-requires c =
    let v = c.loop-at.invariant in
    buffer-small c.args.b v.ok c.loop-at.at v.len c.if-at-used.true

-- what the buffer has to come first
shown : (c : After-max-top) → Shown (buffer_items c.args.b c.loop-at.at) c.if-at-used.front
shown c =
    let v = c.loop-at.invariant in
    let b = c.args.b in
    ⊎_elim
    (λ x. rw x.front-is (shown-some b v.ok c.loop-at.at v.len x.if-at-used.true x.front_of-front.result x.front_of-front.ensures.0 x.front_of-front.ensures.1))
    (λ x. shown-none b v.ok c.loop-at.at v.len x.if-at-used.false c.if-at-used.front x.front-is)
    c.if-at-used.branch-raw

pub returns-then-top-eq0 : goal.returns-then-top-eq0
returns-then-top-eq0 c =
    let v = c.loop-at.invariant in
    let small = words-below c.args.card.now (λ k. omega (arith, c.shared_slice_known-1.given k)) in
    read_back (words c.args.card.now) c.args.s c.args.b c.args.windows.now c.args.heads.now c.args.start c.requires.0 small (rw c.requires.0.buffer at v.ok)
    c.loop-at.slots v.slots v.tidy (outside c.args.windows.now) (stop-ended v c.if-at-used.front (shown c.before.before) c.max-top.result c.max-top.ensures c.if-top-eq0.true)

pub returns-then-bound-top : goal.returns-then-bound-top
returns-then-bound-top c =
    let v = c.loop-at.invariant in
    let small = words-below c.args.card.now (λ k. omega (arith, c.shared_slice_known-1.given k)) in
    read-fault (words c.args.card.now) c.args.s c.args.b c.args.windows.now c.args.heads.now c.args.start c.requires.0 small (rw c.requires.0.buffer at v.ok)
    c.loop-at.slots v.slots v.tidy (stop-high v c.if-at-used.front (shown c.before.before.before) c.max-top.result c.max-top.ensures c.if-bound-top.true)

pub take-t-requires : goal.take-t-requires
take-t-requires c =
    let v = c.loop-at.invariant in
    (omega (arith, v.room, v.long), omega (arith, v.few), omega arith, v.kept)

pub added-total-requires : goal.added-total-requires
added-total-requires c =
    let v = c.loop-at.invariant in
    let t = c.take-t in
    let fs : SFits w32 t.result.sum = record { sfits = omega (arith, c.struct_told-1.given) } in
    rw (to_z-of_z fs) (omega (arith, t.ensures.taken.3, v.few))

pub keep_total-kept-requires : goal.keep_total-kept-requires
keep_total-kept-requires c =
    let v = c.loop-at.invariant in
    let p = c.place_of-place in
    let k = c.max-top.result - 1 in
    let e = c.key_window.ensures in
    let here = rw (p.ensures, e) at c.if-place-named.true in
    let tidy = v.tidy (first_place (key_window k) c.args.windows.now) here in
    (rw (width 65 p.result, p.ensures, e) (rw (place_at (key_window k) c.args.windows.now here) at tidy), omega (arith, v.low, c.if-top-eq0.false, c.if-bound-top.false))

-- what the key below the top tells
step : (c : Joined4) → Step c.args.windows.now c.loop-at.slots c.if-place-named.slots (c.max-top.result - 1) c.take-t.result.sum
    (c.take-t.result.sum +ℤ head_val (c.max-top.result - 1) (buffer_items c.args.b c.loop-at.at)) c.take-t.result.fine c.if-place-named.fine
step c =
    let v = c.loop-at.invariant in
    let t = c.take-t in
    let k = c.max-top.result - 1 in
    let h : c.max-top.result ≡ suc k = omega (arith, c.if-top-eq0.false) in
    let whole = t.result.sum +ℤ head_val k (buffer_items c.args.b c.loop-at.at) in
    let e = c.key_window.ensures in
    let p = c.place_of-place.ensures in
    let q : c.place_of-place.result ≡ first_place (key_window k) c.args.windows.now = p ∙ rw e in
    ⊎_elim
    (λ x. let fs : SFits w32 t.result.sum = record { sfits = omega (arith, x.struct_told-1.given) } in
    let fc : SFits w16 x.count_under.result = record { sfits = x.count_under.type_inv } in
    let fd : SFits w32 x.added-total.result = record { sfits = x.added-total.type_inv } in
    let total : x.added-total.result ≡ whole = x.added-total.ensures ∙ rw (to_z-of_z fs, to_z-of_z fc, x.count_under.ensures, shown-under (shown c.before.before.before.before.before.before.before.before.before.before) c.max-top.result k h) in
    let here = rw q at x.if-place-named.true in
    let kept = rw (width 65 c.place_of-place.result, q, to_z-of_z fs, to_z-of_z fd, total) at x.keep_total-kept.ensures in
    subst (λ (X : List ℕ). Step c.args.windows.now c.loop-at.slots X k t.result.sum whole t.result.fine c.if-place-named.fine)
    (sym (x.slots-is ∙ ap (put_in 65 c.loop-at.slots x.keep_total-kept.new.slot) q))
    (step-own c.args.windows.now c.loop-at.slots k t.result.sum whole v.slots v.tidy here x.keep_total-kept.new.slot x.keep_total-kept.result kept t.result.fine c.if-place-named.fine x.fine-is))
    (λ x. subst (λ (X : List ℕ). Step c.args.windows.now c.loop-at.slots X k t.result.sum whole t.result.fine c.if-place-named.fine) (sym x.slots-is)
    (step_other c.args.windows.now c.loop-at.slots k t.result.sum whole v.slots v.tidy (place-missing (key_window k) c.args.windows.now (rw q at x.if-place-named.false)) t.result.fine c.if-place-named.fine x.fine-is))
    c.if-place-named.branch-raw

pub shape_of-slots-then-not-fine : goal.shape_of-slots-then-not-fine
shape_of-slots-then-not-fine c = (step c.before.before).long ∙ sym c.requires.2.long

pub returns-then-not-fine : goal.returns-then-not-fine
returns-then-not-fine c =
    let v = c.loop-at.invariant in
    let t = c.take-t in
    let k = c.max-top.result - 1 in
    let small = words-below c.args.card.now (λ k. omega (arith, c.shared_slice_known-1.given k)) in
    read-fault (words c.args.card.now) c.args.s c.args.b c.args.windows.now c.args.heads.now c.args.start c.requires.0 small (rw c.requires.0.buffer at v.ok)
    c.if-place-named.slots (step c.before.before).long (step c.before.before).tidy
    (stop-judged v c.if-at-used.front (shown c.before.before.before.before.before.before.before.before.before.before.before.before) c.max-top.result c.max-top.ensures k (omega (arith, c.if-top-eq0.false)) c.if-bound-top.false t.result.fine t.ensures.taken.1 t.result.sum t.ensures.taken.0 c.if-place-named.fine c.if-place-named.slots (step c.before.before) (not-true _ c.if-not-fine.true-raw))

pub past-at-requires : goal.past-at-requires
past-at-requires c =
    let v = c.loop-at.invariant in
    omega (arith, v.place, v.ok.few)

pub loop-at-preserved : goal.loop-at-preserved
loop-at-preserved c =
    let v = c.loop-at.invariant in
    let t = c.take-t in
    let k = c.max-top.result - 1 in
    let h : c.max-top.result ≡ suc k = omega (arith, c.if-top-eq0.false) in
    goes_on v c.if-at-used.front (shown c.before.before.before.before.before.before.before.before.before.before.before.before.before) c.max-top.result c.max-top.ensures k h c.if-bound-top.false t.result.fine t.ensures.taken.1 t.result.sum t.ensures.taken.0 c.if-place-named.fine c.if-place-named.slots (step c.before.before.before) (not-false _ c.if-not-fine.false-raw)
    _ _ _ t.ensures.heads.0 t.ensures.heads.1 t.ensures.heads.2
    (buffer-past c.args.b v.ok c.loop-at.at v.len v.place c.if-at-used.front (shown c.before.before.before.before.before.before.before.before.before.before.before.before.before) c.max-top.result k h c.past-at.result c.past-at.ensures) t.ensures.taken.2
