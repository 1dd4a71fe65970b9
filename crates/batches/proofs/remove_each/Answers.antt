use mir.Syntax.{w16}
use mir.Val.{Fits}
use Rattle.lists.proofs.Prelude.{⊎_elim, List, ℕ, ◌≡◌, refl, sym, ap, subst, ◌∙◌, ◌+◌, ◌*◌, ◌%◌, ◌<◌, ◌-◌, arith, length, length-drop, length-take-le, take, drop, rules, unmapped}
use Rattle.words.specs.Words.{words}
use Rattle.postings.specs.declared.Posting.{Posting}
use Rattle.answers.specs.Answers.{answer_of}
use Rattle.state.specs.declared.Lengths.{Lengths}
use Rattle.state.specs.declared.State.{State}
use Rattle.state.specs.Probe.{Store, store_of}
use Rattle.state.proofs.Kept.{state-kept}
use Rattle.kway.proofs.Parts.{width}
use Rattle.sums.specs.Views.{counts_in}
use Rattle.removals.proofs.Turns.{card-words}
use Rattle.batches.proofs.Chain.{counts_at, Reached, reached-end, standing-fine, standing-counts}
use Rattle.batches.proofs.Held.{Loaded, holding-none, holding-next, loaded-read}
use Rattle.batches.proofs.Judging.{reached-none, Made, reached-made, made_by}
use Rattle.batches.proofs.Turns.{Granted, granted}
use Rattle.batches.proofs.remove_each.Goals as goal
use Rattle.batches.proofs.remove_each.Lts as lts
use Rattle.batches.proofs.remove_each.Tie as tie
use Rattle.batches.proofs.remove_each.Reads as reads

abbrev At-loop : Type 0
At-loop = lts.At-loop tie.the-claims reads.Pre reads.Post goal.the-invariant-loop-i goal.the-decreases-loop-i

abbrev Joined1 : Type 0
Joined1 = lts.Joined1 tie.the-claims reads.Pre reads.Post goal.the-invariant-loop-i goal.the-decreases-loop-i

abbrev After-must-flush : Type 0
After-must-flush = lts.After-must_flush tie.the-claims reads.Pre reads.Post goal.the-invariant-loop-i goal.the-decreases-loop-i

-- what the loop began with
abbrev state : At-loop → State
state l = l.args.s

abbrev card : At-loop → List ℕ
card l = l.args.card.now

abbrev named : At-loop → List ℕ
named l = l.args.named.now

abbrev counted : At-loop → ℕ → List Posting
counted l = counts_at (state l) (card l)

-- nothing refuses the list
judged : (l : At-loop) → Granted (state l) (card l) (named l)
judged l = granted (state l) (card l) (named l) l.requires

pub loop-i-init : goal.loop-i-init
loop-i-init c =
    let wide : length c.args.s.buffer.postings ≡ 128 = search (unmapped, rules, c.well_formed.0.1.1.1.1.1.0.1.1) in
    let f : Fits w16 c.args.s.windows.last = search rules in
    (reached-none c.args.s c.args.card.now c.args.named.now (granted c.args.s c.args.card.now c.args.named.now c.requires).admitted wide (λ i. omega (arith, c.slice_known-1.given i)) (omega (arith, f.fits)), holding-none _ _ _ refl)

-- where a portion begins, it is read
pub read_all-requires : goal.read_all-requires
read_all-requires c =
    let n = c.portion-count.result in
    let h = c.loop-i.invariant.0.standing in
    let e : c.loop-i.i + n - c.loop-i.i ≡ n = omega arith in
    let long : length (take n (drop c.loop-i.i (named c.before.before.before.before.before.before))) ≡ n = length-take-le n (drop c.loop-i.i (named c.before.before.before.before.before.before)) (omega (arith, length-drop c.loop-i.i (named c.before.before.before.before.before.before), c.portion-count.ensures)) in
    (h.rule, card-words c.loop-i.t c.loop-i.card h.rule h.size, h.parts, rw e (omega (arith, long, c.portion-count.ensures)), rw e (omega (arith, long, length-take-le (65 * n - 0) c.loop-i.slots (omega (arith, c.loop-i.invariant.1.long, c.portion-count.ensures)))))

-- so the window has its counts in its slot
loaded : (j : Joined1) → Loaded (counted j.before.before) (named j.before.before) j.loop-i.i j.if-place-eq0.slots
loaded j =
    let i = j.loop-i.i in
    let h = j.loop-i.invariant.0.standing in
    ⊎_elim
    (λ x. let n = x.portion-count in
    let e : i + n.result - i ≡ n.result = omega arith in
    let a = rw e at x.read_all.ensures in
    subst (λ (T : List ℕ). Loaded (counted j.before.before) (named j.before.before) i T) (sym x.slots-is)
    (loaded-read (words j.loop-i.card) j.loop-i.t (counted j.before.before) (named j.before.before) (judged j.before.before).admitted.once i x.if-place-eq0.true n.result n.ensures x.read_all.result _ j.loop-i.slots a
    (standing-fine j.loop-i.t j.loop-i.card (drop i (named j.before.before)) (counted j.before.before) h n.result x.read_all.result _ a) j.loop-i.invariant.1.long (standing-counts j.loop-i.t j.loop-i.card (named j.before.before) (counted j.before.before) i h)))
    (λ x. subst (λ (T : List ℕ). Loaded (counted j.before.before) (named j.before.before) i T) (sym x.slots-is) (j.loop-i.invariant.1.held x.if-place-eq0.false))
    j.if-place-eq0.branch-raw

pub slice_bounds-counts_of-end : goal.slice_bounds-counts_of-end
slice_bounds-counts_of-end c = omega (arith, (loaded c.before).long)

pub counts_of-c-requires : goal.counts_of-c-requires
counts_of-c-requires c =
    let i = c.loop-i.i in
    rw (width 65 (i % 16)) ((loaded c.before.before.before).tidy i (omega arith) c.loop-i-test.true refl)

pub must_flush-flush-requires : goal.must_flush-flush-requires
must_flush-flush-requires c =
    ((state-kept c.loop-i.t c.loop-i.invariant.0.standing.rule).buffer.used, c.counts_of-c.ensures.1.few)

-- the removal is not refused, so it goes on
made : (m : After-must-flush) → Made (store_of (state m.before.before.before.before.before.before.before) (card m.before.before.before.before.before.before.before)) (named m.before.before.before.before.before.before.before) (counted m.before.before.before.before.before.before.before) (judged m.before.before.before.before.before.before.before).admitted.once m.loop-i.t m.loop-i.card m.loop-i.i m.loop-i.invariant.0 m.loop-i-test.true m.must_flush-flush.result m.counts_of-c.result
made m =
    let i = m.loop-i.i in
    let here : i < length (named m.before.before.before.before.before.before.before) = m.loop-i-test.true in
    let k = m.counts_of-c in
    reached-made (store_of (state m.before.before.before.before.before.before.before) (card m.before.before.before.before.before.before.before)) (named m.before.before.before.before.before.before.before) (counted m.before.before.before.before.before.before.before) (judged m.before.before.before.before.before.before.before).admitted.once m.loop-i.t m.loop-i.card i m.loop-i.invariant.0 here
    (ap answer_of (sym (judged m.before.before.before.before.before.before.before).on) ∙ m.requires) k.result k.ensures.1 (rw (width 65 (i % 16)) at k.ensures.0 ∙ (loaded m.before.before.before.before.before).counts i (omega arith) here refl) m.must_flush-flush.result m.must_flush-flush.ensures

pub list_flush-l-requires : goal.list_flush-l-requires
list_flush-l-requires c =
    let h = c.loop-i.invariant.0.standing in
    λ y. record { state = c.loop-i.t; rule = h.rule; size = h.size; chosen = (made c.before.before.before.before.before).chosen y; blocks = refl; taken = refl; buffer = refl; partitions = refl }

pub take_back-left-requires : goal.take_back-left-requires
take_back-left-requires c = rw c.begun.ensures (made c.before.before.before.before.before.before.before.before.before.before).takes

pub one_less-t-requires : goal.one_less-t-requires
one_less-t-requires c = (made c.before.before.before.before.before.before.before.before.before.before.before.before.before).live

pub loop-i-preserved : goal.loop-i-preserved
loop-i-preserved c =
    let left = rw c.begun.ensures at c.take_back-left.ensures in
    let same = made_by c.loop-i.t c.loop-i.card c.must_flush-flush.result (counts_in c.counts_of-c.result) _ _ c.list_flush-l.result _ c.one_less-t.ensures left c.list_flush-l.ensures in
    (subst (λ (y : Store). Reached (store_of (state c.before.before.before.before.before.before.before.before.before.before.before.before.before.before.before.before.before.before.before.before.before) (card c.before.before.before.before.before.before.before.before.before.before.before.before.before.before.before.before.before.before.before.before.before)) (named c.before.before.before.before.before.before.before.before.before.before.before.before.before.before.before.before.before.before.before.before.before) (counted c.before.before.before.before.before.before.before.before.before.before.before.before.before.before.before.before.before.before.before.before.before) y.state y.card (c.loop-i.i + 1)) (sym same) (made c.before.before.before.before.before.before.before.before.before.before.before.before.before.before).next, holding-next _ _ _ _ (loaded c.before.before.before.before.before.before.before.before.before.before.before.before.before.before.before.before.before.before.before))

pub shape_of-card : goal.shape_of-card
shape_of-card c =
    let v = c.loop-i.invariant.0 in
    v.standing.size ∙ ap (λ (x : Lengths). x.card) v.lengths ∙ sym (judged c.before.before).admitted.size

pub returns : goal.returns
returns c =
    (judged c.before.before).on ∙ reached-end (store_of (state c.before.before) (card c.before.before)) (named c.before.before) (counted c.before.before) (judged c.before.before).admitted.once c.loop-i.t c.loop-i.card c.loop-i.i c.loop-i.invariant.0 (search rules)
