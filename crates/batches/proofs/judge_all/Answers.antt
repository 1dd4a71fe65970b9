use mir.Syntax.{w16}
use mir.Val.{Fits}
use Rattle.lists.proofs.Prelude.{⊎_elim, Bool, true, List, ℕ, ◌≡◌, refl, sym, ap, subst, ◌∙◌, ◌+◌, ◌*◌, ◌%◌, ◌≤◌, ◌-◌, arith, ltb, length, length-drop, length-take-le, get_or, take, drop, rules, unmapped}
use Rattle.std.proofs.lemmas.Result.{err_from_is_err_and}
use Rattle.words.specs.Words.{words}
use Rattle.answers.specs.Answers.{answer_of}
use Rattle.answers.specs.Numbers.{replied}
use Rattle.postings.specs.declared.Posting.{Posting}
use Rattle.state.specs.declared.State.{State}
use Rattle.state.specs.Views.{buffered}
use Rattle.state.specs.Rules.{state_rule}
use Rattle.state.specs.Probe.{store_of}
use Rattle.state.proofs.Kept.{state-kept}
use Rattle.kway.proofs.Parts.{width}
use Rattle.sums.specs.Views.{counts_in}
use Rattle.batches.specs.declared.Room.{Room}
use Rattle.batches.specs.Steps.{room_of, Roomy, removal_after}
use Rattle.removals.proofs.Turns.{card-words}
use Rattle.batches.proofs.Chain.{counts_at, reckoned-none, Reached, reached-end, standing-drop, standing-fine}
use Rattle.batches.proofs.Held.{Loaded, holding-none, holding-next, loaded-read}
use Rattle.batches.proofs.Judging.{reached-none, going-refused, Onward, going_on}
use Rattle.batches.proofs.judge_all.Goals as goal

-- what the loop goes through
-- before the loop: refusals 1 to 3 have no cause for any window
pub loop-i-init : goal.loop-i-init
loop-i-init c =
    let state : State = c.args.s in
    let begins : Reached (store_of c.args.s c.args.card.now) c.args.named.now (counts_at c.args.s c.args.card.now) c.args.s c.args.card.now 0 =
    let wide : length c.args.s.buffer.postings ≡ 128 = search (unmapped, rules, c.well_formed.0.1.1.1.1.1.0.1.1) in
    let f : Fits w16 c.args.s.windows.last = search rules in
    reached-none c.args.s c.args.card.now c.args.named.now c.requires wide (λ i. omega (arith, c.shared_slice_known-1.given i)) (omega (arith, f.fits)) in (
      record {
        state = c.args.s;
        after = c.args.card.now;
        reached = begins;
        reckoned = reckoned-none c.args.s c.args.card.now;
        windows = refl;
        buffer = refl;
        flushes = omega arith;
      },
      holding-none _ _ _ refl,
    )

-- where a portion begins, it is read
pub read_all-requires : goal.read_all-requires
read_all-requires c =
    let begins : Reached (store_of c.args.s c.args.card.now) c.args.named.now (counts_at c.args.s c.args.card.now) c.args.s c.args.card.now 0 =
    let wide : length c.args.s.buffer.postings ≡ 128 = search (unmapped, rules, c.well_formed.0.1.1.1.1.1.0.1.1) in
    let f : Fits w16 c.args.s.windows.last = search rules in
    reached-none c.args.s c.args.card.now c.args.named.now c.requires wide (λ i. omega (arith, c.shared_slice_known-1.given i)) (omega (arith, f.fits)) in
    let named : List ℕ = c.args.named.now in
    let state : State = c.args.s in
    let card : List ℕ = c.args.card.now in
    let n = c.portion-count.result in
    let h = begins.standing in
    let e : c.loop-i.i + n - c.loop-i.i ≡ n = omega arith in
    let long : length (take n (drop c.loop-i.i named)) ≡ n = length-take-le n (drop c.loop-i.i named) (omega (arith, length-drop c.loop-i.i named, c.portion-count.ensures)) in
    (h.rule, card-words state card h.rule h.size, h.parts, rw e (omega (arith, long, c.portion-count.ensures)), rw e (omega (arith, long, length-take-le (65 * n - 0) c.loop-i.slots (omega (arith, c.loop-i.invariant.1.long, c.portion-count.ensures)))))

-- so the window has its counts in its slot
pub slice_bounds-counts_of-end : goal.slice_bounds-counts_of-end
slice_bounds-counts_of-end c =
    let state : State = c.args.s in
    let card : List ℕ = c.args.card.now in
    let counted : ℕ → List Posting = counts_at state card in
    let named : List ℕ = c.args.named.now in
    let begins : Reached (store_of c.args.s c.args.card.now) c.args.named.now (counts_at c.args.s c.args.card.now) c.args.s c.args.card.now 0 =
    let wide : length c.args.s.buffer.postings ≡ 128 = search (unmapped, rules, c.well_formed.0.1.1.1.1.1.0.1.1) in
    let f : Fits w16 c.args.s.windows.last = search rules in
    reached-none c.args.s c.args.card.now c.args.named.now c.requires wide (λ i. omega (arith, c.shared_slice_known-1.given i)) (omega (arith, f.fits)) in
    let loaded : Loaded counted named c.loop-i.i c.if-place-eq0.slots = let i = c.loop-i.i in
    let h = standing-drop state card named counted begins.standing i in
    ⊎_elim
    (λ x. let n = x.portion-count in
    let e : i + n.result - i ≡ n.result = omega arith in
    let a = rw e at x.read_all.ensures in
    subst (λ (T : List ℕ). Loaded counted named i T) (sym x.slots-is)
    (loaded-read (words card) state counted named c.requires.once i x.if-place-eq0.true n.result n.ensures x.read_all.result _ c.loop-i.slots a
    (standing-fine state card (drop i named) counted h n.result x.read_all.result _ a) c.loop-i.invariant.1.long (λ k p q. refl)))
    (λ x. subst (λ (T : List ℕ). Loaded counted named i T) (sym x.slots-is) (c.loop-i.invariant.1.held x.if-place-eq0.false))
    c.if-place-eq0.branch-raw in
    omega (arith, loaded.long)

pub counts_of-c-requires : goal.counts_of-c-requires
counts_of-c-requires c =
    let state : State = c.args.s in
    let card : List ℕ = c.args.card.now in
    let counted : ℕ → List Posting = counts_at state card in
    let named : List ℕ = c.args.named.now in
    let begins : Reached (store_of c.args.s c.args.card.now) c.args.named.now (counts_at c.args.s c.args.card.now) c.args.s c.args.card.now 0 =
    let wide : length c.args.s.buffer.postings ≡ 128 = search (unmapped, rules, c.well_formed.0.1.1.1.1.1.0.1.1) in
    let f : Fits w16 c.args.s.windows.last = search rules in
    reached-none c.args.s c.args.card.now c.args.named.now c.requires wide (λ i. omega (arith, c.shared_slice_known-1.given i)) (omega (arith, f.fits)) in
    let loaded : Loaded counted named c.loop-i.i c.if-place-eq0.slots = let i = c.loop-i.i in
    let h = standing-drop state card named counted begins.standing i in
    ⊎_elim
    (λ x. let n = x.portion-count in
    let e : i + n.result - i ≡ n.result = omega arith in
    let a = rw e at x.read_all.ensures in
    subst (λ (T : List ℕ). Loaded counted named i T) (sym x.slots-is)
    (loaded-read (words card) state counted named c.requires.once i x.if-place-eq0.true n.result n.ensures x.read_all.result _ c.loop-i.slots a
    (standing-fine state card (drop i named) counted h n.result x.read_all.result _ a) c.loop-i.invariant.1.long (λ k p q. refl)))
    (λ x. subst (λ (T : List ℕ). Loaded counted named i T) (sym x.slots-is) (c.loop-i.invariant.1.held x.if-place-eq0.false))
    c.if-place-eq0.branch-raw in
    let i = c.loop-i.i in
    rw (width 65 (i % 16)) (loaded.tidy i (omega arith) c.loop-i-test.true refl)

-- the buffer so far is a buffer
-- the numbers that flushes are judged by fit
roomy : (s : State) (card : List ℕ) → state_rule s ≡ true → length card ≡ s.lengths.card → (r : Room) → (r ≡ room_of s) × (r.low ≤ 65535) × (r.used ≤ 219043332045) → Roomy r s.taken (words card)
roomy s card rule size r e =
    let k = state-kept s rule in
    record {
      low = e.1;
      used = e.2;
      long = rw e.0 (card-words s card rule size);
      most = rw e.0 k.lengths.most_blocks;
      taken = rw e.0 k.taken;
    }

pub judge_removal-requires : goal.judge_removal-requires
judge_removal-requires c =
    let state : State = c.args.s in
    let card : List ℕ = c.args.card.now in
    let used : c.loop-i.b.used ≤ 128 = let g = c.loop-i.invariant.0 in rw (← g.buffer) (state-kept g.state g.reached.standing.rule).buffer.used in
    let p = c.requires in
    (roomy state card p.rule p.size c.room_of-room.result c.room_of-room.ensures, omega (arith, c.loop-i.invariant.0.flushes, c.requires.few), used, c.counts_of-c.ensures.1.few)

-- the counts read are the window's
-- what the removal is judged as
pub returns-in_err-judge_removal : goal.returns-in_err-judge_removal
returns-in_err-judge_removal c =
    let state : State = c.args.s in
    let card : List ℕ = c.args.card.now in
    let named : List ℕ = c.args.named.now in
    let counted : ℕ → List Posting = counts_at state card in
    let begins : Reached (store_of c.args.s c.args.card.now) c.args.named.now (counts_at c.args.s c.args.card.now) c.args.s c.args.card.now 0 =
    let wide : length c.args.s.buffer.postings ≡ 128 = search (unmapped, rules, c.well_formed.0.1.1.1.1.1.0.1.1) in
    let f : Fits w16 c.args.s.windows.last = search rules in
    reached-none c.args.s c.args.card.now c.args.named.now c.requires wide (λ i. omega (arith, c.shared_slice_known-1.given i)) (omega (arith, f.fits)) in
    let loaded : Loaded counted named c.loop-i.i c.if-place-eq0.slots = let i = c.loop-i.i in
    let h = standing-drop state card named counted begins.standing i in
    ⊎_elim
    (λ x. let n = x.portion-count in
    let e : i + n.result - i ≡ n.result = omega arith in
    let a = rw e at x.read_all.ensures in
    subst (λ (T : List ℕ). Loaded counted named i T) (sym x.slots-is)
    (loaded-read (words card) state counted named c.requires.once i x.if-place-eq0.true n.result n.ensures x.read_all.result _ c.loop-i.slots a
    (standing-fine state card (drop i named) counted h n.result x.read_all.result _ a) c.loop-i.invariant.1.long (λ k p q. refl)))
    (λ x. subst (λ (T : List ℕ). Loaded counted named i T) (sym x.slots-is) (c.loop-i.invariant.1.held x.if-place-eq0.false))
    c.if-place-eq0.branch-raw in
    let counts : counts_in c.counts_of-c.result ≡ counted (get_or named c.loop-i.i 0) = let i = c.loop-i.i in
    rw (width 65 (i % 16)) at c.counts_of-c.ensures.0 ∙ loaded.counts i (omega arith) c.loop-i-test.true refl in
    let judged : replied c.judge_removal.result ≡ answer_of (removal_after (room_of state) state.taken (words card) c.loop-i.v c.loop-i.b c.loop-i.flushed (get_or named c.loop-i.i 0) (counts_in c.counts_of-c.result)) =
    rw c.room_of-room.ensures.0 at c.judge_removal.ensures in
    let p = err_from_is_err_and c.from_residual.result c.from_residual.ensures.1 in
    rw (p.1, p.2) (going-refused state card named c.requires.once c.loop-i.i c.loop-i.flushed c.loop-i.v c.loop-i.b c.loop-i.invariant.0 c.loop-i-test.true _ (rw (← counts) (sym judged ∙ ap replied c.in_err-judge_removal.was)))

pub must_flush-flush-requires : goal.must_flush-flush-requires
must_flush-flush-requires c =
    let used : c.loop-i.b.used ≤ 128 = let g = c.loop-i.invariant.0 in rw (← g.buffer) (state-kept g.state g.reached.standing.rule).buffer.used in
    (used, c.counts_of-c.ensures.1.few)

-- a removal that is not refused goes on
pub take_back-b-requires : goal.take_back-b-requires
take_back-b-requires c =
    let state : State = c.args.s in
    let card : List ℕ = c.args.card.now in
    let named : List ℕ = c.args.named.now in
    let counted : ℕ → List Posting = counts_at state card in
    let begins : Reached (store_of c.args.s c.args.card.now) c.args.named.now (counts_at c.args.s c.args.card.now) c.args.s c.args.card.now 0 =
    let wide : length c.args.s.buffer.postings ≡ 128 = search (unmapped, rules, c.well_formed.0.1.1.1.1.1.0.1.1) in
    let f : Fits w16 c.args.s.windows.last = search rules in
    reached-none c.args.s c.args.card.now c.args.named.now c.requires wide (λ i. omega (arith, c.shared_slice_known-1.given i)) (omega (arith, f.fits)) in
    let loaded : Loaded counted named c.loop-i.i c.if-place-eq0.slots = let i = c.loop-i.i in
    let h = standing-drop state card named counted begins.standing i in
    ⊎_elim
    (λ x. let n = x.portion-count in
    let e : i + n.result - i ≡ n.result = omega arith in
    let a = rw e at x.read_all.ensures in
    subst (λ (T : List ℕ). Loaded counted named i T) (sym x.slots-is)
    (loaded-read (words card) state counted named c.requires.once i x.if-place-eq0.true n.result n.ensures x.read_all.result _ c.loop-i.slots a
    (standing-fine state card (drop i named) counted h n.result x.read_all.result _ a) c.loop-i.invariant.1.long (λ k p q. refl)))
    (λ x. subst (λ (T : List ℕ). Loaded counted named i T) (sym x.slots-is) (c.loop-i.invariant.1.held x.if-place-eq0.false))
    c.if-place-eq0.branch-raw in
    let counts : counts_in c.counts_of-c.result ≡ counted (get_or named c.loop-i.i 0) = let i = c.loop-i.i in
    rw (width 65 (i % 16)) at c.counts_of-c.ensures.0 ∙ loaded.counts i (omega arith) c.loop-i-test.true refl in
    let judged : replied c.judge_removal.result ≡ answer_of (removal_after (room_of state) state.taken (words card) c.loop-i.v c.loop-i.b c.loop-i.flushed (get_or named c.loop-i.i 0) (counts_in c.counts_of-c.result)) =
    rw c.room_of-room.ensures.0 at c.judge_removal.ensures in
    let onward : (flush : Bool) → flush ≡ ltb 128 (length (buffered c.loop-i.b) + length (counts_in c.counts_of-c.result)) → Onward state card named c.requires.once c.loop-i.i c.loop-i.flushed c.loop-i.v c.loop-i.b c.loop-i.invariant.0 c.loop-i-test.true flush c.counts_of-c.result =
    λ flush f. going_on state card named c.requires.once c.loop-i.i c.loop-i.flushed c.loop-i.v c.loop-i.b c.loop-i.invariant.0 c.loop-i-test.true c.counts_of-c.result c.counts_of-c.ensures.1 counts flush f
    (sym judged ∙ ap replied c.in_ok-judge_removal.was) in
    rw c.begun.ensures (onward _ c.must_flush-flush.ensures).takes

pub one_less-v-requires : goal.one_less-v-requires
one_less-v-requires c =
    let state : State = c.args.s in
    let card : List ℕ = c.args.card.now in
    let named : List ℕ = c.args.named.now in
    let counted : ℕ → List Posting = counts_at state card in
    let begins : Reached (store_of c.args.s c.args.card.now) c.args.named.now (counts_at c.args.s c.args.card.now) c.args.s c.args.card.now 0 =
    let wide : length c.args.s.buffer.postings ≡ 128 = search (unmapped, rules, c.well_formed.0.1.1.1.1.1.0.1.1) in
    let f : Fits w16 c.args.s.windows.last = search rules in
    reached-none c.args.s c.args.card.now c.args.named.now c.requires wide (λ i. omega (arith, c.shared_slice_known-1.given i)) (omega (arith, f.fits)) in
    let loaded : Loaded counted named c.loop-i.i c.if-place-eq0.slots = let i = c.loop-i.i in
    let h = standing-drop state card named counted begins.standing i in
    ⊎_elim
    (λ x. let n = x.portion-count in
    let e : i + n.result - i ≡ n.result = omega arith in
    let a = rw e at x.read_all.ensures in
    subst (λ (T : List ℕ). Loaded counted named i T) (sym x.slots-is)
    (loaded-read (words card) state counted named c.requires.once i x.if-place-eq0.true n.result n.ensures x.read_all.result _ c.loop-i.slots a
    (standing-fine state card (drop i named) counted h n.result x.read_all.result _ a) c.loop-i.invariant.1.long (λ k p q. refl)))
    (λ x. subst (λ (T : List ℕ). Loaded counted named i T) (sym x.slots-is) (c.loop-i.invariant.1.held x.if-place-eq0.false))
    c.if-place-eq0.branch-raw in
    let counts : counts_in c.counts_of-c.result ≡ counted (get_or named c.loop-i.i 0) = let i = c.loop-i.i in
    rw (width 65 (i % 16)) at c.counts_of-c.ensures.0 ∙ loaded.counts i (omega arith) c.loop-i-test.true refl in
    let judged : replied c.judge_removal.result ≡ answer_of (removal_after (room_of state) state.taken (words card) c.loop-i.v c.loop-i.b c.loop-i.flushed (get_or named c.loop-i.i 0) (counts_in c.counts_of-c.result)) =
    rw c.room_of-room.ensures.0 at c.judge_removal.ensures in
    let onward : (flush : Bool) → flush ≡ ltb 128 (length (buffered c.loop-i.b) + length (counts_in c.counts_of-c.result)) → Onward state card named c.requires.once c.loop-i.i c.loop-i.flushed c.loop-i.v c.loop-i.b c.loop-i.invariant.0 c.loop-i-test.true flush c.counts_of-c.result =
    λ flush f. going_on state card named c.requires.once c.loop-i.i c.loop-i.flushed c.loop-i.v c.loop-i.b c.loop-i.invariant.0 c.loop-i-test.true c.counts_of-c.result c.counts_of-c.ensures.1 counts flush f
    (sym judged ∙ ap replied c.in_ok-judge_removal.was) in
    (onward _ c.must_flush-flush.ensures).live

pub counted-flushed-requires : goal.counted-flushed-requires
counted-flushed-requires c =
    omega (arith, c.loop-i.invariant.0.flushes, c.requires.few)

pub loop-i-preserved : goal.loop-i-preserved
loop-i-preserved c =
    let state : State = c.args.s in
    let card : List ℕ = c.args.card.now in
    let named : List ℕ = c.args.named.now in
    let counted : ℕ → List Posting = counts_at state card in
    let begins : Reached (store_of c.args.s c.args.card.now) c.args.named.now (counts_at c.args.s c.args.card.now) c.args.s c.args.card.now 0 =
    let wide : length c.args.s.buffer.postings ≡ 128 = search (unmapped, rules, c.well_formed.0.1.1.1.1.1.0.1.1) in
    let f : Fits w16 c.args.s.windows.last = search rules in
    reached-none c.args.s c.args.card.now c.args.named.now c.requires wide (λ i. omega (arith, c.shared_slice_known-1.given i)) (omega (arith, f.fits)) in
    let loaded : Loaded counted named c.loop-i.i c.if-place-eq0.slots = let i = c.loop-i.i in
    let h = standing-drop state card named counted begins.standing i in
    ⊎_elim
    (λ x. let n = x.portion-count in
    let e : i + n.result - i ≡ n.result = omega arith in
    let a = rw e at x.read_all.ensures in
    subst (λ (T : List ℕ). Loaded counted named i T) (sym x.slots-is)
    (loaded-read (words card) state counted named c.requires.once i x.if-place-eq0.true n.result n.ensures x.read_all.result _ c.loop-i.slots a
    (standing-fine state card (drop i named) counted h n.result x.read_all.result _ a) c.loop-i.invariant.1.long (λ k p q. refl)))
    (λ x. subst (λ (T : List ℕ). Loaded counted named i T) (sym x.slots-is) (c.loop-i.invariant.1.held x.if-place-eq0.false))
    c.if-place-eq0.branch-raw in
    let counts : counts_in c.counts_of-c.result ≡ counted (get_or named c.loop-i.i 0) = let i = c.loop-i.i in
    rw (width 65 (i % 16)) at c.counts_of-c.ensures.0 ∙ loaded.counts i (omega arith) c.loop-i-test.true refl in
    let judged : replied c.judge_removal.result ≡ answer_of (removal_after (room_of state) state.taken (words card) c.loop-i.v c.loop-i.b c.loop-i.flushed (get_or named c.loop-i.i 0) (counts_in c.counts_of-c.result)) =
    rw c.room_of-room.ensures.0 at c.judge_removal.ensures in
    let onward : (flush : Bool) → flush ≡ ltb 128 (length (buffered c.loop-i.b) + length (counts_in c.counts_of-c.result)) → Onward state card named c.requires.once c.loop-i.i c.loop-i.flushed c.loop-i.v c.loop-i.b c.loop-i.invariant.0 c.loop-i-test.true flush c.counts_of-c.result =
    λ flush f. going_on state card named c.requires.once c.loop-i.i c.loop-i.flushed c.loop-i.v c.loop-i.b c.loop-i.invariant.0 c.loop-i-test.true c.counts_of-c.result c.counts_of-c.ensures.1 counts flush f
    (sym judged ∙ ap replied c.in_ok-judge_removal.was) in
    let o = onward _ c.must_flush-flush.ensures in
    (rw (c.counted-flushed.ensures, c.one_less-v.ensures, c.take_back-b.ensures, c.begun.ensures) o.next, holding-next _ _ _ _ loaded)

pub returns : goal.returns
returns c =
    let state : State = c.args.s in
    let card : List ℕ = c.args.card.now in
    let named : List ℕ = c.args.named.now in
    let counted : ℕ → List Posting = counts_at state card in
    let g = c.loop-i.invariant.0 in
    sym (ap answer_of (reached-end (store_of state card) named counted c.requires.once g.state g.after c.loop-i.i g.reached (search rules)))
