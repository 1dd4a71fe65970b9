use mir.Facts.{to_z-of_z}
use mir.Syntax.{w32}
use mir.Val.{SFits}
use Rattle.lists.proofs.Prelude.{true, not, ◌||◌, ◌≡◌, refl, sym, ap, ap₂, subst, ◌∙◌, suc, ◌<◌, ◌-◌, arith, rules, leb-true, not-true, not-false, by-test, or-none}
use Rattle.std.specs.Prelude.{None}
use Rattle.keyed.specs.Keys.{topmost_from, head_vals, heads_fine}
use Rattle.words.specs.Words.{words}
use Rattle.words.proofs.Views.{words-below}
use Rattle.postings.specs.declared.Posting.{Posting}
use Rattle.partitions.specs.Formed.{in_range}
use Rattle.scans.specs.Keys.{posting_of, key_id}
use Rattle.scans.specs.Heads.{views}
use Rattle.inputs.specs.Judging.{Tally, tally_of, resumed}
use Rattle.inputs.proofs.Resuming.{ended, too-high, malformed, out_of_range, went_on}
use Rattle.inputs.proofs.Room.{Room, room-none, room_small, room-here, room-more, window-top}
use Rattle.inputs.proofs.walk.Goals as goal

pub loop-top-init : goal.loop-top-init
loop-top-init c = rw c.requires.1 (record { ready = c.requires.0; room = room-none; told = refl })

pub returns-then-bound-top : goal.returns-then-bound-top
returns-then-bound-top c =
    let v = c.loop-top.invariant in
    let e = v.told ∙ too-high c.loop-top.bound (views (words c.args.card.now) c.args.n c.loop-top.heads) (record { totals = c.loop-top.t; counts = c.loop-top.counts }) (rw v.ready.top at c.if-bound-top.true) in
    rw e (refl, tt)

pub take-k-requires : goal.take-k-requires
take-k-requires c =
    let r = c.loop-top.invariant.ready in
    (r.fits, omega (arith, r.few), omega arith, r.kept)

pub returns-then-k-in_range : goal.returns-then-k-in_range
returns-then-k-in_range c =
    let v = c.loop-top.invariant in
    let k = c.loop-top.top - 1 in
    let ls = views (words c.args.card.now) c.args.n c.loop-top.heads in
    let was : Tally = record { totals = c.loop-top.t; counts = c.loop-top.counts } in
    let top : topmost_from 0 ls ≡ suc k = sym v.ready.top ∙ omega arith in
    let d = c.take-k in
    let f : SFits w32 d.result.sum = search rules in
    let range : c.in_range.result ≡ in_range (head_vals k ls) = c.in_range.ensures ∙ rw (to_z-of_z f) (ap in_range d.ensures.taken.0) in
    let bad : (not (heads_fine k ls) || not (in_range (head_vals k ls))) ≡ true = rw (d.ensures.taken.1, range) at c.if-k-in_range.true in
    let e : resumed c.loop-top.bound ls was ≡ None =
    by-test (heads_fine k ls) (λ y. out_of_range c.loop-top.bound ls was k top (omega arith) (not-true _ (rw y at bad))) (λ n. malformed c.loop-top.bound ls was k top (omega arith) n) in
    rw (v.told ∙ e) (refl, tt)

pub pair_of-requires : goal.pair_of-requires
pair_of-requires c =
    let d = c.take-k in
    let f : SFits w32 d.result.sum = search rules in
    let e : in_range d.result.sum ≡ true = rw (to_z-of_z f) at (sym c.in_range.ensures) ∙ not-false _ (or-none _ _ c.if-k-in_range.false).1 in
    (omega (arith, c.loop-top.invariant.room.pairs), rw (to_z-of_z f) (leb-true _ 32767 e))

pub tally-t-requires : goal.tally-t-requires
tally-t-requires c =
    let W = words c.args.card.now in
    let small = words-below c.args.card.now (λ k. omega (arith, c.type_inv.card k)) in
    let v = c.loop-top.invariant in
    let k = c.loop-top.top - 1 in
    let ls = views W c.args.n c.loop-top.heads in
    let top : topmost_from 0 ls ≡ suc k = sym v.ready.top ∙ omega arith in
    let d = c.take-k in
    let fine : heads_fine k ls ≡ true = sym d.ensures.taken.1 ∙ not-false _ (or-none _ _ c.if-k-in_range.false).0 in
    let window = window-top W small c.args.n c.loop-top.heads v.ready.kept k top fine in
    let i : c.pair_of.result.id ≡ key_id k = ap (λ (p : Posting). p.id) c.pair_of.ensures in
    let low : k < c.loop-top.bound = omega arith in
    (room_small c.loop-top.t c.loop-top.counts c.loop-top.bound v.room, omega (arith, i, v.room.long), rw i (room-here c.loop-top.t c.loop-top.counts c.loop-top.bound k d.result.sum v.room low window))

pub loop-top-smaller : goal.loop-top-smaller
loop-top-smaller c = omega arith

pub loop-top-preserved : goal.loop-top-preserved
loop-top-preserved c =
    let W = words c.args.card.now in
    let small = words-below c.args.card.now (λ k. omega (arith, c.type_inv.card k)) in
    let v = c.loop-top.invariant in
    let n = c.args.n in
    let k = c.loop-top.top - 1 in
    let ls = views W n c.loop-top.heads in
    let top : topmost_from 0 ls ≡ suc k = sym v.ready.top ∙ omega arith in
    let low : k < c.loop-top.bound = omega arith in
    let d = c.take-k in
    let H = d.new.heads in
    let f : SFits w32 d.result.sum = search rules in
    let fine : heads_fine k ls ≡ true = sym d.ensures.taken.1 ∙ not-false _ (or-none _ _ c.if-k-in_range.false).0 in
    let e : in_range (head_vals k ls) ≡ true = ap in_range (sym d.ensures.taken.0) ∙ rw (to_z-of_z f) at (sym c.in_range.ensures) ∙ not-false _ (or-none _ _ c.if-k-in_range.false).1 in
    let window = window-top W small n c.loop-top.heads v.ready.kept k top fine in
    let was : Tally = record { totals = c.loop-top.t; counts = c.loop-top.counts } in
    let first = posting_of (record { key = k; sum = head_vals k ls }) in
    let p : c.pair_of.result ≡ first = c.pair_of.ensures ∙ rw (to_z-of_z f, d.ensures.taken.0) in
    let u = c.tally-t in
    let now : tally_of was first ≡ record { totals = u.result; counts = u.new.counts } = ap (tally_of was) (sym p) ∙ sym (ap₂ (λ x y. record { totals = x; counts = y }) u.ensures.0 u.ensures.1) in
    record {
      ready = record { few = v.ready.few; fits = omega (arith, d.ensures.heads.0, v.ready.fits); kept = d.ensures.heads.1; top = d.ensures.taken.2 };
      room = subst (λ (x : Tally). Room x.totals x.counts k) now (room-more c.loop-top.t c.loop-top.counts c.loop-top.bound k (head_vals k ls) v.room low window);
      told = v.told ∙ went_on c.loop-top.bound ls was k top low fine e ∙ ap₂ (resumed k) (sym d.ensures.heads.2) now;
    }

pub returns : goal.returns
returns c =
    let v = c.loop-top.invariant in
    let e = v.told ∙ ended c.loop-top.bound (views (words c.args.card.now) c.args.n c.loop-top.heads) (record { totals = c.loop-top.t; counts = c.loop-top.counts }) (sym v.ready.top ∙ omega arith) in
    (rw e (refl, refl), room_small c.loop-top.t c.loop-top.counts c.loop-top.bound v.room)
