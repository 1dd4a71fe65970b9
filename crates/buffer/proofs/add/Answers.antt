use Rattle.lists.proofs.Prelude.{◌≡◌, sym, ap, ◌∙◌, arith, rules, ◌+ℤ◌}
use mir.Syntax.{w16}
use mir.Val.{SFits}
use mir.Facts.{to_z-of_z}
use Rattle.postings.specs.Sums.{sum}
use Rattle.state.specs.Views.{buffered, buffer_of, no_posting}
use Rattle.buffer.specs.Places.{posting_at}
use Rattle.buffer.proofs.Canonical.{canonical-used}
use Rattle.buffer.proofs.Ranks.{place-pair, place_at, place-before}
use Rattle.buffer.proofs.Puts.{sum-there, added_new, added-there}
use Rattle.buffer.proofs.add.Goals as goal

pub shift_count-requires : goal.shift_count-requires
shift_count-requires c =
    let b = c.args.b in
    let p = c.args.p in
    let l = buffered b in
    let k = c.in-Ok.k in
    let o = c.requires.0.in_order in
    let t = place_at p l o k no_posting (sym (c.find_pair.ensures ∙ place-pair p l) ∙ c.in-Ok.is) in
    let u = canonical-used b c.requires.0 in
    let f : SFits w16 p.count = search rules in
    let e : p.count +ℤ (posting_at k l).count ≡ p.count +ℤ sum l p.id p.window = rw (t.0, sum-there p l o t.3) in
    (c.requires.0, omega (arith, t.1), rw (to_z-of_z f, e) c.requires.1.within)

pub insert-requires : goal.insert-requires
insert-requires c =
    let b = c.args.b in
    let p = c.args.p in
    let l = buffered b in
    let k = c.in-Err.k in
    let t = place-before p l c.requires.0.in_order k (sym (c.find_pair.ensures ∙ place-pair p l) ∙ c.in-Err.is) in
    let u = canonical-used b c.requires.0 in
    (c.requires.0, c.requires.1.room t.2, omega (arith, t.1))

pub returns-in-Ok : goal.returns-in-Ok
returns-in-Ok c =
    let b = c.args.b in
    let p = c.args.p in
    let l = buffered b in
    let k = c.in-Ok.k in
    let o = c.requires.0.in_order in
    let t = place_at p l o k no_posting (sym (c.find_pair.ensures ∙ place-pair p l) ∙ c.in-Ok.is) in
    let f : SFits w16 p.count = search rules in
    c.shift_count.ensures ∙ rw (to_z-of_z f, t.0) (ap buffer_of (sym (added-there p l o c.requires.1.counted t.3)))

pub returns-in-Err : goal.returns-in-Err
returns-in-Err c =
    let b = c.args.b in
    let p = c.args.p in
    let l = buffered b in
    let k = c.in-Err.k in
    let o = c.requires.0.in_order in
    let t = place-before p l o k (sym (c.find_pair.ensures ∙ place-pair p l) ∙ c.in-Err.is) in
    c.insert.ensures ∙ rw t.0 (ap buffer_of (sym (added_new p l o c.requires.1.counted c.requires.1.amount t.2)))
