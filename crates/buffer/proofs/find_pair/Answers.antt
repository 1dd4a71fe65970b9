use Rattle.lists.proofs.Prelude.{sym, ◌∙◌, arith, get_or-take}
use Rattle.state.specs.Views.{buffered, no_posting}
use Rattle.buffer.specs.Places.{pair}
use Rattle.buffer.proofs.Canonical.{canonical-used}
use Rattle.buffer.proofs.Ranks.{rank-le, found_at, found_before}
use Rattle.buffer.proofs.find_pair.Goals as goal

pub returns-then-k-b : goal.returns-then-k-b
returns-then-k-b c =
    let u = canonical-used c.args.b c.requires in
    found_before (pair c.args.id c.args.window) (buffered c.args.b) c.requires.in_order c.rank_of-k.result no_posting c.rank_of-k.ensures (λ h. absurd (omega arith))

pub offset_bounds-b-k : goal.offset_bounds-b-k
offset_bounds-b-k c =
    let u = canonical-used c.args.b c.requires in
    omega (arith, rank-le (pair c.args.id c.args.window) (buffered c.args.b), c.rank_of-k.ensures, c.requires.short)

pub bounds-b-k : goal.bounds-b-k
bounds-b-k c =
    let u = canonical-used c.args.b c.requires in
    omega (arith, rank-le (pair c.args.id c.args.window) (buffered c.args.b), c.rank_of-k.ensures, c.requires.short)

pub returns-then-is_pair : goal.returns-then-is_pair
returns-then-is_pair c =
    let b = c.args.b in
    let u = canonical-used b c.requires in
    let h = rank-le (pair c.args.id c.args.window) (buffered b) in
    found_at (pair c.args.id c.args.window) (buffered b) c.requires.in_order c.rank_of-k.result no_posting c.rank_of-k.ensures (omega (arith, c.rank_of-k.ensures))
    (rw (get_or-take b.used b.postings c.rank_of-k.result no_posting (omega (arith, c.rank_of-k.ensures))) (sym c.is_pair.ensures ∙ c.if-is_pair.true))

pub returns-else-is_pair : goal.returns-else-is_pair
returns-else-is_pair c =
    let b = c.args.b in
    let u = canonical-used b c.requires in
    found_before (pair c.args.id c.args.window) (buffered b) c.requires.in_order c.rank_of-k.result no_posting c.rank_of-k.ensures
    (λ h. rw (get_or-take b.used b.postings c.rank_of-k.result no_posting (omega arith)) (sym c.is_pair.ensures ∙ c.if-is_pair.false))
