-- `queries::gathered` meets its contract: there is room for the heads of 52 lists.
use Rattle.lists.proofs.Prelude.{◌≡◌, sym, ℕ, ◌+◌, ◌*◌, ◌≤◌, arith, length, replicate, take, length-take-le}
use Rattle.state.proofs.Kept.{state-kept}
use Rattle.queries.proofs.gathered.Goals as goal

-- what is lent of the room
lent : (n : ℕ) → n ≤ 51 → length {A = ℕ} (take (4 * n + 4) (replicate 208 0)) ≡ 4 * n + 4
lent n h = length-take-le (4 * n + 4) (replicate 208 0) (omega arith)

pub slice_bounds-spare-end : goal.slice_bounds-spare-end
slice_bounds-spare-end c = omega (arith, (state-kept c.args.s c.requires.0.rule).partitions.used)

pub slice_bounds-gather-end : goal.slice_bounds-gather-end
slice_bounds-gather-end c = sym (lent c.args.s.partitions.used (state-kept c.args.s c.requires.0.rule).partitions.used)

pub gather-requires : goal.gather-requires
gather-requires c = (c.requires.0, rw (lent c.args.s.partitions.used (state-kept c.args.s c.requires.0.rule).partitions.used) c.requires.1)
