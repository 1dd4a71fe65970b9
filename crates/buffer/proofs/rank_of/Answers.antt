use Rattle.lists.proofs.Prelude.{◌∙◌, rules, ap}
use Rattle.std.proofs.lemmas.List.Sorted.{IsPartitionPoint-from_clause}
use Rattle.postings.specs.Order.{precedes}
use Rattle.buffer.specs.Places.{pair, places_before}
use Rattle.buffer.proofs.Ranks.{rank-parted, rank-point}
use Rattle.buffer.proofs.rank_of.Goals as goal

pub returns : goal.returns
returns c =
    let p = pair c.args.id c.args.window in
    let o = c.requires.in_order in
    let l = c.buffered.result.now in
    let e = c.buffered.ensures in
    let point = IsPartitionPoint-from_clause (λ q. precedes q p) l c.partition_point.result c.partition_point.ensures.partitioned (rank-parted p l (rw e o)) (λ a r q k. search rules) in
    rank-point p l c.partition_point.result (rw e o) c.partition_point.ensures.bound point ∙ ap (places_before p) e
