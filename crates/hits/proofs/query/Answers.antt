-- What the search finds for as many places as the list has, and the list filled with it, are what the query gives.
use Rattle.std.proofs.Common.{map, ◌≤◌, length, arith}
use Rattle.windows.specs.Promises.{probe_of}
use Rattle.hits.specs.Lent.{hit_count}
use Rattle.hits.proofs.Filling.{found-given, found-counted}
use Rattle.hits.proofs.query.Goals as goal

pub returns : goal.returns
returns c =
    let s = c.args in
    let found = c.search-m in
    let counted : hit_count found.result.answer ≤ length s.hits.now = found-counted _ _ _ _ found.ensures in
    (found-given (probe_of s.s s.card.now s.register.now) s.t (map (λ x. x.now) s.ids.now) s.hits.now _ _ c.fill_by.new.hits found.ensures c.fill_by.ensures, omega arith)
