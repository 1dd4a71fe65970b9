-- `kway::leading::leader` meets its contract. The invariant: what is found is that of the heads before j.
use Rattle.lists.proofs.Prelude.{map}
use Rattle.kway.specs.Parts.{parts}
use Rattle.kway.proofs.Leads.{Found}
use Rattle.kway.proofs.leading.leader.Given as goal

abbrev pub invariant-loop-j : goal.invariant-loop-j
invariant-loop-j g l = let s = g.S.Source in Found (map (s.view l.source) (parts s.WIDTH l.j l.heads)) l.j l.top l.at l.others
