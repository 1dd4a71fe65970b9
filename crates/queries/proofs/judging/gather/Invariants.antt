-- `queries::judging::gather` meets its contract. The invariant: the first identifiers are gathered, and the rest decide.
use Rattle.lists.proofs.Prelude.{◌≡◌, map, length}
use Rattle.words.specs.Words.{words}
use Rattle.identifiers.specs.Register.{names}
use Rattle.queries.proofs.Gathering.{Gathering}
use Rattle.queries.proofs.judging.gather.Given as goal

abbrev pub invariant-loop-id : goal.invariant-loop-id
invariant-loop-id l = record {
  heads : length l.heads ≡ length l.initial.heads;
  spare : length l.spare ≡ length l.initial.spare;
  gathered : Gathering (words l.card) l.run l.s l.t l.live (names l.register) (map (λ x. x.now) l.ids) l.id-index l.known l.heads;
}
