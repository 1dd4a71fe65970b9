-- Refused means unchanged, for the query: the lent list is as it was.
use mathlib.Core.List.{List}
use Rattle.postings.specs.declared.Stretch.{Stretch}
use Rattle.answers.specs.declared.Hit.{Hit}
use Rattle.answers.specs.Unchanged.{Unchanged}
use Rattle.answers.proofs.Kept.{unchanged-if, unchanged-hits}
use Rattle.state.specs.Probe.{Probe}
use Rattle.identifiers.specs.Names.{Name}
use Rattle.queries.specs.Query.{querying, query_of}

pub query-unchanged : (p : Probe) (t : Stretch) (ns : List Name) (places : List Hit) → Unchanged places (query_of p t ns places)
unfolding query_of querying
query-unchanged p t ns places =
    unchanged-if _ 1 _ (unchanged-if _ 2 _ (unchanged-if _ 3 _ (unchanged-if _ 4 _ (unchanged-if _ 14 _ (unchanged-if _ 17 _ (unchanged-hits _ _ _))))))
