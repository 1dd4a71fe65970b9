-- What a query is lent beside state and buffers: a list for its hits.
use Rattle.std.specs.Prelude.{Result, Ok, Err}
use Rattle.answers.specs.declared.Refusal.{Refusal}
use Rattle.std.specs.Prelude.{List, ℕ, ◌≤◌, length}
use Rattle.postings.specs.declared.Stretch.{Stretch}
use Rattle.answers.specs.Numbers.{found_as}
use Rattle.answers.specs.declared.Found.{Found}
use Rattle.answers.specs.declared.Hit.{Hit}
use Rattle.state.specs.declared.State.{State}
use Rattle.identifiers.specs.Names.{Name}
use Rattle.windows.specs.Promises.{Gives, probe_of}
use Rattle.queries.specs.Query.{query_of}

-- how many hits an answer says
abbrev pub hit_count : Result Found Refusal → ℕ
hit_count (Ok f) = f.hits
hit_count (Err why) = 0

-- a query that is lent a list for its hits
abbrev pub Asks : (s : State) (card register : List ℕ) (stretch : Stretch) (ids : List Name) (hits : List Hit) (r : Result Found Refusal) (hits' : List Hit) → Type 0
Asks s card register stretch ids hits r hits' = Gives hits (query_of (probe_of s card register) stretch ids hits) (found_as r hits') hits' × (hit_count r ≤ length hits')
