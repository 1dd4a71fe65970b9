-- The query: what it answers and leaves, for every input.
use Rattle.std.specs.Prelude.{Bool, ◌&&◌, not, List, [], ◌∷◌, ◌++◌, ℕ, length, drop}
use Rattle.lists.specs.Lists.{keep, any, every, elem}
use Rattle.words.specs.Words.{words}
use Rattle.postings.specs.declared.Stretch.{Stretch}
use Rattle.postings.specs.Sums.{sum, above}
use Rattle.answers.specs.Answers.{Outcome, leave, hits}
use Rattle.answers.specs.Order as order
use Rattle.answers.specs.Order.{admit}
use Rattle.answers.specs.declared.Hit.{Hit}
use Rattle.state.specs.declared.State.{State}
use Rattle.state.specs.Views.{blocks, finished}
use Rattle.state.specs.Rules.{state_rule}
use Rattle.state.specs.Probe.{Probe, has_length}
use Rattle.state.specs.Shown.{shown_in}
use Rattle.identifiers.specs.Names.{Name, bad_length, numbers_of}
use Rattle.identifiers.specs.Register.{names, register_rule}
use Rattle.partitions.specs.Reading.{stored}
use Rattle.partitions.specs.Formed.{partitions_formed, identifier_formed}
use Rattle.ranking.specs.Hits.{ranked}
use Rattle.ranking.specs.Asked.{bad_query, bad_stretch}
use Rattle.stretches.specs.Reached.{read_by}
use Rattle.sums.specs.Tally.{lists_ruled}
use Rattle.census.specs.Existing.{existing}

-- the count of a pair: the sum of what is stored, and nothing where that is not above 0
unfoldable pub count_in : List ℕ → State → ℕ → ℕ → ℕ
count_in W s i w = above (sum (stored W s) i w)

-- how many postings are stored under these identifiers, in finished partitions and buffer
unfoldable pub taken_up : List ℕ → State → List ℕ → ℕ
taken_up W s is = length (keep (λ p. elem p.id is) (stored W s))

-- the numbers of the query's identifiers that the register has
abbrev pub numbers : List ℕ → List Name → List ℕ
numbers register ns = numbers_of (names register) ns

-- refusal 3: the register, all finished partitions, all lists of those that the stretch has read, and what is read of each identifier
unfoldable pub query_formed : List ℕ → State → Stretch → List ℕ → List ℕ → Bool
query_formed W s t register is =
    register_rule register
    && (partitions_formed W (blocks s) (finished s.partitions)
    && (lists_ruled W (read_by t s) && every (identifier_formed W (read_by t s)) is))

-- N in a stretch, where s is the state as it is read: how many of its windows that show live in what is stored
unfoldable pub existing_in : List ℕ → State → Stretch → ℕ
existing_in W s t = existing (stored W s) (shown_in t s.windows)

-- the hits of a query with k places, for the numbers of its identifiers, where s is the state as it is read and n is N: N, F and matching windows are of those
-- of the stretch that show
unfoldable pub hits_of : List ℕ → State → Stretch → ℕ → ℕ → List ℕ → List Hit
hits_of W s t n k is = ranked n (count_in W s) (shown_in t s.windows) k is

-- the lent list with the hits in its first places, and the places beyond the last of them as they were
abbrev pub fill : List Hit → List Hit → List Hit
fill found places = found ++ drop (length found) places

-- the answer, and the lent list as it is left, where these are the hits
unfoldable pub querying : Probe → Stretch → List Name → List Hit → List Hit → Outcome (List Hit)
querying p t ns places found =
    admit order.query
    (not (state_rule p.state)
    ∷ not (has_length p.card p.state.lengths.card && has_length p.register p.state.lengths.register)
    ∷ not (query_formed (words p.card) p.state t p.register (numbers p.register ns))
    ∷ any bad_length ns
    ∷ bad_query (length places) ns
    ∷ bad_stretch t
    ∷ [])
    (leave (hits found (taken_up (words p.card) (read_by t p.state) (numbers p.register ns))) (fill found places))

-- N in the stretch, on a probe
abbrev pub existing_on : Probe → Stretch → ℕ
existing_on p t = existing_in (words p.card) (read_by t p.state) t

unfoldable pub query_of : Probe → Stretch → List Name → List Hit → Outcome (List Hit)
query_of p t ns places =
    querying p t ns places (hits_of (words p.card) (read_by t p.state) t (existing_on p t) (length places) (numbers p.register ns))
