-- What a query of so many places promises, before any list is filled: its answer, and the hits beside it.
use Rattle.std.specs.Prelude.{Ok, Result}
use Rattle.answers.specs.declared.Refusal.{Refusal}
use Rattle.std.specs.Prelude.{not, List, [], ◌∷◌, ◌≡◌, ℕ, ◌≤◌, length, replicate}
use Rattle.lists.specs.Lists.{any, every}
use Rattle.words.specs.Words.{words}
use Rattle.postings.specs.declared.Stretch.{Stretch}
use Rattle.answers.specs.Answers.{Answer, done, number, hits, mean, forecast, refused, Outcome, leave, refuse_if, answer_of}
use Rattle.answers.specs.Order.{admit}
use Rattle.answers.specs.Numbers.{found_as}
use Rattle.answers.specs.declared.Found.{Found}
use Rattle.answers.specs.declared.Hit.{Hit}
use Rattle.state.specs.declared.State.{State}
use Rattle.state.specs.Probe.{Probe}
pub use Rattle.state.specs.Probe.{probe_of}
use Rattle.identifiers.specs.Names.{Name, bad_length}
use Rattle.partitions.specs.Formed.{identifier_formed}
use Rattle.sums.specs.Tally.{lists_ruled}
use Rattle.queries.specs.declared.Answered.{Answered}
use Rattle.ranking.specs.declared.Top.{Top}
use Rattle.queries.specs.Query.{taken_up, numbers, existing_in, hits_of, fill, query_of}
use Rattle.ranking.specs.Asked.{bad_query, bad_stretch}
use Rattle.ranking.specs.Top.{no_hit, top_of}

-- the hits of an answer, none where it has none
abbrev pub hits_in : Answer → List Hit
hits_in done = []
hits_in (number n) = []
hits_in (hits l n) = l
hits_in (mean q r f) = []
hits_in (forecast k b m h) = []
hits_in (refused n) = []

-- the answer to a query of a stretch with a list of k places
abbrev pub answered : Probe → Stretch → List Name → ℕ → Answer
answered p t ns k = answer_of (query_of p t ns (replicate k no_hit))

-- a stands for the answer x to a query with k places, and t holds its hits, as many as the answer says and zeros after them
pub record Finds (x : Answer) (k : ℕ) (a : Result Found Refusal) (t : Top) : Type 0 where
  pub answer : found_as a t.hits ≡ x
  pub kept : t ≡ top_of (hits_in x)
  pub used : (f : Found) → a ≡ Ok f → f.hits ≡ t.used
  pub fits : t.used ≤ k
  pub most : t.used ≤ 32

-- a query by value
abbrev pub AsksValue : (s : State) (card register : List ℕ) (stretch : Stretch) (ids : List Name) (places : ℕ) (r : Answered) → Type 0
AsksValue s card register stretch ids places r = Finds (answered (probe_of s card register) stretch ids places) places r.answer r.top

-- what follows refusals 1 and 2, and 3 for register, partitions and lists, where s is the state as the stretch has it read and n is N there
unfoldable pub rest_of : List ℕ → State → Stretch → ℕ → List ℕ → List Name → List Hit → Outcome (List Hit)
rest_of W s t n register ns places =
    admit (3 ∷ 4 ∷ 14 ∷ 17 ∷ [])
    (not (every (identifier_formed W s) (numbers register ns)) ∷ any bad_length ns ∷ bad_query (length places) ns ∷ bad_stretch t ∷ [])
    (leave (hits (hits_of W s t n (length places) (numbers register ns)) (taken_up W s (numbers register ns)))
    (fill (hits_of W s t n (length places) (numbers register ns)) places))

-- that part of a query by value
abbrev pub AsksRest : (s : State) (card register : List ℕ) (stretch : Stretch) (n : ℕ) (ids : List Name) (places : ℕ) (r : Answered) → Type 0
AsksRest s card register stretch n ids places r =
    Finds (answer_of (rest_of (words card) s stretch n register ids (replicate places no_hit))) places r.answer r.top

-- with all lists of the partitions judged first, and N counted
abbrev pub AsksRead : (s : State) (card register : List ℕ) (stretch : Stretch) (ids : List Name) (places : ℕ) (r : Answered) → Type 0
AsksRead s card register stretch ids places r =
    Finds (answer_of (refuse_if (not (lists_ruled (words card) s)) 3
    (rest_of (words card) s stretch (existing_in (words card) s stretch) register ids (replicate places no_hit)))) places r.answer r.top
