-- The mean count of an identifier: what it answers, for every input. It reads what a query of that identifier over all windows reads, and changes nothing.
use Rattle.std.specs.Prelude.{Result}
use Rattle.answers.specs.declared.Refusal.{Refusal}
use Rattle.answers.specs.declared.Mean.{Mean}
use Rattle.std.specs.Prelude.{◌&&◌, not, List, [], ◌∷◌, ◌≡◌, ℕ, eqb}
use Rattle.lists.specs.Lists.{every, total_by}
use Rattle.words.specs.Words.{words}
use Rattle.answers.specs.Answers.{Outcome, leave, answer_of}
use Rattle.answers.specs.Numbers.{averaged_as}
use Rattle.answers.specs.Order as order
use Rattle.answers.specs.Order.{admit}
use Rattle.state.specs.declared.State.{State}
use Rattle.state.specs.Rules.{state_rule}
use Rattle.state.specs.Probe.{Probe, probe_of, has_length}
use Rattle.state.specs.Shown.{shown_in}
use Rattle.identifiers.specs.Names.{Name, bad_length}
use Rattle.stretches.specs.Reached.{read_by, whole}
use Rattle.partitions.specs.Formed.{identifier_formed}
use Rattle.sums.specs.Tally.{lists_ruled}
use Rattle.ranking.specs.Hits.{frequency}
use Rattle.queries.specs.Query.{count_in, numbers, query_formed}
use Rattle.averages.specs.Average.{total, averaged}

-- F of these identifiers together, of one that the register has, or of none, where s is the state as it is read
unfoldable pub frequency_in : List ℕ → State → List ℕ → ℕ
frequency_in W s is = total_by (frequency (count_in W s) (shown_in whole s.windows)) is

-- and the sum of their counts, in the windows that show
unfoldable pub total_in : List ℕ → State → List ℕ → ℕ
total_in W s is = total_by (total (count_in W s) (shown_in whole s.windows)) is

-- the refusals in order, and the answer where this is F and this the sum
unfoldable pub meaning : Probe → Name → ℕ → ℕ → Outcome (Unit {0})
meaning p n f t =
    admit order.mean
    (not (state_rule p.state)
    ∷ not (has_length p.card p.state.lengths.card && has_length p.register p.state.lengths.register)
    ∷ not (query_formed (words p.card) p.state whole p.register (numbers p.register (n ∷ [])))
    ∷ bad_length n
    ∷ eqb f 0
    ∷ [])
    (leave (averaged f t) tt)

-- the mean count of an identifier on a probe
unfoldable pub mean_of : Probe → Name → Outcome (Unit {0})
mean_of p n =
    meaning p n (frequency_in (words p.card) (read_by whole p.state) (numbers p.register (n ∷ [])))
    (total_in (words p.card) (read_by whole p.state) (numbers p.register (n ∷ [])))

-- the promise of a mean: nothing is lent to be written
abbrev pub Averages : (s : State) (card register : List ℕ) (id : Name) (r : Result Mean Refusal) → Type 0
Averages s card register id r = averaged_as r ≡ answer_of (mean_of (probe_of s card register) id)

-- what follows refusals 1 and 2, and 3 for register and partitions, where s is the state as it is read
unfoldable pub rest_of : List ℕ → State → List ℕ → Name → Outcome (Unit {0})
rest_of W s register n =
    admit (3 ∷ 3 ∷ 4 ∷ 15 ∷ [])
    (not (lists_ruled W s)
    ∷ not (every (identifier_formed W s) (numbers register (n ∷ [])))
    ∷ bad_length n
    ∷ eqb (frequency_in W s (numbers register (n ∷ []))) 0
    ∷ [])
    (leave (averaged (frequency_in W s (numbers register (n ∷ []))) (total_in W s (numbers register (n ∷ [])))) tt)

-- that part of a mean
abbrev pub AveragesRead : (s : State) (card register : List ℕ) (id : Name) (r : Result Mean Refusal) → Type 0
AveragesRead s card register id r = averaged_as r ≡ answer_of (rest_of (words card) s register id)
