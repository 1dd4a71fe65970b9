-- What a mean comes to, test by test.
use Rattle.lists.proofs.Prelude.{Bool, true, false, ◌&&◌, and-true, not, List, [], ◌∷◌, ◌≡◌, refl, ◌∙◌, ℕ, ◌<◌, ◌≤◌, arith, eqb, length, lt-ltb, le-ltb, every}
use Rattle.words.specs.Words.{words}
use Rattle.postings.specs.Sums as S
use Rattle.postings.specs.Sums.{amount}
use Rattle.answers.specs.Answers.{Outcome, refuse, leave, refuse_if}
use Rattle.answers.specs.Numbers.{refusal_number}
use Rattle.answers.specs.declared.Refusal.{Refusal}
use Rattle.state.specs.declared.State.{State}
use Rattle.state.specs.Views.{blocks, finished}
use Rattle.state.specs.Rules.{state_rule}
use Rattle.state.specs.Probe.{Probe}
use Rattle.state.specs.Shown.{shown_in}
use Rattle.identifiers.specs.Names.{Name, bad_length, number_of, numbers_of}
use Rattle.identifiers.specs.Register.{names, register_rule}
use Rattle.partitions.specs.Reading.{stored}
use Rattle.partitions.specs.Formed.{partitions_formed, identifier_formed}
use Rattle.stretches.specs.Reached.{read_by, whole}
use Rattle.sums.specs.Tally.{lists_ruled}
use Rattle.admission.specs.Admission.{first_of, same_lengths, probe_tests}
use Rattle.admission.proofs.Laws.{refused-apart, barred}
use Rattle.ranking.specs.Hits.{frequency}
use Rattle.queries.specs.Query.{count_in, numbers, query_formed}
use Rattle.averages.specs.Average.{total, averaged, averaging}
use Rattle.means.specs.Mean.{frequency_in, total_in, meaning, mean_of, rest_of}

-- ---- F and the sum of one identifier, and of none

module _ (W : List ℕ) (s : State) (i : ℕ) where
  frequency-one : frequency_in W s (i ∷ []) ≡ S.frequency (shown_in whole s.windows) (stored W s) i
  unfolding frequency_in frequency S.frequency count_in
  frequency-one = omega arith

  total-one : total_in W s (i ∷ []) ≡ amount (shown_in whole s.windows) (stored W s) i
  unfolding total_in total amount count_in
  total-one = omega arith

module _ (ms : List Name) (n : Name) where
  number-known : number_of ms n < length ms → numbers_of ms (n ∷ []) ≡ number_of ms n ∷ []
  unfolding numbers_of
  number-known h = rw (lt-ltb (number_of ms n) (length ms) h)

  number-unknown : length ms ≤ number_of ms n → numbers_of ms (n ∷ []) ≡ []
  unfolding numbers_of
  number-unknown h = rw (le-ltb (number_of ms n) (length ms) h)

-- ---- the refusals in order

-- a test that does not hold
unrefused : (k : ℕ) (o : Outcome (Unit {0})) → refuse_if false k o ≡ o
unfolding refuse_if
unrefused k o = refl

module _ (p : Probe) (n : Name) where
  abbrev is : List ℕ
  is = numbers p.register (n ∷ [])

  -- the state as it is read
  abbrev read : State
  read = read_by whole p.state

  -- F and the sum
  abbrev f : ℕ
  f = frequency_in (words p.card) read is

  abbrev t : ℕ
  t = total_in (words p.card) read is

  -- what refusal 3 asks beyond the register's rule
  abbrev rest : Bool
  rest =
      partitions_formed (words p.card) (blocks p.state) (finished p.state.partitions)
      && (lists_ruled (words p.card) read && every (identifier_formed (words p.card) read) is)

  -- refused by what is judged first
  pub mean-barred : (why : Refusal) → refusal_number why ≡ first_of (1 ∷ 2 ∷ 3 ∷ []) (probe_tests (state_rule p.state) p.state.lengths p.card p.register)
      → mean_of p n ≡ refuse (refusal_number why)
  unfolding mean_of meaning query_formed
  mean-barred why e =
      rw (refused-apart (register_rule p.register) rest)
      (barred (3 ∷ 4 ∷ 15 ∷ []) (not rest ∷ bad_length n ∷ eqb f 0 ∷ []) (leave (averaged f t) tt) (1 ∷ 2 ∷ 3 ∷ [])
      (probe_tests (state_rule p.state) p.state.lengths p.card p.register) why e)

  module _ (a : state_rule p.state ≡ true) (b : same_lengths p.state.lengths p.card p.register ≡ true) (c : register_rule p.register ≡ true) where
    -- 3 for the finished partitions
    pub mean-partitions : partitions_formed (words p.card) (blocks p.state) (finished p.state.partitions) ≡ false → mean_of p n ≡ refuse 3
    unfolding mean_of meaning query_formed refuse_if
    mean-partitions d = rw (a, b, c, d)

    -- past them the rest decides
    pub mean-rest : partitions_formed (words p.card) (blocks p.state) (finished p.state.partitions) ≡ true → mean_of p n ≡ rest_of (words p.card) read p.register n
    unfolding mean_of meaning query_formed rest_of
    mean-rest d = rw (a, b, c, d) (unrefused 1 _ ∙ unrefused 2 _ ∙ refused-apart (lists_ruled (words p.card) read) (every (identifier_formed (words p.card) read) is) 3 _)

-- ---- the rest, where s is the state as it is read

module _ (W : List ℕ) (s : State) (register : List ℕ) (n : Name) where
  -- 3 for a list
  pub rest-lists : lists_ruled W s ≡ false → rest_of W s register n ≡ refuse 3
  unfolding rest_of refuse_if
  rest-lists d = rw d

  module _ (d : lists_ruled W s ≡ true) where
    -- of an identifier that the register has not
    pub rest-unknown : length (names register) ≤ number_of (names register) n → rest_of W s register n ≡ averaging n 0 0
    unfolding rest_of averaging refuse_if frequency_in total_in
    rest-unknown h = rw (d, number-unknown (names register) n h)

    -- and of one that it has
    pub rest-known : (i : ℕ) → i ≡ number_of (names register) n → i < length (names register)
        → rest_of W s register n ≡ refuse_if (not (identifier_formed W s i)) 3 (averaging n (S.frequency (shown_in whole s.windows) (stored W s) i) (amount (shown_in whole s.windows) (stored W s) i))
    unfolding rest_of averaging refuse_if
    rest-known i e h =
        rw (d, number-known (names register) n (omega arith), ← e, and-true (identifier_formed W s i), frequency-one W s i, total-one W s i)
