-- What is gathered of a query's identifiers before anything is answered.
use Rattle.std.specs.Prelude.{Option, MatchOption, true, false, List, [], ◌∷◌, ◌++◌, ◌≡◌, ℕ, ◌+◌, ◌*◌, ◌≤◌, length, take}
use Rattle.lists.specs.Lists.{every, total_by}
use Rattle.lists.specs.All.{AllOf}
use Rattle.words.specs.Words.{words}
use Rattle.postings.specs.declared.Stretch.{Stretch}
use Rattle.postings.specs.Sums.{under}
use Rattle.state.specs.declared.State.{State}
use Rattle.state.specs.Views.{blocks, finished}
use Rattle.state.specs.Rules.{state_rule}
use Rattle.identifiers.specs.Register.{register_rule}
use Rattle.partitions.specs.Reading.{stored}
use Rattle.partitions.specs.Formed.{partitions_formed, identifier_formed}
use Rattle.kway.specs.Parts.{parts}
use Rattle.terms.specs.Opening.{Packed}
use Rattle.scores.specs.Terms.{Term, KeptGroup, terms_of, Serves}
use Rattle.queries.specs.declared.judging.Known.{Known}

-- state, card and register may be read: they keep their rules and have the lengths given at the start, and the finished partitions are well formed
pub record Sound (s : State) (cs rs : List ℕ) : Type 0 where
  pub rule : state_rule s ≡ true
  pub card : length cs ≡ s.lengths.card
  pub register : length rs ≡ s.lengths.register
  pub names : register_rule rs ≡ true
  pub partitions : partitions_formed (words cs) (blocks s) (finished s.partitions) ≡ true

-- the run is packed, and there is room for the heads of five terms, h numbers, and of one more to be judged
pub record Readied (s : State) (cs R : List ℕ) (h spare : ℕ) : Type 0 where
  pub rule : state_rule s ≡ true
  pub long : length (words cs) ≡ 1024 * blocks s
  pub partitions : partitions_formed (words cs) (blocks s) (finished s.partitions) ≡ true
  pub packed : Packed s.buffer R
  pub room : (4 * (s.partitions.used + 1) + 4) * 5 ≤ h
  pub most : h ≤ 65536
  pub one : spare ≡ 4 * s.partitions.used + 4

-- how many postings are stored under each, added up
abbrev pub stored_under : List ℕ → State → List ℕ → ℕ
stored_under W s is = total_by (λ i. length (under i (stored W s))) is

-- the terms stand for the identifiers one by one, in the stretch st, where live windows exist
pub data Serving (W : List ℕ) (s : State) (st : Stretch) (live : ℕ) : List ℕ → List Term → Type 0 where
  none : Serving W s st live [] []
  more : {i : ℕ} {is : List ℕ} {t : Term} {ts : List Term} → Serves W s st live i t → Serving W s st live is ts → Serving W s st live (i ∷ is) (t ∷ ts)

-- H has the terms of the first five of the identifiers, and k tells how many, and how many postings they have
pub record Keeps (W R : List ℕ) (s : State) (st : Stretch) (live : ℕ) (is : List ℕ) (k : Known) (H : List ℕ) : Type 0 where
  pub used : k.used ≡ length (take 5 is)
  pub kept : AllOf (KeptGroup W R (s.partitions.used + 1)) (parts (4 * (s.partitions.used + 1) + 4) k.used H)
  pub served : Serving W s st live (take 5 is) (terms_of W R (s.partitions.used + 1) k.used H)
  pub taken : k.taken ≡ stored_under W s (take 5 is)

-- what is read of the identifier i is well formed, and what was kept is kept with i as one identifier more
pub record KeptWell (W R : List ℕ) (s : State) (st : Stretch) (live : ℕ) (k : Known) (H : List ℕ) (i : ℕ) (H' : List ℕ) (r : Known) : Type 0 where
  pub fine : identifier_formed W s i ≡ true
  pub keeps : (is : List ℕ) → Keeps W R s st live is k H → Keeps W R s st live (is ++ (i ∷ [])) r H'
  pub used : r.used ≤ 5
  pub few : r.taken ≤ 3407872 * r.used

-- r tells whether it is
abbrev pub KeptOf : List ℕ → List ℕ → State → Stretch → ℕ → Known → List ℕ → ℕ → Option Known → List ℕ → Type 0
KeptOf W R s st live k H i r H' = MatchOption r (identifier_formed W s i ≡ false) (KeptWell W R s st live k H i H')

-- what is read of the identifiers is well formed, and H has the terms of the first five
pub record GatheredWell (W R : List ℕ) (s : State) (st : Stretch) (live : ℕ) (is : List ℕ) (H : List ℕ) (r : Known) : Type 0 where
  pub fine : every (identifier_formed W s) is ≡ true
  pub keeps : Keeps W R s st live is r H

-- r tells whether it is
abbrev pub Gathered : List ℕ → List ℕ → State → Stretch → ℕ → List ℕ → Option Known → List ℕ → Type 0
Gathered W R s st live is r H = MatchOption r (every (identifier_formed W s) is ≡ false) (GatheredWell W R s st live is H)
