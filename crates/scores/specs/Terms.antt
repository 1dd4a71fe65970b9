-- The terms of a query: an identifier's lists as one group, with the weight of its N and F. A group of m heads is 4 m + 4 numbers: its reach, its weight,
-- the place of the list that leads and the reach of the others, and the heads.
use Rattle.std.specs.Prelude.{Option, Some, None, MatchOption, true, false, cond, List, map, ◌≡◌, ℕ, ◌+◌, ◌*◌, ◌≤◌, pos, length, get_or, drop}
use Rattle.lists.specs.All.{AllOf}
use Rattle.keyed.specs.Keys.{topmost_from, sums, all_fall}
use Rattle.keyed.specs.Groups.{Group}
use Rattle.weights.specs.Weights.{idf_weight}
use Rattle.postings.specs.declared.Stretch.{Stretch}
use Rattle.postings.specs.Sums.{sum, under, frequency, amount}
use Rattle.state.specs.declared.State.{State}
use Rattle.state.specs.Shown.{shown_in}
use Rattle.partitions.specs.Reading.{stored}
use Rattle.partitions.specs.Formed.{in_range, identifier_formed}
use Rattle.kway.specs.Parts.{parts}
use Rattle.kway.specs.Leads.{Leads}
use Rattle.heads.specs.Heads.{Kept, views}
use Rattle.terms.specs.declared.judging.Told.{Told}

-- an identifier's lists, and what a count of it weighs
pub record Term : Type 0 where
  pub lists : Group
  pub weight : ℕ

-- what a group of numbers stands for
abbrev pub term_of : List ℕ → List ℕ → ℕ → List ℕ → Term
term_of W R m P = record { lists = views W R m (drop 4 P); weight = get_or P 1 0 }

-- a group that can be read, with its reach
pub record KeptGroup (W R : List ℕ) (m : ℕ) (P : List ℕ) : Type 0 where
  pub long : length P ≡ 4 * m + 4
  pub top : get_or P 0 0 ≡ topmost_from 0 (views W R m (drop 4 P))
  pub light : get_or P 1 0 ≤ 255
  pub heads : AllOf (Kept W R) (parts 4 m (drop 4 P))
  pub lead : Leads (views W R m (drop 4 P)) (get_or P 2 0) (get_or P 3 0)

-- g groups
abbrev pub terms_of : List ℕ → List ℕ → ℕ → ℕ → List ℕ → List Term
terms_of W R m g H = map (term_of W R m) (parts (4 * m + 4) g H)

-- x stands for the identifier i: its lists fall, the sums of each window are those of what is stored, within ±32,767, and its weight is that of N, which is n, and
-- F in the stretch t
pub record Serves (W : List ℕ) (s : State) (t : Stretch) (n i : ℕ) (x : Term) : Type 0 where
  pub falls : all_fall 65536 x.lists ≡ true
  pub totals : (w : ℕ) → sums w x.lists ≡ sum (stored W s) i w
  pub ranges : (w : ℕ) → in_range (sum (stored W s) i w) ≡ true
  pub none : sum (stored W s) i 0 ≡ pos 0
  pub weight : x.weight ≡ idf_weight n (frequency (shown_in t s.windows) (stored W s) i)

-- what is told of the identifier i: F, and the sum of its counts in the windows of the stretch t that show, where what is read of it is well formed
unfoldable pub told_term : List ℕ → State → Stretch → ℕ → Option Told
told_term W s t i =
    cond (identifier_formed W s i)
    (Some (record { windows = frequency (shown_in t s.windows) (stored W s) i; total = amount (shown_in t s.windows) (stored W s) i }))
    None

-- a window counts at most 32,767, and there are at most 65,535
abbrev pub Fitting : Told → Type 0
Fitting t = (t.windows ≤ 65535) × (t.total ≤ 32767 * t.windows)

-- what is read of the identifier i is well formed, the group P is its term, and r postings of it are stored
pub record CountedWell (W R : List ℕ) (s : State) (t : Stretch) (n i m : ℕ) (P : List ℕ) (r : ℕ) : Type 0 where
  pub formed : identifier_formed W s i ≡ true
  pub kept : KeptGroup W R m P
  pub term : Serves W s t n i (term_of W R m P)
  pub taken : r ≡ length (under i (stored W s))
  pub few : r ≤ 3407872

-- r tells of the identifier i whether what is read of it is well formed
abbrev pub CountedFor : List ℕ → List ℕ → State → Stretch → ℕ → ℕ → ℕ → List ℕ → Option ℕ → Type 0
CountedFor W R s t n i m P r = MatchOption r (identifier_formed W s i ≡ false) (CountedWell W R s t n i m P)
