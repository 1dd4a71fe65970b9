-- The order of refusals: the numbers that a call is tested for, by its kind, and what it comes to where no test holds.
use Rattle.std.specs.Prelude.{Bool, cond, List, [], ◌∷◌, ℕ, leb}
use Rattle.answers.specs.Answers.{Outcome, refuse_if}

abbrev pub opening : List ℕ
opening = 1 ∷ 5 ∷ 6 ∷ []

abbrev pub event : List ℕ
event = 1 ∷ 2 ∷ 3 ∷ 4 ∷ 5 ∷ 6 ∷ 8 ∷ 9 ∷ []

abbrev pub closing : List ℕ
closing = 1 ∷ 5 ∷ []

abbrev pub removal : List ℕ
removal = 1 ∷ 2 ∷ 3 ∷ 5 ∷ 7 ∷ []

-- of several windows together; what the single removals are tested for comes after these
abbrev pub removals : List ℕ
removals = 1 ∷ 2 ∷ 3 ∷ 16 ∷ []

abbrev pub flush : List ℕ
flush = 1 ∷ 2 ∷ []

abbrev pub step : List ℕ
step = 1 ∷ 2 ∷ 3 ∷ []

abbrev pub query : List ℕ
query = 1 ∷ 2 ∷ 3 ∷ 4 ∷ 14 ∷ 17 ∷ []

abbrev pub mean : List ℕ
mean = 1 ∷ 2 ∷ 3 ∷ 4 ∷ 15 ∷ []

abbrev pub forecast : List ℕ
forecast = 1 ∷ 2 ∷ 3 ∷ []

-- a flush that writes a partition: an event's, a removal's, or a flush itself
abbrev pub writing : List ℕ
writing = 10 ∷ 11 ∷ 12 ∷ []

-- a step that begins a merge
abbrev pub merging : List ℕ
merging = 12 ∷ 13 ∷ []

-- those numbers up to m
abbrev pub until : ℕ → List ℕ → List ℕ
until m [] = []
until m (n ∷ ns) = cond (leb n m) (n ∷ until m ns) (until m ns)

-- those numbers past m
abbrev pub past : ℕ → List ℕ → List ℕ
past m [] = []
past m (n ∷ ns) = cond (leb n m) (past m ns) (n ∷ past m ns)

-- refused with the number of the first test that holds; else the outcome
abbrev pub admit : {S : Type 0} → List ℕ → List Bool → Outcome S → Outcome S
admit [] ts o = o
admit (n ∷ ns) [] o = o
admit (n ∷ ns) (t ∷ ts) o = refuse_if t n (admit ns ts o)
