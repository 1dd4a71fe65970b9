-- The exported query, with the lent list of hits as bytes, eight to a hit, and the exported mean and forecast.
use Rattle.std.specs.Prelude.{not, List, [], ◌∷◌, ◌++◌, map, ◌≡◌, ℕ, ◌*◌, length, drop}
use Rattle.lists.specs.Lists.{joined}
use Rattle.words.specs.Words.{words, bytes}
use Rattle.postings.specs.declared.Stretch.{Stretch}
use Rattle.answers.specs.Answers.{Outcome, answer_of, state_of, refuse_if, carry}
use Rattle.answers.specs.declared.Hit.{Hit}
use Rattle.identifiers.specs.Names.{Name}
use Rattle.windows.specs.Promises.{probe_of}
use Rattle.queries.specs.Query.{query_of}
use Rattle.means.specs.Mean.{mean_of}
use Rattle.forecasts.specs.Outlook.{forecast_of}
use Rattle.images.specs.Images.{image_rule}
use Rattle.numbers.specs.Images.{state_on, number_for}
use Rattle.capi.specs.Exports.{Lent}

-- a hit is two words: window and score
abbrev pub hit_words : Hit → List ℕ
hit_words h = h.window ∷ h.score ∷ []

-- the hits of words, two to a hit
abbrev pub hits_in : List ℕ → List Hit
hits_in [] = []
hits_in (w ∷ []) = []
hits_in (w ∷ s ∷ ws) = record { window = w; score = s } ∷ hits_in ws

-- lent bytes with these hits in their first places; the bytes past them are as they were
unfoldable pub hit_bytes : List ℕ → List Hit → List ℕ
hit_bytes lent hs = bytes (joined (map hit_words hs)) ++ drop (8 * length hs) lent

-- n is the number of an outcome's answer, and what is there afterwards is what it leaves, where s was there before
pub record Tells {S : Type 0} (s : S) (o : Outcome S) (n : ℕ) (after : S) : Type 0 where
  pub number : n ≡ number_for (answer_of o)
  pub left : after ≡ state_of s o

-- as many places as there are whole ones
unfoldable pub query_on : Lent → Stretch → List Name → List ℕ → Outcome (List ℕ)
query_on l t ns lent =
    refuse_if (not (image_rule l.image)) 1
    (carry (hit_bytes lent) (query_of (probe_of (state_on l.image) l.card l.register) t ns (hits_in (words lent))))

unfoldable pub mean_on : Lent → Name → Outcome (Unit {0})
mean_on l n = refuse_if (not (image_rule l.image)) 1 (mean_of (probe_of (state_on l.image) l.card l.register) n)

-- the card is not lent
unfoldable pub forecast_on : List ℕ → List ℕ → List ℕ → List ℕ → Outcome (Unit {0})
forecast_on image register plan counts = refuse_if (not (image_rule image)) 1 (forecast_of (state_on image) register plan counts)
