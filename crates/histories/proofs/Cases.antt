-- The table of worked cases: one computation on ledger and account, which the history theorem carries over to the engine's bytes.
use Rattle.lists.proofs.Prelude.{Bool, true, ◌≡◌, refl, ap, ap₂, ◌∙◌, List, [], ◌∷◌, map, ℕ, ◌*◌, every, down, rising, and_left, and_right}
use Rattle.weights.specs.Weights.{largest, sixteenths, tf_weight, idf_weight}
use Rattle.postings.specs.Merge.{nonzero, pairs}
use Rattle.postings.specs.Spans.{lowest, highest}
use Rattle.answers.specs.Answers.{Answer, refuse_if, choose, next, after, in_turn}
use Rattle.state.specs.Rules.{card_length, register_length}
use Rattle.identifiers.specs.Names.{bad_length, numbers_of}
use Rattle.identifiers.specs.Register.{names, register_rule, added}
use Rattle.recordings.specs.Recording.{recording_rule, recorded}
use Rattle.partitions.specs.Layout.{length_of}
use Rattle.forecasts.specs.Plan.{plan_calls}
use Rattle.forecasts.specs.Course.{follow}
use Rattle.ranking.specs.Hits.{frequency, score, matching, ranked}
use Rattle.ranking.specs.Asked.{bad_query}
use Rattle.averages.specs.Average.{total}
use Rattle.engine.specs.Calls.{Call, run}
use Rattle.accounts.specs.Account.{empty_account, taken_from, read_by, blocks_of, blocks_in, inputs_of, merged, blocks_ahead, completed, furthered, stepped_account, flushed_account, overflows, exceeds, added_to, stepping, flushing, flushing_if}
use Rattle.accounts.specs.Ledger.{empty_ledger, live, shown, existing, shown_within, existing_within, opens, closes, counts, removes}
use Rattle.accounts.specs.Books.{taken_back, planned_in, books, expected}
use Rattle.histories.specs.Statement.{SameAnswers}
use Rattle.histories.specs.Table.{Case, Tf, Idf, Sized, Registered, Numbered, History, on_books, on_bytes, latest, worked, table, TableHolds}
use Rattle.histories.proofs.Theorem.{same-answers}

-- on ledger and account
pub table-expected : TableHolds on_books
unfolding TableHolds worked table on_books down rising largest sixteenths tf_weight idf_weight nonzero pairs refuse_if choose next after in_turn bad_length numbers_of names register_rule added recording_rule recorded plan_calls follow length_of frequency score matching ranked bad_query total run empty_account taken_from blocks_of blocks_in inputs_of merged blocks_ahead completed furthered stepped_account flushed_account overflows exceeds added_to stepping flushing flushing_if empty_ledger live shown existing shown_within existing_within read_by lowest highest opens closes counts removes taken_back planned_in books expected
table-expected = refl

-- the card of a case has a length within the limits
fits : Case → Bool
fits (Tf f a) = true
fits (Idf n f b) = true
fits (Sized n bad) = true
fits (Registered ns formed) = true
fits (Numbered ns n i) = true
fits (History n cs told) = card_length (4096 * n)

cards-fit : every fits table ≡ true
unfolding table fits
cards-fit = refl

register-fits : register_length 4160 ≡ true
register-fits = refl

same-on-bytes : (n : ℕ) → card_length (4096 * n) ≡ true → (cs : List Call) → on_bytes n cs ≡ on_books n cs
unfolding on_books on_bytes
same-on-bytes n e cs = unfold SameAnswers in same-answers (4096 * n) 4160 e register-fits cs

same_case : (c : Case) → fits c ≡ true → worked on_bytes c ≡ worked on_books c
unfolding worked fits
same_case (Tf f a) e = refl
same_case (Idf n f b) e = refl
same_case (Sized n bad) e = refl
same_case (Registered ns formed) e = refl
same_case (Numbered ns n i) e = refl
same_case (History n cs told) e = ap (λ (all : List Answer). History n cs (latest told all)) (same-on-bytes n e cs)

carried : (l : List Case) → every fits l ≡ true → map (worked on_bytes) l ≡ map (worked on_books) l
carried [] e = refl
carried (c ∷ l) e = ap₂ {C = List Case} (λ d m. d ∷ m) (same_case c (and_left _ _ e)) (carried l (and_right (fits c) _ e))

-- and on the engine's bytes
pub table-holds : TableHolds on_bytes
unfolding TableHolds
table-holds = carried table cards-fit ∙ table-expected
