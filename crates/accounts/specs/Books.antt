-- The ledger with the account beside it: what each call is to answer. Window numbers, hits, scores and means, and refusals 4 to 9 and 14 to 17 come
-- from the ledger alone; refusals 10 to 13 and the postings taken from the account; a forecast from both.
use Rattle.std.specs.Prelude.{Bool, true, false, ◌&&◌, not, cond, List, [], ◌∷◌, ◌≡◌, ℕ, suc, ◌≤◌, eqb, leb, ℤ, pos, neg_ℤ, length, get_or}
use Rattle.lists.specs.Lists.{any, up_to}
use Rattle.postings.specs.declared.Posting.{Posting}
use Rattle.postings.specs.Merge.{is_zero}
use Rattle.answers.specs.Answers.{Halt, Answer, done, number, hits, mean, forecast, refused, Outcome, leave, in_turn}
use Rattle.answers.specs.Order as order
use Rattle.answers.specs.Order.{past, admit}
use Rattle.answers.specs.declared.Hit.{Hit}
use Rattle.state.specs.Levels.{of_level}
use Rattle.identifiers.specs.Names.{Name, bad_length, among, number_of, numbers_of}
use Rattle.recordings.specs.Recording.{recording_rule, recorded}
use Rattle.forecasts.specs.Plan.{Planned, opening, counting, closing, plan_calls}
use Rattle.forecasts.specs.Course.{Gauge, follow}
use Rattle.ranking.specs.Hits.{frequency, ranked}
use Rattle.ranking.specs.Asked.{bad_query, bad_stretch}
use Rattle.averages.specs.Average.{total, averaged}
use Rattle.batches.specs.Batch.{batch_rule}
use Rattle.engine.specs.Calls.{Call, Open, Event, Close, Remove, RemoveAll, Flush, Step, Query, Mean, Forecast, run}
use Rattle.accounts.specs.Account.{Portion, Account, empty_account, taken_from, read_by, blocks_in, overflows, exceeds, added_to, stepping, flushing, flushing_if}
use Rattle.accounts.specs.Ledger.{Ledger, empty_ledger, live, shown, shown_within, existing_within, opens, closes, counts, removes}

-- what an event stores: one count of its identifier, by number, in the open window
abbrev pub once : Ledger → Name → Posting
once l n = record { id = number_of l.identifiers n; window = l.last; count = pos 1 }

-- for the numbers is, each count c that is not 0, negated
abbrev pub negated_by : (ℕ → ℤ) → ℕ → List ℕ → List Posting
negated_by c w [] = []
negated_by c w (i ∷ is) = cond (is_zero (c i)) (negated_by c w is) (record { id = i; window = w; count = neg_ℤ (c i) } ∷ negated_by c w is)

-- what a removal stores: each of the window's counts, negated
unfoldable pub taken_back : Ledger → ℕ → List Posting
taken_back l w = negated_by (λ i. pos (l.count (get_or l.identifiers i []) w)) w (up_to (length l.identifiers))

pub record Books : Type 0 where
  pub ledger : Ledger
  pub account : Account

-- what a forecast reads off
abbrev pub books_gauge : Gauge Books
books_gauge = record { low = λ b. of_level (λ (p : Portion). p.level) 0 b.account.partitions; blocks = λ b. blocks_in b.account; entries = λ b. length b.ledger.identifiers }

-- a call's answer that is no refusal, or one from 4 on, or 3 for a plan that breaks the rule of plans
pub data Granted : Call → Answer → Type 0 where
  is_done : {c : Call} → Granted c done
  is_number : {c : Call} {n : ℕ} → Granted c (number n)
  is_hits : {c : Call} {hs : List Hit} {n : ℕ} → Granted c (hits hs n)
  is_mean : {c : Call} {q r f : ℕ} → Granted c (mean q r f)
  is_forecast : {c : Call} {k b m : ℕ} {h : Halt} → Granted c (forecast k b m h)
  is_later : {c : Call} {n : ℕ} → 4 ≤ n → Granted c (refused n)
  is_no_plan : {plan counts : List ℕ} → recording_rule plan counts ≡ false → Granted (Forecast plan counts) (refused 3)

-- so is each answer to these calls
pub data AllGranted : List Call → List Answer → Type 0 where
  no_call : AllGranted [] []
  one_event_more : {c : Call} {x : Answer} {cs : List Call} {xs : List Answer} → Granted c x → AllGranted cs xs → AllGranted (c ∷ cs) (x ∷ xs)

-- may a window start to show by a call, or cease to: by its close it starts, by its removal it ceases
abbrev pub showing : Call → Bool
showing Open = false
showing (Event n) = false
showing Close = true
showing (Remove w) = true
showing (RemoveAll ws) = true
showing Flush = false
showing Step = false
showing (Query k t ns) = false
showing (Mean n) = false
showing (Forecast plan counts) = false

-- on a card of so many blocks and a register of so many entries
module _ (blocks entries : ℕ) where
  -- the removal of one window
  abbrev pub removal_in : Books → ℕ → Outcome Books
  removal_in b w =
      admit (past 3 order.removal) ((b.ledger.is_open && eqb w b.ledger.last) ∷ not (live b.ledger w) ∷ [])
      (flushing_if blocks (exceeds (taken_back b.ledger w) b.account) b.account
      (λ a. leave done (record { ledger = removes b.ledger w; account = added_to (taken_back b.ledger w) a })))

  -- the calls that a plan may have: an open, an event and a close
  unfoldable pub planned_in : Ledger → Account → Planned → Outcome Books
  planned_in l a opening =
      admit (past 3 order.opening) (l.is_open ∷ leb 65535 l.last ∷ [])
      (leave (number (suc l.last)) (record { ledger = opens l; account = a }))
  planned_in l a (counting n) =
      admit (past 3 order.event)
      (bad_length n
      ∷ not l.is_open
      ∷ leb 32767 l.events
      ∷ (not (among n l.identifiers) && leb entries (length l.identifiers))
      ∷ (not (among n l.listed) && leb 64 (length l.listed))
      ∷ [])
      (flushing_if blocks (overflows (once l n) a) a
      (λ b. leave done (record { ledger = counts l n; account = added_to (once l n ∷ []) b })))
  planned_in l a closing =
      admit (past 3 order.closing) (not l.is_open ∷ [])
      (leave done (record { ledger = closes l; account = a }))

  unfoldable pub books : Ledger → Account → Call → Outcome Books
  books l a Open = planned_in l a opening
  books l a (Event n) = planned_in l a (counting n)
  books l a Close = planned_in l a closing
  books l a (Remove w) = removal_in (record { ledger = l; account = a }) w
  books l a (RemoveAll ws) = admit (past 3 order.removals) (not (batch_rule ws) ∷ []) (in_turn removal_in (record { ledger = l; account = a }) ws)
  books l a Flush = flushing blocks a (λ b. leave done (record { ledger = l; account = b }))
  books l a Step = stepping blocks a (λ b. leave done (record { ledger = l; account = b }))
  books l a (Query k t ns) =
      admit (past 3 order.query) (any bad_length ns ∷ bad_query k ns ∷ bad_stretch t ∷ [])
      (leave (hits (ranked (existing_within t l) l.count (shown_within t l) k ns) (taken_from (numbers_of l.identifiers ns) (read_by t a)))
      (record { ledger = l; account = a }))
  books l a (Mean n) =
      admit (past 3 order.mean) (bad_length n ∷ eqb (frequency l.count (shown l) n) 0 ∷ [])
      (leave (averaged (frequency l.count (shown l) n) (total l.count (shown l) n)) (record { ledger = l; account = a }))
  books l a (Forecast plan counts) =
      admit (past 2 order.forecast) (not (recording_rule plan counts) ∷ [])
      (leave (follow books_gauge (λ b c. planned_in b.ledger b.account c) 0 (record { ledger = l; account = a }) (plan_calls (recorded plan counts))) (record { ledger = l; account = a }))

  abbrev pub books_call : Books → Call → Outcome Books
  books_call b c = books b.ledger b.account c

  -- what a list of calls is to be answered, from the beginning
  unfoldable pub expected : List Call → List Answer
  expected cs = run books_call (record { ledger = empty_ledger; account = empty_account }) cs
