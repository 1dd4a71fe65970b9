-- The engine on lists: what the probe remembers and what its buffers decode to, and what each call comes to. It is the engine on bytes with card
-- and register seen as the postings and identifiers that they hold.
use Rattle.std.specs.Prelude.{Bool, true, ◌||◌, ◌&&◌, not, cond, List, [], ◌∷◌, ◌++◌, map, ℕ, suc, ◌-◌, eqb, ltb, leb, pos, length}
use Rattle.lists.specs.Lists.{any, every, empty, elem, total_by}
use Rattle.postings.specs.declared.Posting.{Posting}
use Rattle.postings.specs.Merge.{put, pairs, negated}
use Rattle.postings.specs.Sums.{sum, under, above}
use Rattle.answers.specs.Answers.{Answer, done, number, hits, Outcome, leave, refuse_if, in_turn}
use Rattle.answers.specs.Order as order
use Rattle.answers.specs.Order.{past, admit}
use Rattle.state.specs.declared.Windows.{Windows}
use Rattle.state.specs.declared.Partition.{Partition}
use Rattle.state.specs.Views.{listed_of, buffer_of, partitions_of}
use Rattle.state.specs.Levels.{of_level, oldest}
use Rattle.state.specs.Shown.{shown_in}
use Rattle.state.specs.Rules.{windows_rule, listed_rule, buffer_rule, partitions_rule}
use Rattle.identifiers.specs.Names.{Name, bad_length, number_of, numbers_of}
use Rattle.recordings.specs.Recording.{recording_rule, recorded}
use Rattle.forecasts.specs.Plan.{Planned, opening, counting, closing, plan_calls}
use Rattle.forecasts.specs.Course.{Gauge, follow}
use Rattle.partitions.specs.Layout.{record_for}
use Rattle.partitions.specs.Formed.{list_rule, in_range, sums_in_range}
use Rattle.ranking.specs.Hits.{frequency, ranked}
use Rattle.ranking.specs.Asked.{bad_query, bad_stretch}
use Rattle.stretches.specs.Reached.{whole}
-- N of windows, by what is stored
unfoldable pub use Rattle.census.specs.Existing.{existing}
use Rattle.removals.specs.Removal.{of_window, counts_of, is_live}
use Rattle.plans.specs.Merging.{is_last}
use Rattle.averages.specs.Average.{total, averaged}
use Rattle.batches.specs.Batch.{batch_rule}
use Rattle.engine.specs.Calls.{Call, Open, Event, Close, Remove, RemoveAll, Flush, Step, Query, Mean, Forecast, run}
use Rattle.accounts.specs.Account.{Portion, Account, empty_account, postings_in, stored_in, taken_from, read_by, blocks_in, due_of, inputs_of, overflows, exceeds, added_to, stepping, flushing, flushing_if}

-- the state's window numbers; the register's identifiers, by number; the numbers of the open window's identifiers, in order of first count; the
-- postings in buffer and partitions, with the steps of the merge in progress
pub record Lists : Type 0 where
  pub windows : Windows
  pub names : List Name
  pub listed : List ℕ
  pub account : Account

-- what a fresh card holds
unfoldable pub no_lists : Lists
no_lists = record { windows = record { last = 0; live = 0; current = 0; events = 0 }; names = []; listed = []; account = empty_account }

-- is a window open
abbrev pub is_open : Lists → Bool
is_open e = not (eqb e.windows.current 0)

-- ---- refusal 1

-- a partition's record, but for its first block, of which no rule of the state says anything
abbrev pub record_like : Portion → Partition
record_like p = record_for 0 p.level p.postings

-- every rule of the state that concerns what is listed here, on a card of so many blocks
unfoldable pub lists_rule : ℕ → Lists → Bool
lists_rule blocks e =
    windows_rule e.windows
    && (listed_rule e.windows (listed_of e.listed)
    && (buffer_rule e.windows (buffer_of e.account.buffer)
    && (partitions_rule blocks (partitions_of (map record_like e.account.partitions))
    && (eqb e.account.steps 0 || not (empty (due_of e.account))))))

-- ---- refusal 3: the lists and sums that a call uses

-- of one identifier: its lists in the partitions, and the sums of its pairs, over the partitions and with the buffer
unfoldable pub identifier_rule : Account → ℕ → Bool
identifier_rule a i =
    every (λ (p : Portion). list_rule (under i p.postings)) a.partitions
    && (sums_in_range (under i (postings_in a.partitions)) && sums_in_range (under i (stored_in a)))

-- all lists
abbrev pub lists_ruled : Account → Bool
lists_ruled a = every (λ (p : Portion). list_rule p.postings) a.partitions

-- of a query, and of a mean, where this is what is read: all lists, and what is read of each identifier
abbrev pub read_rule : Account → List ℕ → Bool
read_rule a is = lists_ruled a && every (identifier_rule a) is

-- of windows to be removed all lists, and of each its sums over the partitions and with the buffer, and no more than 64 of them
abbrev pub window_sums : Account → ℕ → Bool
window_sums a w =
    sums_in_range (of_window w (postings_in a.partitions))
    && (sums_in_range (of_window w (stored_in a)) && leb (length (counts_of w (stored_in a))) 64)

-- of one window
unfoldable pub window_rule : Account → ℕ → Bool
window_rule a w = lists_ruled a && window_sums a w

-- of a step: the inputs' lists and the sums of their pairs, and pairs are left to take where a merge is in progress
unfoldable pub inputs_rule : Account → Bool
inputs_rule a =
    every (λ (p : Portion). list_rule p.postings) (oldest (λ (p : Portion). p.level) (due_of a) a.partitions)
    && (every (λ p. in_range p.count) (pairs (inputs_of a)) && (eqb a.steps 0 || not (is_last (pairs (inputs_of a)) a.steps)))

-- of each call; that a forecast brings a plan is judged with what it comes to
unfoldable pub call_rule : Lists → Call → Bool
call_rule e Open = true
call_rule e (Event n) = true
call_rule e Close = true
call_rule e (Remove w) = window_rule e.account w
call_rule e (RemoveAll ws) = lists_ruled e.account && every (window_sums e.account) ws
call_rule e Flush = true
call_rule e Step = inputs_rule e.account
call_rule e (Query k t ns) = read_rule (read_by t e.account) (numbers_of e.names ns)
call_rule e (Mean n) = read_rule (read_by whole e.account) (numbers_of e.names (n ∷ []))
call_rule e (Forecast plan counts) = true

-- ---- what the calls leave

-- the next number is given, and its window has no events yet
unfoldable pub opened_lists : Lists → Lists
opened_lists e = record {
  windows = record { last = suc e.windows.last; live = e.windows.live; current = suc e.windows.last; events = 0 };
  names = e.names;
  listed = e.listed;
  account = e.account;
}

-- no window is open; one with events is counted in N from here on, and one without gives its number back
unfoldable pub closed_lists : Lists → Lists
closed_lists e = record {
  windows = record { last = cond (eqb e.windows.events 0) (e.windows.last - 1) e.windows.last; live = cond (eqb e.windows.events 0) e.windows.live (suc e.windows.live); current = 0; events = 0 };
  names = e.names;
  listed = [];
  account = e.account;
}

-- is an identifier new to the register
abbrev pub is_new : Lists → Name → Bool
is_new e n = leb (length e.names) (number_of e.names n)

-- one count of an identifier in the open window
abbrev pub once_of : Lists → Name → Posting
once_of e n = record { id = number_of e.names n; window = e.windows.current; count = pos 1 }

-- the event is counted, with a as it is after a flush or without one: the identifier is listed at its first, and the pair's buffered count grows by 1. N stays
-- until the window is closed
unfoldable pub counted_lists : Lists → Name → Account → Lists
counted_lists e n a = record {
  windows =
      record { last = e.windows.last; live = e.windows.live; current = e.windows.current; events = suc e.windows.events };
  names = cond (is_new e n) (e.names ++ (n ∷ [])) e.names;
  listed = cond (elem (number_of e.names n) e.listed) e.listed (e.listed ++ (number_of e.names n ∷ []));
  account = record { buffer = put (once_of e n) a.buffer; partitions = a.partitions; steps = a.steps };
}

-- each of the window's counts is buffered negated, with a as it is after a flush or without one, and N is one less
unfoldable pub removed_lists : Lists → List Posting → Account → Lists
removed_lists e counts a = record {
  windows = record { last = e.windows.last; live = e.windows.live - 1; current = e.windows.current; events = e.windows.events };
  names = e.names;
  listed = e.listed;
  account = added_to (negated counts) a;
}

-- the same with another account
abbrev pub with_account : Lists → Account → Lists
with_account e a = record { windows = e.windows; names = e.names; listed = e.listed; account = a }

-- the count of a pair: the sum of what is stored, and nothing where that is not above 0
unfoldable pub count_of : Account → ℕ → ℕ → ℕ
count_of a i w = above (sum (stored_in a) i w)

-- F of an identifier, and the sum of its counts, in the windows that show; nothing of one without a number
unfoldable pub frequency_of : Lists → Name → ℕ
frequency_of e n = total_by (frequency (count_of (read_by whole e.account)) (shown_in whole e.windows)) (numbers_of e.names (n ∷ []))

unfoldable pub total_of : Lists → Name → ℕ
total_of e n = total_by (total (count_of (read_by whole e.account)) (shown_in whole e.windows)) (numbers_of e.names (n ∷ []))

-- what a forecast reads off
abbrev pub lists_gauge : Gauge Lists
lists_gauge = record { low = λ e. of_level (λ (p : Portion). p.level) 0 e.account.partitions; blocks = λ e. blocks_in e.account; entries = λ e. length e.names }

-- ---- what the calls come to, on a card of so many blocks and a register of so many entries

module _ (blocks entries : ℕ) where
  -- a removal, where these are the window's counts
  unfoldable pub removing_lists : Lists → ℕ → List Posting → Outcome Lists
  removing_lists e w counts =
      admit (past 3 order.removal)
      ((is_open e && eqb w e.windows.current)
      ∷ (not (is_live counts) || (ltb e.windows.last w || eqb e.windows.live 0))
      ∷ [])
      (flushing_if blocks (exceeds counts e.account) e.account (λ a. leave done (removed_lists e counts a)))

  -- the same, with its counts found
  abbrev pub removal_of : Lists → ℕ → Outcome Lists
  removal_of e w = removing_lists e w (counts_of w (stored_in e.account))

  -- the calls that a plan may have
  unfoldable pub planned_lists : Lists → Planned → Outcome Lists
  planned_lists e opening =
      admit (past 3 order.opening) (is_open e ∷ leb 65535 e.windows.last ∷ [])
      (leave (number (suc e.windows.last)) (opened_lists e))
  planned_lists e (counting n) =
      admit (past 3 order.event)
      (bad_length n
      ∷ not (is_open e)
      ∷ leb 32767 e.windows.events
      ∷ (is_new e n && leb entries (length e.names))
      ∷ (not (elem (number_of e.names n) e.listed) && leb 64 (length e.listed))
      ∷ [])
      (flushing_if blocks (overflows (once_of e n) e.account) e.account (λ a. leave done (counted_lists e n a)))
  planned_lists e closing =
      admit (past 3 order.closing) (not (is_open e) ∷ [])
      (leave done (closed_lists e))

  -- what follows refusals 1 to 3
  unfoldable pub pursued : Lists → Call → Outcome Lists
  pursued e Open = planned_lists e opening
  pursued e (Event n) = planned_lists e (counting n)
  pursued e Close = planned_lists e closing
  pursued e (Remove w) = removal_of e w
  pursued e (RemoveAll ws) = admit (past 3 order.removals) (not (batch_rule ws) ∷ []) (in_turn removal_of e ws)
  pursued e Flush = flushing blocks e.account (λ a. leave done (with_account e a))
  pursued e Step = stepping blocks e.account (λ a. leave done (with_account e a))
  pursued e (Query k t ns) =
      admit (past 3 order.query) (any bad_length ns ∷ bad_query k ns ∷ bad_stretch t ∷ [])
      (leave
      (hits
      (ranked (existing (stored_in (read_by t e.account)) (shown_in t e.windows)) (count_of (read_by t e.account)) (shown_in t e.windows) k (numbers_of e.names ns))
      (taken_from (numbers_of e.names ns) (read_by t e.account)))
      e)
  pursued e (Mean n) =
      admit (past 3 order.mean) (bad_length n ∷ eqb (frequency_of e n) 0 ∷ [])
      (leave (averaged (frequency_of e n) (total_of e n)) e)
  pursued e (Forecast plan counts) =
      admit (past 2 order.forecast) (not (recording_rule plan counts) ∷ [])
      (leave (follow lists_gauge planned_lists 0 e (plan_calls (recorded plan counts))) e)

  unfoldable pub lists_call : Lists → Call → Outcome Lists
  lists_call e c = refuse_if (not (lists_rule blocks e)) 1 (refuse_if (not (call_rule e c)) 3 (pursued e c))

  -- the answers to a list of calls, from a fresh card
  unfoldable pub lists_answers : List Call → List Answer
  lists_answers cs = run lists_call no_lists cs
