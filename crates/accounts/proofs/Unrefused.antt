-- What ledger and account say is never refusal 1, 2 or 3, but 3 for a plan that breaks the rule of plans: these are of what the probe remembers and was lent.
use Rattle.lists.proofs.Prelude.{Bool, true, false, not, List, [], ◌∷◌, ◌≡◌, refl, ℕ, ◌≤◌, arith}
use Rattle.answers.specs.Answers.{halted, Outcome, refuse, leave, refuse_if, choose, next, after, in_turn, answer_of}
use Rattle.recordings.specs.Recording.{recording_rule}
use Rattle.forecasts.specs.Plan.{Planned, Placed, opening, counting, closing}
use Rattle.forecasts.specs.Course.{Gauge, told, writes, follow}
use Rattle.engine.specs.Calls.{Call, Open, Event, Close, Remove, RemoveAll, Flush, Step, Query, Mean, Forecast, run}
use Rattle.accounts.specs.Account.{Account, stepping, flushing, flushing_if}
use Rattle.accounts.specs.Ledger.{Ledger}
use Rattle.accounts.specs.Books.{Books, Granted, is_done, is_number, is_hits, is_mean, is_forecast, is_later, is_no_plan, AllGranted, no_call, one_event_more, removal_in, planned_in, books, books_call, expected}

-- one test
later : {c : Call} (t : Bool) (n : ℕ) (o : Outcome Books) → 4 ≤ n → Granted c (answer_of o) → Granted c (answer_of (refuse_if t n o))
unfolding refuse_if
later true n o h g = is_later h
later false n o h g = g

either : {c : Call} (t : Bool) (o p : Outcome Books) → Granted c (answer_of o) → Granted c (answer_of p) → Granted c (answer_of (choose t o p))
unfolding choose
either true o p g h = g
either false o p g h = h

-- calls one after another
next-granted : {c : Call} (o : Outcome Books) → Granted c (answer_of o) → (k : Books → Outcome Books) → ((b : Books) → Granted c (answer_of (k b))) → Granted c (answer_of (next o k))
unfolding next
next-granted (refuse n) g k h = g
next-granted (leave x b) g k h = h b

turn-granted : {c : Call} (f : Books → ℕ → Outcome Books) → ((b : Books) (w : ℕ) → Granted c (answer_of (f b w))) → (ws : List ℕ) (b : Books) → Granted c (answer_of (in_turn f b ws))
unfolding in_turn
turn-granted f h [] b = is_done
turn-granted f h (w ∷ ws) b = next-granted (f b w) (h b w) _ (turn-granted f h ws)

-- what a plan comes to
follow-granted : {c : Call} {S : Type 0} (g : Gauge S) (f : S → Planned → Outcome S) (ps : List Placed) (k : ℕ) (s : S) → Granted c (follow g f k s ps)
unfolding follow after
follow-granted g f [] k s = is_forecast
follow-granted {c} {S} g f (p ∷ ps) k s = go (f s p.call) (λ t. follow-granted g f ps (writes g f s t k) t)
  where
    go : (o : Outcome S) → ((t : S) → Granted c (follow g f (writes g f s t k) t ps))
        → Granted c (after o (λ n. told g f k s (halted p.window p.event n)) (λ t. follow g f (writes g f s t k) t ps))
    go (refuse n) rest = is_forecast
    go (leave x t) rest = rest t

plan-granted : (plan numbers : List ℕ) (t : Bool) → recording_rule plan numbers ≡ t → (o : Outcome Books) → Granted (Forecast plan numbers) (answer_of o)
    → Granted (Forecast plan numbers) (answer_of (refuse_if (not t) 3 o))
unfolding refuse_if
plan-granted plan numbers true e o g = g
plan-granted plan numbers false e o g = is_no_plan e

module _ (blocks entries : ℕ) where
  flush-granted : {c : Call} (a : Account) (k : Account → Outcome Books) → ((b : Account) → Granted c (answer_of (k b))) → Granted c (answer_of (flushing blocks a k))
  unfolding flushing
  flush-granted a k h = either _ _ _ (h a) (later _ 10 _ (omega arith) (later _ 11 _ (omega arith) (later _ 12 _ (omega arith) (h _))))

  flush_if-granted : {c : Call} (t : Bool) (a : Account) (k : Account → Outcome Books) → ((b : Account) → Granted c (answer_of (k b))) → Granted c (answer_of (flushing_if blocks t a k))
  unfolding flushing_if
  flush_if-granted t a k h = either t _ _ (flush-granted a k h) (h a)

  step-granted : {c : Call} (a : Account) (k : Account → Outcome Books) → ((b : Account) → Granted c (answer_of (k b))) → Granted c (answer_of (stepping blocks a k))
  unfolding stepping
  step-granted a k h = later _ 12 _ (omega arith) (later _ 13 _ (omega arith) (h _))

  removal-granted : {c : Call} (b : Books) (w : ℕ) → Granted c (answer_of (removal_in blocks entries b w))
  removal-granted b w = later _ 5 _ (omega arith) (later _ 7 _ (omega arith) (flush_if-granted _ b.account _ (λ a. is_done)))

  planned-granted : {c : Call} (l : Ledger) (a : Account) (p : Planned) → Granted c (answer_of (planned_in blocks entries l a p))
  unfolding planned_in
  planned-granted l a opening = later _ 5 _ (omega arith) (later _ 6 _ (omega arith) is_number)
  planned-granted l a (counting n) =
      later _ 4 _ (omega arith) (later _ 5 _ (omega arith) (later _ 6 _ (omega arith) (later _ 8 _ (omega arith) (later _ 9 _ (omega arith) (flush_if-granted _ a _ (λ b. is_done))))))
  planned-granted l a closing = later _ 5 _ (omega arith) is_done

  books-granted : (l : Ledger) (a : Account) (c : Call) → Granted c (answer_of (books blocks entries l a c))
  unfolding books
  books-granted l a Open = planned-granted l a opening
  books-granted l a (Event n) = planned-granted l a (counting n)
  books-granted l a Close = planned-granted l a closing
  books-granted l a (Remove w) = removal-granted (record { ledger = l; account = a }) w
  books-granted l a (RemoveAll ws) = later _ 16 _ (omega arith) (turn-granted _ removal-granted ws _)
  books-granted l a Flush = flush-granted a _ (λ b. is_done)
  books-granted l a Step = step-granted a _ (λ b. is_done)
  books-granted l a (Query k t ns) = later _ 4 _ (omega arith) (later _ 14 _ (omega arith) (later _ 17 _ (omega arith) is_hits))
  books-granted l a (Mean n) = later _ 4 _ (omega arith) (later _ 15 _ (omega arith) is_mean)
  books-granted l a (Forecast plan numbers) = plan-granted plan numbers (recording_rule plan numbers) refl _ (follow-granted _ _ _ 0 _)

  run-granted : (cs : List Call) (b : Books) → AllGranted cs (run (books_call blocks entries) b cs)
  unfolding run
  run-granted [] b = no_call
  run-granted (c ∷ cs) b = one_event_more (books-granted b.ledger b.account c) (run-granted cs _)

  -- of every list of calls
  pub all-granted : (cs : List Call) → AllGranted cs (expected blocks entries cs)
  unfolding expected
  all-granted cs = run-granted cs _
