-- Words that the demands are stated with.
use Rattle.std.specs.Prelude.{Bool, true, false, ◌&&◌, not, cond, List, [], ◌∷◌, ◌++◌, map, ◌≡◌, ℕ, suc, ◌+◌, ◌*◌, ◌/◌, ◌<◌, eqb, ltb, length, take, replicate}
use Rattle.lists.specs.Lists.{every, any, elem}
use Rattle.words.specs.Words.{words}
use Rattle.answers.specs.Answers.{Halt, never, halted, Answer, done, number, hits, mean, forecast, refused, Outcome, refuse, leave, answer_of, state_of}
use Rattle.answers.specs.declared.Hit.{Hit}
use Rattle.state.specs.Rules.{state_rule}
use Rattle.state.specs.Probe.{Probe, has_length}
use Rattle.identifiers.specs.Register.{names, register_rule}
use Rattle.flushes.specs.Flush.{finished_blocks}
use Rattle.forecasts.specs.Plan.{Placed}
use Rattle.windows.specs.Calls.{fresh}
use Rattle.ranking.specs.Hits.{outranks, score, matching}
use Rattle.engine.specs.Calls.{Call, Remove, probe_call, planned_call, probe_gauge, run, afterwards}
use Rattle.accounts.specs.Account.{empty_account}
use Rattle.accounts.specs.Ledger.{empty_ledger}
use Rattle.accounts.specs.Books.{Books, books_call}
use Rattle.decoded.specs.Portions.{occupied}

-- nothing for refusals 1 to 3 in what an event reads
pub record Fit (p : Probe) : Type 0 where
  pub state : state_rule p.state ≡ true
  pub card : has_length p.card p.state.lengths.card ≡ true
  pub register : has_length p.register p.state.lengths.register ≡ true
  pub entries : register_rule p.register ≡ true

-- each hit outranks all that stand after it
abbrev pub falls : List Hit → Bool
falls [] = true
falls (g ∷ hs) = every (outranks g) hs && falls hs

-- a window with its score for the identifiers is
abbrev pub scored : {I : Type 0} → ℕ → (I → ℕ → ℕ) → List ℕ → List I → ℕ → Hit
scored N count windows is w = record { window = w; score = score N count windows is w }

-- what the hits of a query with k places are, where N windows exist, count is of an identifier in a window, and windows are those that show
pub record Listing {I : Type 0} (N : ℕ) (count : I → ℕ → ℕ) (windows : List ℕ) (k : ℕ) (is : List I) (found : List Hit) : Type 0 where
  -- every window listed matches, and its score is exactly the sum of products
  pub exact : every (λ h. elem h.window (matching N count windows is) && eqb h.score (scored N count windows is h.window).score) found ≡ true
  -- they stand by falling score, then falling number
  pub falling : falls found ≡ true
  -- a matching window that is not listed finds the list full, of hits that all outrank it
  pub full : (w : ℕ) → elem w (matching N count windows is) ≡ true → any (λ h. eqb h.window w) found ≡ false
      → (length found ≡ k) × (every (λ h. outranks h (scored N count windows is w)) found ≡ true)

-- what a window scores at most: five identifiers, of which the count weighs at most 240, and N and F at most 255
abbrev pub most_score : ℕ
most_score = 5 * (240 * 255)

-- what a mean's quotient, remainder and divisor are, where an identifier counts t in all, in f windows
pub record Divided (f t quotient remainder divisor : ℕ) : Type 0 where
  -- nothing of the sum is lost
  pub sum : quotient * divisor + remainder ≡ t
  pub below : remainder < divisor
  pub windows : divisor ≡ f

-- what the removal of several windows together comes to, by their removals one after another
pub data Together (p : Probe) (ws : List ℕ) : Outcome Probe → Type 0 where
  -- each of these is done: it leaves what they leave
  all_removed : run probe_call p (map Remove ws) ≡ replicate (length ws) done → Together p ws (leave done (afterwards probe_call p (map Remove ws)))
  -- i of them are done and the next one is refused: so is it, with that number
  one_refused : (n i : ℕ) → i < length ws → take (suc i) (run probe_call p (map Remove ws)) ≡ replicate i done ++ (refused n ∷ []) → Together p ws (refuse n)

-- is an answer no refusal
abbrev pub is_granted : Answer → Bool
is_granted done = true
is_granted (number n) = true
is_granted (hits l n) = true
is_granted (mean q r f) = true
is_granted (forecast k b m h) = true
is_granted (refused n) = false

-- a plan's calls
abbrev pub calls_of : List Placed → List Call
calls_of cs = map (λ (c : Placed). planned_call c.call) cs

-- how many of them, each made on what the one before left, leave more partitions at level 0 than they find
abbrev pub wrote : Probe → List Placed → ℕ
wrote p [] = 0
wrote p (c ∷ cs) =
    cond (ltb (probe_gauge.low p) (probe_gauge.low (state_of p (probe_call p (planned_call c.call))))) 1 0 + wrote (state_of p (probe_call p (planned_call c.call))) cs

-- what is told where these calls are done and the plan stops so: the flushes, and the blocks and register entries that they leave used
abbrev pub told_of : Probe → List Placed → Halt → Answer
told_of p cs h = forecast (wrote p cs) (finished_blocks (afterwards probe_call p (calls_of cs)).state) (length (names (afterwards probe_call p (calls_of cs)).register)) h

-- what a forecast is to answer, by the plan's calls really made, one after another
pub data Foreseen (p : Probe) (calls : List Placed) : Answer → Type 0 where
  -- none of them is refused
  all_done : every is_granted (run probe_call p (calls_of calls)) ≡ true → Foreseen p calls (told_of p calls never)
  -- none of the first is, and the next one is refused with n: the plan stops there
  next_refused : (first : List Placed) (c : Placed) (rest : List Placed) (n : ℕ) → calls ≡ first ++ (c ∷ rest) → every is_granted (run probe_call p (calls_of first)) ≡ true
      → answer_of (probe_call (afterwards probe_call p (calls_of first)) (planned_call c.call)) ≡ refused n → Foreseen p calls (told_of p first (halted c.window c.event n))

-- the probe, and ledger and account, after a list of calls on a fresh card of c bytes with a register of r
abbrev pub probe_after : ℕ → ℕ → List Call → Probe
probe_after c r cs = afterwards probe_call (fresh c r) cs

abbrev pub books_after : ℕ → ℕ → List Call → Books
books_after c r cs = afterwards (books_call (c / 4096) (r / 65)) (record { ledger = empty_ledger; account = empty_account }) cs

-- is block b of no finished partition and of no output in progress
abbrev pub unused : Probe → ℕ → Bool
unused p b = not (elem b (occupied (words p.card) p.state))
