-- Demand 3, as a statement: no history of calls from a fresh card is answered otherwise than by ledger and account.
use Rattle.std.specs.Prelude.{true, List, ◌≡◌, ℕ, ◌/◌}
use Rattle.answers.specs.Answers.{Answer}
use Rattle.state.specs.Rules.{card_length, register_length}
use Rattle.windows.specs.Calls.{fresh}
use Rattle.engine.specs.Calls.{Call, probe_call, run}
use Rattle.accounts.specs.Books.{expected}

-- the engine's answers to a list of calls on a fresh card of c bytes with a register of r
unfoldable pub answers : ℕ → ℕ → List Call → List Answer
answers c r cs = run probe_call (fresh c r) cs

-- for all buffers within the limits and all lists of calls, the engine's answers are those of ledger and account
unfoldable pub SameAnswers : Type 0
SameAnswers = (c r : ℕ) → card_length c ≡ true → register_length r ≡ true → (cs : List Call) → answers c r cs ≡ expected (c / 4096) (r / 65) cs
