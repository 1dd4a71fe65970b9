-- The history theorem: for all buffers within the limits and all lists of calls, the engine's answers from a fresh card are those of ledger and account.
use Rattle.lists.proofs.Prelude.{true, List, ◌≡◌, sym, subst, ℕ, ◌/◌, ◌%◌, ◌≤◌, eqb, leb, leb-true, and_right}
use Rattle.state.specs.Rules.{card_length, register_length}
use Rattle.accounts.specs.Account.{empty_account}
use Rattle.accounts.specs.Ledger.{empty_ledger}
use Rattle.accounts.specs.Books.{AllGranted, books_call, expected}
use Rattle.accounts.specs.Lists.{no_lists}
use Rattle.windows.specs.Calls.{fresh}
use Rattle.engine.specs.Calls.{Call, probe_call, afterwards}
use Rattle.accounts.proofs.History.{stands-fresh}
use Rattle.accounts.proofs.Unrefused.{all-granted}
use Rattle.decoded.proofs.Fresh.{stored-fresh}
use Rattle.decoded.proofs.Simulated.{runs-simulated, Left, left_after}
use Rattle.histories.specs.Statement.{answers, SameAnswers}

-- a register has at most 1,024 entries
pub entries-most : (r : ℕ) → register_length r ≡ true → r / 65 ≤ 1024
entries-most r e = leb-true (r / 65) 1024 (and_right (leb 1 (r / 65)) _ (and_right (eqb (r % 65) 0) _ e))

pub same-answers : SameAnswers
unfolding SameAnswers answers expected
same-answers c r card_fits register_fits cs =
    runs-simulated (record { card = c; register = r }) (entries-most r register_fits) cs _ _ _
    (stored-fresh c r card_fits register_fits) (stands-fresh (c / 4096) (r / 65) (entries-most r register_fits))

-- so no call on an own card is refused with 1, 2 or 3, but with 3 for a plan that breaks the rule of plans
pub none-malformed : (c r : ℕ) → card_length c ≡ true → register_length r ≡ true → (cs : List Call) → AllGranted cs (answers c r cs)
none-malformed c r card_fits register_fits cs = subst (AllGranted cs) (sym (theorem c r card_fits register_fits cs)) (all-granted (c / 4096) (r / 65) cs)
  where
    theorem : (c r : ℕ) → card_length c ≡ true → register_length r ≡ true → (cs : List Call) → answers c r cs ≡ expected (c / 4096) (r / 65) cs
    theorem = unfold SameAnswers in same-answers

-- what a history leaves: bytes that hold lists which stand for what ledger and account are; so every sum of what is stored is the ledger's count
-- (`left-sums`), and N is how many closed windows exist (`left-existing`)
pub history-left : (c r : ℕ) → card_length c ≡ true → (fits : register_length r ≡ true) → (cs : List Call)
    → Left (record { card = c; register = r }) (entries-most r fits) (afterwards probe_call (fresh c r) cs)
    (afterwards (books_call (c / 4096) (r / 65)) (record { ledger = empty_ledger; account = empty_account }) cs)
history-left c r card_fits register_fits cs =
    left_after (record { card = c; register = r }) (entries-most r register_fits) cs _ _
    (record { lists = no_lists; stored = stored-fresh c r card_fits register_fits; stands = stands-fresh (c / 4096) (r / 65) (entries-most r register_fits) })
