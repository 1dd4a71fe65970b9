-- No history of calls from a fresh card is answered otherwise by the engine on lists than by ledger and account; and what holds after every history.
use Rattle.lists.proofs.Prelude.{true, List, [], ◌∷◌, ◌≡◌, refl, sym, ap₂, subst, ℕ, ◌≤◌, down}
use Rattle.answers.specs.Answers.{Outcome, answer_of, state_of}
use Rattle.engine.specs.Calls.{Call, run, afterwards}
use Rattle.accounts.specs.Account.{empty_account}
use Rattle.accounts.specs.Ledger.{empty_ledger, shown, existing}
use Rattle.accounts.specs.Books.{Books, books_call, expected}
use Rattle.accounts.specs.Lists.{Lists, no_lists, lists_rule, call_rule, lists_call, lists_answers}
use Rattle.accounts.proofs.Kept.{kept-empty}
use Rattle.accounts.proofs.Sound.{rules-hold, call-formed}
use Rattle.accounts.proofs.Agree.{Alike, both_refuse, both_leave, Stands, call-alike}

module _ (blocks entries : ℕ) (small : entries ≤ 1024) where
  pub stands-fresh : Stands blocks entries small no_lists (record { ledger = empty_ledger; account = empty_account })
  stands-fresh = record { same = unfold no_lists empty_ledger existing shown down in refl; kept = kept-empty blocks entries }

  -- what two outcomes that are alike answer and leave
  answered-alike : (e : Lists) (b : Books) (o : Outcome Lists) (q : Outcome Books) → Stands blocks entries small e b → Alike blocks entries o q → (answer_of o ≡ answer_of q) × Stands blocks entries small (state_of e o) (state_of b q)
  answered-alike e b o q s both_refuse = (refl, s)
  answered-alike e b o q s (both_leave p k) = (refl, record { same = p; kept = k })

  -- one call
  pub call_same : (e : Lists) (b : Books) → Stands blocks entries small e b → (c : Call)
      → (answer_of (lists_call blocks entries e c) ≡ answer_of (books_call blocks entries b c)) × Stands blocks entries small (state_of e (lists_call blocks entries e c)) (state_of b (books_call blocks entries b c))
  call_same e b s c =
      answered-alike e b _ _ s
      (subst (λ x. Alike blocks entries (lists_call blocks entries x c) (books_call blocks entries b c)) (sym s.same) (call-alike blocks entries small b.ledger b.account s.kept c))

  -- it is refused with neither 1 nor 3
  pub call-sound : (e : Lists) (b : Books) → Stands blocks entries small e b → (c : Call) → (lists_rule blocks e ≡ true) × (call_rule e c ≡ true)
  call-sound e b s c =
      subst (λ x. (lists_rule blocks x ≡ true) × (call_rule x c ≡ true)) (sym s.same)
      (rules-hold blocks entries b.ledger b.account s.kept small, call-formed blocks entries b.ledger b.account s.kept c)

  -- lists of calls
  runs_same : (cs : List Call) (e : Lists) (b : Books) → Stands blocks entries small e b → run (lists_call blocks entries) e cs ≡ run (books_call blocks entries) b cs
  unfolding run
  runs_same [] e b s = refl
  runs_same (c ∷ cs) e b s = let r = call_same e b s c in ap₂ ◌∷◌ r.0 (runs_same cs _ _ r.1)

  -- what is there afterwards
  pub stands_after : (cs : List Call) (e : Lists) (b : Books) → Stands blocks entries small e b → Stands blocks entries small (afterwards (lists_call blocks entries) e cs) (afterwards (books_call blocks entries) b cs)
  unfolding afterwards
  stands_after [] e b s = s
  stands_after (c ∷ cs) e b s = stands_after cs _ _ (call_same e b s c).1

  -- the history theorem on lists: every list of calls is answered as ledger and account say
  pub same-answers : (cs : List Call) → lists_answers blocks entries cs ≡ expected blocks entries cs
  unfolding lists_answers expected
  same-answers cs = runs_same cs _ _ stands-fresh
