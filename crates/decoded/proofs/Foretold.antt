-- What a forecast tells is what the plan's calls come to, each made on the bytes that the one before left.
use Rattle.lists.proofs.Prelude.{true, List, ◌≡◌, refl, sym, ap, ◌∙◌, subst, ℕ, ◌/◌, ◌≤◌, length}
use Rattle.words.specs.Words.{words}
use Rattle.answers.specs.Answers.{Outcome, leave}
use Rattle.state.specs.declared.Lengths.{Lengths}
use Rattle.state.specs.Probe.{Probe}
use Rattle.state.specs.Levels.{of_level}
use Rattle.recordings.specs.Recording.{recording_rule, recorded}
use Rattle.forecasts.specs.Plan.{Planned, Placed, opening, counting, closing, plan_calls}
use Rattle.forecasts.specs.Course.{follow}
use Rattle.forecasts.proofs.Alike as course
use Rattle.engine.specs.Calls.{Forecast, planned_call, probe_gauge, probe_call}
use Rattle.accounts.specs.Account.{blocks_in}
use Rattle.accounts.specs.Books.{Books, books_gauge, planned_in}
use Rattle.accounts.specs.Lists.{Lists, lists_gauge, planned_lists, pursued}
use Rattle.accounts.proofs.Stored.{level_of}
use Rattle.accounts.proofs.Agree.{Stands, planned-agree, follow-alike}
use Rattle.decoded.proofs.Holds.{Stored}
use Rattle.decoded.proofs.Unused.{finished-is}
use Rattle.decoded.proofs.Flushing.{Same, both_refuse, both_leave, level-is}
use Rattle.decoded.proofs.Forecasts.{forecast-is}
use Rattle.decoded.proofs.Simulated.{fine-stored, lists-pursued, call-simulated, Left}

module _ (ls : Lengths) (small : ls.register / 65 ≤ 1024) where
  abbrev n : ℕ
  n = ls.card / 4096

  abbrev m : ℕ
  m = ls.register / 65

  -- a plan's call on bytes is that on lists
  planned-simulated : (p : Probe) (e : Lists) (b : Books) → Stored ls p e → Stands n m small e b → (c : Planned) → Same (Stored ls) (probe_call p (planned_call c)) (planned_lists n m e c)
  planned-simulated p e b k s c =
      subst (λ (o : Outcome Lists). Same (Stored ls) (probe_call p (planned_call c)) o) (lists-pursued ls small e b s (planned_call c) ∙ same c) (call-simulated ls small p e b k s (planned_call c))
    where
      same : (c : Planned) → pursued n m e (planned_call c) ≡ planned_lists n m e c
      same opening = unfold pursued in refl
      same (counting x) = unfold pursued in refl
      same closing = unfold pursued in refl

  -- bytes that hold lists which stand for ledger and account, with a call made on all three
  both_left : {o : Outcome Probe} {q : Outcome Lists} {r : Outcome Books} → Same (Stored ls) o q → course.Agree (Stands n m small) q r → course.Agree (Left ls small) o r
  both_left both_refuse course.both_refuse = course.both_refuse
  both_left (both_leave k) (course.both_leave s) = course.both_leave (record { lists = _; stored = k; stands = s })

  left-level : (p : Probe) (b : Books) → Left ls small p b → course.Level probe_gauge books_gauge p b
  left-level p b x =
      let fine = fine-stored ls small p x.lists b x.stored x.stands in
      record {
        low = level-is p.state p.card x.lists x.stored.holds fine 0 ∙ ap (λ (e : Lists). of_level level_of 0 e.account.partitions) x.stands.same;
        blocks = finished-is p.state (words p.card) x.lists x.stored.holds fine.parts ∙ ap (λ (e : Lists). blocks_in e.account) x.stands.same;
        entries = ap length x.stored.names ∙ ap (λ (e : Lists). length e.names) x.stands.same;
      }

  -- a plan comes to the same on bytes as on ledger and account
  follow-left : (cs : List Placed) (p : Probe) (b : Books) → Left ls small p b
      → follow probe_gauge (λ q c. probe_call q (planned_call c)) 0 p cs ≡ follow books_gauge (λ d c. planned_in n m d.ledger d.account c) 0 b cs
  follow-left cs p b x =
      course.follow-same probe_gauge books_gauge _ _ (Left ls small) left-level
      (λ q d y c. both_left (planned-simulated q y.lists d y.stored y.stands c) (planned-agree n m small y.lists d y.stands c))
      cs 0 p b x

  pub really : (p : Probe) (b : Books) → Left ls small p b → (plan counts : List ℕ) → recording_rule plan counts ≡ true
      → probe_call p (Forecast plan counts) ≡ leave (follow probe_gauge (λ q c. probe_call q (planned_call c)) 0 p (plan_calls (recorded plan counts))) p
  really p b x plan counts rule =
      forecast-is p e x.stored (fine-stored ls small p e b x.stored x.stands) plan counts rule
      ∙ ap (λ (l : Lengths). leave (follow lists_gauge (planned_lists (l.card / 4096) (l.register / 65)) 0 e cs) p) x.stored.sized
      ∙ ap (λ y. leave y p) (follow-alike n m small cs e b x.stands ∙ sym (follow-left cs p b x))
    where
      e : Lists
      e = x.lists

      cs : List Placed
      cs = plan_calls (recorded plan counts)
