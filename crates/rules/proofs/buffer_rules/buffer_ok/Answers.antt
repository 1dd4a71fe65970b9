use Rattle.lists.proofs.Prelude.{refl, ap, ◌∙◌, drop, rules, le-leb, lt-leb}
use borrow.Author.Tests.{tests}
use borrow.Author.Rules.{of_calls}
use Rattle.std.proofs.lemmas.Fn.{always_returns_same}
use Rattle.std.proofs.lemmas.Iterator.{YieldsList-from_slice}
use Rattle.std.proofs.lemmas.Iterator.Search.{all_from_yields_List}
use Rattle.std.proofs.lemmas.Slice.{between_to_end}
use Rattle.postings.specs.Order.{precedes, ordered}
use Rattle.postings.proofs.Order.{ordered-next}
use Rattle.state.specs.Views.{buffered}
use Rattle.state.specs.Rules.{posting_rule, unused_posting, buffer_rule}
use Rattle.rules.proofs.Places.{near-answer}
use Rattle.rules.proofs.buffer_rules.buffer_ok.Goals as goal

pub returns-then-b-gt128 : goal.returns-then-b-gt128
unfolding buffer_rule
returns-then-b-gt128 c = rw (lt-leb _ _ c.if-b-gt128.true)

pub returns : goal.returns
unfolding buffer_rule
returns c =
    let b = c.args.b in
    let n = near-answer ordered precedes refl (λ x. refl) ordered-next c.buffered-used.result.now c.is_sorted_by.result (c.is_sorted_by.ensures.cases precedes (always_returns_same _ _ _ (λ a r f k. search (rules, of_calls)))) ∙ ap ordered c.buffered-used.ensures in
    let a = all_from_yields_List (posting_rule c.args.w) _ _ c.all.result c.all.ensures.ran (YieldsList-from_slice (buffered b) cc) (λ x b q k. search (rules, tests)) in
    let u = all_from_yields_List unused_posting _ _ c.all-2.result c.all-2.ensures.ran (YieldsList-from_slice (drop b.used b.postings) (search (rules, between_to_end))) (λ x b q k. search (rules, tests)) in
    rw (le-leb _ _ c.if-b-gt128.false, n, a, u)
