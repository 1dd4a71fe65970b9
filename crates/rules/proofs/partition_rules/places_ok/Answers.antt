use Rattle.lists.proofs.Prelude.{refl, ap, ◌∙◌, leb, drop, rules}
use borrow.Author.Tests.{tests}
use Rattle.std.proofs.lemmas.Iterator.{YieldsList-from_slice}
use Rattle.std.proofs.lemmas.Iterator.Search.{all_from_yields_List}
use Rattle.std.proofs.lemmas.Slice.{between_to_end}
use Rattle.std.proofs.lemmas.Fn.{always_returns_same}
use borrow.Author.Rules.{of_calls}
use Rattle.state.specs.Views.{finished}
use Rattle.state.specs.Rules.{never_rise, record_rule, unused_record}
use Rattle.rules.proofs.Places.{rise-next, near-answer}
use Rattle.rules.proofs.partition_rules.places_ok.Goals as goal

pub returns : goal.returns
returns c =
    let p = c.args.p in
    let n = near-answer never_rise (λ p q. leb q.level p.level) refl (λ x. refl) rise-next c.finished-used.result.now c.is_sorted_by.result (c.is_sorted_by.ensures.cases (λ p q. leb q.level p.level) (always_returns_same _ _ _ (λ a r f k. search (rules, of_calls)))) ∙ ap never_rise c.finished-used.ensures in
    let a = all_from_yields_List (record_rule c.args.blocks) _ _ c.all.result c.all.ensures.ran (YieldsList-from_slice (finished p) cc) (λ x b q k. search (rules, tests)) in
    let b = all_from_yields_List unused_record _ _ c.all-2.result c.all-2.ensures.ran (YieldsList-from_slice (drop p.used p.records) (search (rules, between_to_end))) (λ x b q k. search (rules, tests)) in
    rw (n, a, b)
