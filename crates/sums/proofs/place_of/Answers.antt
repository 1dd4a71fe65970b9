-- `sums::place_of` meets its contract.
use Rattle.std.specs.Prelude.{Some, None, unwrap_or}
use Rattle.std.specs.List.{position_or_len}
use Rattle.std.proofs.Common.{rules, tests}
use Rattle.std.proofs.lemmas.Iterator.{YieldsList-from_slice}
use Rattle.std.proofs.lemmas.Iterator.Search.{position_from_yields_List}
use Rattle.lists.proofs.Prelude.{cond, ◌≡◌, ap, ◌∙◌, ℕ, ◌≤◌, arith, ltb, eqb, length, ltb-false, by-test}
use Rattle.sums.proofs.Slots.{place-first, place-most}
use Rattle.sums.proofs.place_of.Goals as goal

found_or : (n p : ℕ) → p ≤ n → unwrap_or (cond (ltb p n) (Some p) None) n ≡ p
found_or n p h = by-test (ltb p n) (λ y. rw y) (λ f. let g = ltb-false p n f in rw f (omega arith))

pub returns : goal.returns
returns c =
    let ws = c.args.windows.now in
    let w = c.args.window in
    let most : position_or_len (λ v. eqb v w) ws ≤ length ws = rw (place-first w ws) (place-most w ws) in
    let found = position_from_yields_List (λ v. eqb v w) _ _ c.position-found.result c.position-found.ensures.ran (YieldsList-from_slice _ c.iter.ensures.rest) (λ x b q k. search (rules, tests)) in
    c.unwrap_or.ensures ∙ ap (λ r. unwrap_or r (length ws)) found ∙ found_or (length ws) _ most ∙ place-first w ws
