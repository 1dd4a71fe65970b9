-- `capi::gemsilver_query` meets its contract.
use Rattle.lists.proofs.Prelude.{not, map, sym, ap, ◌∙◌, arith, not-false}
use Rattle.windows.specs.Promises.{probe_of}
use Rattle.numbers.specs.Images.{state_on}
use Rattle.capi.specs.Queries.{query_on}
use Rattle.capi.proofs.Places.{tells-stopped, tells-passed, on-query}
use Rattle.capi.proofs.gemsilver_query.Goals as goal

pub returns-then-not-image_ok : goal.returns-then-not-image_ok
unfolding query_on
returns-then-not-image_ok c = tells-stopped _ _ 1 _ (ap not (sym c.image_ok.ensures) ∙ c.if-not-image_ok.true-raw)

pub read_state-s-requires : goal.read_state-s-requires
read_state-s-requires c = sym c.image_ok.ensures ∙ not-false _ c.if-not-image_ok.false-raw

pub returns : goal.returns
unfolding query_on
returns c =
    let s = c.args in
    let read = c.read_state-s.ensures in
    let r = c.search-r in
    let w = c.put_hits.ensures in
    let g = on-query (probe_of (state_on s.image.now) s.card.now s.register.now) (record { first = s.first; last = s.last }) (map (λ x. x.now) s.ids.now) s.hits.now (λ i. omega (arith, c.slice_known-1.given i)) r.result.answer r.result.top w.1 (rw read at r.ensures) in
    tells-passed _ _ 1 _ _ _ (ap not (sym c.image_ok.ensures) ∙ c.if-not-image_ok.false-raw)
    (rw (c.found_number.ensures, w.0) g)
