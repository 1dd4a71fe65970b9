-- `capi::gemsilver_event` meets its contract.
use Rattle.lists.proofs.Prelude.{arith}
use Rattle.events.specs.Event.{event_of}
use Rattle.events.proofs.Refused.{event-unchanged}
use Rattle.capi.specs.Exports.{event_on}
use Rattle.capi.proofs.Carried.{no-image, is-image, image-long, on-probe}
use Rattle.capi.proofs.gemsilver_event.Goals as goal

pub returns-then-not-image_ok : goal.returns-then-not-image_ok
unfolding event_on
returns-then-not-image_ok c = no-image _ _ _ c.image_ok.ensures c.if-not-image_ok.true-raw

pub read_state-s-requires : goal.read_state-s-requires
read_state-s-requires c = is-image _ c.image_ok.ensures c.if-not-image_ok.false-raw

pub settle-requires : goal.settle-requires
settle-requires c = image-long _ c.image_ok.ensures c.if-not-image_ok.false-raw

pub returns : goal.returns
unfolding event_on
returns c =
    on-probe _ c.image_ok.ensures c.if-not-image_ok.false-raw (λ i. omega (arith, c.slice_known-1.given i))
    _ c.read_state-s.ensures c.settle.ensures (λ p. event_of p c.args.id.now) (λ p. event-unchanged p _) c.event-r.ensures
