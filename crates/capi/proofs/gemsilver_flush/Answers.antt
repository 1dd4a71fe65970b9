-- `capi::gemsilver_flush` meets its contract.
use Rattle.lists.proofs.Prelude.{arith}
use Rattle.flushes.specs.Flush.{flush_of}
use Rattle.flushes.proofs.Refused.{flush-unchanged}
use Rattle.capi.specs.Exports.{flush_on}
use Rattle.capi.proofs.Carried.{no-image, is-image, image-long, on_store}
use Rattle.capi.proofs.gemsilver_flush.Goals as goal

pub returns-then-not-image_ok : goal.returns-then-not-image_ok
unfolding flush_on
returns-then-not-image_ok c = no-image _ _ _ c.image_ok.ensures c.if-not-image_ok.true-raw

pub read_state-s-requires : goal.read_state-s-requires
read_state-s-requires c = is-image _ c.image_ok.ensures c.if-not-image_ok.false-raw

pub settle-requires : goal.settle-requires
settle-requires c = image-long _ c.image_ok.ensures c.if-not-image_ok.false-raw

pub returns : goal.returns
unfolding flush_on
returns c =
    on_store _ c.image_ok.ensures c.if-not-image_ok.false-raw (λ i. omega (arith, c.slice_known-1.given i))
    _ c.read_state-s.ensures c.settle.ensures flush_of flush-unchanged c.flush-r.ensures
