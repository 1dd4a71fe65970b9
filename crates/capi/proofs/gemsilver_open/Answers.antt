-- `capi::gemsilver_open` meets its contract.
use Rattle.lists.proofs.Prelude.{arith}
use Rattle.windows.specs.Calls.{open_of}
use Rattle.windows.proofs.Refused.{open-unchanged}
use Rattle.capi.specs.Exports.{open_on}
use Rattle.capi.proofs.Carried.{no-image, is-image, image-long, on-state}
use Rattle.capi.proofs.gemsilver_open.Goals as goal

pub returns-then-not-image_ok : goal.returns-then-not-image_ok
unfolding open_on
returns-then-not-image_ok c = no-image _ _ _ c.image_ok.ensures c.if-not-image_ok.true-raw

pub read_state-s-requires : goal.read_state-s-requires
read_state-s-requires c = is-image _ c.image_ok.ensures c.if-not-image_ok.false-raw

pub settle_open-requires : goal.settle_open-requires
settle_open-requires c = image-long _ c.image_ok.ensures c.if-not-image_ok.false-raw

pub returns : goal.returns
unfolding open_on
returns c =
    on-state _ c.image_ok.ensures c.if-not-image_ok.false-raw (λ i. omega (arith, c.slice_known-1.given i))
    _ c.read_state-s.ensures c.settle_open.ensures open_of open-unchanged c.open-r.ensures
