use Rattle.lists.proofs.Prelude.{Bool, ◌&&◌, ◌≡◌, ℤ, sym, ◌∙◌, arith, not-true, not-false}
use mir.Facts.{to_z-of_z}
use mir.Syntax.{w32}
use mir.Val.{SFits, to_z, of_z}
use Rattle.postings.specs.Pack.{packed}
use Rattle.partitions.specs.Formed.{in_range}
use Rattle.scans.specs.Keys.{key_id}
use Rattle.sums.proofs.Keeps.{kept_out, kept-zero, kept_full, kept_more, total-small, total-fits, zero_word, nonzero-word}
use Rattle.sums.proofs.keep_total.Goals as goal

-- both sums are in range, as the code tests it
fits : {y z : ℤ} {a b : Bool} → SFits w32 y → SFits w32 z → a ≡ in_range (to_z w32 (of_z w32 y)) → b ≡ in_range (to_z w32 (of_z w32 z)) → (a && b) ≡ (in_range y && in_range z)
fits f g p q = rw (p, q, to_z-of_z f, to_z-of_z g)

pub returns-then-not-fits : goal.returns-then-not-fits
returns-then-not-fits c =
    let tested = fits c.ranges.sum c.ranges.total c.in_range.ensures c.in_range-2.ensures in
    kept_out c.args.slot.now c.args.key c.args.sum c.args.total c.requires.0 (sym tested ∙ not-true _ c.if-not-fits.true-raw)

pub returns-then-total-eq0 : goal.returns-then-total-eq0
returns-then-total-eq0 c =
    let tested = fits c.ranges.sum c.ranges.total c.in_range.ensures c.in_range-2.ensures in
    kept-zero c.args.slot.now c.args.key c.args.sum c.args.total c.requires.0 (sym tested ∙ not-false _ c.if-not-fits.false-raw) (zero_word c.args.total c.ranges.total c.if-total-eq0.true)

pub returns-then-used-eq64 : goal.returns-then-used-eq64
returns-then-used-eq64 c =
    let tested = fits c.ranges.sum c.ranges.total c.in_range.ensures c.in_range-2.ensures in
    kept_full c.args.slot.now c.args.key c.args.sum c.args.total c.requires.0 (sym tested ∙ not-false _ c.if-not-fits.false-raw) (nonzero-word c.args.total c.if-total-eq0.false) (omega (arith, c.if-used-eq64.true))

pub overflow_cast-total : goal.overflow_cast-total
overflow_cast-total c =
    let tested = fits c.ranges.sum c.ranges.total c.in_range.ensures c.in_range-2.ensures in
    rw (to_z-of_z c.ranges.total) (total-fits c.args.slot.now c.args.key c.args.sum c.args.total c.requires.0 (sym tested ∙ not-false _ c.if-not-fits.false-raw))

pub pack-requires : goal.pack-requires
pack-requires c =
    let tested = fits c.ranges.sum c.ranges.total c.in_range.ensures c.in_range-2.ensures in
    let r = sym tested ∙ not-false _ c.if-not-fits.false-raw in
    rw (to_z-of_z c.ranges.total, to_z-of_z (total-fits c.args.slot.now c.args.key c.args.sum c.args.total c.requires.0 r)) (total-small c.args.slot.now c.args.key c.args.sum c.args.total c.requires.0 r)

pub returns : goal.returns
returns c =
    let tested = fits c.ranges.sum c.ranges.total c.in_range.ensures c.in_range-2.ensures in
    let l = c.args.slot.now in
    let t = c.args.total in
    let r = sym tested ∙ not-false _ c.if-not-fits.false-raw in
    let x : c.pack.result ≡ packed t (key_id c.args.key) =
    c.pack.ensures ∙ rw (c.key_id.ensures, to_z-of_z c.ranges.total, to_z-of_z (total-fits l c.args.key c.args.sum t c.requires.0 r)) in
    rw x (kept_more l c.args.key c.args.sum t c.requires.0 r (nonzero-word t c.if-total-eq0.false) (λ e. c.if-used-eq64.false (omega (arith, e))))
