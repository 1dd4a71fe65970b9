use Rattle.lists.proofs.Prelude.{List, ℕ, Bool, true, false, ◌||◌, ◌≡◌, sym, ◌∙◌, ◌-◌, arith, get_or, ltb, rising}
use Rattle.words.specs.Words.{words}
use Rattle.words.proofs.Views.{length-words}
use Rattle.images.specs.Images.{wide, fits}
use Rattle.images.proofs.Fits.{fits-turn, image-whole, image-short}
use Rattle.images.proofs.image_ok.Goals as goal

pub returns-then-image-ne-BYTES : goal.returns-then-image-ne-BYTES
returns-then-image-ne-BYTES c = sym (image-short _ c.if-image-ne-BYTES.true)

pub loop-at-init : goal.loop-at-init
loop-at-init c = image-whole _ c.if-image-ne-BYTES.false

pub word_at-requires : goal.word_at-requires
word_at-requires c = omega (arith, length-words c.args.image.now)

-- what the test at hand says
tested : (image : List ℕ) (at : ℕ) (w : Bool) (v : ℕ) → w ≡ wide at → v ≡ get_or (words image) at 0 → (b : Bool) → (w || ltb v 65536) ≡ b → fits (words image) at ≡ b
tested image at w v d e b h = rw (d, e) at h

pub returns-then-not-is_wide-word_at : goal.returns-then-not-is_wide-word_at
returns-then-not-is_wide-word_at c =
    let h = tested c.args.image.now c.loop-at.at _ _ c.is_wide.ensures c.word_at.ensures false c.if-not-is_wide-word_at.true in
    sym (c.loop-at.invariant ∙ rw (fits-turn (fits (words c.args.image.now)) c.loop-at.at c.loop-at-test.true, h))

pub loop-at-preserved : goal.loop-at-preserved
loop-at-preserved c =
    let h = tested c.args.image.now c.loop-at.at _ _ c.is_wide.ensures c.word_at.ensures true c.if-not-is_wide-word_at.false in
    c.loop-at.invariant ∙ rw (fits-turn (fits (words c.args.image.now)) c.loop-at.at c.loop-at-test.true, h)

pub returns : goal.returns
unfolding rising
returns c = let e : 716 - c.loop-at.at ≡ 0 = omega arith in sym (rw e at c.loop-at.invariant)
