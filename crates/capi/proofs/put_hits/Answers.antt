use Rattle.lists.proofs.Prelude.{◌≡◌, refl, sym, ◌∙◌, ◌-◌, arith, rules, length, get_or, take, get_or-take, length-take-le, unmapped}
use Rattle.words.specs.Words.{words}
use Rattle.words.proofs.Views.{length-words}
use Rattle.ranking.specs.Top.{no_hit, listed_hits}
use Rattle.capi.proofs.Places.{hits-turn, hits-end, put-bytes}
use Rattle.capi.proofs.put_hits.Goals as goal

pub loop-i-init : goal.loop-i-init
loop-i-init c = (search (unmapped, rules), refl, refl, refl, λ i. omega (arith, c.slice_known-1.given i))

pub put_word-requires : goal.put_word-requires
put_word-requires c = omega (arith, length-words c.loop-i.hits)

pub put_word-requires-in-loop-i : goal.put_word-requires-in-loop-i
put_word-requires-in-loop-i c = omega (arith, length-words c.put_word.new.bytes, c.put_word.auto.bytes)

pub loop-i-preserved : goal.loop-i-preserved
loop-i-preserved c =
    let v = c.loop-i.invariant in
    let t = c.args.t in
    let w = c.put_word in
    let x = c.put_word-in-loop-i in
    let h : get_or (take t.used t.hits) c.loop-i.i no_hit ≡ get_or t.hits c.loop-i.i no_hit = get_or-take t.used t.hits c.loop-i.i no_hit (omega arith) in
    let few : length (listed_hits t) ≡ t.used = length-take-le t.used t.hits (omega (arith, v.0)) in
    let q : length (words w.new.bytes) ≡ length (words c.args.hits.now) = omega (arith, length-words w.new.bytes, length-words c.args.hits.now, w.auto.bytes, v.1) in
    let q' : length (words c.loop-i.hits) ≡ length (words c.args.hits.now) = omega (arith, length-words c.loop-i.hits, length-words c.args.hits.now, v.1) in (
      v.0,
      x.auto.bytes ∙ w.auto.bytes ∙ v.1,
      v.2 ∙ hits-turn (words c.loop-i.hits) (listed_hits t) c.loop-i.i no_hit (omega (arith, few)) ∙ rw (x.ensures.put, w.ensures.put, h),
      (rw q at x.ensures.rest) ∙ (rw q' at w.ensures.rest) ∙ v.3,
      λ i. omega (arith, c.slice_known-in-loop-i-2-1.given i),
    )

pub shape_of-hits : goal.shape_of-hits
shape_of-hits c = c.loop-i.invariant.1

pub returns : goal.returns
returns c =
    let t = c.args.t in
    let v = c.loop-i.invariant in
    let few : length (listed_hits t) ≡ t.used = length-take-le t.used t.hits (omega (arith, v.0)) in (
      put-bytes c.args.hits.now c.loop-i.hits (λ i. omega (arith, c.slice_known-1.given i)) v.4 (listed_hits t) (omega (arith, few)) v.1
          (sym (v.2 ∙ hits-end (words c.loop-i.hits) (listed_hits t) c.loop-i.i (omega (arith, few)))) v.3,
      v.0,
    )
