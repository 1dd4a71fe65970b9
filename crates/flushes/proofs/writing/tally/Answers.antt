use Rattle.lists.proofs.Prelude.{⊎_elim, map, ◌≡◌, refl, sym, ap, ◌∙◌, ℕ, arith, rules, eq-eqb, ne_eqb, length, get_or, length-map, length-set, length-replicate, length-take-le, unmapped}
use mir.Syntax.{w16}
use mir.Val.{SFits}
use mir.Facts.{to_z-of_z}
use Rattle.lists.proofs.Stores.{sets_end}
use Rattle.state.specs.Views.{buffered, no_posting}
use Rattle.partitions.specs.Layout.{word_of}
use Rattle.outputs.proofs.Batches.{packing-turn, posting-fits}
use Rattle.flushes.proofs.Counting.{counting-start, counting-terms, counting-id, counting-few, counting-on}
use Rattle.flushes.proofs.writing.tally.Goals as goal

pub loop-i-init : goal.loop-i-init
loop-i-init c =
    let b = c.args.b in
    (search (unmapped, rules), ap length c.requires.3 ∙ length-replicate {A = ℕ} 1024 0, counting-start b.postings b.used c.args.counts.now c.requires.3, c.requires.4, refl)

pub pack-requires : goal.pack-requires
pack-requires c =
    let b = c.args.b in
    let len = c.loop-i.invariant.0 in
    let z = (get_or b.postings c.loop-i.i no_posting).count in
    let f : SFits w16 z = search rules in
    rw (to_z-of_z f) (posting-fits b.postings b.used c.loop-i.i (omega (arith, c.requires.0)) c.loop-i-test.true c.requires.2)

pub bounds-content-i : goal.bounds-content-i
bounds-content-i c =
    omega (arith, c.loop-i.invariant.3, c.requires.0, c.loop-i-test.true)

pub bounds-counts-id : goal.bounds-counts-id
bounds-counts-id c =
    let b = c.args.b in
    let v = c.loop-i.invariant in
    omega (arith, v.1, counting-id b.postings b.used (omega (arith, v.0, c.requires.0)) c.loop-i.counts c.loop-i.terms c.loop-i.i v.2 c.requires.1 c.loop-i-test.true)

pub overflow_add-terms : goal.overflow_add-terms
overflow_add-terms c =
    let b = c.args.b in
    let v = c.loop-i.invariant in
    omega (arith, c.requires.0, v.2.most, counting-terms b.postings b.used (omega (arith, v.0, c.requires.0)) c.loop-i.counts c.loop-i.terms c.loop-i.i v.2)

pub overflow_add-counts : goal.overflow_add-counts
overflow_add-counts c =
    let b = c.args.b in
    let v = c.loop-i.invariant in
    omega (arith, c.requires.0, v.2.most, counting-few b.postings b.used (omega (arith, v.0, c.requires.0)) c.loop-i.counts c.loop-i.terms c.loop-i.i v.2 c.requires.1 c.loop-i-test.true)

pub bounds-counts-id-in-loop-i : goal.bounds-counts-id-in-loop-i
bounds-counts-id-in-loop-i c =
    let b = c.args.b in
    let v = c.loop-i.invariant in
    omega (arith, v.1, counting-id b.postings b.used (omega (arith, v.0, c.requires.0)) c.loop-i.counts c.loop-i.terms c.loop-i.i v.2 c.requires.1 c.loop-i-test.true)

pub loop-i-preserved : goal.loop-i-preserved
loop-i-preserved c =
    let b = c.args.b in
    let v = c.loop-i.invariant in
    let h = c.loop-i-test.true in
    let z = (get_or b.postings c.loop-i.i no_posting).count in
    let f : SFits w16 z = search rules in
    let g = counting-on b.postings b.used (omega (arith, v.0, c.requires.0)) c.loop-i.counts c.loop-i.terms c.loop-i.i v.2 c.requires.1 h in
    ⊎_elim
    (λ w. rw w.terms-is (v.0, rw length-set v.1, rw (eq-eqb _ 0 w.if-count-eq0.true) at g, rw length-set v.3, v.4 ∙ packing-turn b.postings b.used c.loop-i.i (omega (arith, v.0, c.requires.0)) h c.loop-i.content ∙ rw (c.pack.ensures, to_z-of_z f)))
    (λ w. rw w.terms-is (v.0, rw length-set v.1, rw (ne_eqb _ 0 w.if-count-eq0.false) at g, rw length-set v.3, v.4 ∙ packing-turn b.postings b.used c.loop-i.i (omega (arith, v.0, c.requires.0)) h c.loop-i.content ∙ rw (c.pack.ensures, to_z-of_z f)))
    c.if-count-eq0.branch-raw

pub shape_of-counts : goal.shape_of-counts
shape_of-counts c = c.loop-i.invariant.1 ∙ sym (ap length c.requires.3 ∙ length-replicate {A = ℕ} 1024 0)

pub shape_of-content : goal.shape_of-content
shape_of-content c = c.loop-i.invariant.3 ∙ sym c.requires.4

pub returns : goal.returns
returns c =
    let b = c.args.b in
    let v = c.loop-i.invariant in
    let e : c.loop-i.i ≡ b.used = omega (arith, v.2.most, c.loop-i-test.false) in
    let l : length (map word_of (buffered b)) ≡ b.used = length-map (buffered b) word_of ∙ length-take-le b.used b.postings (omega (arith, v.0, c.requires.0)) in
    (rw e at v.2.told, rw e at v.2.counts, sym (v.4 ∙ sets_end c.loop-i.content c.loop-i.i (map word_of (buffered b)) c.loop-i.i (omega (arith, e, l))))
