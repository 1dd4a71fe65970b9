use Rattle.lists.proofs.Prelude.{map, ◌≡◌, refl, ap, ◌∙◌, ◌<◌, ◌≤◌, ◌-◌, ◌+◌, ◌*◌, arith, length, drop, length-drop, length-take, length-take-le, of_at}
use Rattle.words.specs.Words.{words}
use Rattle.postings.specs.Pack.{posted}
use Rattle.postings.specs.Sums.{under}
use Rattle.state.specs.Views.{no_partition, finished}
use Rattle.partitions.specs.Reading.{postings_of}
use Rattle.partitions.specs.Terms.{Readable}
use Rattle.kway.proofs.Parts.{put-length}
use Rattle.heads.specs.Heads.{Kept}
use Rattle.terms.specs.Opening.{listed}
use Rattle.terms.proofs.Puts.{place-lies, place-comes, put_first, put_next}
use Rattle.terms.proofs.opening.open_lists.Goals as goal

pub loop-i-init : goal.loop-i-init
loop-i-init c = record { long = refl; put = put_first _ _ _ _ _ }

pub find_list-c-requires : goal.find_list-c-requires
find_list-c-requires c =
    rw c.finished-p-items.ensures (of_at (Readable (words c.args.card.now)) no_partition (finished c.args.ps) c.loop-i.i (rw (← c.finished-p-items.ensures) c.loop-i-test.true) c.requires.2)

pub put-requires : goal.put-requires
put-requires c =
    let W = words c.args.card.now in
    let i = c.loop-i.i in
    let l = c.find_list-c in
    let w : 4 * i + 4 - 4 * i ≡ 4 = omega arith in
    let few : i < length (finished c.args.ps) = rw (← c.finished-p-items.ensures) c.loop-i-test.true in
    let len = length-take-le 4 (drop (4 * i) c.loop-i.heads) (omega (arith, length-drop (4 * i) c.loop-i.heads, length-take c.args.ps.used c.args.ps.records, c.loop-i.invariant.long, c.requires.1)) in
    (rw w len, place-lies W c.args.run.now l.result l.ensures.1)

pub loop-i-preserved : goal.loop-i-preserved
loop-i-preserved c =
    let W = words c.args.card.now in
    let R = c.args.run.now in
    let v = c.loop-i.invariant in
    let i = c.loop-i.i in
    let l = c.find_list-c in
    let p = c.put in
    let h = p.ensures in
    let few : i < length (finished c.args.ps) = rw (← c.finished-p-items.ensures) c.loop-i-test.true in
    let inside : 4 * i + 4 ≤ length c.loop-i.heads = omega (arith, length-take c.args.ps.used c.args.ps.records, v.long, c.requires.1) in
    let found = rw c.finished-p-items.ensures at l.ensures.0 in
    let same = ap (map (posted c.args.id)) (h.1 ∙ place-comes W R l.result l.ensures.1) ∙ found in
    record {
      long = put-length 4 c.loop-i.heads p.new.head i inside h.0.four ∙ v.long;
      put = put_next (Kept W R) (listed W R c.args.id) (λ p. under c.args.id (postings_of W p)) i c.loop-i.heads p.new.head (finished c.args.ps) no_partition v.put inside h.0.four few h.0 same;
    }
