-- `terms::judging::judge_window` meets its contract: what is taken of the lists, and then of the run.
use Rattle.lists.proofs.Prelude.{◌&&◌, ◌≡◌, sym, ap, ap₂, ◌∙◌, ◌+◌, ◌-◌, ◌*◌, ◌≤◌, arith, ◌+ℤ◌, length, length-take-le, rules}
use mir.Facts.{to_z-of_z}
use mir.Syntax.{w16, w32}
use mir.Val.{SFits}
use Rattle.words.specs.Words.{words}
use Rattle.postings.specs.Sums.{above}
use Rattle.partitions.specs.Formed.{in_range}
use Rattle.kway.specs.Parts.{part}
use Rattle.heads.specs.Heads.{view, views}
use Rattle.terms.proofs.Steps.{top-step, fine-step, counts_step}
use Rattle.terms.proofs.Fronts.{parts-take, between-part, after-long, after-parts, after-part, after-ready, after_both}
use Rattle.terms.proofs.judging.judge_window.Goals as goal

pub take_led-t-requires : goal.take_led-t-requires
take_led-t-requires c =
    let n = c.args.n in
    let H = c.args.heads.now in
    let z : 4 * n - 0 ≡ 4 * n = omega arith in
    let fits : 4 * n ≤ length H = omega (arith, c.requires.0) in
    let l = length-take-le (4 * n) H fits in
    rw (z, parts-take 4 n H fits) (omega arith, omega (arith, c.requires.1), c.requires.2, c.requires.3.lists, c.requires.4)

pub took-q-requires : goal.took-q-requires
took-q-requires c =
    let n = c.args.n in
    let H = c.args.heads.now in
    let t = c.take_led-t in
    let w : 4 * n + 4 - 4 * n ≡ 4 = omega arith in
    let z : 4 * n - 0 ≡ 4 * n = omega arith in
    let l = length-take-le (4 * n) H (omega (arith, c.requires.0)) in
    let front : length t.new.heads ≡ 4 * n = t.ensures.heads.0 ∙ rw z l in
    (rw (w, between-part n H t.new.heads c.requires.0 front) c.requires.3.run, c.requires.2)

pub added-total-requires : goal.added-total-requires
added-total-requires c =
    let t = c.take_led-t in
    let fs : SFits w32 t.result.sum = search rules in
    rw (to_z-of_z fs) (omega (arith, t.ensures.taken.3, c.requires.1))

pub returns : goal.returns
returns c =
    let W = words c.args.card.now in
    let R = c.args.run.now in
    let n = c.args.n in
    let k = c.args.key in
    let H = c.args.heads.now in
    let t = c.take_led-t in
    let q = c.took-q in
    let w : 4 * n + 4 - 4 * n ≡ 4 = omega arith in
    let z : 4 * n - 0 ≡ 4 * n = omega arith in
    let fits : 4 * n ≤ length H = omega (arith, c.requires.0) in
    let l = length-take-le (4 * n) H fits in
    let X = t.new.heads in
    let Y = q.new.head in
    let front : length X ≡ 4 * n = t.ensures.heads.0 ∙ rw z l in
    let tt = rw (z, parts-take 4 n H fits) at t.ensures in
    let qq = rw (w, between-part n H X c.requires.0 front) at q.ensures in
    let four = qq.0.four in
    let fs : SFits w32 t.result.sum = search rules in
    let fq : SFits w16 q.result.count = search rules in
    let a = c.added-total in
    let ft : SFits w32 a.result = record { sfits = a.type_inv } in
    let zt = to_z-of_z ft in
    let total = a.ensures ∙ ap₂ ◌+ℤ◌ (to_z-of_z fs) (to_z-of_z fq ∙ qq.2) in
    let g = views W R n H in
    let v = view W R (part 4 n H) in
    record {
      heads = (after-long n H X Y c.requires.0 front four, after-ready n H X Y c.requires.0 front four W R k tt.heads.1 qq.0, after_both n H X Y c.requires.0 front four W R k tt.heads.2 qq.1);
      judged = (
        ap₂ ◌&&◌ (ap₂ ◌&&◌ tt.taken.1 qq.3) (ap₂ ◌&&◌ (c.in_range.ensures ∙ ap in_range (to_z-of_z fs)) (c.in_range-2.ensures ∙ ap in_range zt))
            ∙ fine-step g v k t.result.sum a.result tt.taken.0 total,
        c.above-count.ensures ∙ ap above zt ∙ counts_step g v k t.result.sum a.result tt.taken.0 total,
        rw (after-parts n H X Y c.requires.0 front four, after-part n H X Y c.requires.0 front four) (sym (top-step (views W R n X) (view W R Y) t.result.next q.result.reach _ tt.taken.2 qq.4 c.max.ensures)),
      );
      lead = rw (after-parts n H X Y c.requires.0 front four) tt.lead;
    }
