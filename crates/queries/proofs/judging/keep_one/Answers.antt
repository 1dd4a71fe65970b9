-- `queries::judging::keep_one` meets its contract: five are kept, and one more.
use Rattle.std.specs.Prelude.{MatchOption}
use Rattle.std.specs.Bool.{then_some}
use Rattle.lists.proofs.Prelude.{Bool, true, false, ◌≡◌, sym, refl, ◌∙◌, ◌+◌, ◌*◌, ◌≤◌, arith, drop, length-drop, length-take-le}
use Rattle.words.specs.Words.{words}
use Rattle.kway.proofs.Parts.{ends, width}
use Rattle.queries.proofs.Gathering.{keeps-room, keeps-full}
use Rattle.queries.proofs.judging.keep_one.Goals as goal

told : {A : Type 0} (b f : Bool) (P : A → Type 0) (k : A) → b ≡ f → (f ≡ true → P k) → MatchOption (then_some b k) (f ≡ false) P
told true f P k e h = h (sym e)
told false f P k e h = sym e

pub returns-then-k-ge5 : goal.returns-then-k-ge5
returns-then-k-ge5 c =
    rw c.then_some.ensures
    (told c.judge_term-fine.result _ _ c.args.k c.judge_term-fine.ensures
    (λ f. record {
      fine = f;
      keeps = keeps-full (words c.args.card.now) c.args.run.now c.args.s c.args.t c.args.live c.args.k _ c.args.heads.now c.args.id c.if-k-ge5.true refl refl;
      used = c.requires.1;
      few = c.requires.2;
    }))

pub overflow_mul-at : goal.overflow_mul-at
overflow_mul-at c =
    let n = c.args.s.partitions.used in
    let e = ends (4 * (n + 1) + 4) c.args.k.used 5 (omega (arith, c.if-k-ge5.false)) in
    omega (arith, e, c.requires.0.room, c.requires.0.most)

pub overflow_add-end : goal.overflow_add-end
overflow_add-end c =
    let n = c.args.s.partitions.used in
    let e = ends (4 * (n + 1) + 4) c.args.k.used 5 (omega (arith, c.if-k-ge5.false)) in
    omega (arith, e, c.requires.0.room, c.requires.0.most)

pub offset_bounds-heads-at : goal.offset_bounds-heads-at
offset_bounds-heads-at c =
    let n = c.args.s.partitions.used in
    let e = ends (4 * (n + 1) + 4) c.args.k.used 5 (omega (arith, c.if-k-ge5.false)) in
    omega (arith, e, c.requires.0.room, c.requires.0.most)

pub slice_bounds-keep_term-end : goal.slice_bounds-keep_term-end
slice_bounds-keep_term-end c =
    let n = c.args.s.partitions.used in
    let e = ends (4 * (n + 1) + 4) c.args.k.used 5 (omega (arith, c.if-k-ge5.false)) in
    omega (arith, e, c.requires.0.room, c.requires.0.most)

pub keep_term-requires : goal.keep_term-requires
keep_term-requires c =
    let n = c.args.s.partitions.used in
    let e = ends (4 * (n + 1) + 4) c.args.k.used 5 (omega (arith, c.if-k-ge5.false)) in
    let u = c.args.k.used in
    let w = width (4 * (n + 1) + 4) u in
    let r = c.requires.0 in
    let H = c.args.heads.now in
    let l = length-take-le (4 * (n + 1) + 4) (drop ((4 * (n + 1) + 4) * u) H) (omega (arith, length-drop ((4 * (n + 1) + 4) * u) H, e, r.room)) in
    (r.rule, r.long, r.partitions, r.packed, r.one, rw w (l ∙ omega arith))

pub returns : goal.returns
returns c =
    let n = c.args.s.partitions.used in
    let e = ends (4 * (n + 1) + 4) c.args.k.used 5 (omega (arith, c.if-k-ge5.false)) in
    let o = c.in_ok-taken.ensures in
    let five : c.args.k.used + 1 ≤ 5 = omega (arith, c.if-k-ge5.false) in
    record {
      fine = o.formed;
      keeps = keeps-room (words c.args.card.now) c.args.run.now c.args.s c.args.t c.args.live c.args.k _ c.args.heads.now c.keep_term.new.group c.args.id c.in_ok-taken.taken (omega arith) (omega (arith, e, c.requires.0.room)) o refl refl;
      used = five;
      few = omega (arith, o.few, c.requires.2);
    }
