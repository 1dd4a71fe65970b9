-- `scores::counting::keep_term` meets its contract: the opened heads are copied before the judging spends them, and stand for the identifier.
use Rattle.lists.proofs.Prelude.{◌+◌, ◌-◌, length, length-drop, total_by, sym, ap, ◌∙◌, arith, take_rest}
use borrow.Rule.Slice.PartMut.{put_mid}
use Rattle.keyed.specs.Keys.{all_fall}
use Rattle.keyed.specs.Groups.{Group}
use Rattle.words.specs.Words.{words, Below}
use Rattle.words.proofs.Views.{words-below}
use Rattle.state.specs.Views.{blocks, buffered, finished}
use Rattle.state.proofs.Kept.{state-kept}
use Rattle.scores.proofs.Opened.{all-readable, rule-sizes, rule-each}
use Rattle.scores.proofs.Serving.{judged-bad, judged-good, windows-few, all-fall, all-size, all-serves, copied, kept-lists}
use Rattle.scores.proofs.counting.keep_term.Goals as goal

pub open_heads-requires : goal.open_heads-requires
open_heads-requires c =
    let k = state-kept c.args.s c.requires.0 in
    (k.partitions.used, c.requires.4, all-readable (words c.args.card.now) (blocks c.args.s) (finished c.args.s.partitions) c.requires.1 k.lengths.most_blocks c.requires.2, k.buffer.used, k.buffer.order, rule-sizes c.args.s.windows (buffered c.args.s.buffer) k.buffer.rules, c.requires.3)

pub judge-requires : goal.judge-requires
judge-requires c =
    let o = c.open_heads.ensures in
    let k = state-kept c.args.s c.requires.0 in
    (o.long, k.partitions.used, o.ready)

pub overflow_add-n : goal.overflow_add-n
overflow_add-n c = let k = state-kept c.args.s c.requires.0 in omega (arith, k.partitions.used)

pub overflow_cast-told : goal.overflow_cast-told
overflow_cast-told c =
    let k = state-kept c.args.s c.requires.0 in
    let small = words-below c.args.card.now (λ j. omega (arith, c.shared_slice_known-1.given j)) in
    let few : Below 4294967296 c.args.run.now = λ j. omega (arith, c.shared_slice_known-2-1.given j) in
    let rules = rule-each c.args.s.windows (buffered c.args.s.buffer) k.buffer.rules in
    let o = c.open_heads in
    let H = o.new.heads in
    let told = sym c.judge.ensures ∙ c.in_ok-told.was in
    record { fits = omega (arith, windows-few (words c.args.card.now) c.args.run.now c.args.s c.args.id H o.ensures small few k.buffer.order rules c.args.t _ told) }

pub weigh-requires : goal.weigh-requires
weigh-requires c =
    let k = state-kept c.args.s c.requires.0 in
    let o = c.open_heads in
    let W = words c.args.card.now in
    let R = c.args.run.now in
    let n = c.args.s.partitions.used in
    let H = o.new.heads in
    let G = c.args.group.now in
    let P = c.copy_from_slice.new.self in
    let d = copied W R n H G P c.requires.5 o.ensures.long c.copy_from_slice.ensures.after o.ensures.ready in
    (d.0, omega (arith, k.partitions.used), d.1)

pub overflow_add-n-2 : goal.overflow_add-n-2
overflow_add-n-2 c = let k = state-kept c.args.s c.requires.0 in omega (arith, k.partitions.used)

pub total_left-requires : goal.total_left-requires
total_left-requires c =
    let k = state-kept c.args.s c.requires.0 in
    let small = words-below c.args.card.now (λ j. omega (arith, c.shared_slice_known-1.given j)) in
    let few : Below 4294967296 c.args.run.now = λ j. omega (arith, c.shared_slice_known-2-1.given j) in
    let rules = rule-each c.args.s.windows (buffered c.args.s.buffer) k.buffer.rules in
    let o = c.open_heads in
    let W = words c.args.card.now in
    let R = c.args.run.now in
    let n = c.args.s.partitions.used in
    let H = o.new.heads in
    let G = c.args.group.now in
    let told = sym c.judge.ensures ∙ c.in_ok-told.was in
    let P = c.copy_from_slice.new.self in
    let d = copied W R n H G P c.requires.5 o.ensures.long c.copy_from_slice.ensures.after o.ensures.ready in
    let w = c.weigh in
    let l = kept-lists W R (n + 1) H (put_mid 4 (length G - 4) G P) w.new.group _ d.2 w.ensures.1 in
    let f = all-fall (words c.args.card.now) c.args.run.now c.args.s c.args.id H o.ensures small few k.buffer.order rules c.args.t _ told in
    rw (take_rest 4 w.new.group) (omega (arith, length-drop 4 w.new.group, w.ensures.0.long), omega (arith, k.partitions.used), w.ensures.0.heads, ap (λ (g : Group). all_fall 65536 g) l.1 ∙ f)

pub returns-in_err-told : goal.returns-in_err-told
returns-in_err-told c =
    let k = state-kept c.args.s c.requires.0 in
    let small = words-below c.args.card.now (λ j. omega (arith, c.shared_slice_known-1.given j)) in
    let few : Below 4294967296 c.args.run.now = λ j. omega (arith, c.shared_slice_known-2-1.given j) in
    let rules = rule-each c.args.s.windows (buffered c.args.s.buffer) k.buffer.rules in
    let o = c.open_heads in
    let bad = judged-bad (words c.args.card.now) c.args.run.now c.args.s c.args.id o.new.heads o.ensures small few k.buffer.order rules c.args.t (sym c.judge.ensures ∙ c.in_err-told.was) in
    rw c.from_residual.ensures bad

pub returns : goal.returns
returns c =
    let k = state-kept c.args.s c.requires.0 in
    let small = words-below c.args.card.now (λ j. omega (arith, c.shared_slice_known-1.given j)) in
    let few : Below 4294967296 c.args.run.now = λ j. omega (arith, c.shared_slice_known-2-1.given j) in
    let rules = rule-each c.args.s.windows (buffered c.args.s.buffer) k.buffer.rules in
    let o = c.open_heads in
    let W = words c.args.card.now in
    let R = c.args.run.now in
    let n = c.args.s.partitions.used in
    let H = o.new.heads in
    let G = c.args.group.now in
    let told = sym c.judge.ensures ∙ c.in_ok-told.was in
    let P = c.copy_from_slice.new.self in
    let d = copied W R n H G P c.requires.5 o.ensures.long c.copy_from_slice.ensures.after o.ensures.ready in
    let w = c.weigh in
    let l = kept-lists W R (n + 1) H (put_mid 4 (length G - 4) G P) w.new.group _ d.2 w.ensures.1 in
    let z = rw (take_rest 4 w.new.group) at c.total_left.ensures in
    record {
      formed = (judged-good (words c.args.card.now) c.args.run.now c.args.s c.args.id H o.ensures small few k.buffer.order rules c.args.t _ told);
      kept = w.ensures.0;
      term = all-serves (words c.args.card.now) c.args.run.now c.args.s c.args.id H o.ensures small few k.buffer.order rules c.args.t _ told _ _ l.0;
      taken = z.0 ∙ ap (λ (g : Group). total_by length g) l.1 ∙ all-size (words c.args.card.now) c.args.run.now c.args.s c.args.id H o.ensures small few k.buffer.order rules c.args.t _ told;
      few = z.1;
    }
