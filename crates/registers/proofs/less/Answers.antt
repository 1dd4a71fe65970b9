use Rattle.lists.proofs.Prelude.{◌≡◌, sym, ◌∙◌, add-one, arith, get_or}
use Rattle.words.proofs.Views.{length-words}
use Rattle.registers.specs.Order.{key}
use Rattle.registers.proofs.Sorted.{lower-same, lower-apart, lower_last, key-length, key-word, key-last}
use Rattle.registers.proofs.less.Goals as goal

pub word_at-x-requires : goal.word_at-x-requires
word_at-x-requires c = omega (arith, length-words c.args.a.now, c.requires)

pub word_at-y-requires : goal.word_at-y-requires
word_at-y-requires c = omega (arith, length-words c.args.b.now, c.requires)

pub returns-then-x-y : goal.returns-then-x-y
returns-then-x-y c =
    let l = c.loop-c in
    let a = c.args.a.now in
    let b = c.args.b.now in
    let i = l.c in
    let x = c.word_at-x.ensures ∙ sym (key-word a c.requires.0 i (omega arith)) in
    let y = c.word_at-y.ensures ∙ sym (key-word b c.requires.1 i (omega arith)) in
    rw (x, y) (sym (l.invariant ∙ lower-apart (key a) (key b) i (omega (arith, key-length a c.requires.0)) (omega (arith, key-length b c.requires.1)) (λ e. c.if-x-y.true (x ∙ e ∙ sym y))))

pub loop-c-preserved : goal.loop-c-preserved
loop-c-preserved c =
    let l = c.loop-c in
    let a = c.args.a.now in
    let b = c.args.b.now in
    let i = l.c in
    let x = c.word_at-x.ensures ∙ sym (key-word a c.requires.0 i (omega arith)) in
    let y = c.word_at-y.ensures ∙ sym (key-word b c.requires.1 i (omega arith)) in
    rw (add-one i) (l.invariant ∙ lower-same (key a) (key b) i (omega (arith, key-length a c.requires.0)) (omega (arith, key-length b c.requires.1)) (sym x ∙ c.if-x-y.false ∙ y))

pub returns : goal.returns
returns c =
    let l = c.loop-c in
    let a = c.args.a.now in
    let b = c.args.b.now in
    let e : l.c ≡ 16 = omega arith in
    sym (rw e at l.invariant ∙ rw (key-last a c.requires.0, key-last b c.requires.1) (lower_last (get_or a 64 0) (get_or b 64 0)))
