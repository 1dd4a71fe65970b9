use Rattle.lists.proofs.Prelude.{[], ◌≡◌, sym, ◌∙◌, ℕ, suc, ◌+◌, ◌*◌, ◌<◌, add-zero, add-one, arith, length, drop, set, length-set, drop_of_length-le, sets, drop-cons}
use Rattle.identifiers.specs.Register.{added}
use Rattle.identifiers.proofs.Added.{good_length}
use Rattle.identifiers.proofs.add.Goals as goal

past : (k i : ℕ) → k + (i + 1) ≡ suc (k + i)
past k i = omega arith

pub overflow_cast-register : goal.overflow_cast-register
overflow_cast-register c = omega (arith, good_length c.args.id.now c.requires.2)

pub loop-i-init : goal.loop-i-init
loop-i-init c = rw add-zero

pub bounds-register-start-in-loop-i : goal.bounds-register-start-in-loop-i
bounds-register-start-in-loop-i c =
    omega (arith, good_length c.args.id.now c.requires.2, simp length-set at c.loop-i.auto.register)

pub loop-i-preserved : goal.loop-i-preserved
loop-i-preserved c =
    let i = c.loop-i.i in
    let id = c.args.id.now in
    let h : i < length id = omega arith in
    c.loop-i.invariant ∙ rw (past, add-one i, drop-cons id i 0 h)

pub returns : goal.returns
unfolding added
returns c =
    let r = c.args.register.now in
    let id = c.args.id.now in
    let d : drop c.loop-i.i id ≡ [] = drop_of_length-le id {i = c.loop-i.i} (omega arith) in
    let e : sets (set r (65 * c.args.at) (length id)) (65 * c.args.at + 1) id ≡ c.loop-i.register = c.loop-i.invariant ∙ rw d in
    sym (rw (← c.requires.0, ← add-one (65 * c.args.at)) e)
