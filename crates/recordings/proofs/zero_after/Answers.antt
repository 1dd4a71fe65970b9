-- `recordings::zero_after` meets its contract: an entry whose length byte is above 64 has nothing after its identifier.
use Rattle.lists.proofs.Prelude.{sym, ap, ◌∙◌, ◌+◌, arith, eqb, drop_of_length-le, every, take_rest}
use Rattle.identifiers.specs.Register.{size}
use Rattle.recordings.proofs.zero_after.Goals as goal

pub overflow_cast-size : goal.overflow_cast-size
overflow_cast-size c = omega (arith, c.shared_slice_known-2-1.given 0)

pub returns-then-size-gt64 : goal.returns-then-size-gt64
returns-then-size-gt64 c =
    let e = c.args.entry.now in
    sym (rw (drop_of_length-le e {i = 1 + size e} (omega arith)))

pub returns : goal.returns
returns c =
    let e = c.args.entry.now in
    c.zeros.ensures ∙ ap (every (λ b. eqb b 0)) (take_rest (1 + size e) e)
