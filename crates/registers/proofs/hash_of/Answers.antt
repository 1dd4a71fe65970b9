use Rattle.lists.proofs.Prelude.{refl, sym, ◌∙◌, add-one, arith, drop_of_length-le}
use Rattle.registers.specs.Chains.{hash_from, hash_of}
use Rattle.registers.proofs.Chains.{hash-step}
use Rattle.registers.proofs.hash_of.Goals as goal

pub loop-b-init : goal.loop-b-init
unfolding hash_of
loop-b-init c = record { small = omega arith; hashed = refl }

pub loop-b-preserved : goal.loop-b-preserved
loop-b-preserved c =
    let n = c.args.name.now in
    record { small = omega arith; hashed = rw add-one (c.loop-b.invariant.hashed ∙ hash-step c.loop-b.hash n c.loop-b.b-index (omega arith)) }

pub returns : goal.returns
unfolding hash_from
returns c =
    let n = c.args.name.now in
    sym (c.loop-b.invariant.hashed ∙ rw (drop_of_length-le n {i = c.loop-b.b-index} (omega arith)))
