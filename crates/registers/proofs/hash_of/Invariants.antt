-- `registers::hash_of` meets its contract. The loop's invariant: the hash so far, taken on over the bytes to come, is that of the whole.
use Rattle.lists.proofs.Prelude.{◌≡◌, ◌<◌, drop}
use Rattle.registers.specs.Chains.{hash_from, hash_of}
use Rattle.registers.proofs.hash_of.Given as goal

abbrev pub invariant-loop-b : goal.invariant-loop-b
invariant-loop-b l = record { small : l.hash < 1024; hashed : hash_of l.fn.name ≡ hash_from l.hash (drop l.b-index l.name) }
