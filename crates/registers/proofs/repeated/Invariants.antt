-- `registers::repeated` meets its contract. The loop's invariant: the answer is that for the identifiers that are left, the last of them has the
-- hash that is looked for, and there were no more steps than places passed.
use Rattle.lists.proofs.Prelude.{[], ◌≡◌, ℕ, suc, ◌+◌, ◌≤◌, get_or, take}
use Rattle.identifiers.specs.Names.{among}
use Rattle.identifiers.specs.Register.{names}
use Rattle.registers.specs.Chains.{hash_of}
use Rattle.registers.proofs.repeated.Given as goal

abbrev pub invariant-loop-left : goal.invariant-loop-left
invariant-loop-left l =
    (l.left ≤ l.i)
    × (among (get_or (names l.register) l.i []) (take l.i (names l.register)) ≡ among (get_or (names l.register) l.i []) (take l.left (names l.register)))
    × ((p : ℕ) → l.left ≡ suc p → hash_of (get_or (names l.register) p []) ≡ hash_of (get_or (names l.register) l.i []))
    × (l.steps + l.left ≤ l.i)

abbrev pub decreases-loop-left : goal.decreases-loop-left
decreases-loop-left l = l.left
