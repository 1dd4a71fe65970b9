-- `registers::chained_apart` meets its contract. The loop's invariant: the identifiers passed differ, and the two arrays chain their places.
use Rattle.lists.proofs.Prelude.{true, ◌≡◌, length, take}
use Rattle.identifiers.specs.Names.{distinct}
use Rattle.identifiers.specs.Register.{names}
use Rattle.registers.specs.Chains.{Heads, Links}
use Rattle.registers.proofs.chained_apart.Given as goal

abbrev pub invariant-loop-i : goal.invariant-loop-i
invariant-loop-i l = record {
  apart : distinct (take l.i (names l.register)) ≡ true;
  long_heads : length l.heads ≡ 1024;
  long_links : length l.links ≡ 1024;
  begun : Heads (names l.register) l.i l.heads;
  linked : Links (names l.register) l.i l.links;
}
