-- `identifiers::count_used` meets its contract. The loop's invariant: the used entries are those passed and those to come, of which used ones come first.
use Rattle.lists.proofs.Prelude.{true, ◌≡◌, ◌+◌, length, drop, keep}
use Rattle.identifiers.specs.Register.{entries, used, used_first, names}
use Rattle.identifiers.proofs.count_used.Given as goal

abbrev pub invariant-loop-i : goal.invariant-loop-i
invariant-loop-i l = record {
  counted : length (names l.register) ≡ l.i + length (keep used (drop l.i (entries l.register)));
  first : used_first (drop l.i (entries l.register)) ≡ true;
}
