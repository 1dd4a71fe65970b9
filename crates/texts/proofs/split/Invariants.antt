-- `texts::split` meets its contract. Each field has a byte at least and a space after it, so that 512 bytes have at most 256.
use Rattle.lists.proofs.Prelude.{◌≤◌, length}
use Rattle.texts.proofs.Splitting.{Splitting}
use Rattle.texts.proofs.split.Given as goal

abbrev pub invariant-loop-i : goal.invariant-loop-i
invariant-loop-i l = Splitting l.line (length l.initial.parts) l.parts l.n l.start l.i × (length l.line ≤ 512) × (256 ≤ length l.initial.parts)
