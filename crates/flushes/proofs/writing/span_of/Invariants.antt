-- `flushes::writing::span_of` meets its contract. The invariant: what was met and what is to come make the span of all.
use Prim.Native.Nat.{min, max}
use Rattle.lists.proofs.Prelude.{◌≡◌, ◌≤◌, drop}
use Rattle.postings.specs.Spans.{lowest, highest}
use Rattle.state.specs.Views.{buffered}
use Rattle.flushes.proofs.writing.span_of.Given as goal

abbrev pub invariant-loop-p : goal.invariant-loop-p
invariant-loop-p l = record {
  small : l.span.lowest ≤ 65535;
  low : lowest (buffered l.fn.b) ≡ min l.span.lowest (lowest (drop l.p-index l.p-items));
  high : highest (buffered l.fn.b) ≡ max l.span.highest (highest (drop l.p-index l.p-items));
}
