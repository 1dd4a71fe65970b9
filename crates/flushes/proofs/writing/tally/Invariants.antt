-- `flushes::writing::tally` meets its contract. The invariant: the postings before place i are counted, and storing the words of those that are left gives the whole.
use Rattle.lists.proofs.Prelude.{map, ◌≡◌, length, drop, sets}
use Rattle.state.specs.Views.{buffered}
use Rattle.partitions.specs.Layout.{word_of}
use Rattle.flushes.proofs.Counting.{Counting}
use Rattle.flushes.proofs.writing.tally.Given as goal

abbrev pub invariant-loop-i : goal.invariant-loop-i
invariant-loop-i l =
    (length l.fn.b.postings ≡ 128)
    × (length l.counts ≡ 1024)
    × Counting l.fn.b.postings l.fn.b.used l.counts l.terms l.i
    × (length l.content ≡ 128)
    × (sets l.initial.content 0 (map word_of (buffered l.fn.b)) ≡ sets l.content l.i (drop l.i (map word_of (buffered l.fn.b))))
