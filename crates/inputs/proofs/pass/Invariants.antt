-- `inputs::pass` meets its contract. The invariant: what is told of all words is what is told of those compared and of those still to compare.
use Rattle.lists.proofs.Prelude.{◌≡◌, ◌-◌, length, take, drop, same as same_of}
use Rattle.words.specs.Words.{words}
use Rattle.card.specs.Cursors.{ahead, Good}
use Rattle.inputs.specs.Ahead.{pairs_ahead, Formed, out_words}
use Rattle.inputs.proofs.Batches.{Comparing}
use Rattle.inputs.proofs.pass.Given as goal

abbrev pub invariant-loop : goal.invariant-loop
invariant-loop l = record {
  formed : Formed (words l.card) l.n l.heads l.top;
  good : Good (words l.card) l.o;
  same : Comparing (ahead (words l.card) l.o) (out_words (l.m - l.counter) (pairs_ahead (words l.card) l.n l.heads))
      (same_of (out_words l.m (pairs_ahead (words l.card) l.n l.initial.heads)) (take (length (out_words l.m (pairs_ahead (words l.card) l.n l.initial.heads))) (ahead (words l.card) l.initial.o)))
      (drop (length (out_words l.m (pairs_ahead (words l.card) l.n l.initial.heads))) (ahead (words l.card) l.initial.o)) l.same;
  left : drop l.m (pairs_ahead (words l.card) l.n l.initial.heads) ≡ drop (l.m - l.counter) (pairs_ahead (words l.card) l.n l.heads);
}
