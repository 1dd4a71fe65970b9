-- `inputs::sixteen` meets its contract. The invariant: what is kept, and what is kept of the pairs still to take, is what is kept of all.
use Rattle.lists.proofs.Prelude.{◌++◌, ◌≡◌, ◌+◌, ◌-◌, ◌≤◌, length, take, drop}
use Rattle.words.specs.Words.{words}
use Rattle.postings.specs.Merge.{nonzero}
use Rattle.inputs.specs.Ahead.{pairs_ahead, Formed, batched}
use Rattle.inputs.proofs.sixteen.Given as goal

abbrev pub invariant-pairs : goal.invariant-pairs
invariant-pairs l =
    (l.i ≤ 16) × (l.b.used ≤ l.i) × (length l.heads ≡ length l.initial.heads) × Formed (words l.card) l.n l.heads l.top
    × (nonzero (take 16 (pairs_ahead (words l.card) l.n l.initial.heads)) ≡ batched l.b ++ nonzero (take (16 - l.i) (pairs_ahead (words l.card) l.n l.heads)))
    × (length (take 16 (pairs_ahead (words l.card) l.n l.initial.heads)) ≡ l.i + length (take (16 - l.i) (pairs_ahead (words l.card) l.n l.heads)))
    × (drop 16 (pairs_ahead (words l.card) l.n l.initial.heads) ≡ drop (16 - l.i) (pairs_ahead (words l.card) l.n l.heads))

abbrev pub decreases-pairs : goal.decreases-pairs
decreases-pairs l = 16 - l.i
