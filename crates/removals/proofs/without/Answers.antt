use Rattle.std.specs.Prelude.{Option, Some, None}
use Rattle.std.specs.Option.{unwrap_or}
use Rattle.lists.proofs.Prelude.{List, ◌≡◌, refl, subst, ℕ, ◌-◌}
use mathlib.Core.List.{foldr}
use Rattle.postings.specs.declared.Posting.{Posting}
use Rattle.postings.specs.Merge.{put, nonzero, negated}
use Rattle.state.specs.declared.Buffer.{Buffer}
use Rattle.state.specs.declared.Partitions.{Partitions}
use Rattle.state.specs.declared.State.{State}
use Rattle.state.specs.Views.{buffered, buffer_of}
use Rattle.flushes.specs.Flush.{flushed_to}
use Rattle.sums.specs.Views.{counts_in}
use Rattle.removals.specs.Removal.{removed}
use Rattle.removals.specs.Taking.{Takeable, emptied, buffer_after}
use Rattle.removals.proofs.without.Goals as goal

-- the buffer of the state after the flush, where there is one
same-buffer : (s : State) (b : Option ℕ) → (emptied s b).buffer ≡ buffer_after s.buffer b
unfolding flushed_to
same-buffer s None = refl
same-buffer s (Some k) = refl

-- the state put together is that state with the counts taken back
put-together : (s : State) (b : Option ℕ) (l : List Posting) (ps : Partitions) → ps ≡ (emptied s b).partitions
    → ◌≡◌ {A = State}
    (record {
      lengths = s.lengths;
      windows = record { last = s.windows.last; live = s.windows.live - 1; current = s.windows.current; events = s.windows.events };
      listed = s.listed;
      buffer = buffer_of (nonzero (foldr put (buffered (buffer_after s.buffer b)) (negated l)));
      partitions = ps;
      taken = unwrap_or b s.taken;
      merge = s.merge;
    })
    (removed (emptied s b) l)
unfolding removed flushed_to
put-together s None l ps e = rw e
put-together s (Some k) l ps e = rw e

pub take_back-left-requires : goal.take_back-left-requires
take_back-left-requires c =
    rw c.buffer_after.ensures (subst (λ (b : Buffer). Takeable b c.args.c) (same-buffer c.args.s c.args.block) c.requires.0)

pub returns : goal.returns
returns c = rw (c.take_back-left.ensures, c.buffer_after.ensures, c.unwrap_or.ensures) (put-together c.args.s c.args.block (counts_in c.args.c) c.args.list c.requires.2)
