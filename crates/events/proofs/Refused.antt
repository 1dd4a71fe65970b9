-- Refused means unchanged, for an event.
use Rattle.answers.specs.Unchanged.{Unchanged}
use Rattle.answers.proofs.Kept.{unchanged-if, unchanged-done}
use Rattle.state.specs.Probe.{Probe}
use Rattle.identifiers.specs.Names.{Name}
use Rattle.events.specs.Event.{event_of}
use Rattle.flushes.proofs.Refused.{unchanged-flushing-if}

pub event-unchanged : (p : Probe) (n : Name) → Unchanged p (event_of p n)
unfolding event_of
event-unchanged p n =
    unchanged-if _ 1 _
    (unchanged-if _ 2 _
    (unchanged-if _ 3 _
    (unchanged-if _ 4 _
    (unchanged-if _ 5 _ (unchanged-if _ 6 _ (unchanged-if _ 8 _ (unchanged-if _ 9 _ (unchanged-flushing-if _ _ _ (λ t after. unchanged-done _) _))))))))
