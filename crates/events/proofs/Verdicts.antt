-- What an event that is admitted comes to, by its flush's target.
use Rattle.std.specs.Prelude.{Some, None, Ok, Err}
use Rattle.lists.proofs.Prelude.{List, ◌≡◌, ◌∙◌, ℕ, ◌<◌, leb-false}
use Rattle.words.specs.Words.{words, bytes}
use Rattle.answers.specs.declared.Refusal.{Refusal}
use Rattle.answers.specs.Answers.{Outcome, refuse, leave, refuse_if, done, refused}
use Rattle.answers.specs.Numbers.{refusal_number}
use Rattle.state.specs.declared.State.{State}
use Rattle.state.specs.Probe.{Probe}
use Rattle.identifiers.specs.Names.{Name}
use Rattle.flushes.specs.Flush.{flushing_if, flushed_to, flushed_card}
use Rattle.events.specs.Event.{event_flushes, counted, registered, event_of}
use Rattle.flushes.specs.Targets.{Aimed}
use Rattle.events.specs.Verdicts.{Admitted}
use Rattle.windows.specs.Promises.{Gives, probe_of}
use Rattle.flushes.proofs.Targets.{follows-refused, follows-plain, follows-written}
use Rattle.flushes.proofs.Flushes.{gives-by, refuses, leaves}

-- refused before anything is written
pub event-refused : (p : Probe) (n : Name) (why : Refusal) → event_of p n ≡ refuse (refusal_number why) → Gives p (event_of p n) (refused (refusal_number why)) p
event-refused p n why e = gives-by _ _ e (refuses _)

module _ (p : Probe) (n : Name) (i : ℕ) (a : Admitted p n i) where
  -- the window's events are below their most
  pub events-left : p.state.windows.events < 32767
  events-left = leb-false _ _ a.events

  -- what an event leaves, where its flush leaves s and card
  abbrev after : State → List ℕ → Outcome Probe
  after s card = leave done (record { state = counted s i; card = card; register = registered p.register n })

  -- its flush and its count are what is left of an event that is admitted
  event-admitted : event_of p n ≡ flushing_if (event_flushes p.state i) p.state p.card after
  unfolding event_of refuse_if
  event-admitted = rw (a.rule, a.lengths, a.formed, a.good, a.current, a.events, a.place, a.room, a.number)

  -- refused by its flush
  pub event-barred : (why : Refusal) → Aimed (event_flushes p.state i) p.state p.card (Err why) → Gives p (event_of p n) (refused (refusal_number why)) p
  event-barred why f = gives-by _ _ (event-admitted ∙ follows-refused after _ p.state p.card why f) (refuses _)

  -- counted without a flush
  pub event-plain : Aimed (event_flushes p.state i) p.state p.card (Ok None) → Gives p (event_of p n) done (probe_of (counted p.state i) p.card (registered p.register n))
  event-plain f = gives-by _ _ (event-admitted ∙ follows-plain after _ p.state p.card f) (leaves _ _)

  -- counted after a flush
  pub event-flushed : (b : ℕ) → Aimed (event_flushes p.state i) p.state p.card (Ok (Some b))
      → Gives p (event_of p n) done (probe_of (counted (flushed_to p.state b) i) (bytes (flushed_card p.state (words p.card) b)) (registered p.register n))
  event-flushed b f = gives-by _ _ (event-admitted ∙ follows-written after _ p.state p.card b f) (leaves _ _)
