-- The exported calls: the engine's, on a state that is lent as its byte image, with answers as numbers.
use Rattle.std.specs.Prelude.{not, cond, List, ℕ, eqb, length}
use Rattle.answers.specs.Answers.{Outcome, refuse_if, carry}
use Rattle.state.specs.Probe.{Store, Probe}
use Rattle.identifiers.specs.Names.{Name}
use Rattle.windows.specs.Promises.{store_of, probe_of}
use Rattle.windows.specs.Calls.{start_of, unstarted, open_of, close_of}
use Rattle.events.specs.Event.{event_of}
use Rattle.flushes.specs.Flush.{flush_of}
use Rattle.removals.specs.Removal.{remove_of}
use Rattle.batches.specs.Batch.{remove_all_of}
use Rattle.plans.specs.Step.{step_of}
use Rattle.images.specs.Images.{image_rule}
use Rattle.numbers.specs.Images.{state_on, imaged}

-- the bytes that a call is lent: a state's image with a card, or with both buffers
pub record Carded : Type 0 where
  pub image : List ℕ
  pub card : List ℕ

pub record Lent : Type 0 where
  pub image : List ℕ
  pub card : List ℕ
  pub register : List ℕ

abbrev pub carded_of : List ℕ → List ℕ → Carded
carded_of image card = record { image = image; card = card }

abbrev pub lent_of : List ℕ → List ℕ → List ℕ → Lent
lent_of image card register = record { image = image; card = card; register = register }

-- ---- stores and probes with images

unfoldable pub imaged_store : Store → Carded
imaged_store p = record { image = imaged p.state; card = p.card }

unfoldable pub imaged_probe : Probe → Lent
imaged_probe p = record { image = imaged p.state; card = p.card; register = p.register }

-- ---- calls; bytes that are no image are no state, so that refusal 1 comes first

unfoldable pub start_on : Lent → Outcome Lent
start_on l = refuse_if (not (eqb (length l.image) 2864)) 1 (carry imaged_probe (start_of l.card l.register))

-- what a start that is refused leaves: the image of a state of zeros, unless there was no room for it
abbrev pub unstarted_on : Lent → Lent
unstarted_on l = cond (eqb (length l.image) 2864) (imaged_probe (unstarted l.card l.register)) l

unfoldable pub open_on : List ℕ → Outcome (List ℕ)
open_on image = refuse_if (not (image_rule image)) 1 (carry imaged (open_of (state_on image)))

unfoldable pub close_on : List ℕ → Outcome (List ℕ)
close_on image = refuse_if (not (image_rule image)) 1 (carry imaged (close_of (state_on image)))

unfoldable pub event_on : Lent → Name → Outcome Lent
event_on l n = refuse_if (not (image_rule l.image)) 1 (carry imaged_probe (event_of (probe_of (state_on l.image) l.card l.register) n))

unfoldable pub flush_on : Carded → Outcome Carded
flush_on l = refuse_if (not (image_rule l.image)) 1 (carry imaged_store (flush_of (store_of (state_on l.image) l.card)))

unfoldable pub remove_on : Carded → ℕ → Outcome Carded
remove_on l w = refuse_if (not (image_rule l.image)) 1 (carry imaged_store (remove_of (store_of (state_on l.image) l.card) w))

unfoldable pub remove_all_on : Carded → List ℕ → Outcome Carded
remove_all_on l ws = refuse_if (not (image_rule l.image)) 1 (carry imaged_store (remove_all_of (store_of (state_on l.image) l.card) ws))

unfoldable pub step_on : Carded → Outcome Carded
step_on l = refuse_if (not (image_rule l.image)) 1 (carry imaged_store (step_of (store_of (state_on l.image) l.card)))
