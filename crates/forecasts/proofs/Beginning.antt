-- The sketch that a forecast begins with.
use Rattle.lists.proofs.Prelude.{true, append-nil, ⊎_elim, ◌≡◌, refl, ℕ, ◌≤◌, zero-le, arith, eqb, length-keep, length-take}
use Rattle.state.specs.declared.Partition.{Partition}
use Rattle.state.specs.declared.State.{State}
use Rattle.state.specs.Views.{listed, buffered, finished}
use Rattle.state.specs.Levels.{of_level}
use Rattle.state.specs.Rules.{state_rule}
use Rattle.state.proofs.Kept.{Shut, Opened, rules-of, Kept, state-kept}
use Rattle.identifiers.specs.Register.{names}
use Rattle.flushes.specs.Flush.{finished_blocks}
use Rattle.forecasts.specs.declared.Sketch.{Sketch}
use Rattle.forecasts.specs.Outlook.{outlook_of}
use Rattle.forecasts.specs.Sketches.{outlook, Begun}

-- a state's sketch, by what its partitions come to
abbrev pub sketched : State → ℕ → ℕ → Sketch
sketched s b v = record { windows = s.windows; listed = s.listed; buffer = s.buffer; blocks = b; low = v; flushes = 0; known = 0 }

pub begun : (s : State) → state_rule s ≡ true → (b v : ℕ) → b ≤ 219043332045 → b ≡ finished_blocks s → v ≡ of_level (λ (p : Partition). p.level) 0 (finished s.partitions) → Begun s (sketched s b v)
begun s rule b v fits is_blocks is_low = record {
  stands = λ register plan places. unfold outlook outlook_of in (λ j. record {
    last = s.windows.last;
    current = s.windows.current;
    events = s.windows.events;
    names = append-nil (names register) j;
    listed = listed s.listed;
    buffer = buffered s.buffer;
    low = is_low j;
    blocks = is_blocks j;
  });
  sound = λ register plan places few room. record {
    buffer = (rules-of s rule).buffer;
    given = ⊎_elim (λ (h : Shut s.windows). omega (arith, h.number)) (λ (o : Opened s.windows). omega (arith, o.number)) k.windows.window;
    events = ⊎_elim (λ (h : Shut s.windows). omega (arith, h.events)) (λ (o : Opened s.windows). o.events) k.windows.window;
    listed_few = k.listed.used;
    listed_form = k.listed.form;
    known = omega arith;
    room = room;
    in_plan = refl;
    low = omega (arith, is_low, length-keep (λ (p : Partition). eqb p.level 0) (finished s.partitions), length-take s.partitions.used s.partitions.records, k.partitions.used);
    flushes = zero-le;
    blocks = fits;
  };
  flushes = refl;
}
  where
    k : Kept s
    k = state-kept s rule
