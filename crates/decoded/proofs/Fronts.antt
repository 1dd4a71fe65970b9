-- A state with other window numbers, another list of identifiers and another buffer holds the lists that have them; the card is as it was.
use Rattle.lists.proofs.Prelude.{List, ◌≡◌, sym, ◌∙◌, ℕ}
use Rattle.state.specs.declared.Windows.{Windows}
use Rattle.state.specs.declared.Listed.{Listed}
use Rattle.state.specs.declared.Buffer.{Buffer}
use Rattle.state.specs.declared.State.{State}
use Rattle.state.specs.Views.{listed_of, buffer_of, with_windows, with_listed, with_buffer}
use Rattle.plans.specs.Merging.{taking}
use Rattle.plans.specs.Step.{output_rule}
use Rattle.accounts.specs.Lists.{Lists}
use Rattle.decoded.specs.Portions.{output_of}
use Rattle.decoded.proofs.Holds.{Holds}

-- the state with these in front
abbrev pub fronted : State → Windows → Listed → Buffer → State
fronted s w l b = with_buffer (with_listed (with_windows s w) l) b

pub holds-fronted : (s : State) (W : List ℕ) (e e' : Lists) → Holds s W e → (w : Windows) (l : Listed) (b : Buffer)
    → w ≡ e'.windows → l ≡ listed_of e'.listed → b ≡ buffer_of e'.account.buffer
    → e'.account.partitions ≡ e.account.partitions → e'.account.steps ≡ e.account.steps → Holds (fronted s w l b) W e'
unfolding taking output_rule output_of
holds-fronted s W e e' h w l b x y z parts steps = record {
  lengths = h.lengths;
  long = h.long;
  windows = x;
  listed = y;
  buffer = z;
  partitions = h.partitions;
  taken = h.taken;
  steps = h.steps ∙ sym steps;
  idle = h.idle;
  portions = h.portions ∙ sym parts;
  sizes = h.sizes;
  formed = h.formed;
  past = h.past;
  output = h.output;
  free = h.free;
}
