-- What a state and the words of its card hold: lists of postings, window numbers, and the steps of the merge in progress.
use Rattle.lists.proofs.Prelude.{true, not, List, ◌++◌, map, ◌≡◌, refl, sym, ap, ap₂, ◌∙◌, ℕ, ◌*◌, ◌<◌, length, eq-eqb, every, elem, joined, map-map}
use Rattle.words.specs.Words.{words}
use Rattle.postings.specs.declared.Posting.{Posting}
use Rattle.postings.specs.Merge.{pairs}
use Rattle.state.specs.declared.Lengths.{Lengths}
use Rattle.state.specs.declared.Partition.{Partition}
use Rattle.state.specs.declared.State.{State}
use Rattle.state.specs.Views.{no_merge, blocks, buffered, finished, listed_of, buffer_of, partitions_of}
use Rattle.state.specs.Levels.{due_levels, oldest}
use Rattle.state.specs.Rules.{lengths_rule}
use Rattle.state.specs.Probe.{Probe}
use Rattle.state.proofs.Rows.{held}
use Rattle.identifiers.specs.Register.{names, register_rule}
use Rattle.card.specs.Blocks.{is_free}
use Rattle.partitions.specs.Layout.{length_of, written_as}
use Rattle.partitions.specs.Reading.{postings_of, in_partitions, stored}
use Rattle.partitions.specs.Formed.{partitions_formed}
use Rattle.partitions.proofs.Kept.{span-own}
use Rattle.plans.specs.Merging.{due_in, inputs, taking}
use Rattle.plans.specs.Step.{in_progress, output_rule}
use Rattle.accounts.specs.Account.{Portion, Account, postings_in, stored_in, due_of, inputs_of}
use Rattle.accounts.specs.Lists.{Lists}
use Rattle.accounts.proofs.Stored.{level_of}
use Rattle.decoded.specs.Portions.{portion_on, occupied, clean_past, tells}
use Rattle.decoded.proofs.Maps.{due-map, oldest-map}

pub record Holds (s : State) (W : List ℕ) (e : Lists) : Type 0 where
  -- the buffers' lengths
  pub lengths : lengths_rule s.lengths ≡ true
  pub long : length W ≡ 1024 * blocks s
  -- the state's parts
  pub windows : s.windows ≡ e.windows
  pub listed : s.listed ≡ listed_of e.listed
  pub buffer : s.buffer ≡ buffer_of e.account.buffer
  pub partitions : s.partitions ≡ partitions_of (finished s.partitions)
  pub taken : s.taken < blocks s
  pub steps : s.merge.steps ≡ e.account.steps
  pub idle : s.merge.steps ≡ 0 → s.merge ≡ no_merge
  -- what finished partitions decode to
  pub portions : map (portion_on W) (finished s.partitions) ≡ e.account.partitions
  pub sizes : every (λ p. tells p (postings_of W p)) (finished s.partitions) ≡ true
  pub formed : partitions_formed W (blocks s) (finished s.partitions) ≡ true
  pub past : every (clean_past W) (finished s.partitions) ≡ true
  -- the output in progress, and all other blocks
  pub output : in_progress s ≡ true → output_rule W s (taking W s) ≡ true
  pub free : (b : ℕ) → b < blocks s → is_free W b ≡ not (elem b (occupied W s))

-- with the register, and with the lengths given at the start
pub record Stored (ls : Lengths) (p : Probe) (e : Lists) : Type 0 where
  pub holds : Holds p.state (words p.card) e
  pub sized : p.state.lengths ≡ ls
  pub card : length p.card ≡ p.state.lengths.card
  pub register : length p.register ≡ p.state.lengths.register
  pub rule : register_rule p.register ≡ true
  pub names : names p.register ≡ e.names

-- what is written has a record that tells it
pub tells-own : (bs : List ℕ) (level : ℕ) (ps l : List Posting) → ps ≡ l → tells (written_as bs level ps) l ≡ true
tells-own bs level ps l e = rw (← e, eq-eqb (length_of ps) (length_of ps) refl) (span-own bs level ps)

-- ---- what is read, where the finished partitions decode to the account's

module _ (s : State) (W : List ℕ) (a : Account) (portions : map (portion_on W) (finished s.partitions) ≡ a.partitions) where
  -- the postings of finished partitions
  pub partitions-is : in_partitions W (finished s.partitions) ≡ postings_in a.partitions
  unfolding in_partitions
  partitions-is = ap joined (sym (map-map (λ (p : Portion). p.postings) (portion_on W) (finished s.partitions))) ∙ ap postings_in portions

  -- the due levels
  pub due-is : due_in s ≡ due_of a
  due-is = sym (due-map (portion_on W) level_of (finished s.partitions)) ∙ ap (due_levels level_of) portions

  -- the inputs of a merge, partition by partition
  pub inputs_are : map (portion_on W) (inputs s) ≡ oldest level_of (due_of a) a.partitions
  inputs_are =
      ap (λ vs. map (portion_on W) (oldest (λ (p : Partition). p.level) vs (finished s.partitions))) due-is
      ∙ sym (oldest-map (portion_on W) level_of (due_of a) (finished s.partitions))
      ∙ ap (oldest level_of (due_of a)) portions

  -- their postings
  pub inputs-is : in_partitions W (inputs s) ≡ inputs_of a
  unfolding in_partitions inputs_of
  inputs-is = ap joined (sym (map-map (λ (p : Portion). p.postings) (portion_on W) (inputs s))) ∙ ap postings_in inputs_are

  -- and pairs
  pub taking-is : taking W s ≡ pairs (inputs_of a)
  unfolding taking
  taking-is = ap pairs inputs-is

module _ (s : State) (W : List ℕ) (e : Lists) (h : Holds s W e) where
  pub buffer-is : buffered s.buffer ≡ e.account.buffer
  buffer-is = ap buffered h.buffer ∙ held 128 _ e.account.buffer

  -- all that is stored
  pub stored_is : stored W s ≡ stored_in e.account
  unfolding stored
  stored_is = ap₂ (λ (x y : List Posting). x ++ y) (partitions-is s W e.account h.portions) buffer-is
