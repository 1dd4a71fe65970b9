-- `removals::remove` meets its contract: what is judged first refuses, then refusal 3, and the counts that are read decide the rest.
use Rattle.std.specs.Prelude.{Ok, Err}
use Rattle.lists.proofs.Prelude.{true, false, List, ℕ, ◌≡◌, sym, ◌∙◌, not-true, not-false}
use Rattle.words.specs.Words.{words}
use Rattle.state.specs.declared.State.{State}
use Rattle.state.specs.Rules.{state_rule}
use Rattle.state.specs.Views.{blocks, finished}
use Rattle.state.proofs.Kept.{state-kept}
use Rattle.partitions.specs.Formed.{partitions_formed}
use Rattle.admission.proofs.Laws.{CardSound, card-sound}
use Rattle.removals.proofs.Turns.{removal-barred, card-words, bad-partitions, bad-lists, removable, goes_on}
use Rattle.sums.specs.declared.Counts.{Counts}
use Rattle.sums.specs.Views.{counts_in}
use Rattle.flushes.specs.Targets.{Aimed}
use Rattle.removals.specs.Removal.{removal_flushes}
use Rattle.removals.specs.Taking.{Removable}
use Rattle.removals.proofs.Given.{names_open, no_live_window, names-the-open, names-no-live, some-live, flush-barred, removed-emptied, judged}
use Rattle.removals.proofs.Takeables.{emptiable, takeable-emptied}
use Rattle.removals.proofs.remove.Goals as goal

pub returns-in-Err : goal.returns-in-Err
returns-in-Err c =
    let a = c.args in
    rw c.refuse.ensures (removal-barred a.s a.card.now a.window _ (rw (c.in-Err.is, c.state_ok.ensures) at c.judge_card.ensures))

pub partitions_ok-requires : goal.partitions_ok-requires
partitions_ok-requires c =
    let state : State = c.args.s in
    let card : List ℕ = c.args.card.now in
    let sound : CardSound (state_rule state) state.lengths card =
    card-sound (state_rule state) state.lengths card
    (rw (c.in_default.is, c.state_ok.ensures) at c.judge_card.ensures) in
    let k = state-kept state sound.rule in
    (card-words state card sound.rule sound.size, k.lengths.most_blocks, k.partitions.used, k.partitions.rules)

pub returns-then-not-partitions_ok : goal.returns-then-not-partitions_ok
returns-then-not-partitions_ok c =
    let state : State = c.args.s in
    let card : List ℕ = c.args.card.now in
    let window : ℕ = c.args.window in
    let sound : CardSound (state_rule state) state.lengths card =
    card-sound (state_rule state) state.lengths card
    (rw (c.in_default.is, c.state_ok.ensures) at c.judge_card.ensures) in
    rw c.refuse-then-not-partitions_ok.ensures (bad-partitions state card window sound.rule sound.size (sym c.partitions_ok.ensures ∙ not-true _ c.if-not-partitions_ok.true-raw))

pub read-requires : goal.read-requires
read-requires c =
    let state : State = c.args.s in
    let card : List ℕ = c.args.card.now in
    let sound : CardSound (state_rule state) state.lengths card =
    card-sound (state_rule state) state.lengths card
    (rw (c.in_default.is, c.state_ok.ensures) at c.judge_card.ensures) in
    let formed : partitions_formed (words card) (blocks state) (finished state.partitions) ≡ true = sym c.partitions_ok.ensures ∙ not-false _ c.if-not-partitions_ok.false-raw in
    (sound.rule, card-words state card sound.rule sound.size, formed)

pub returns-then-names_open : goal.returns-then-names_open
returns-then-names_open c =
    let state : State = c.args.s in
    let card : List ℕ = c.args.card.now in
    let window : ℕ = c.args.window in
    let sound : CardSound (state_rule state) state.lengths card =
    card-sound (state_rule state) state.lengths card
    (rw (c.in_default.is, c.state_ok.ensures) at c.judge_card.ensures) in
    let formed : partitions_formed (words card) (blocks state) (finished state.partitions) ≡ true = sym c.partitions_ok.ensures ∙ not-false _ c.if-not-partitions_ok.false-raw in
    let counts : Counts = c.in-Some.c in
    goes_on state card window sound.rule sound.size formed counts c.in-Some.ensures
    (rw c.refuse-then-names_open.ensures (names-the-open state card window (counts_in counts) (sym c.names_open.ensures ∙ c.if-names_open.true)))

pub not_live-requires : goal.not_live-requires
not_live-requires c = c.in-Some.ensures.neat.few

pub returns-then-not_live : goal.returns-then-not_live
returns-then-not_live c =
    let state : State = c.args.s in
    let card : List ℕ = c.args.card.now in
    let window : ℕ = c.args.window in
    let sound : CardSound (state_rule state) state.lengths card =
    card-sound (state_rule state) state.lengths card
    (rw (c.in_default.is, c.state_ok.ensures) at c.judge_card.ensures) in
    let formed : partitions_formed (words card) (blocks state) (finished state.partitions) ≡ true = sym c.partitions_ok.ensures ∙ not-false _ c.if-not-partitions_ok.false-raw in
    let counts : Counts = c.in-Some.c in
    goes_on state card window sound.rule sound.size formed counts c.in-Some.ensures
    (rw c.refuse-then-not_live.ensures (names-no-live state card window (counts_in counts) (sym c.names_open.ensures ∙ c.if-names_open.false) (sym c.not_live.ensures ∙ c.if-not_live.true)))

pub must_flush-requires : goal.must_flush-requires
must_flush-requires c =
    let state : State = c.args.s in
    let card : List ℕ = c.args.card.now in
    let sound : CardSound (state_rule state) state.lengths card =
    card-sound (state_rule state) state.lengths card
    (rw (c.in_default.is, c.state_ok.ensures) at c.judge_card.ensures) in
    ((state-kept state sound.rule).buffer.used, c.in-Some.ensures.neat.few)

pub target_of-requires : goal.target_of-requires
target_of-requires c =
    let state : State = c.args.s in
    let card : List ℕ = c.args.card.now in
    let sound : CardSound (state_rule state) state.lengths card =
    card-sound (state_rule state) state.lengths card
    (rw (c.in_default.is, c.state_ok.ensures) at c.judge_card.ensures) in
    (sound.rule, sound.size)

pub returns-in-Err-target_of : goal.returns-in-Err-target_of
returns-in-Err-target_of c =
    let state : State = c.args.s in
    let card : List ℕ = c.args.card.now in
    let window : ℕ = c.args.window in
    let sound : CardSound (state_rule state) state.lengths card =
    card-sound (state_rule state) state.lengths card
    (rw (c.in_default.is, c.state_ok.ensures) at c.judge_card.ensures) in
    let formed : partitions_formed (words card) (blocks state) (finished state.partitions) ≡ true = sym c.partitions_ok.ensures ∙ not-false _ c.if-not-partitions_ok.false-raw in
    let counts : Counts = c.in-Some.c in
    let shut : names_open state window ≡ false = sym c.names_open.ensures ∙ c.if-names_open.false in
    let live : no_live_window state window (counts_in counts) ≡ false = sym c.not_live.ensures ∙ c.if-not_live.false in
    let aimed : Aimed (removal_flushes state (counts_in counts)) state card (Err c.in-Err-target_of.why) = judged state (counts_in counts) card _ (Err c.in-Err-target_of.why) c.must_flush.ensures (rw c.in-Err-target_of.is at c.target_of.ensures) in
    goes_on state card window sound.rule sound.size formed counts c.in-Some.ensures
    (rw c.refuse-in-Err-target_of.ensures (flush-barred state card window (counts_in counts) shut live c.in-Err-target_of.why aimed))

pub list_after-list-requires : goal.list_after-list-requires
list_after-list-requires c =
    let state : State = c.args.s in
    let card : List ℕ = c.args.card.now in
    let window : ℕ = c.args.window in
    let sound : CardSound (state_rule state) state.lengths card =
    card-sound (state_rule state) state.lengths card
    (rw (c.in_default.is, c.state_ok.ensures) at c.judge_card.ensures) in
    let formed : partitions_formed (words card) (blocks state) (finished state.partitions) ≡ true = sym c.partitions_ok.ensures ∙ not-false _ c.if-not-partitions_ok.false-raw in
    let counts : Counts = c.in-Some.c in
    let j : Removable state card window counts = removable state card window sound.rule sound.size formed counts c.in-Some.ensures in
    let aimed : Aimed (removal_flushes state (counts_in counts)) state card (Ok c.in-Ok.block) = judged state (counts_in counts) card _ (Ok c.in-Ok.block) c.must_flush.ensures (rw c.in-Ok.is at c.target_of.ensures) in
    emptiable state card window counts j c.in-Ok.block aimed

pub without-requires : goal.without-requires
without-requires c =
    let state : State = c.args.s in
    let card : List ℕ = c.args.card.now in
    let window : ℕ = c.args.window in
    let sound : CardSound (state_rule state) state.lengths card =
    card-sound (state_rule state) state.lengths card
    (rw (c.in_default.is, c.state_ok.ensures) at c.judge_card.ensures) in
    let formed : partitions_formed (words card) (blocks state) (finished state.partitions) ≡ true = sym c.partitions_ok.ensures ∙ not-false _ c.if-not-partitions_ok.false-raw in
    let counts : Counts = c.in-Some.c in
    let j : Removable state card window counts = removable state card window sound.rule sound.size formed counts c.in-Some.ensures in
    let shut : names_open state window ≡ false = sym c.names_open.ensures ∙ c.if-names_open.false in
    let live : no_live_window state window (counts_in counts) ≡ false = sym c.not_live.ensures ∙ c.if-not_live.false in
    let aimed : Aimed (removal_flushes state (counts_in counts)) state card (Ok c.in-Ok.block) = judged state (counts_in counts) card _ (Ok c.in-Ok.block) c.must_flush.ensures (rw c.in-Ok.is at c.target_of.ensures) in
    (takeable-emptied state card window counts j c.in-Ok.block aimed, some-live state card window (counts_in counts) shut live, c.list_after-list.ensures.0)

pub returns : goal.returns
returns c =
    let state : State = c.args.s in
    let card : List ℕ = c.args.card.now in
    let window : ℕ = c.args.window in
    let sound : CardSound (state_rule state) state.lengths card =
    card-sound (state_rule state) state.lengths card
    (rw (c.in_default.is, c.state_ok.ensures) at c.judge_card.ensures) in
    let formed : partitions_formed (words card) (blocks state) (finished state.partitions) ≡ true = sym c.partitions_ok.ensures ∙ not-false _ c.if-not-partitions_ok.false-raw in
    let counts : Counts = c.in-Some.c in
    let shut : names_open state window ≡ false = sym c.names_open.ensures ∙ c.if-names_open.false in
    let live : no_live_window state window (counts_in counts) ≡ false = sym c.not_live.ensures ∙ c.if-not_live.false in
    let aimed : Aimed (removal_flushes state (counts_in counts)) state card (Ok c.in-Ok.block) = judged state (counts_in counts) card _ (Ok c.in-Ok.block) c.must_flush.ensures (rw c.in-Ok.is at c.target_of.ensures) in
    goes_on state card window sound.rule sound.size formed counts c.in-Some.ensures
    (rw (c.done.ensures, c.without.ensures, c.list_after-list.ensures.1) (removed-emptied state card window (counts_in counts) shut live c.in-Ok.block aimed))

pub returns-in_default-read : goal.returns-in_default-read
returns-in_default-read c =
    let state : State = c.args.s in
    let card : List ℕ = c.args.card.now in
    let window : ℕ = c.args.window in
    let sound : CardSound (state_rule state) state.lengths card =
    card-sound (state_rule state) state.lengths card
    (rw (c.in_default.is, c.state_ok.ensures) at c.judge_card.ensures) in
    let formed : partitions_formed (words card) (blocks state) (finished state.partitions) ≡ true = sym c.partitions_ok.ensures ∙ not-false _ c.if-not-partitions_ok.false-raw in
    rw c.refuse-in_default-read.ensures (bad-lists state card window sound.rule sound.size formed c.in_default-read.ensures)
