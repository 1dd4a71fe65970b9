-- `batches::judge` meets its contract: what is judged first refuses, then refusals 3 and 16, and the removals decide the rest.
use Rattle.lists.proofs.Prelude.{true, List, ℕ, ◌≡◌, sym, ap, ◌∙◌, rules, not-true, not-false}
use Rattle.std.proofs.lemmas.Result.{err_from_is_err_and}
use Rattle.words.specs.Words.{words}
use Rattle.answers.specs.Answers.{answer_of}
use Rattle.state.specs.declared.State.{State}
use Rattle.state.specs.Rules.{state_rule}
use Rattle.state.specs.Views.{blocks, finished}
use Rattle.state.proofs.Kept.{state-kept}
use Rattle.partitions.specs.Formed.{partitions_formed}
use Rattle.admission.proofs.Laws.{CardSound, card-sound}
use Rattle.removals.proofs.Turns.{card-words}
use Rattle.batches.proofs.Turns.{batch-barred, bad-partitions, bad-lists, bad-batch, admitted, goes_on}
use Rattle.batches.proofs.judge.Goals as goal

pub returns-in_err-judge_card : goal.returns-in_err-judge_card
returns-in_err-judge_card c =
    let a = c.args in
    let p = err_from_is_err_and c.from_residual.result c.from_residual.ensures.1 in
    rw (p.1, p.2) (batch-barred a.s a.card.now a.named.now _ (rw (c.in_err-judge_card.was, c.state_ok.ensures) at c.judge_card.ensures))

pub partitions_ok-requires : goal.partitions_ok-requires
partitions_ok-requires c =
    let state : State = c.args.s in
    let card : List ℕ = c.args.card.now in
    let sound : CardSound (state_rule state) state.lengths card =
    card-sound (state_rule state) state.lengths card
    (rw (c.in_ok-judge_card.was, c.state_ok.ensures) at c.judge_card.ensures) in
    let k = state-kept state sound.rule in
    (card-words state card sound.rule sound.size, k.lengths.most_blocks, k.partitions.used, k.partitions.rules)

pub returns-then-not-partitions_ok : goal.returns-then-not-partitions_ok
returns-then-not-partitions_ok c =
    let state : State = c.args.s in
    let card : List ℕ = c.args.card.now in
    let named : List ℕ = c.args.named.now in
    let sound : CardSound (state_rule state) state.lengths card =
    card-sound (state_rule state) state.lengths card
    (rw (c.in_ok-judge_card.was, c.state_ok.ensures) at c.judge_card.ensures) in
    bad-partitions state card named sound.rule sound.size (sym c.partitions_ok.ensures ∙ not-true _ c.if-not-partitions_ok.true-raw)

pub lists_ok-requires : goal.lists_ok-requires
lists_ok-requires c =
    let state : State = c.args.s in
    let card : List ℕ = c.args.card.now in
    let sound : CardSound (state_rule state) state.lengths card =
    card-sound (state_rule state) state.lengths card
    (rw (c.in_ok-judge_card.was, c.state_ok.ensures) at c.judge_card.ensures) in
    let formed : partitions_formed (words card) (blocks state) (finished state.partitions) ≡ true = sym c.partitions_ok.ensures ∙ not-false _ c.if-not-partitions_ok.false-raw in
    (sound.rule, card-words state card sound.rule sound.size, formed)

pub returns-then-not-lists_ok : goal.returns-then-not-lists_ok
returns-then-not-lists_ok c =
    let state : State = c.args.s in
    let card : List ℕ = c.args.card.now in
    let named : List ℕ = c.args.named.now in
    let sound : CardSound (state_rule state) state.lengths card =
    card-sound (state_rule state) state.lengths card
    (rw (c.in_ok-judge_card.was, c.state_ok.ensures) at c.judge_card.ensures) in
    let formed : partitions_formed (words card) (blocks state) (finished state.partitions) ≡ true = sym c.partitions_ok.ensures ∙ not-false _ c.if-not-partitions_ok.false-raw in
    bad-lists state card named sound.rule sound.size formed c.lists_ok.result c.lists_ok.ensures (not-true _ c.if-not-lists_ok.true-raw)

pub returns-then-not-batch_ok : goal.returns-then-not-batch_ok
returns-then-not-batch_ok c =
    let state : State = c.args.s in
    let card : List ℕ = c.args.card.now in
    let named : List ℕ = c.args.named.now in
    let sound : CardSound (state_rule state) state.lengths card =
    card-sound (state_rule state) state.lengths card
    (rw (c.in_ok-judge_card.was, c.state_ok.ensures) at c.judge_card.ensures) in
    let formed : partitions_formed (words card) (blocks state) (finished state.partitions) ≡ true = sym c.partitions_ok.ensures ∙ not-false _ c.if-not-partitions_ok.false-raw in
    bad-batch state card named sound.rule sound.size formed c.lists_ok.result c.lists_ok.ensures (not-false _ c.if-not-lists_ok.false-raw) (sym c.batch_ok.ensures ∙ not-true _ c.if-not-batch_ok.true-raw)

pub judge_all-requires : goal.judge_all-requires
judge_all-requires c =
    let state : State = c.args.s in
    let card : List ℕ = c.args.card.now in
    let named : List ℕ = c.args.named.now in
    let sound : CardSound (state_rule state) state.lengths card =
    card-sound (state_rule state) state.lengths card
    (rw (c.in_ok-judge_card.was, c.state_ok.ensures) at c.judge_card.ensures) in
    let formed : partitions_formed (words card) (blocks state) (finished state.partitions) ≡ true = sym c.partitions_ok.ensures ∙ not-false _ c.if-not-partitions_ok.false-raw in
    admitted state card named sound.rule sound.size formed c.lists_ok.result c.lists_ok.ensures (not-false _ c.if-not-lists_ok.false-raw) (sym c.batch_ok.ensures ∙ not-false _ c.if-not-batch_ok.false-raw)

pub returns : goal.returns
returns c =
    let state : State = c.args.s in
    let card : List ℕ = c.args.card.now in
    let named : List ℕ = c.args.named.now in
    let sound : CardSound (state_rule state) state.lengths card =
    card-sound (state_rule state) state.lengths card
    (rw (c.in_ok-judge_card.was, c.state_ok.ensures) at c.judge_card.ensures) in
    let formed : partitions_formed (words card) (blocks state) (finished state.partitions) ≡ true = sym c.partitions_ok.ensures ∙ not-false _ c.if-not-partitions_ok.false-raw in
    c.judge_all.ensures ∙ sym (ap answer_of (goes_on state card named sound.rule sound.size formed c.lists_ok.result c.lists_ok.ensures (not-false _ c.if-not-lists_ok.false-raw) (sym c.batch_ok.ensures ∙ not-false _ c.if-not-batch_ok.false-raw)))
