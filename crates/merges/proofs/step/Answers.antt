-- `merges::step` meets its contract: what is judged first refuses, then refusal 3, and the step that is done.
use Rattle.lists.proofs.Prelude.{true, not, List, [], ◌∷◌, ℕ, ◌*◌, length, ◌≡◌, sym, ap, subst, ◌∙◌, rules, not-true, not-false, every, and_left}
use Rattle.words.specs.Words.{words}
use Rattle.answers.specs.Answers.{Answer, done}
use Rattle.state.specs.declared.State.{State}
use Rattle.state.specs.Rules.{state_rule}
use Rattle.state.specs.Probe.{Store}
use Rattle.state.specs.Views.{blocks, finished}
use Rattle.state.proofs.Kept.{state-kept}
use Rattle.partitions.specs.Formed.{partition_rule, partitions_formed}
use Rattle.admission.specs.Admission.{first_of, card_tests}
use Rattle.admission.proofs.Laws.{CardSound, card-sound}
use Rattle.windows.specs.Promises.{Gives, store_of}
use Rattle.windows.proofs.Outcomes.{stopped}
use Rattle.flushes.proofs.Flushes.{gives-by}
use Rattle.plans.specs.Step.{step_of}
use Rattle.plans.specs.Acting.{third_on}
use Rattle.plans.proofs.Merged.{all-chained}
use Rattle.plans.proofs.Stepping.{step-barred, step-granted, card-long, formed-first, formed-stands}
use Rattle.plans.proofs.Planning.{next-told}
use Rattle.merges.proofs.step.Goals as goal

-- the rest decides
pub returns-in-Err : goal.returns-in-Err
returns-in-Err c =
    let a = c.args in
    rw c.refuse.ensures (step-barred a.s a.card.now _ (rw (c.in-Err.is, c.state_ok.ensures) at c.judge_card.ensures))

pub partitions_ok-requires : goal.partitions_ok-requires
partitions_ok-requires c =
    let state : State = c.args.s in
    let card : List ℕ = c.args.card.now in
    let passes : 0 ≡ first_of (1 ∷ 2 ∷ []) (card_tests (state_rule state) state.lengths card) =
    rw (c.in_default.is, c.state_ok.ensures) at c.judge_card.ensures in
    let sound : CardSound (state_rule state) state.lengths card = card-sound (state_rule state) state.lengths card passes in
    let long : length (words card) ≡ 1024 * blocks state = card-long state card sound.rule sound.size in
    let k = state-kept state sound.rule in
    (long, k.lengths.most_blocks, k.partitions.used, k.partitions.rules)

pub returns-then-not-partitions_ok : goal.returns-then-not-partitions_ok
returns-then-not-partitions_ok c =
    let state : State = c.args.s in
    let card : List ℕ = c.args.card.now in
    let passes : 0 ≡ first_of (1 ∷ 2 ∷ []) (card_tests (state_rule state) state.lengths card) =
    rw (c.in_default.is, c.state_ok.ensures) at c.judge_card.ensures in
    let by-third : (a : Answer) (after : Store) → Gives (store_of state card) (third_on state card) a after → Gives (store_of state card) (step_of (store_of state card)) a after =
    λ a after. gives-by (step_of (store_of state card)) (third_on state card) (step-granted state card passes) in
    rw c.refuse-then-not-partitions_ok.ensures
    (by-third _ _ (stopped _ 3 _ (ap not (formed-first (words card) state (sym c.partitions_ok.ensures ∙ not-true _ c.if-not-partitions_ok.true-raw)))))

pub stands-requires : goal.stands-requires
unfolding partitions_formed
stands-requires c =
    let card : List ℕ = c.args.card.now in
    let state : State = c.args.s in
    let passes : 0 ≡ first_of (1 ∷ 2 ∷ []) (card_tests (state_rule state) state.lengths card) =
    rw (c.in_default.is, c.state_ok.ensures) at c.judge_card.ensures in
    let sound : CardSound (state_rule state) state.lengths card = card-sound (state_rule state) state.lengths card passes in
    let long : length (words card) ≡ 1024 * blocks state = card-long state card sound.rule sound.size in
    let formed : partitions_formed (words card) (blocks state) (finished state.partitions) ≡ true = sym c.partitions_ok.ensures ∙ not-false _ c.if-not-partitions_ok.false-raw in
    let W = words card in
    let k = state-kept state sound.rule in
    let fin = finished state.partitions in
    (long, k.lengths.most_blocks, k.partitions.used, all-chained W (blocks state) long k.lengths.most_blocks fin (and_left (every (partition_rule W (blocks state)) fin) _ formed))

pub returns-then-not-stands : goal.returns-then-not-stands
returns-then-not-stands c =
    let state : State = c.args.s in
    let card : List ℕ = c.args.card.now in
    let passes : 0 ≡ first_of (1 ∷ 2 ∷ []) (card_tests (state_rule state) state.lengths card) =
    rw (c.in_default.is, c.state_ok.ensures) at c.judge_card.ensures in
    let by-third : (a : Answer) (after : Store) → Gives (store_of state card) (third_on state card) a after → Gives (store_of state card) (step_of (store_of state card)) a after =
    λ a after. gives-by (step_of (store_of state card)) (third_on state card) (step-granted state card passes) in
    let formed : partitions_formed (words card) (blocks state) (finished state.partitions) ≡ true = sym c.partitions_ok.ensures ∙ not-false _ c.if-not-partitions_ok.false-raw in
    rw c.refuse-then-not-stands.ensures
    (by-third _ _ (stopped _ 3 _ (ap not (formed-stands (words card) state formed (sym c.stands.ensures ∙ not-true _ c.if-not-stands.true-raw)))))

pub inputs_of-is-requires : goal.inputs_of-is-requires
inputs_of-is-requires c =
    let state : State = c.args.s in
    let card : List ℕ = c.args.card.now in
    let passes : 0 ≡ first_of (1 ∷ 2 ∷ []) (card_tests (state_rule state) state.lengths card) =
    rw (c.in_default.is, c.state_ok.ensures) at c.judge_card.ensures in
    let sound : CardSound (state_rule state) state.lengths card = card-sound (state_rule state) state.lengths card passes in
    let k = (state-kept state sound.rule).partitions in
    (k.used, k.form)

pub output_level-requires : goal.output_level-requires
output_level-requires c =
    let state : State = c.args.s in
    let card : List ℕ = c.args.card.now in
    let passes : 0 ≡ first_of (1 ∷ 2 ∷ []) (card_tests (state_rule state) state.lengths card) =
    rw (c.in_default.is, c.state_ok.ensures) at c.judge_card.ensures in
    let sound : CardSound (state_rule state) state.lengths card = card-sound (state_rule state) state.lengths card passes in
    (state-kept state sound.rule).partitions.used

pub act-requires : goal.act-requires
act-requires c =
    let state : State = c.args.s in
    let card : List ℕ = c.args.card.now in
    let passes : 0 ≡ first_of (1 ∷ 2 ∷ []) (card_tests (state_rule state) state.lengths card) =
    rw (c.in_default.is, c.state_ok.ensures) at c.judge_card.ensures in
    let sound : CardSound (state_rule state) state.lengths card = card-sound (state_rule state) state.lengths card passes in
    let formed : partitions_formed (words card) (blocks state) (finished state.partitions) ≡ true = sym c.partitions_ok.ensures ∙ not-false _ c.if-not-partitions_ok.false-raw in
    let k = sound in
    record {
      rule = k.rule;
      size = k.size;
      formed = formed;
      stands = sym c.stands.ensures ∙ not-false _ c.if-not-stands.false-raw;
      are = c.inputs_of-is.ensures;
      level = c.output_level.ensures;
    }

pub returns-in-Err-act : goal.returns-in-Err-act
returns-in-Err-act c =
    let state : State = c.args.s in
    let card : List ℕ = c.args.card.now in
    let passes : 0 ≡ first_of (1 ∷ 2 ∷ []) (card_tests (state_rule state) state.lengths card) =
    rw (c.in_default.is, c.state_ok.ensures) at c.judge_card.ensures in
    let by-third : (a : Answer) (after : Store) → Gives (store_of state card) (third_on state card) a after → Gives (store_of state card) (step_of (store_of state card)) a after =
    λ a after. gives-by (step_of (store_of state card)) (third_on state card) (step-granted state card passes) in
    let q = c.in-Err-act.ensures in
    rw (c.refuse-in-Err-act.ensures, q.same) (by-third _ _ q.told)

pub list_after-list-requires : goal.list_after-list-requires
list_after-list-requires c =
    let state : State = c.args.s in
    let card : List ℕ = c.args.card.now in
    let passes : 0 ≡ first_of (1 ∷ 2 ∷ []) (card_tests (state_rule state) state.lengths card) =
    rw (c.in_default.is, c.state_ok.ensures) at c.judge_card.ensures in
    let sound : CardSound (state_rule state) state.lengths card = card-sound (state_rule state) state.lengths card passes in
    let k = (state-kept state sound.rule).partitions in
    (k.used, k.form, c.in-Ok.ensures.small)

pub job_after-job-requires : goal.job_after-job-requires
job_after-job-requires c =
    (c.in-Ok.ensures.small, c.in-Ok.ensures.early)

pub returns : goal.returns
returns c =
    let state : State = c.args.s in
    let card : List ℕ = c.args.card.now in
    let passes : 0 ≡ first_of (1 ∷ 2 ∷ []) (card_tests (state_rule state) state.lengths card) =
    rw (c.in_default.is, c.state_ok.ensures) at c.judge_card.ensures in
    let by-third : (a : Answer) (after : Store) → Gives (store_of state card) (third_on state card) a after → Gives (store_of state card) (step_of (store_of state card)) a after =
    λ a after. gives-by (step_of (store_of state card)) (third_on state card) (step-granted state card passes) in
    let s = state in
    let b = card in
    let d = c.in-Ok.d in
    let e = next-told s d.last d.totals d.output c.list_after-list.result c.job_after-job.result c.list_after-list.ensures c.job_after-job.ensures in
    rw c.done.ensures (by-third _ _ (subst (λ (x : State). Gives (store_of s b) (third_on s b) done (store_of x c.act.new.card)) (sym e) c.in-Ok.ensures.done))
