-- `means::mean_admitted` meets its contract: the finished partitions, and then the identifier, if the register has it.
use Rattle.lists.proofs.Prelude.{true, ◌≡◌, rules, not-true, not-false, sym, ap, ◌∙◌, arith, eq-eqb, and_both}
use Rattle.answers.specs.Answers.{answer_of}
use Rattle.state.specs.Probe.{Probe, probe_of, has_length}
use Rattle.state.proofs.Kept.{state-kept}
use Rattle.words.specs.Words.{words}
use Rattle.words.proofs.Views.{length-words}
use Rattle.admission.specs.Admission.{same_lengths}
use Rattle.stretches.proofs.Read.{rule-read, formed-read}
use Rattle.means.proofs.Outcomes.{mean-partitions, mean-rest}
use Rattle.means.proofs.mean_admitted.Goals as goal
use Rattle.means.proofs.mean_admitted.Lts as lts
use Rattle.means.proofs.mean_admitted.Tie as tie
use Rattle.means.proofs.mean_admitted.Reads as reads

abbrev Start : Type 0
Start = lts.Start tie.the-claims reads.Pre reads.Post

abbrev probe : Start → Probe
probe s = probe_of s.args.s s.args.card.now s.args.register.now

lengths : (s : Start) → same_lengths s.args.s.lengths s.args.card.now s.args.register.now ≡ true
lengths s = and_both (has_length s.args.card.now s.args.s.lengths.card) _ (eq-eqb _ _ s.requires.1) (eq-eqb _ _ s.requires.2)

pub partitions_ok-requires : goal.partitions_ok-requires
partitions_ok-requires c =
    let k = state-kept c.args.s c.requires.0 in
    (omega (arith, length-words c.args.card.now, c.requires.1, k.lengths.card), k.lengths.most_blocks, k.partitions.used, k.partitions.rules)

pub returns-then-not-partitions_ok : goal.returns-then-not-partitions_ok
returns-then-not-partitions_ok c =
    sym (ap answer_of (mean-partitions (probe c.before.before.before.before.before.before.before.before) c.args.id.now c.requires.0 (lengths c.before.before.before.before.before.before.before.before) c.requires.3 (sym c.partitions_ok.ensures ∙ not-true _ c.if-not-partitions_ok.true-raw)))

-- past the partitions the state as it is read is sound
pub mean_read-requires : goal.mean_read-requires
mean_read-requires c =
    let a = c.args in
    let formed = sym c.partitions_ok.ensures ∙ not-false _ c.if-not-partitions_ok.false-raw in
    rw c.read_by-read.ensures
    (record {
      rule = rule-read _ a.s c.requires.0;
      card = c.requires.1;
      register = c.requires.2;
      names = c.requires.3;
      partitions = formed-read _ a.s c.requires.0 (words a.card.now) formed;
    })

pub returns : goal.returns
returns c =
    let formed = sym c.partitions_ok.ensures ∙ not-false _ c.if-not-partitions_ok.false-raw in
    rw (c.read_by-read.ensures, c.all_windows.ensures) at c.mean_read.ensures
    ∙ sym (ap answer_of (mean-rest (probe c.before.before.before.before.before.before.before.before.before.before.before) c.args.id.now c.requires.0 (lengths c.before.before.before.before.before.before.before.before.before.before.before) c.requires.3 formed))
