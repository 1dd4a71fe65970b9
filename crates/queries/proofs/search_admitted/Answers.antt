-- `queries::search_admitted` meets its contract: the finished partitions, and then what is sound.
use Rattle.lists.proofs.Prelude.{not-true, not-false, map, sym, ◌∙◌, arith}
use Rattle.answers.specs.declared.Refusal.TheVariants.{Malformed}
use Rattle.state.proofs.Kept.{state-kept}
use Rattle.words.proofs.Views.{length-words}
use Rattle.queries.specs.Finds.{probe_of, answered}
use Rattle.words.specs.Words.{words}
use Rattle.stretches.proofs.Read.{rule-read, formed-read}
use Rattle.queries.proofs.Outcomes.{refused_as, finds-partitions, answered-read}
use Rattle.queries.proofs.search_admitted.Goals as goal

pub partitions_ok-requires : goal.partitions_ok-requires
partitions_ok-requires c =
    let k = state-kept c.args.s c.requires.0 in
    (omega (arith, length-words c.args.card.now, c.requires.1, k.lengths.card), k.lengths.most_blocks, k.partitions.used, k.partitions.rules)

pub returns-then-not-partitions_ok : goal.returns-then-not-partitions_ok
returns-then-not-partitions_ok c =
    let a = c.args in
    let ns = map (λ x. x.now) a.ids.now in
    refused_as (answered (probe_of a.s a.card.now a.register.now) a.t ns a.places) a.places Malformed _ c.refuse.ensures
    (finds-partitions a.s a.card.now a.register.now a.t ns a.places c.requires.0 c.requires.1 c.requires.2 c.requires.3 (sym c.partitions_ok.ensures ∙ not-true _ c.if-not-partitions_ok.true-raw))

-- past the partitions the state as it is read is sound
pub search_read-requires : goal.search_read-requires
search_read-requires c =
    let a = c.args in
    let formed = sym c.partitions_ok.ensures ∙ not-false _ c.if-not-partitions_ok.false-raw in
    rw c.read_by-read.ensures
    (record {
      rule = rule-read a.t a.s c.requires.0;
      card = c.requires.1;
      register = c.requires.2;
      names = c.requires.3;
      partitions = formed-read a.t a.s c.requires.0 (words a.card.now) formed;
    })

pub returns : goal.returns
returns c =
    let a = c.args in
    let ns = map (λ x. x.now) a.ids.now in
    let formed = sym c.partitions_ok.ensures ∙ not-false _ c.if-not-partitions_ok.false-raw in
    rw (answered-read a.s a.card.now a.register.now a.t ns a.places c.requires.0 c.requires.1 c.requires.2 c.requires.3 formed)
    (rw c.read_by-read.ensures at c.search_read.ensures)
