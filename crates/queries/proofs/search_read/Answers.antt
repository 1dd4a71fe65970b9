-- `queries::search_read` meets its contract: the lists of what is read, and then the rest with N as it is counted.
use Rattle.lists.proofs.Prelude.{map, arith}
use Rattle.answers.specs.Answers.{answer_of}
use Rattle.answers.specs.declared.Refusal.TheVariants.{Malformed}
use Rattle.queries.proofs.Tested.{sound-words}
use Rattle.queries.proofs.Outcomes.{refused_as, reading, finds-lists, finds-rest}
use Rattle.queries.proofs.search_read.Goals as goal

pub count-requires : goal.count-requires
count-requires c =
    let a = c.args in
    (c.requires.rule, sound-words a.s a.card.now a.register.now c.requires, c.requires.partitions)

pub returns-in_default : goal.returns-in_default
returns-in_default c =
    let a = c.args in
    let ns = map (λ x. x.now) a.ids.now in
    refused_as (answer_of (reading a.s a.card.now a.register.now a.t ns a.places)) a.places Malformed _ c.refuse.ensures
    (finds-lists a.s a.card.now a.register.now a.t ns a.places c.in_default.ensures)

pub overflow_cast-live : goal.overflow_cast-live
overflow_cast-live c = record { fits = omega (arith, c.in-Some.ensures.few) }

pub returns-then-places-eq32 : goal.returns-then-places-eq32
returns-then-places-eq32 c =
    let a = c.args in
    let ns = map (λ x. x.now) a.ids.now in
    rw c.if-places-eq32.true
    (finds-rest a.s a.card.now a.register.now a.t ns 32 c.in-Some.live c.in-Some.ensures _ c.search_sound.ensures)

pub returns : goal.returns
returns c =
    let a = c.args in
    let ns = map (λ x. x.now) a.ids.now in
    finds-rest a.s a.card.now a.register.now a.t ns a.places c.in-Some.live c.in-Some.ensures _ c.search_sound-2.ensures
