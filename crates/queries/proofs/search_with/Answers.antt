-- `queries::search_with` meets its contract: the refusals in order, and then the best hits of the second pass.
use Rattle.lists.proofs.Prelude.{false, List, map, any, ◌≡◌, sym, ◌∙◌, ℕ, ◌+◌, ◌*◌, arith, lt-ltb, le-ltb, rules}
use Rattle.answers.specs.declared.Refusal.TheVariants.{Malformed, BadIdentifier, BadQuery, BadStretch}
use Rattle.identifiers.specs.Names.{Name, bad_length}
use Rattle.ranking.specs.Asked.{bad_query}
use Rattle.queries.specs.declared.judging.Known.{Known}
use Rattle.queries.proofs.Outcomes.{proper, refused_as, finds-malformed, finds-identifier, finds-bad, finds-stretch, terms-walkable, finds-walked}
use Rattle.queries.proofs.search_with.Goals as goal
use Rattle.queries.proofs.search_with.Lts as lts
use Rattle.queries.proofs.search_with.Tie as tie
use Rattle.queries.proofs.search_with.Reads as reads

abbrev Else2 : Type 0
Else2 = lts.Else2 tie.the-claims reads.Pre reads.Post

pub returns-in_default : goal.returns-in_default
returns-in_default c =
    let a = c.args in
    let ns = map (λ x. x.now) a.ids.now in
    refused_as _ a.places Malformed _ c.refuse.ensures
    (finds-malformed a.s a.card.now a.register.now c.requires.0 a.t a.live ns a.places c.in_default.ensures)

pub returns-then-any_bad : goal.returns-then-any_bad
returns-then-any_bad c =
    let a = c.args in
    let ns = map (λ x. x.now) a.ids.now in
    let g = c.gathered in
    let H = g.new.heads in
    refused_as _ a.places BadIdentifier _ c.refuse-then-any_bad.ensures
    (finds-identifier a.s a.card.now a.register.now c.requires.0 a.t a.live ns a.places a.run.now H c.in-Some.k c.in-Some.ensures (sym c.any_bad.ensures ∙ c.if-any_bad.true))

pub returns-then-bad_query : goal.returns-then-bad_query
returns-then-bad_query c =
    let a = c.args in
    let ns = map (λ x. x.now) a.ids.now in
    let g = c.gathered in
    let H = g.new.heads in
    refused_as _ a.places BadQuery _ c.refuse-then-bad_query.ensures
    (finds-bad a.s a.card.now a.register.now c.requires.0 a.t a.live ns a.places a.run.now H c.in-Some.k c.in-Some.ensures (sym c.any_bad.ensures ∙ c.if-any_bad.false)
    (sym c.bad_query.ensures ∙ c.if-bad_query.true))

abbrev named : Else2 → List Name
named m = map (λ x. x.now) m.args.ids.now

abbrev known : Else2 → Known
known m = m.in-Some.k

abbrev heads : Else2 → List ℕ
heads m = m.gathered.new.heads

lengths : (m : Else2) → any bad_length (named m) ≡ false
lengths m = sym m.any_bad.ensures ∙ m.if-any_bad.false

asked : (m : Else2) → bad_query m.args.places (named m) ≡ false
asked m = sym m.bad_query.ensures ∙ m.if-bad_query.false

pub returns-then-t : goal.returns-then-t
returns-then-t c =
    let a = c.before.before.before.before.args in
    refused_as _ a.places BadStretch _ c.refuse-then-t.ensures
    (finds-stretch a.s a.card.now a.register.now c.before.before.before.before.requires.0 a.t a.live (named c.before.before.before.before) a.places a.run.now (heads c.before.before.before.before) (known c.before.before.before.before) c.in-Some.ensures (lengths c.before.before.before.before) (asked c.before.before.before.before) (lt-ltb _ _ c.if-t.true))

pub overflow_cast-places : goal.overflow_cast-places
overflow_cast-places c = omega (arith, (proper c.before.before.before.before.before.before.before.args.places (named c.before.before.before.before.before.before.before) (asked c.before.before.before.before.before.before.before)).most)

pub walk-top-requires : goal.walk-top-requires
walk-top-requires c =
    let a = c.before.before.before.before.before.before.before.before.before.args in
    let q = proper a.places (named c.before.before.before.before.before.before.before.before.before) (asked c.before.before.before.before.before.before.before.before.before) in
    (terms-walkable a.s a.card.now a.register.now c.before.before.before.before.before.before.before.before.before.requires.0 a.t a.live (named c.before.before.before.before.before.before.before.before.before) a.places a.run.now (heads c.before.before.before.before.before.before.before.before.before) (known c.before.before.before.before.before.before.before.before.before) c.in-Some.ensures (lengths c.before.before.before.before.before.before.before.before.before) (asked c.before.before.before.before.before.before.before.before.before) (4 * a.s.partitions.used + 4) (rw c.heads-1.given c.before.before.before.before.before.before.before.before.before.requires.1), q.some, q.most)

-- the heads after the walk
pub shape_of-heads : goal.shape_of-heads
shape_of-heads c = let h = c.heads-2-1.given in let g = c.heads-1.given in search rules

pub returns : goal.returns
returns c =
    let a = c.before.before.before.before.before.before.before.before.before.before.before.before.args in
    finds-walked a.s a.card.now a.register.now c.before.before.before.before.before.before.before.before.before.before.before.before.requires.0 a.t a.live (named c.before.before.before.before.before.before.before.before.before.before.before.before) a.places a.run.now (heads c.before.before.before.before.before.before.before.before.before.before.before.before) (known c.before.before.before.before.before.before.before.before.before.before.before.before) c.in-Some.ensures (lengths c.before.before.before.before.before.before.before.before.before.before.before.before) (asked c.before.before.before.before.before.before.before.before.before.before.before.before) (le-ltb _ _ c.if-t.false) c.walk-top.result c.walk-top.ensures
