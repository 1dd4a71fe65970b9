-- `forecasts::naming::find` meets its contract: an identifier of the register has its number there, and any other is numbered on from those.
use Rattle.lists.proofs.Prelude.{map, sym, ◌∙◌, arith, take, length-map, length-take}
use Rattle.identifiers.specs.Register.{names}
use Rattle.identifiers.proofs.Names.{number-within}
use Rattle.identifiers.proofs.Entries.{rule-formed, names-bound}
use Rattle.forecasts.specs.Sketches.{identifier_at}
use Rattle.forecasts.proofs.Names.{number-front, number_past}
use Rattle.forecasts.proofs.naming.find.Goals as goal

pub find-i-requires : goal.find-i-requires
find-i-requires c = c.args.g.now.lent.rule

pub returns-then-i-g : goal.returns-then-i-g
returns-then-i-g c =
    c.find-i.ensures ∙ sym (number-front (names c.args.g.now.register.now) _ c.args.id.now (omega (arith, c.find-i.ensures, c.args.g.now.lent.count)))

pub find_new-requires : goal.find_new-requires
find_new-requires c = (c.requires.0, c.requires.1)

pub overflow_add-result : goal.overflow_add-result
overflow_add-result c =
    let ps = take c.args.known c.args.places.now in
    omega (
      arith,
      c.find_new.ensures,
      number-within (map (identifier_at c.args.g.now.plan.now) ps) c.args.id.now,
      length-map ps (identifier_at c.args.g.now.plan.now),
      length-take c.args.known c.args.places.now,
      c.args.g.now.lent.count,
      names-bound c.args.g.now.register.now (rule-formed c.args.g.now.register.now c.args.g.now.lent.rule) c.args.g.now.lent.size,
      c.requires.0,
    )

pub returns : goal.returns
returns c =
    let ms = names c.args.g.now.register.now in
    let ns = map (identifier_at c.args.g.now.plan.now) (take c.args.known c.args.places.now) in
    omega (
      arith,
      c.find_new.ensures,
      c.args.g.now.lent.count,
      number_past ms ns c.args.id.now (omega (arith, c.find-i.ensures, c.args.g.now.lent.count)),
    )
