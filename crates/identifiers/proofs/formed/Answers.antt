use Rattle.lists.proofs.Prelude.{Bool, true, false, ◌&&◌, not, [], ◌≡◌, sym, ap, ◌∙◌, suc, ◌<◌, add-one, arith, not-true, not-false, length, get_or, drop, drop_of_length-le}
use Rattle.identifiers.specs.Register.{entries, used, entry_rule}
use Rattle.identifiers.specs.Formed.{formed_from}
use Rattle.identifiers.proofs.Entries.{length-entries, length-entry, formed-at, formed-end, unused-flag}
use Rattle.identifiers.proofs.formed.Goals as goal

pub entry_at-entry-requires : goal.entry_at-entry-requires
entry_at-entry-requires c = omega (arith, length-entries c.args.register.now)

pub entry_ok-requires : goal.entry_ok-requires
entry_ok-requires c =
    let r = c.args.register.now in
    let i = c.loop-i.i in
    let h : i < length (entries r) = omega (arith, length-entries r) in
    rw c.entry_at-entry.ensures (length-entry r i h)

pub returns-then-not-entry_ok : goal.returns-then-not-entry_ok
returns-then-not-entry_ok c =
    let r = c.args.register.now in
    let i = c.loop-i.i in
    let h : i < length (entries r) = omega (arith, length-entries r) in
    let e : (entry_rule (get_or (entries r) i []) && not (c.loop-i.ended && used (get_or (entries r) i []))) ≡ false =
    rw (← c.entry_at-entry.ensures) (sym c.entry_ok.ensures ∙ not-true _ c.if-not-entry_ok.true-raw) in
    sym (c.loop-i.invariant ∙ formed-at c.loop-i.ended r i h ∙ rw e)

pub bounds-entry-0 : goal.bounds-entry-0
bounds-entry-0 c =
    let r = c.args.register.now in
    let i = c.loop-i.i in
    let h : i < length (entries r) = omega (arith, length-entries r) in
    rw c.entry_at-entry.ensures (omega (arith, length-entry r i h))

pub loop-i-preserved : goal.loop-i-preserved
loop-i-preserved c =
    let r = c.args.register.now in
    let i = c.loop-i.i in
    let h : i < length (entries r) = omega (arith, length-entries r) in
    let e : (entry_rule (get_or (entries r) i []) && not (c.loop-i.ended && used (get_or (entries r) i []))) ≡ true =
    rw (← c.entry_at-entry.ensures) (sym c.entry_ok.ensures ∙ not-false _ c.if-not-entry_ok.false-raw) in
    let t : formed_from c.loop-i.ended (drop i (entries r)) ≡ formed_from (not (used (get_or (entries r) i []))) (drop (suc i) (entries r)) =
    formed-at c.loop-i.ended r i h ∙ rw e in
    rw (add-one i, c.entry_at-entry.ensures)
    (c.loop-i.invariant ∙ t ∙ ap (λ (b : Bool). formed_from b (drop (suc i) (entries r))) (sym (unused-flag (get_or (entries r) i []))))

pub returns : goal.returns
returns c =
    let r = c.args.register.now in
    sym (c.loop-i.invariant ∙ rw (drop_of_length-le (entries r) {i = c.loop-i.i} (omega (arith, length-entries r))) (formed-end c.loop-i.ended))
