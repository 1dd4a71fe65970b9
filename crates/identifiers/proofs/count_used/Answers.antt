use Rattle.lists.proofs.Prelude.{true, false, List, [], ◌≡◌, ap, ℕ, ◌<◌, add-one, arith, lt-ltb, le-ltb, length, get_or, drop, drop_of_length-le, keep}
use Rattle.identifiers.specs.Register.{entries, size, used}
use Rattle.identifiers.proofs.Entries.{length-entries, size-at, formed-first, count-names, used-stopped, used-on}
use Rattle.identifiers.proofs.count_used.Goals as goal

pub loop-i-init : goal.loop-i-init
loop-i-init c = record { counted = omega (arith, count-names c.args.register.now); first = formed-first c.args.register.now c.requires }

pub returns-then-register-i-eq0 : goal.returns-then-register-i-eq0
returns-then-register-i-eq0 c =
    let r = c.args.register.now in
    let i = c.loop-i.i in
    let h : i < length (entries r) = omega (arith, length-entries r) in
    let u : used (get_or (entries r) i []) ≡ false = le-ltb 0 (size (get_or (entries r) i [])) (omega (arith, size-at r i h)) in
    omega (arith, ap length (used-stopped (entries r) i h c.loop-i.invariant.first u))

pub loop-i-preserved : goal.loop-i-preserved
loop-i-preserved c =
    let r = c.args.register.now in
    let i = c.loop-i.i in
    let h : i < length (entries r) = omega (arith, length-entries r) in
    let u : used (get_or (entries r) i []) ≡ true = lt-ltb 0 (size (get_or (entries r) i [])) (omega (arith, size-at r i h)) in
    let on = used-on (entries r) i h c.loop-i.invariant.first u in
    record { counted = rw add-one (omega (arith, on.0)); first = rw add-one on.1 }

pub returns : goal.returns
returns c =
    let r = c.args.register.now in
    let d : drop c.loop-i.i (entries r) ≡ [] = drop_of_length-le (entries r) {i = c.loop-i.i} (omega (arith, length-entries r)) in
    omega (arith, ap (λ (es : List (List ℕ)). length (keep used es)) d)
