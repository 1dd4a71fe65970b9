-- `plans::take_blocks` meets its contract.
use Rattle.lists.proofs.Prelude.{◌≡◌, refl, sym, ap, ◌∙◌, ℕ, ◌-◌, ◌≤◌, arith, length, get_or, take, length-take-le}
use Rattle.words.specs.Words.{words}
use Rattle.card.specs.Blocks.{free_blocks}
use Rattle.blocks.specs.Writes.{store}
use Rattle.plans.proofs.Beginning.{last-at, first-at}
use Rattle.plans.proofs.take_blocks.Goals as goal

pub returns-then-n-eq0 : goal.returns-then-n-eq0
unfolding store
returns-then-n-eq0 c = let e = c.if-n-eq0.true in rw e (refl, refl, refl, refl, refl)

pub returns : goal.returns
returns c =
    let l = c.link_free-l.ensures in
    let bs = take c.args.n (free_blocks (words c.args.card.now) c.args.blocks c.args.taken) in
    let m : length bs ≡ c.args.n = length-take-le c.args.n (free_blocks (words c.args.card.now) c.args.blocks c.args.taken) c.requires.4 in
    let h : 1 ≤ length bs = omega (arith, c.if-n-eq0.false) in
    (l.0, l.1 ∙ first-at bs h, refl, refl, l.2 ∙ sym (last-at c.args.taken bs h ∙ ap (λ (k : ℕ). get_or bs (k - 1) 0) m))
