-- `blocks::is_free` meets its contract: the test of each place of the block is one of each of its words.
use Rattle.lists.proofs.Prelude.{◌∙◌, ◌+◌, ◌*◌, get_or, arith, rules, eqb}
use borrow.Author.Tests.{tests}
use Rattle.std.proofs.lemmas.Iterator.{YieldsList-from_range}
use Rattle.std.proofs.lemmas.Iterator.Search.{all_from_yields_List}
use Rattle.words.specs.Words.{words, all_ones}
use Rattle.blocks.proofs.Taking.{every-places}
use Rattle.blocks.proofs.is_free.Goals as goal

pub returns : goal.returns
returns c =
    let W = words c.args.card.now in
    all_from_yields_List (λ i. eqb (get_or W (1024 * c.args.block + i) 0) all_ones) _ _ _ c.all.ensures.ran (YieldsList-from_range 0 1024 1024 (cc) (omega arith)) (λ x b q k. search (rules, tests))
    ∙ every-places W (1024 * c.args.block) all_ones 1024 (omega arith)
