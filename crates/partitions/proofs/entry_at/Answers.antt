-- `partitions::entry_at` meets its contract: three words are to come, so each cursor on the way is good.
use Rattle.lists.proofs.Prelude.{ap, ◌∙◌}
use Rattle.words.specs.Words.{words}
use Rattle.card.specs.Cursors.{moved_of}
use Rattle.partitions.proofs.Listed.{second_word, third-word}
use Rattle.partitions.proofs.entry_at.Goals as goal

pub moved-third-requires : goal.moved-third-requires
moved-third-requires c = second_word (words c.args.card.now) c.args.e c.requires.0 c.requires.1 c.moved-second.result c.moved-second.ensures

pub head-requires-2 : goal.head-requires-2
head-requires-2 c = second_word (words c.args.card.now) c.args.e c.requires.0 c.requires.1 c.moved-second.result c.moved-second.ensures

pub head-requires-3 : goal.head-requires-3
head-requires-3 c =
    let W = words c.args.card.now in
    third-word W c.args.e c.requires.0 c.requires.1 c.moved-third.result (c.moved-third.ensures ∙ ap (moved_of W) c.moved-second.ensures)

pub moved-requires : goal.moved-requires
moved-requires c =
    let W = words c.args.card.now in
    third-word W c.args.e c.requires.0 c.requires.1 c.moved-third.result (c.moved-third.ensures ∙ ap (moved_of W) c.moved-second.ensures)
