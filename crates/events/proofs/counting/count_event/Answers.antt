use Rattle.state.proofs.Kept.{listed_kept}
use Rattle.events.specs.Event.{counted}
use Rattle.events.proofs.counting.count_event.Goals as goal

pub count_listed-l-requires : goal.count_listed-l-requires
count_listed-l-requires c =
    let k = listed_kept c.args.s.windows c.args.s.listed c.requires.listed_kept in
    (k.used, k.form, c.requires.identifiers)

pub returns : goal.returns
unfolding counted
returns c = rw (c.count_window-w.ensures, c.count_listed-l.ensures, c.count_pair-b.ensures)
