use Rattle.events.proofs.counting.enter.Goals as goal

pub returns : goal.returns
returns c = (rw (c.done.ensures, c.count_event.ensures), c.note.ensures)
