-- `forecasts::counting::counted` meets its contract.
use Rattle.forecasts.proofs.counting.counted.Goals as goal

pub returns : goal.returns
returns c = rw (c.count_window-w.ensures, c.count_listed-l.ensures, c.count_pair-b.ensures)
