-- `sessions::lines::take_end` meets its contract.
use Rattle.lists.proofs.Prelude.{sym, arith, length-take-le}
use Rattle.sessions.proofs.Taking.{end_none, end_line}
use Rattle.sessions.proofs.lines.take_end.Goals as goal

pub returns-then-kept-eq0 : goal.returns-then-kept-eq0
returns-then-kept-eq0 c = end_none _ _ c.args.kept _ (omega arith)

pub slice_bounds-answer-end : goal.slice_bounds-answer-end
slice_bounds-answer-end c = sym (length-take-le _ _ (omega arith))

pub returns : goal.returns
returns c = end_line _ c.args.kept (λ e. omega (arith, c.if-kept-eq0.false)) (omega arith) c.answer.ensures
