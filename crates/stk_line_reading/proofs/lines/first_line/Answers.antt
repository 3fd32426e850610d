use Rattle.stk_line_reading.proofs.FirstLines.{cut_first, no_first}
use Rattle.stk_line_reading.proofs.lines.first_line.Goals as goal

pub returns-in-Some : goal.returns-in-Some
returns-in-Some c = cut_first c.args.text.now c.cut_at.result.0.now c.cut_at.result.1.now c.in-Some.behind.now c.in-Some.field-0-0.now c.cut_at.ensures c.in-Some.ensures.cases.0

pub returns-in-None : goal.returns-in-None
returns-in-None c = no_first c.args.text.now c.cut_at.result.0.now c.cut_at.result.1.now c.cut_at.ensures c.in-None.ensures.cases
