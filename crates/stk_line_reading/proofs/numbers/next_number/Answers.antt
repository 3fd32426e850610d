use Rattle.stk_line_reading.proofs.Texts.{begins_with}
use Rattle.stk_line_reading.proofs.numbers.next_number.Goals as goal

pub returns-in_default : goal.returns-in_default
returns-in_default c n other h =
    c.in_default.ensures n h.fits (begins_with c.args.text.now c.in_ok-first.first.now c.in_ok-first.behind.now c.cut_at.result.0.now c.cut_at.result.1.now n other c.in_ok-first.ensures.cases.0 c.if-first-ne32.false c.cut_at.ensures h)
