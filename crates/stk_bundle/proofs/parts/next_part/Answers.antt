use Rattle.stk_bundle.proofs.PartTexts.{no_line, no_text}
use Rattle.stk_bundle.proofs.parts.next_part.Goals as goal

pub returns-in_default-clause-line : goal.returns-in_default-clause-line
returns-in_default-clause-line c is = no_line c.args.stage c.args.text.now c.in_default.ensures

pub returns-in-Err-Bad-clause-line : goal.returns-in-Err-Bad-clause-line
returns-in-Err-Bad-clause-line c is =
    no_text c.args.stage c.args.text.now c.in-Some.first.now c.in-Some.behind.now c.in-Some.ensures (c.in-Err-Bad.ensures.bad c.in-Err-Bad.field-0-is)
