use Rattle.stk_replacements.specs.Shown.{replaced_shown}
use Rattle.stk_replacements.proofs.Spacing.{text_first, text_last}
use Rattle.stk_replacements.proofs.text.replacement_text.Goals as goal

pub returns-in_ok-text : goal.returns-in_ok-text
returns-in_ok-text c = text_first c.args.bytes.now c.args.op (replaced_shown c.args.found.now) c.in_ok-text.text.items c.if-found.true c.in_ok-text.ensures

pub returns-in_ok-text-2 : goal.returns-in_ok-text-2
returns-in_ok-text-2 c = text_last c.args.bytes.now c.args.op (replaced_shown c.args.found.now) c.in_ok-text-2.text.items c.if-found.false c.in_ok-text-2.ensures
