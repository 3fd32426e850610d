use Rattle.stk_numbers.proofs.Dividing.{absolute_value}
use Rattle.stk_numbers.proofs.arithmetic.absolute.Goals as goal

pub returns-then-number-lt0 : goal.returns-then-number-lt0
returns-then-number-lt0 c = absolute_value c.args.kind c.args.number c.wrap.result c.requires c.if-number-lt0.true c.wrap.ensures
