use Rattle.stk_numbers.proofs.Machine.{sum_value}
use Rattle.stk_numbers.proofs.arithmetic.sum.Goals as goal

pub returns : goal.returns
returns c = sum_value c.args.kind c.args.left c.args.right c.wrap.result c.requires.left c.requires.right c.wrap.ensures
