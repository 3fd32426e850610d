use Rattle.stk_numbers.proofs.Machine.{difference_value}
use Rattle.stk_numbers.proofs.arithmetic.difference.Goals as goal

pub returns : goal.returns
returns c = difference_value c.args.kind c.args.left c.args.right c.wrap.result c.requires.left c.requires.right c.wrap.ensures
