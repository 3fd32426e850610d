use Rattle.stk_numbers.proofs.Dividing.{shift_again, shift_value}
use Rattle.stk_numbers.proofs.shifting.shifted_left.Goals as goal

pub overflow_mul-left : goal.overflow_mul-left
overflow_mul-left c = shift_again c.args.kind c.args.left c.power.result c.args.count c.requires.left c.requires.count c.power.ensures

pub returns : goal.returns
returns c = shift_value c.args.kind c.args.left c.power.result c.wrap.result c.args.count c.requires.left c.requires.count c.power.ensures c.wrap.ensures
