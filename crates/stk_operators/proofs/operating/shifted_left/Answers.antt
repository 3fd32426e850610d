use Rattle.std.proofs.Common.{subst}
use Rattle.stk_operators.specs.Words.{IsWord}
use Rattle.stk_operators.proofs.WordNumbers.{shift_again, shift_value}
use Rattle.stk_operators.proofs.operating.shifted_left.Goals as goal

pub overflow_mul-number : goal.overflow_mul-number
overflow_mul-number c = shift_again c.args.left c.number.result c.power.result c.args.count (subst IsWord c.number.ensures.is c.number.ensures.word) c.number.ensures.is c.requires c.power.ensures

pub returns : goal.returns
returns c = shift_value c.args.kind c.args.left c.number.result c.power.result c.wrapped.result c.args.count (subst IsWord c.number.ensures.is c.number.ensures.word) c.number.ensures.is c.requires c.power.ensures c.wrapped.ensures
