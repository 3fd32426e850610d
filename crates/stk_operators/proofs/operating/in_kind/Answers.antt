use Rattle.stk_numbers.specs.Values.{exact}
use Rattle.stk_numbers.proofs.Machine.{again}
use Rattle.stk_operators.proofs.WordNumbers.{fits_again, word_again}
use Rattle.stk_operators.proofs.operating.in_kind.Goals as goal

pub arith-requires-clause-left : goal.arith-requires-clause-left
arith-requires-clause-left c = fits_again c.args.kind (again c.number.result) c.wrap-left.result c.wrap-left.ensures

pub arith-requires-clause-right : goal.arith-requires-clause-right
arith-requires-clause-right c = fits_again c.args.kind (again c.number-2.result) c.wrap-right.result c.wrap-right.ensures

pub new-requires : goal.new-requires
new-requires c = word_again c.args.kind (exact c.args.op c.args.kind (again c.wrap-left.result) (again c.wrap-right.result)) c.arith.result c.arith.ensures
