use Rattle.std.proofs.Common.{◌∙◌, ap}
use Rattle.stk_numbers.specs.Kinds.{wrap}
use Rattle.stk_numbers.proofs.Machine.{again, shown}
use Rattle.stk_operators.proofs.WordNumbers.{fits_again, word_same}
use Rattle.stk_operators.proofs.Violating.{arithmetic_violated}
use Rattle.stk_operators.proofs.node_tests.put_arithmetic.Goals as goal

pub breaks-overflows-requires-clause-left : goal.breaks-overflows-requires-clause-left
breaks-overflows-requires-clause-left c = fits_again c.args.kind (again c.number.result) c.wrap-left.result c.wrap-left.ensures

pub breaks-overflows-requires-clause-right : goal.breaks-overflows-requires-clause-right
breaks-overflows-requires-clause-right c = fits_again c.args.kind (again c.number-2.result) c.wrap-right.result c.wrap-right.ensures

pub breaks-by_zero-requires-clause-left : goal.breaks-by_zero-requires-clause-left
breaks-by_zero-requires-clause-left c = fits_again c.args.kind (again c.number.result) c.wrap-left.result c.wrap-left.ensures

pub breaks-by_zero-requires-clause-right : goal.breaks-by_zero-requires-clause-right
breaks-by_zero-requires-clause-right c = fits_again c.args.kind (again c.number-2.result) c.wrap-right.result c.wrap-right.ensures

pub returns : goal.returns
returns c =
    let x = c.args.numbers.0 in
    let y = c.args.numbers.1 in
    let k = c.args.kind in
    let same_x = word_same c.number.result c.number.ensures.word ∙ c.number.ensures.is in
    let same_y = word_same c.number-2.result c.number-2.ensures.word ∙ c.number-2.ensures.is in
    arithmetic_violated c.args.without c.args.node c.args.op k x y c.args.numbers.2 (again c.wrap-left.result) (again c.wrap-right.result) c.may_leave.result c.divides.result c.breaks-overflows.result c.breaks-by_zero.result
    c.args.entries.now.items c.put_asked.new.entries.items c.put_asked-2.new.entries.items
    (shown k (again c.number.result) c.wrap-left.result c.wrap-left.ensures ∙ ap (wrap k) same_x) (shown k (again c.number-2.result) c.wrap-right.result c.wrap-right.ensures ∙ ap (wrap k) same_y)
    c.may_leave.ensures c.divides.ensures c.breaks-overflows.ensures c.breaks-by_zero.ensures c.in_ok-put_asked.ensures c.in_ok-put_asked-2.ensures
