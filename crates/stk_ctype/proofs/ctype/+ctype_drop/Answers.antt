use Rattle.stk_ctype.proofs.Turning.{less_popped}
use Rattle.stk_ctype.proofs.ctype.+ctype_drop.Goals as goal

pub drop_row-loop-inner-smaller-in-Some : goal.drop_row-loop-inner-smaller-in-Some
drop_row-loop-inner-smaller-in-Some t c = less_popped c.loop-inner.at c.in-Some.next c.loop-inner.row c.split_last-rest.result.0 c.loop-inner.outer c.open.result c.in-Nothing.is c.open.ensures c.split_last-rest.result.1 c.in-Some.is c.split_last-rest.ensures
