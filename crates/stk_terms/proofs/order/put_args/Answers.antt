use Rattle.stk_terms.proofs.Reading.{nth_get}
use Rattle.stk_terms.proofs.Collecting.{put_more}
use Rattle.stk_terms.proofs.order.put_args.Goals as goal

pub loop-arg-preserved : goal.loop-arg-preserved
loop-arg-preserved c j = put_more c.args.args.now c.loop-arg.arg-index _ j _ _ _ c.loop-arg-test.true (c.in_ok-insert.ensures.updates.0 j) (nth_get c.args.args.now c.loop-arg.arg-index _ c.loop-arg-test.true) (c.loop-arg.invariant j)
