use Rattle.stk_replaying.specs.Marks.{is_marked}
use Rattle.stk_replaying.proofs.Marking.{marked_more}
use Rattle.stk_replaying.proofs.marks.Marks.of.Goals as goal

pub loop-entry-preserved : goal.loop-entry-preserved
loop-entry-preserved c =
    marked_more c.args.trace.now c.loop-entry.entry-index _ (is_marked c.loop-entry.marks) (is_marked c.mark.new.self) c.loop-entry-test.true c.loop-entry.invariant c.in_ok-mark.ensures
