use Rattle.std.proofs.lemmas.List.{take_rest}
use Rattle.stk_base.proofs.Runs.{wrote_more}
use Rattle.stk_base.proofs.sink.write_all.Goals as goal

pub loop-rest-preserved : goal.loop-rest-preserved
loop-rest-preserved g c =
    let left = take_rest c.loop-rest.rest.now c.in_ok-count.count in
    wrote_more _ _ _ _ _ _ _ _ _ c.in_ok-count.count _ _ _ c.loop-rest.invariant left c.in_ok-count.ensures.bytes c.write.ensures.flushed c.in_ok-count.ensures.cause.served
