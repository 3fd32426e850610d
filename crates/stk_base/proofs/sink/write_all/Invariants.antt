use Rattle.std.proofs.Common.{length}
use Rattle.stk_base.proofs.Runs.{HasWritten}
use Rattle.stk_base.proofs.sink.write_all.Given as goal

abbrev pub invariant-loop-rest : goal.invariant-loop-rest
invariant-loop-rest g l = HasWritten (g.K.Sink.taken l.initial.sink) (g.K.Sink.taken l.sink) (g.K.Sink.flushed l.initial.sink) (g.K.Sink.flushed l.sink) (g.K.Sink.faults l.initial.sink) (g.K.Sink.faults l.sink) l.bytes l.rest

abbrev pub decreases-loop-rest : goal.decreases-loop-rest
decreases-loop-rest g l = length l.rest
