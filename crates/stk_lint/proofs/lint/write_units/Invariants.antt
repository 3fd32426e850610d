use Rattle.std.proofs.Common.{◌≤◌}
use Rattle.stk_lint.proofs.Going.{SoFar}
use Rattle.stk_lint.proofs.lint.write_units.Given as goal

abbrev pub invariant-loop-piece : goal.invariant-loop-piece
invariant-loop-piece g l = record {
  so_far : SoFar l.file.input.now l.file.options l.tokens l.pieces l.piece-index (g.K.Sink.taken l.initial.out) (g.K.Sink.taken l.out) (g.D.Decider.given_up l.initial.decider) (g.D.Decider.given_up l.decider) l.counts l.names;
  later : g.K.Sink.faults l.initial.out ≤ g.K.Sink.faults l.out;
}
