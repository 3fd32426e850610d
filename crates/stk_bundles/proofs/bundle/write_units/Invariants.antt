use Rattle.std.proofs.Common.{◌≤◌}
use Rattle.stk_units.proofs.Going.{AreSoFar}
use Rattle.stk_bundles.specs.Units.{said_text, said_marks, IsUnitPart, IsUnitBegun}
use Rattle.stk_bundles.proofs.bundle.write_units.Given as goal

abbrev pub invariant-loop-piece : goal.invariant-loop-piece
invariant-loop-piece g l =
    let f = l.file in
    record {
      so_far : AreSoFar (IsUnitPart f.input.now f.without f.budget) (IsUnitBegun f.input.now f.without f.budget) said_text said_marks l.tokens l.pieces l.piece-index (g.K.Sink.taken l.initial.out) (g.K.Sink.taken l.out) (g.D.Decider.given_up l.initial.decider) (g.D.Decider.given_up l.decider) l.counts l.names;
      later : g.K.Sink.faults l.initial.out ≤ g.K.Sink.faults l.out;
    }
