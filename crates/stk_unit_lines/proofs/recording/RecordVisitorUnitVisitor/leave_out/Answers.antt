use Rattle.std.proofs.Common.{refl, arith}
use Rattle.stk_unit_lines.proofs.Visited.{well_is_no_fault}
use Rattle.stk_unit_lines.proofs.recording.RecordVisitorUnitVisitor.leave_out.Goals as goal

pub returns-in-Ok : goal.returns-in-Ok
returns-in-Ok g c = record {
  written = c.in-Ok.ensures.written (g.D.Decider.given_up c.args.asked.now);
  stopped = tt;
  later = c.in-Ok.ensures.later;
  fault = λ e. absurd (well_is_no_fault refl e);
  given_up = omega arith;
}
