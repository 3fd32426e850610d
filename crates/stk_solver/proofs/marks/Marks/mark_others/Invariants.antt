use Rattle.std.proofs.Common.{◌≡◌, take}
use Rattle.stk_solver.specs.Marking.{IsNoted}
use Rattle.stk_solver.proofs.Marking.{AreMarkedToo}
use Rattle.stk_solver.proofs.marks.Marks.mark_others.Given as goal

abbrev pub invariant-loop-lit : goal.invariant-loop-lit
invariant-loop-lit l = record {
  noted : IsNoted l.self;
  vars : l.self.vars ≡ l.fn.self.vars;
  hints : l.self.hints ≡ l.fn.self.hints;
  done : AreMarkedToo l.fn.self.marked.items l.self.marked.items (take l.lit-index l.clause) l.but;
}
