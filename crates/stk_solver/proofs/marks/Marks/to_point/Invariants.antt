use Rattle.std.proofs.Common.{◌≡◌, ◌≤◌, length, take}
use Rattle.std.specs.List.{Contains}
use Rattle.stk_clauses.specs.declared.literal.Lit.{Lit}
use Rattle.stk_solver.specs.Marking.{Marked, IsNoted}
use Rattle.stk_solver.specs.Guides.{Guided}
use Rattle.stk_solver.proofs.marks.Marks.to_point.Given as goal

abbrev pub invariant-loop-end : goal.invariant-loop-end
invariant-loop-end l = record {
  noted : IsNoted l.self;
  vars : l.self.vars ≡ l.fn.self.vars;
  above : l.low ≤ l.end;
  below : l.end ≤ length l.trail.assigned.literals;
  inside : (m : Lit) → Marked l.self.marked.items m → Contains (take l.end l.trail.assigned.literals) m;
  guided : Guided l.store l.trail.assigned.literals l.end l.self.marked.items l.self.hints.items;
}

abbrev pub decreases-loop-end : goal.decreases-loop-end
decreases-loop-end l = l.end
