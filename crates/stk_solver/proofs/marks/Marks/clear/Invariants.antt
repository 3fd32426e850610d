use Rattle.std.proofs.Common.{◌≡◌, take}
use Rattle.std.specs.List.{Contains}
use Rattle.stk_clauses.specs.declared.literal.Lit.{Lit}
use Rattle.stk_solver.specs.Marking.{Marked, IsNoted}
use Rattle.stk_solver.proofs.marks.Marks.clear.Given as goal

abbrev pub invariant-loop-at : goal.invariant-loop-at
invariant-loop-at l = record {
  noted : IsNoted l.self;
  list : l.self.noted ≡ l.fn.self.noted;
  vars : l.self.vars ≡ l.fn.self.vars;
  gone : (m : Lit) → Marked l.self.marked.items m → Contains (take l.at l.fn.self.noted.items) m → ⊥;
}
