use Rattle.std.proofs.Common.{take}
use Rattle.std.specs.List.{Contains}
use Rattle.stk_clauses.specs.declared.literal.Lit.{Lit}
use Rattle.stk_solver.specs.Marking.{Marked}
use Rattle.stk_solver.proofs.marks.Marks.are_unmarked.Given as goal

abbrev pub invariant-loop-lit : goal.invariant-loop-lit
invariant-loop-lit l = (m : Lit) → Contains (take l.lit-index l.part) m → Marked l.self.marked.items m → ⊥
