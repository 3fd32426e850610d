use Rattle.std.proofs.Common.{subst}
use Rattle.std.specs.List.{Contains}
use Rattle.std.proofs.lemmas.List.{take_all}
use Rattle.stk_clauses.specs.declared.literal.Lit.{Lit}
use Rattle.stk_solver.specs.Marking.{Marked}
use Rattle.stk_solver.proofs.marks.Marks.are_unmarked.Goals as goal

pub returns : goal.returns
returns c _ = subst (λ xs. (m : Lit) → Contains xs m → Marked c.args.self.now.marked.items m → ⊥) (take_all c.loop-lit.lit-index c.args.part.now c.loop-lit-test.false) c.loop-lit.invariant
