use Rattle.std.proofs.Common.{◌≡◌, ◌++◌, drop, map}
use Rattle.stk_function_types.specs.Nodes.{typing_in}
use Rattle.stk_meaning.specs.Keys.{visit_registers}
use Rattle.stk_function_types.specs.Visits.{marked_visit}
use Rattle.stk_function_types.specs.Gathered.{gathered}
use Rattle.stk_function_env.proofs.registers.registers_among.Given as goal

abbrev pub invariant-loop-visit : goal.invariant-loop-visit
invariant-loop-visit l = l.out.items ++ gathered (visit_registers (typing_in l.types)) (map marked_visit (drop l.visit-index l.visits)) ≡ l.initial.out.items ++ gathered (visit_registers (typing_in l.types)) (map marked_visit l.visits)
