use Rattle.stk_type_laws.specs.Orderly.{AreOrderly}
use Rattle.stk_walk_tests.proofs.functions.visit_units.Given as goal

abbrev pub invariant-loop-piece : goal.invariant-loop-piece
invariant-loop-piece g l = AreOrderly l.names
