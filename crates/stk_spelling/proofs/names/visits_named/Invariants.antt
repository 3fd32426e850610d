use Rattle.std.proofs.Common.{◌≡◌, ◌++◌, map, drop}
use Rattle.stk_function_types.specs.Visits.{marked_visit}
use Rattle.stk_function_types.specs.Gathered.{gathered}
use Rattle.stk_spelling.specs.Named.{visit_named}
use Rattle.stk_spelling.proofs.names.visits_named.Given as goal

abbrev pub invariant-loop-visit : goal.invariant-loop-visit
invariant-loop-visit l = l.out.items ++ gathered visit_named (map marked_visit (drop l.visit-index l.visits)) ≡ l.initial.out.items ++ gathered visit_named (map marked_visit l.visits)
