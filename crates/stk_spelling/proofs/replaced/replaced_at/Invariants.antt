use Rattle.std.proofs.Common.{◌≡◌, map, drop}
use Rattle.stk_function_types.specs.Nodes.{typing_in}
use Rattle.stk_function_types.specs.Visits.{marked_visit}
use Rattle.stk_function_types.specs.Gathered.{gathered}
use Rattle.stk_spelling.specs.Replaced.{visit_replaced, first_text}
use Rattle.stk_spelling.proofs.replaced.replaced_at.Given as goal

abbrev pub invariant-loop-visit : goal.invariant-loop-visit
invariant-loop-visit l = first_text (gathered (visit_replaced (typing_in l.types) l.node) (map marked_visit (drop l.visit-index l.visits))) ≡ first_text (gathered (visit_replaced (typing_in l.types) l.node) (map marked_visit l.visits))
