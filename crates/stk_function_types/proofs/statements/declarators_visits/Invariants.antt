use Rattle.std.proofs.Common.{◌≡◌, ◌++◌, drop, map, true}
use Rattle.stk_tree.specs.View.{declarators, view_declarator}
use Rattle.stk_meaning.specs.Visits.{declarators_visits}
use Rattle.stk_function_types.specs.Nodes.{typing_in}
use Rattle.stk_function_types.specs.Visits.{marked_visits, marked_visit}
use Rattle.stk_function_types.proofs.statements.declarators_visits.Given as goal

abbrev pub invariant-loop-d : goal.invariant-loop-d
invariant-loop-d l = map marked_visit l.out.items ++ marked_visits true (declarators_visits (typing_in l.types) l.is_static (declarators (map view_declarator (drop l.d-index l.list)))) ≡ map marked_visit l.initial.out.items ++ marked_visits true (declarators_visits (typing_in l.types) l.is_static (declarators (map view_declarator l.list)))
