use Rattle.std.proofs.Common.{◌+◌, ◌*◌, max, drop, map, length}
use Rattle.std.specs.Prelude.{option_map}
use denote.Param.Weighed.{most}
use Rattle.stk_tree.proofs.expression.Expr.TheLaws.{the_size}
use Rattle.stk_tree.specs.View.{view_expression, expressions}
use Rattle.stk_operators.specs.Shown.{library_shown}
use Rattle.stk_spending.specs.Expressions.{arguments_spent}
use Rattle.stk_walking.proofs.Costing.{SpentSoFar}
use Rattle.stk_walk_values.proofs.Collecting.{Passed}
use Rattle.stk_walk_values.proofs.expressions.+expression.Given as goal

-- what completes the rest completes the whole
abbrev pub invariant-arguments-loop-e : goal.invariant-arguments-loop-e
invariant-arguments-loop-e g l =
    Passed g.V.Values.serves g.V.Values.has_key g.V.Values.made g.V.Values.shows (g.O.RunSetting.setting l.out) (g.O.WalkSetting.under l.out) (option_map library_shown l.library) l.found (expressions (map view_expression l.list)) (expressions (map view_expression (drop l.e-index l.list))) l.initial.values l.values l.initial.state l.state
    × SpentSoFar g.V.Values.cost (length (g.O.RunSetting.setting l.out).kept) (arguments_spent (g.O.RunSetting.setting l.out) (option_map library_shown l.library) (expressions (map view_expression l.list))) (arguments_spent (g.O.RunSetting.setting l.out) (option_map library_shown l.library) (expressions (map view_expression (drop l.e-index l.list)))) l.initial.values l.values (length l.initial.state.cells.items) (length l.state.cells.items)

-- the depth of the tree, and by how many calls on the same tree a function stands above the place of an expression; of
-- several operands, the larger depth
abbrev pub decreases-place : goal.decreases-place
decreases-place g l = 8 * the_size l.e.now + 0

abbrev pub decreases-place_value : goal.decreases-place_value
decreases-place_value g l = 8 * the_size l.e.now + 1

abbrev pub decreases-value : goal.decreases-value
decreases-value g l = 8 * the_size l.e.now + 2

abbrev pub decreases-member : goal.decreases-member
decreases-member g l = 8 * the_size l.e.now + 3

abbrev pub decreases-indexed : goal.decreases-indexed
decreases-indexed g l = 8 * the_size l.e.now + 3

abbrev pub decreases-target : goal.decreases-target
decreases-target g l = 8 * the_size l.e.now + 3

abbrev pub decreases-unary_place : goal.decreases-unary_place
decreases-unary_place g l = 8 * the_size l.e.now + 4

abbrev pub decreases-target_value : goal.decreases-target_value
decreases-target_value g l = 8 * the_size l.e.now + 4

abbrev pub decreases-cast : goal.decreases-cast
decreases-cast g l = 8 * the_size l.e.now + 3

abbrev pub decreases-tested : goal.decreases-tested
decreases-tested g l = 8 * the_size l.e.now + 3

abbrev pub decreases-right_operand : goal.decreases-right_operand
decreases-right_operand g l = 8 * the_size l.e.now + 3

abbrev pub decreases-right_behind : goal.decreases-right_behind
decreases-right_behind g l = 8 * the_size l.e.now + 4

abbrev pub decreases-branch : goal.decreases-branch
decreases-branch g l = 8 * the_size l.e.now + 3

abbrev pub decreases-unary_value : goal.decreases-unary_value
decreases-unary_value g l = 8 * the_size l.e.now + 5

abbrev pub decreases-sides : goal.decreases-sides
decreases-sides g l = 8 * the_size l.e.now + 3

abbrev pub decreases-stepped_value : goal.decreases-stepped_value
decreases-stepped_value g l = 8 * the_size l.e.now + 3

abbrev pub decreases-index_place : goal.decreases-index_place
decreases-index_place g l = 8 * max (the_size l.a.now) (the_size l.b.now) + 4

abbrev pub decreases-or_else : goal.decreases-or_else
decreases-or_else g l = 8 * max (the_size l.a.now) (the_size l.b.now) + 5

abbrev pub decreases-and_also : goal.decreases-and_also
decreases-and_also g l = 8 * max (the_size l.a.now) (the_size l.b.now) + 5

abbrev pub decreases-compared_value : goal.decreases-compared_value
decreases-compared_value g l = 8 * max (the_size l.a.now) (the_size l.b.now) + 4

abbrev pub decreases-operator_sides : goal.decreases-operator_sides
decreases-operator_sides g l = 8 * max (the_size l.a.now) (the_size l.b.now) + 3

abbrev pub decreases-binary_value : goal.decreases-binary_value
decreases-binary_value g l = 8 * max (the_size l.a.now) (the_size l.b.now) + 6

abbrev pub decreases-binary_sides : goal.decreases-binary_sides
decreases-binary_sides g l = 8 * max (the_size l.a.now) (the_size l.b.now) + 7

abbrev pub decreases-assigned_value : goal.decreases-assigned_value
decreases-assigned_value g l = 8 * max (the_size l.a.now) (the_size l.b.now) + 3

abbrev pub decreases-choice : goal.decreases-choice
decreases-choice g l = 8 * max (the_size l.b.now) (the_size l.c.now) + 4

abbrev pub decreases-call_value : goal.decreases-call_value
decreases-call_value g l = 8 * most the_size l.list.now + 4

abbrev pub decreases-arguments : goal.decreases-arguments
decreases-arguments g l = 8 * most the_size l.list.now + 3
