use Rattle.std.proofs.Common.{◌+◌, ◌*◌, max, ◌++◌, drop, map, List, ℤ}
use Rattle.stk_tree.proofs.expression.Expr.TheLaws.{the_size}
use Rattle.stk_ctype.specs.Types.{type_of, row_of}
use Rattle.stk_tree.specs.View.{view_expression, expressions}
use Rattle.stk_meaning.specs.Expressions.{arguments_values}
use Rattle.stk_eval_expr.specs.declared.state.State.{State}
use Rattle.stk_eval_expr.specs.Leaving.{Leaves, from}
use Rattle.stk_eval_expr.proofs.expressions.+expression.Given as goal

-- what completes the rest completes the whole
abbrev pub invariant-arguments-loop-e : goal.invariant-arguments-loop-e
invariant-arguments-loop-e g l =
    let G = g.W.RunSetting.setting l.out in
    let W = g.W.World.world l.out in
    let shown = g.W.World.shown in
    (xs : List ℤ) (now : State _) →
    Leaves shown (from shown (arguments_values G W (row_of (map type_of l.rest)) (expressions (map view_expression (drop l.e-index l.list)))) l.state) xs l.state now →
    Leaves shown (from shown (arguments_values G W (row_of (map type_of l.params)) (expressions (map view_expression l.list))) l.initial.state) (l.numbers.items ++ xs) l.initial.state now

-- the depth of the tree, and by how many calls on the same tree a function stands above the place of an expression; of
-- two operands, the larger depth
abbrev pub decreases-place : goal.decreases-place
decreases-place g l = 6 * goal.size-place g l

abbrev pub decreases-place_value : goal.decreases-place_value
decreases-place_value g l = 6 * goal.size-place_value g l + 1

abbrev pub decreases-value : goal.decreases-value
decreases-value g l = 6 * goal.size-value g l + 2

abbrev pub decreases-indexed : goal.decreases-indexed
decreases-indexed g l = 6 * goal.size-indexed g l + 3

abbrev pub decreases-tested : goal.decreases-tested
decreases-tested g l = 6 * goal.size-tested g l + 3

abbrev pub decreases-sides : goal.decreases-sides
decreases-sides g l = 6 * goal.size-sides g l + 3

abbrev pub decreases-right_operand : goal.decreases-right_operand
decreases-right_operand g l = 6 * goal.size-right_operand g l + 3

abbrev pub decreases-branch : goal.decreases-branch
decreases-branch g l = 6 * goal.size-branch g l + 3

abbrev pub decreases-unary_value : goal.decreases-unary_value
decreases-unary_value g l = 6 * goal.size-unary_value g l + 3

abbrev pub decreases-unary_place : goal.decreases-unary_place
decreases-unary_place g l = 6 * goal.size-unary_place g l + 3

abbrev pub decreases-arguments : goal.decreases-arguments
decreases-arguments g l = 6 * goal.size-arguments g l + 3

abbrev pub decreases-assigned_value : goal.decreases-assigned_value
decreases-assigned_value g l = 6 * max (the_size l.a.now) (the_size l.b.now) + 3

abbrev pub decreases-operator_sides : goal.decreases-operator_sides
decreases-operator_sides g l = 6 * max (the_size l.a.now) (the_size l.b.now) + 3

abbrev pub decreases-binary_value : goal.decreases-binary_value
decreases-binary_value g l = 6 * max (the_size l.a.now) (the_size l.b.now) + 6

abbrev pub decreases-binary_sides : goal.decreases-binary_sides
decreases-binary_sides g l = 6 * max (the_size l.a.now) (the_size l.b.now) + 7
