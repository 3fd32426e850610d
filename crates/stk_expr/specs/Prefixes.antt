-- The operators that stand before their operands.
use Rattle.std.specs.Prelude.{ℕ}
use Rattle.stk_tree.specs.declared.expression.StepOp.TheVariants.{IncBefore, DecBefore}
use Rattle.stk_tree.specs.Syntax.{ExprFormTree, ExprTree}
use Rattle.stk_tree.specs.Syntax as s
use Rattle.stk_expr.specs.declared.build.Prefix.{Prefix}
use Rattle.stk_expr.specs.declared.build.Prefix.TheVariants as prefix

-- the expression with the operator before this operand
abbrev pub prefix_form : Prefix → ExprTree → ExprFormTree
prefix_form (prefix.Unary o) e = s.unary o e
prefix_form prefix.Increment e = s.step IncBefore e
prefix_form prefix.Decrement e = s.step DecBefore e
prefix_form prefix.Size e = s.size_expression e

-- the least level of the operand
abbrev pub prefix_operand : Prefix → ℕ
prefix_operand (prefix.Unary o) = 14
prefix_operand prefix.Increment = 15
prefix_operand prefix.Decrement = 15
prefix_operand prefix.Size = 15
