use Rattle.std.proofs.Common.{◌≡◌, ◌++◌, drop, map}
use Rattle.stk_tree.specs.View.{view_expression, view_dimension, expressions, dimensions}
use Rattle.stk_declarators.specs.Uses.{expressions_uses, dimensions_uses}
use Rattle.stk_declarators.proofs.expressions.+expression_uses.Given as goal

abbrev pub invariant-expressions_uses-loop-e : goal.invariant-expressions_uses-loop-e
invariant-expressions_uses-loop-e l = l.out.items ++ expressions_uses (expressions (map view_expression (drop l.e-index l.list))) ≡ l.initial.out.items ++ expressions_uses (expressions (map view_expression l.list))

abbrev pub invariant-dimensions_uses-loop-d : goal.invariant-dimensions_uses-loop-d
invariant-dimensions_uses-loop-d l = l.out.items ++ dimensions_uses (dimensions (map view_dimension (drop l.d-index l.list))) ≡ l.initial.out.items ++ dimensions_uses (dimensions (map view_dimension l.list))
