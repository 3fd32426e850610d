use Rattle.std.proofs.Common.{◌≡◌, ◌++◌, drop, map}
use Rattle.stk_tree.specs.View.{view_expression, view_dimension, expressions, dimensions}
use Rattle.stk_address_taken.specs.Expressions.{expressions_taken, dimensions_taken}
use Rattle.stk_address_taken.proofs.expressions.+expression_taken.Given as goal

abbrev pub invariant-expressions_taken-loop-e : goal.invariant-expressions_taken-loop-e
invariant-expressions_taken-loop-e l = l.out.items ++ expressions_taken l.bytes l.bindings (expressions (map view_expression (drop l.e-index l.list))) ≡ l.initial.out.items ++ expressions_taken l.bytes l.bindings (expressions (map view_expression l.list))

abbrev pub invariant-dimensions_taken-loop-d : goal.invariant-dimensions_taken-loop-d
invariant-dimensions_taken-loop-d l = l.out.items ++ dimensions_taken l.bytes l.bindings (dimensions (map view_dimension (drop l.d-index l.list))) ≡ l.initial.out.items ++ dimensions_taken l.bytes l.bindings (dimensions (map view_dimension l.list))
