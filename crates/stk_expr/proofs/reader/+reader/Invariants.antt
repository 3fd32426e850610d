use Rattle.std.proofs.Common.{◌≡◌, ◌+◌, ◌*◌, ◌<◌, ◌≤◌, ℕ, suc, ◌-◌, length, map}
use Rattle.stk_tree.specs.Nesting.{dimensions_nesting}
use Rattle.stk_tree.specs.Syntax as s
use Rattle.stk_tree.specs.View.{dimensions, expressions, view_dimension, view_expression}
use Rattle.stk_grammar.specs.Reading.{arguments, climb, dimensions_at, expression_at, more_arguments}
use Rattle.stk_expr.specs.Fronts.{in_front}
use Rattle.stk_ctype.specs.Named.{named}
use Rattle.stk_expr.specs.Gives.{AreRead, IsRead}
use Rattle.stk_expr.proofs.reader.+reader.Given as goal

abbrev pub decreases-expression : goal.decreases-expression
decreases-expression l = 16 * l.room

abbrev pub decreases-operand : goal.decreases-operand
decreases-operand l = 16 * l.inner + 14

abbrev pub decreases-climb : goal.decreases-climb
decreases-climb l = 16 * l.inner + 14

abbrev pub decreases-size : goal.decreases-size
decreases-size l = 16 * l.inner + 13

abbrev pub decreases-paren : goal.decreases-paren
decreases-paren l = 16 * l.inner + 12

abbrev pub decreases-cast : goal.decreases-cast
decreases-cast l = 16 * l.inner + 11

abbrev pub decreases-enclosed : goal.decreases-enclosed
decreases-enclosed l = 16 * l.inner + 11

abbrev pub decreases-before : goal.decreases-before
decreases-before l = 16 * l.inner + 11

abbrev pub decreases-type_name : goal.decreases-type_name
decreases-type_name l = 16 * l.inner + 10

abbrev pub decreases-array_parts : goal.decreases-array_parts
decreases-array_parts l = 16 * l.inner + 9

abbrev pub decreases-array_part : goal.decreases-array_part
decreases-array_part l = 16 * l.inner + 8

abbrev pub decreases-tail : goal.decreases-tail
decreases-tail l = 16 * l.inner + 8

abbrev pub decreases-binary_tail : goal.decreases-binary_tail
decreases-binary_tail l = 16 * l.inner + 7

abbrev pub decreases-assign_tail : goal.decreases-assign_tail
decreases-assign_tail l = 16 * l.inner + 7

abbrev pub decreases-choice_tail : goal.decreases-choice_tail
decreases-choice_tail l = 16 * l.inner + 7

abbrev pub decreases-index_tail : goal.decreases-index_tail
decreases-index_tail l = 16 * l.inner + 7

abbrev pub decreases-call_tail : goal.decreases-call_tail
decreases-call_tail l = 16 * l.inner + 7

abbrev pub decreases-arguments : goal.decreases-arguments
decreases-arguments l = 16 * l.inner + 4

abbrev pub invariant-climb-loop-suffix : goal.invariant-climb-loop-suffix
invariant-climb-loop-suffix l = record {
  same : (f : ℕ) × (suc l.inner < f + l.left.nesting) × (climb (expression_at (named l.bytes l.names) l.inner) l.inner l.least f (view_expression l.left.tree) l.left.rest.now ≡ climb (expression_at (named l.bytes l.names) l.inner) l.inner l.least (suc (suc l.inner)) (view_expression l.fn.found.tree) l.fn.found.rest.now);
  nesting : IsRead (l.inner + 1) (view_expression l.left.tree) l.left.nesting l.left.level;
}

abbrev pub decreases-climb-loop-suffix : goal.decreases-climb-loop-suffix
decreases-climb-loop-suffix l = suc (suc l.inner) - l.left.nesting

abbrev pub invariant-array_parts-loop-inside : goal.invariant-array_parts-loop-inside
invariant-array_parts-loop-inside l = record {
  same : (f : ℕ) × (length l.rest < f) × (in_front s.then_dimension (map view_dimension l.list.items) (dimensions_at (expression_at (named l.bytes l.names) l.inner) f l.rest) ≡ dimensions_at (expression_at (named l.bytes l.names) l.inner) (suc (length l.fn.lexemes)) l.fn.lexemes);
  nesting : l.nesting ≡ dimensions_nesting (dimensions (map view_dimension l.list.items));
  few : length l.list.items + length l.rest ≤ length l.fn.lexemes;
  low : l.nesting ≤ l.inner + length l.list.items;
}

abbrev pub decreases-array_parts-loop-inside : goal.decreases-array_parts-loop-inside
decreases-array_parts-loop-inside l = length l.rest

abbrev pub invariant-arguments-loop-behind : goal.invariant-arguments-loop-behind
invariant-arguments-loop-behind l = record {
  same : (f : ℕ) × (length l.rest < f) × (in_front s.then_expression (map view_expression l.list.items) (more_arguments (expression_at (named l.bytes l.names) l.inner) f l.rest) ≡ arguments (expression_at (named l.bytes l.names) l.inner) l.fn.lexemes);
  nesting : AreRead l.inner (expressions (map view_expression l.list.items)) l.nesting;
}

abbrev pub decreases-arguments-loop-behind : goal.decreases-arguments-loop-behind
decreases-arguments-loop-behind l = length l.rest
