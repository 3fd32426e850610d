use Rattle.std.proofs.Common.{◌+◌, ◌*◌}
use Rattle.stk_front_tests.proofs.reading_expressions.+shape.Given as goal

abbrev pub decreases-shape : goal.decreases-shape
decreases-shape l = 3 * l.room

abbrev pub decreases-add_operand : goal.decreases-add_operand
decreases-add_operand l = 3 * l.room + 1

abbrev pub decreases-type_shape : goal.decreases-type_shape
decreases-type_shape l = 3 * l.room + 1

abbrev pub decreases-add_operands : goal.decreases-add_operands
decreases-add_operands l = 3 * l.room + 2
