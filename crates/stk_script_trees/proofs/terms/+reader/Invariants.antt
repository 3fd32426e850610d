use Rattle.std.proofs.Common.{◌+◌, ◌*◌}
use Rattle.stk_script_trees.proofs.terms.+reader.Given as goal

abbrev pub decreases-term : goal.decreases-term
decreases-term l = 8 * l.room

abbrev pub decreases-test : goal.decreases-test
decreases-test l = 8 * l.room

abbrev pub decreases-opened : goal.decreases-opened
decreases-opened l = 8 * l.inner + 7

abbrev pub decreases-headed : goal.decreases-headed
decreases-headed l = 8 * l.inner + 6

abbrev pub decreases-unary : goal.decreases-unary
decreases-unary l = 8 * l.inner + 5

abbrev pub decreases-binary : goal.decreases-binary
decreases-binary l = 8 * l.inner + 5

abbrev pub decreases-concat : goal.decreases-concat
decreases-concat l = 8 * l.inner + 5

abbrev pub decreases-choice : goal.decreases-choice
decreases-choice l = 8 * l.inner + 5

abbrev pub decreases-indexed : goal.decreases-indexed
decreases-indexed l = 8 * l.inner + 5

abbrev pub decreases-operand : goal.decreases-operand
decreases-operand l = 8 * l.inner + 4

abbrev pub decreases-operands : goal.decreases-operands
decreases-operands l = 8 * l.inner + 4
