use Rattle.std.proofs.Common.{◌+◌, ◌*◌}
use Rattle.stk_front_tests.proofs.reading_statements.+shape.Given as goal

abbrev pub decreases-add_statement : goal.decreases-add_statement
decreases-add_statement l = 3 * l.room

abbrev pub decreases-add_form : goal.decreases-add_form
decreases-add_form l = 3 * l.room + 2

abbrev pub decreases-add_headed : goal.decreases-add_headed
decreases-add_headed l = 3 * l.room + 1

abbrev pub decreases-add_part : goal.decreases-add_part
decreases-add_part l = 3 * l.room + 1

abbrev pub decreases-add_section : goal.decreases-add_section
decreases-add_section l = 3 * l.room + 1
