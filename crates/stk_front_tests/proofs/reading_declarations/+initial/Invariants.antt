use Rattle.std.proofs.Common.{◌+◌, ◌*◌}
use Rattle.stk_front_tests.proofs.reading_declarations.+initial.Given as goal

abbrev pub decreases-add_initial : goal.decreases-add_initial
decreases-add_initial l = 2 * l.room

abbrev pub decreases-add_item : goal.decreases-add_item
decreases-add_item l = 2 * l.room + 1
