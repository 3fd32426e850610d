use Rattle.std.proofs.Common.{◌+◌, ◌*◌}
use Rattle.stk_front_tests.proofs.reading_declarations.+base.Given as goal

abbrev pub decreases-add_base : goal.decreases-add_base
decreases-add_base l = 2 * l.room

abbrev pub decreases-add_member : goal.decreases-add_member
decreases-add_member l = 2 * l.room + 1
