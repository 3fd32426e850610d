use Rattle.std.proofs.Common.{◌≡◌, drop}
use Rattle.stk_path_runs.specs.Rows.{slots_set}
use Rattle.stk_path_runs.proofs.mapped.set_slots.Given as goal

abbrev pub invariant-loop-slot : goal.invariant-loop-slot
invariant-loop-slot l = slots_set (drop l.slot-index l.list) l.numbers l.registers.items ≡ slots_set l.list l.numbers l.initial.registers.items
