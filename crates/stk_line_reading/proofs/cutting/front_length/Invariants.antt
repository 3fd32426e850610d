use Rattle.std.proofs.Common.{◌≡◌, true, take}
use Rattle.std.specs.List.{list_all}
use Rattle.stk_line_reading.specs.Cuts.{is_other}
use Rattle.stk_line_reading.proofs.cutting.front_length.Given as goal

abbrev pub invariant-loop-i : goal.invariant-loop-i
invariant-loop-i l = list_all (is_other l.stop) (take l.i l.text) ≡ true
