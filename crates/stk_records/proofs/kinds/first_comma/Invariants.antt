use Rattle.std.proofs.Common.{◌≡◌, true, take}
use Rattle.std.specs.List.{list_all}
use Rattle.stk_records.specs.Kinds.{is_no_comma}
use Rattle.stk_records.proofs.kinds.first_comma.Given as goal

abbrev pub invariant-loop-byte : goal.invariant-loop-byte
invariant-loop-byte l = (l.at ≡ l.byte-index) × (list_all is_no_comma (take l.byte-index l.text) ≡ true)
