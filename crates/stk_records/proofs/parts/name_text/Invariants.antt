use Rattle.std.proofs.Common.{◌≡◌, ◌++◌, drop, string_bytes}
use Rattle.stk_records.specs.Text.{printed}
use Rattle.stk_records.proofs.parts.name_text.Given as goal

abbrev pub invariant-loop-byte : goal.invariant-loop-byte
invariant-loop-byte l = string_bytes l.text ++ printed (drop l.byte-index l.name) ≡ printed l.name
