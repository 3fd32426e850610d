use Rattle.std.proofs.Common.{◌≡◌, drop, map}
use Rattle.stk_base.specs.Text.{text_of}
use Rattle.stk_numbers.specs.Strings.{in_front, string_bytes}
use Rattle.stk_numbers.proofs.strings.string_bytes.Given as goal

abbrev pub invariant-loop-literal : goal.invariant-loop-literal
invariant-loop-literal l = in_front l.found.items (string_bytes (map (text_of l.bytes) (drop l.literal-index l.literals))) ≡ string_bytes (map (text_of l.bytes) l.literals)
