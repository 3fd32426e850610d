use Rattle.std.proofs.Common.{◌≡◌, ◌-◌, length}
use Rattle.stk_numbers.specs.Strings.{in_front, spelled}
use Rattle.stk_numbers.proofs.strings.add_spelled.Given as goal

abbrev pub invariant-loop-turn : goal.invariant-loop-turn
invariant-loop-turn l = in_front l.found.items (spelled (length l.text - l._turn) l.rest) ≡ in_front l.initial.found.items (spelled (length l.text) l.text)
