use Rattle.std.proofs.Common.{◌≡◌, ◌++◌, map, drop}
use Rattle.stk_numbers.specs.Kinds.{width_of}
use Rattle.stk_symbols.proofs.symbols.widths_of.Given as goal

abbrev pub invariant-loop-kind : goal.invariant-loop-kind
invariant-loop-kind l = l.widths.items ++ map width_of (drop l.kind-index l.kinds) ≡ map width_of l.kinds
