use Rattle.std.proofs.Common.{◌≡◌, ◌++◌, drop}
use Rattle.stk_symbols.proofs.symbols.copied.Given as goal

abbrev pub invariant-loop-kind : goal.invariant-loop-kind
invariant-loop-kind l = l.own.items ++ drop l.kind-index l.kinds ≡ l.kinds
