use Rattle.std.proofs.Common.{◌≡◌, ◌++◌, drop}
use Rattle.stk_bundle.specs.Kinds.{more_kinds}
use Rattle.stk_bundle.proofs.kinds.add_more_kinds.Given as goal

abbrev pub invariant-loop-kind : goal.invariant-loop-kind
invariant-loop-kind l = l.text.items ++ more_kinds (drop l.kind-index l.kinds) ≡ l.initial.text.items ++ more_kinds l.kinds
