use Rattle.std.proofs.Common.{◌≡◌, ◌++◌, drop}
use Rattle.stk_bundle.specs.Heads.{taken_among}
use Rattle.stk_bundle.proofs.head.taken_among.Given as goal

abbrev pub invariant-loop-kind : goal.invariant-loop-kind
invariant-loop-kind l = l.list.items ++ taken_among l.without (drop l.kind-index l.kinds) ≡ taken_among l.without l.kinds
