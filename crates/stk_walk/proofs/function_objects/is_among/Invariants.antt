use Rattle.std.proofs.Common.{◌≡◌, drop}
use Rattle.stk_meaning.specs.Typings.{is_among}
use Rattle.stk_walk.proofs.function_objects.is_among.Given as goal

abbrev pub invariant-loop-other : goal.invariant-loop-other
invariant-loop-other l = is_among l.node (drop l.other-index l.list) ≡ is_among l.node l.list
