use Rattle.std.proofs.Common.{◌≡◌, drop}
use Rattle.stk_spelling.specs.Named.{name_among}
use Rattle.stk_spelling.proofs.names.name_among.Given as goal

abbrev pub invariant-loop-x : goal.invariant-loop-x
invariant-loop-x l = name_among l.node (drop l.x-index l.names) ≡ name_among l.node l.names
