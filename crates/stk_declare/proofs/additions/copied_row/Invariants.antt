use Rattle.std.proofs.Common.{◌≡◌, ◌++◌, drop}
use Rattle.stk_declare.proofs.additions.copied_row.Given as goal

abbrev pub invariant-loop-ty : goal.invariant-loop-ty
invariant-loop-ty l = l.all.items ++ drop l.ty-index l.row ≡ l.row
