use Rattle.std.proofs.Common.{◌≡◌, ◌+◌, ◌≤◌, min, drop}
use Rattle.stk_proofs.specs.Dimacs.{literal_count}
use Rattle.stk_proofs.proofs.clause_lists.count_literals.Given as goal

abbrev pub invariant-loop-id : goal.invariant-loop-id
invariant-loop-id l = record {
  same : min (l.total + literal_count (drop l.id l.store)) 2147483648 ≡ min (literal_count l.store) 2147483648;
  capped : l.total ≤ 2147483648;
}
