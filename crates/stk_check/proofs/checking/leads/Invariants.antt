use Rattle.std.proofs.Common.{drop, ◌≤◌, ◌↔◌, ◌++◌}
use Rattle.std.specs.List.{All}
use Rattle.stk_clauses.specs.Hints.{Leads}
use Rattle.stk_clauses.specs.Derivations.{clauses_of_steps}
use Rattle.stk_check.specs.Marks.{IsMarked}
use Rattle.stk_check.proofs.checking.leads.Given as goal

abbrev pub invariant-loop-i : goal.invariant-loop-i
invariant-loop-i l = record {
  leads : Leads (l.given ++ clauses_of_steps l.earlier) (IsMarked l.fn.marks l.stamp) l.hints ↔ Leads (l.given ++ clauses_of_steps l.earlier) (IsMarked l.marks l.stamp) (drop l.i l.hints);
  bounded : All (λ x. x ≤ l.stamp) l.marks;
}
