use Rattle.std.proofs.Common.{◌≡◌, ◌≤◌, ◌+◌, ◌^◌, length}
use Rattle.stk_proofs.specs.Words.{words_of}
use Rattle.stk_proofs.specs.Dimacs.{clauses_in, cnf_of}
use Rattle.stk_proofs.proofs.Clauses.{cnf_after}
use Rattle.stk_proofs.proofs.clause_lists.read_clauses.Given as goal

abbrev pub invariant-loop-left : goal.invariant-loop-left
invariant-loop-left l = record {
  same : cnf_after l.vars l.store l.total (clauses_in l.vars l.left (words_of l.rest)) ≡ cnf_of l.vars (clauses_in l.vars l.count (words_of l.text));
  few : length l.store + l.left ≡ l.count;
  capped : l.total ≤ 2 ^ 31;
}

abbrev pub decreases-loop-left : goal.decreases-loop-left
decreases-loop-left l = l.left
