-- What is remembered of a search whose budget was spent.
use Rattle.stk_clauses.specs.Derivations.{IsSpentLog}
use Rattle.stk_query.specs.declared.spent.SpentSearch.{SpentSearch}

-- its log is one of its clauses and its budget
abbrev pub IsSpent : SpentSearch → Type 0
IsSpent s = IsSpentLog s.cnf.vars s.cnf.store s.budget s.log.steps
