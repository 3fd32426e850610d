-- What an audit asks of a function.
use Rattle.std.specs.Prelude.{◌+◌, ◌≤◌, false, List, []}
use Rattle.stk_tree.specs.Syntax.{FunctionTree}
use Rattle.stk_numbers.specs.declared.conditions.Kinds.{Kinds}
use Rattle.stk_numbers.specs.declared.conditions.Candidate.{Candidate}
use Rattle.stk_numbers.specs.declared.conditions.Condition.{Condition}
use Rattle.stk_meaning.specs.Typings.{Typing}
use Rattle.stk_meaning.specs.Keys.{keys_of, input_bits}
use Rattle.stk_meaning.specs.Weights.{weight}
use Rattle.stk_meaning.specs.Lists as lists
use Rattle.stk_meaning.specs.Findings.{Subject}
use Rattle.stk_meaning.specs.PathFindings.{function_subject}
use Rattle.stk_clauses.specs.declared.store.Cnf.{Cnf}
use Rattle.stk_spent_queries.specs.Spent.{StandsForQuery}
use Rattle.stk_goals.specs.Queries.{key_kinds}
use Rattle.stk_audit_rules.specs.Worlds.{AuditedFunction}

module _ (ty : Typing) (without : Kinds) (f : FunctionTree) where
  -- clauses stand for the query of a candidate and a set, and have at most as many variables as the function has input
  -- bits and weight
  pub record IsFormulaOf (c : Candidate) (set : List Condition) (own : Cnf) : Type 0 where
    pub stands : StandsForQuery ty without f c set own
    pub within : own.vars ≤ input_bits (keys_of ty without f) + weight ty without f

  -- what its findings speak of: its path runs and its executions; no query is given up
  abbrev pub audited_subject : Subject
  audited_subject = function_subject ty without f (λ c set. ⊥)

  abbrev pub audited_function : AuditedFunction
  audited_function = record {
    keys = key_kinds ty without f;
    candidates = lists.candidates ty f;
    subject = audited_subject;
    Stands = IsFormulaOf;
  }

-- what stands where there is no function
abbrev pub no_subject : Subject
no_subject = record {
  IsMap = λ m. ⊥;
  Before = λ m n. ⊥;
  run = λ m. [];
  conditions = [];
  tries_all = false;
  Spent = λ c set. ⊥;
  Suffices = λ c set. ⊥;
}

abbrev pub no_function : AuditedFunction
no_function = record { keys = []; candidates = []; subject = no_subject; Stands = λ c set own. ⊥ }
