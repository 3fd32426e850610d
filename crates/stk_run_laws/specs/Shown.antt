-- What an execution does is shown by a path run: the law of gathering, and what follows for sets of conditions that
-- suffice.
use Rattle.std.specs.Prelude.{ℕ, ◌≡◌, List, ◌∷◌, ◌++◌, ℤ, Some, None, get_or}
use Rattle.stk_tree.specs.Syntax.{FunctionTree}
use Rattle.stk_numbers.specs.declared.conditions.Candidate.{Candidate}
use Rattle.stk_numbers.specs.declared.conditions.Condition.{Condition}
use Rattle.stk_numbers.specs.declared.conditions.Kinds.{Kinds}
use Rattle.stk_meaning.specs.declared.entry.Entry.{Entry}
use Rattle.stk_meaning.specs.Typings.{Typing}
use Rattle.stk_meaning.specs.Worlds.{Flow, Went}
use Rattle.stk_meaning.specs.Keys.{keys_of, setting_of}
use Rattle.stk_meaning.specs.Memory.{Memory, number_at}
use Rattle.stk_meaning.specs.Paths.{KeptNumbers, path, path_ran, number_under}
use Rattle.stk_meaning.specs.Executions.{Answer, Outside, ExecutionStart, execution, execution_ran}
use Rattle.stk_meaning.specs.Maps.{IsValid, IsValidStart}
use Rattle.stk_meaning.specs.Sufficient.{IsPathSufficient, IsSufficient}
use Rattle.stk_run_laws.specs.Visits.{IsIn, IsNumbered}
use Rattle.stk_run_laws.specs.TypedOperands.{HasScalarOperands}
use Rattle.stk_run_laws.specs.TypedTree.{kept_node, kept_kind, IsTypedTree}

-- each entry of the first list is one of the second
pub record AreAmong (entries others : List Entry) : Type 0 where
  pub by : (e : Entry) → IsIn e entries → IsIn e others

-- the path run of some valid map shows the entry, and before it only entries that stand before it in the other trace
pub record IsShown (ty : Typing) (without : Kinds) (f : FunctionTree) (before : List Entry) (e : Entry) : Type 0 where
  pub numbers : List ℤ
  pub valid : IsValid ty without f numbers
  pub earlier : List Entry
  pub rest : List Entry
  pub is : path ty without f numbers ≡ earlier ++ e ∷ rest
  pub within : AreAmong earlier before

-- each place of an execution is shown by a path run: for every start, memory, list of answers and bound on the turns of
-- loops
abbrev pub Gathering : Type 0
Gathering =
    (ty : Typing) (without : Kinds) (f : FunctionTree) → IsTypedTree ty without f → (start : ExecutionStart) (memory : Memory) (answers : List Answer) (n : ℕ) → IsValidStart ty without f start →
    (before : List Entry) (e : Entry) (rest : List Entry) → execution ty without f start memory answers n ≡ before ++ e ∷ rest → IsShown ty without f before e

-- each kept number is what the memory gives at its object
abbrev pub AreRemembered : Typing → Kinds → FunctionTree → ExecutionStart → KeptNumbers → Memory → Type 0
AreRemembered ty without f start kept memory =
    let g = setting_of ty without f in
    (q : ℕ) (x : ℤ) → get_or kept q None ≡ Some x → number_at (kept_kind g q) (start.addresses (kept_node g q)) memory ≡ x

-- the path run of some valid map ends in the same way and with the same registers, makes only entries of the other run,
-- and what it has kept is what the memory gives
pub record EndsAlike (ty : Typing) (without : Kinds) (f : FunctionTree) (start : ExecutionStart) (flow : Flow) (registers : List ℤ) (memory : Memory) (trace : List Entry) : Type 0 where
  pub numbers : List ℤ
  pub valid : IsValid ty without f numbers
  pub kept : KeptNumbers
  pub entries : List Entry
  pub is : path_ran (setting_of ty without f) f (number_under (keys_of ty without f) numbers) ≡ Went flow registers kept entries
  pub remembered : AreRemembered ty without f start kept memory
  pub within : AreAmong entries trace

-- so it is for each execution that comes to an end
abbrev pub EachEndIsShown : Type 0
EachEndIsShown =
    (ty : Typing) (without : Kinds) (f : FunctionTree) → IsTypedTree ty without f → (start : ExecutionStart) (memory : Memory) (answers : List Answer) (n : ℕ) → IsValidStart ty without f start →
    (flow : Flow) (registers : List ℤ) (end : Outside) (trace : List Entry) → execution_ran (setting_of ty without f) f start (record { memory = memory; answers = answers }) n ≡ Went flow registers end trace →
    EndsAlike ty without f start flow registers end.memory trace

-- a set that suffices in path runs suffices in every execution
abbrev pub WhatSufficesInPathsSuffices : Type 0
WhatSufficesInPathsSuffices =
    (ty : Typing) (without : Kinds) (f : FunctionTree) → IsTypedTree ty without f → (c : Candidate) (set : List Condition) → IsPathSufficient ty without f c set → IsSufficient ty without f c set

-- what is asked here is more than what is asked where conditions and candidates are listed, and where each node is
-- evaluated once
pub record IsAskedLess (ty : Typing) (f : FunctionTree) : Type 0 where
  pub numbered : IsNumbered ty f
  pub operands : HasScalarOperands ty f

abbrev pub OneConditionServesAll : Type 0
OneConditionServesAll = (ty : Typing) (without : Kinds) (f : FunctionTree) → IsTypedTree ty without f → IsAskedLess ty f
