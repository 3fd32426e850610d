-- The conditions and the candidates of a function, in the order of its nodes (Wang, Zeldovich, Kaashoek, Solar-Lezama,
-- SOSP 2013, sections 3.2 and 3.3): what runs may violate, and what they may enter or see.
use Rattle.std.specs.Prelude.{ℕ, Bool, true, false, List, [], ◌∷◌, ◌++◌, Option, Some, None}
use Rattle.stk_tree.specs.Syntax.{ExprTree, ExprFormTree, FunctionTree}
use Rattle.stk_tree.specs.Syntax as s
use Rattle.stk_numbers.specs.declared.conditions.CandKind.{CandKind}
use Rattle.stk_numbers.specs.declared.conditions.CandKind.TheVariants.{Arm, AlwaysTrue, AlwaysFalse, Algebra}
use Rattle.stk_numbers.specs.declared.conditions.Candidate.{Candidate}
use Rattle.stk_numbers.specs.declared.conditions.Condition.{Condition}
use Rattle.stk_numbers.specs.declared.conditions.Kinds.{Kinds}
use Rattle.stk_meaning.specs.Typings.{Typing}
use Rattle.stk_meaning.specs.Operations.{arithmetic, shifting, comparing, BinarySort, operates, joins, or_else, and_also, sort_of}
use Rattle.stk_meaning.specs.Conditions.{tests_at, conditions_of}
use Rattle.stk_meaning.specs.Replacements.{Replaced, replacement}
use Rattle.stk_meaning.specs.Visits.{accesses, Visit, at_expression, at_declarator, at_statement, at_section, collected}
use Rattle.stk_meaning.specs.Keys.{function_visits}

-- the conditions of a visit: those that the table names for its form
abbrev pub visit_conditions : Typing → Kinds → Visit → List Condition
visit_conditions ty without (at_expression k role f) = conditions_of k (tests_at ty without (accesses (ty.type_at k) role.use_of) f)
visit_conditions ty without (at_declarator k static at init) = []
visit_conditions ty without (at_statement k arm f) = []
visit_conditions ty without (at_section k ls) = []

-- the conditions of a function, by node and then by kind
abbrev pub conditions : Typing → Kinds → FunctionTree → List Condition
conditions ty without f = collected (visit_conditions ty without) (function_visits ty f)

-- one candidate
abbrev pub candidate : ℕ → CandKind → Candidate
candidate k kind = record { node = k; kind = kind }

-- a branch that is entered
abbrev pub arm_candidates : ℕ → Bool → List Candidate
arm_candidates k true = candidate k Arm ∷ []
arm_candidates k false = []

-- an expression whose truth is seen
abbrev pub seen_candidates : ℕ → Bool → List Candidate
seen_candidates k true = candidate k AlwaysTrue ∷ candidate k AlwaysFalse ∷ []
seen_candidates k false = []

-- a comparison that has a replacement
abbrev pub replaced_candidates : ℕ → Option Replaced → List Candidate
replaced_candidates k None = []
replaced_candidates k (Some found) = candidate k Algebra ∷ []

-- a binary operator: a comparison is seen wherever it is evaluated
abbrev pub binary_candidates : Typing → ℕ → Bool → BinarySort → ExprTree → ExprTree → List Candidate
binary_candidates ty k test (operates (arithmetic op)) a b = seen_candidates k test
binary_candidates ty k test (operates (shifting op)) a b = seen_candidates k test
binary_candidates ty k test (operates (comparing op)) a b = seen_candidates k true ++ replaced_candidates k (replacement ty a b)
binary_candidates ty k test joins a b = seen_candidates k test
binary_candidates ty k test or_else a b = seen_candidates k test
binary_candidates ty k test and_also a b = seen_candidates k test

-- the candidates of each form: what parentheses hold is seen, and not the parentheses
abbrev pub form_candidates : Typing → ℕ → Bool → ExprFormTree → List Candidate
form_candidates ty k test (s.name at) = seen_candidates k test
form_candidates ty k test (s.number at) = seen_candidates k test
form_candidates ty k test (s.character at) = seen_candidates k test
form_candidates ty k test (s.text parts) = seen_candidates k test
form_candidates ty k test (s.paren e) = []
form_candidates ty k test (s.index a b) = seen_candidates k test
form_candidates ty k test (s.call e es) = seen_candidates k test
form_candidates ty k test (s.dot e at) = seen_candidates k test
form_candidates ty k test (s.arrow e at) = seen_candidates k test
form_candidates ty k test (s.step op e) = seen_candidates k test
form_candidates ty k test (s.unary op e) = seen_candidates k test
form_candidates ty k test (s.size_expression e) = seen_candidates k test
form_candidates ty k test (s.size_name t) = seen_candidates k test
form_candidates ty k test (s.cast t e) = seen_candidates k test
form_candidates ty k test (s.binary op a b) = binary_candidates ty k test (sort_of op) a b
form_candidates ty k test (s.choice a b c) = seen_candidates k test
form_candidates ty k test (s.assign op a b) = seen_candidates k test

-- the candidates of a visit
abbrev pub visit_candidates : Typing → Visit → List Candidate
visit_candidates ty (at_expression k role f) = arm_candidates k role.is_arm ++ form_candidates ty k role.is_test f
visit_candidates ty (at_declarator k static at init) = []
visit_candidates ty (at_statement k arm f) = arm_candidates k arm
visit_candidates ty (at_section k ls) = arm_candidates k true

-- the candidates of a function, by node and then by kind
abbrev pub candidates : Typing → FunctionTree → List Candidate
candidates ty f = collected (visit_candidates ty) (function_visits ty f)
