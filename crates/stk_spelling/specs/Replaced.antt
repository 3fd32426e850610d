-- The text of what the comparison at a node is replaced by.
use Rattle.std.specs.Prelude.{ℕ, ◌==◌, if◌then◌else◌, List, [], ◌∷◌, Option, Some, None}
use Rattle.stk_tree.specs.Syntax.{ExprTree, ExprFormTree, FunctionTree}
use Rattle.stk_tree.specs.Syntax as s
use Rattle.stk_numbers.specs.declared.operators.CompareOp.{CompareOp}
use Rattle.stk_meaning.specs.Typings.{Typing}
use Rattle.stk_meaning.specs.Operations.{arithmetic, shifting, comparing, BinarySort, operates, joins, or_else, and_also, sort_of}
use Rattle.stk_meaning.specs.Replacements.{Replaced, replacement, replacement_text}
use Rattle.stk_meaning.specs.Visits.{Visit, at_expression, at_declarator, at_statement, at_section, collected}
use Rattle.stk_meaning.specs.Keys.{function_visits}

-- the text of a comparison's replacement, where it has one
abbrev pub text_if : List ℕ → CompareOp → Option Replaced → List (List ℕ)
text_if bytes op None = []
text_if bytes op (Some found) = replacement_text bytes op found ∷ []

abbrev pub sort_replaced : Typing → BinarySort → ExprTree → ExprTree → List (List ℕ)
sort_replaced ty (operates (arithmetic op)) a b = []
sort_replaced ty (operates (shifting op)) a b = []
sort_replaced ty (operates (comparing op)) a b = text_if ty.bytes op (replacement ty a b)
sort_replaced ty joins a b = []
sort_replaced ty or_else a b = []
sort_replaced ty and_also a b = []

abbrev pub form_replaced : Typing → ExprFormTree → List (List ℕ)
form_replaced ty (s.name at) = []
form_replaced ty (s.number at) = []
form_replaced ty (s.character at) = []
form_replaced ty (s.text parts) = []
form_replaced ty (s.paren e) = []
form_replaced ty (s.index a b) = []
form_replaced ty (s.call e es) = []
form_replaced ty (s.dot e at) = []
form_replaced ty (s.arrow e at) = []
form_replaced ty (s.step op e) = []
form_replaced ty (s.unary op e) = []
form_replaced ty (s.size_expression e) = []
form_replaced ty (s.size_name t) = []
form_replaced ty (s.cast t e) = []
form_replaced ty (s.binary op a b) = sort_replaced ty (sort_of op) a b
form_replaced ty (s.choice a b c) = []
form_replaced ty (s.assign op a b) = []

abbrev pub visit_replaced : Typing → ℕ → Visit → List (List ℕ)
visit_replaced ty k (at_expression j role f) = if j == k then form_replaced ty f else []
visit_replaced ty k (at_declarator j static at init) = []
visit_replaced ty k (at_statement j arm f) = []
visit_replaced ty k (at_section j ls) = []

-- the first of some texts
abbrev pub first_text : List (List ℕ) → List ℕ
first_text [] = []
first_text (x ∷ xs) = x

-- the text of what the comparison at a node is replaced by; nothing where there is no such comparison
abbrev pub replaced_at : Typing → FunctionTree → ℕ → List ℕ
replaced_at ty f k = first_text (collected (visit_replaced ty k) (function_visits ty f))
