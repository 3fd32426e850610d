-- What is asked of the types of a function where its conditions are listed: `++`, `--` and assignments have no array as
-- their operand (C11 6.5.2.4p1, 6.5.3.1p1, 6.5.16p2).
use Rattle.std.specs.Prelude.{◌≡◌, false}
use Rattle.stk_tree.specs.Syntax.{ExprTree, ExprFormTree, FunctionTree}
use Rattle.stk_tree.specs.Syntax as s
use Rattle.stk_tree.specs.Parts.{bare}
use Rattle.stk_meaning.specs.Typings.{Typing, type_in, is_array}
use Rattle.stk_meaning.specs.Visits.{Visit, at_expression, at_declarator, at_statement, at_section}
use Rattle.stk_meaning.specs.Keys.{function_visits}
use Rattle.stk_run_laws.specs.Visits.{EachVisit}

-- an operand that is read or written as a whole is no array
abbrev pub IsNoArray : Typing → ExprTree → Type 0
IsNoArray ty e = is_array (type_in ty (bare e)) ≡ false

abbrev pub HasScalarOperand : Typing → ExprFormTree → Type 0
HasScalarOperand ty (s.name at) = Unit {0}
HasScalarOperand ty (s.number at) = Unit {0}
HasScalarOperand ty (s.character at) = Unit {0}
HasScalarOperand ty (s.text parts) = Unit {0}
HasScalarOperand ty (s.paren e) = Unit {0}
HasScalarOperand ty (s.index a b) = Unit {0}
HasScalarOperand ty (s.call e es) = Unit {0}
HasScalarOperand ty (s.dot e at) = Unit {0}
HasScalarOperand ty (s.arrow e at) = Unit {0}
HasScalarOperand ty (s.step op e) = IsNoArray ty e
HasScalarOperand ty (s.unary op e) = Unit {0}
HasScalarOperand ty (s.size_expression e) = Unit {0}
HasScalarOperand ty (s.size_name t) = Unit {0}
HasScalarOperand ty (s.cast t e) = Unit {0}
HasScalarOperand ty (s.binary op a b) = Unit {0}
HasScalarOperand ty (s.choice a b c) = Unit {0}
HasScalarOperand ty (s.assign op a b) = IsNoArray ty a

abbrev pub VisitHasScalarOperand : Typing → Visit → Type 0
VisitHasScalarOperand ty (at_expression k role f) = HasScalarOperand ty f
VisitHasScalarOperand ty (at_declarator k static at init) = Unit {0}
VisitHasScalarOperand ty (at_statement k arm f) = Unit {0}
VisitHasScalarOperand ty (at_section k ls) = Unit {0}

-- each evaluated one of a function
abbrev pub HasScalarOperands : Typing → FunctionTree → Type 0
HasScalarOperands ty f = EachVisit (VisitHasScalarOperand ty) (function_visits ty f)
