-- What a unit is made of: the one declarator of a function's front, a declaration or a definition that ends the tokens.
use Rattle.std.specs.Prelude.{ℕ, Bool, true, List, Option, Some, None}
use Rattle.stk_base.specs.declared.span.Span.{Span}
use Rattle.stk_tree.specs.declared.fixed.Lexeme.{Lexeme}
use Rattle.stk_tree.specs.Syntax.{DeclarationTree, DeclrTree, DeclrTrees, UnitTree}
use Rattle.stk_tree.specs.Syntax as s
use Rattle.stk_grammar.specs.Reading.{◌>>=◌}
use Rattle.stk_grammar.specs.DeclarationReading.{declaration_at}
use Rattle.stk_grammar.specs.StatementReading.{declared_on, defined_on, statement_at}

-- the declarator of a list that has one, and none of any other list
abbrev pub lone_declarator : DeclrTrees → Option DeclrTree
lone_declarator s.no_declarators = None
lone_declarator (s.then_declarator d s.no_declarators) = Some d
lone_declarator (s.then_declarator d (s.then_declarator e es)) = None

-- a declaration that ends the tokens
abbrev pub declaration_unit_at : (Span → Bool) → ℕ → List Lexeme → Option UnitTree
declaration_unit_at named inner ts = declaration_at named true inner ts >>= declared_on

-- a function with this front, whose body ends the tokens
abbrev pub definition_at : (Span → Bool) → ℕ → DeclarationTree → List Lexeme → Option UnitTree
definition_at named inner front ts = statement_at named inner ts >>= defined_on front
