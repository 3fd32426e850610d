-- Reading an expression that a stop follows, as what holds expressions wants it.
use Rattle.std.specs.Prelude.{ℕ, Bool, cond, List, Some, None}
use Rattle.stk_base.specs.declared.span.Span.{Span}
use Rattle.stk_tree.specs.declared.fixed.Lexeme.{Lexeme}
use Rattle.stk_tree.specs.Syntax.{ExprTree}
use Rattle.stk_grammar.specs.Expressions.{stops}
use Rattle.stk_grammar.specs.Reading.{◌>>=◌, Found, expression_at}

-- what was found, where a stop stands behind it
abbrev pub if_stopped : ℕ → ExprTree × List Lexeme → Found ExprTree
if_stopped least e = cond (stops least e.1) (Some e) None

-- an expression of a level or a higher one, of at most this nesting, with a stop behind it
unfoldable pub stopped_at : (Span → Bool) → ℕ → ℕ → List Lexeme → Found ExprTree
stopped_at named room least ts = expression_at named room least ts >>= if_stopped least
