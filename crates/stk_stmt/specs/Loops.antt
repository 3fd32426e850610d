-- The ends of loops.
use Rattle.std.specs.Prelude.{ℕ, Bool, List, Some}
use Rattle.stk_base.specs.declared.span.Span.{Span}
use Rattle.stk_tree.specs.declared.fixed.Lexeme.{Lexeme}
use Rattle.stk_tree.specs.Syntax.{MaybeExprTree, StartTree, StmtTree}
use Rattle.stk_tree.specs.Syntax as s
use Rattle.stk_grammar.specs.Reading.{◌>>=◌, Found, behind_left_paren}
use Rattle.stk_grammar.specs.StatementReading.{StatementReader, behind_while, closed_at, do_on, ended_at, made_statement, start_at}

-- the `do` with this body
abbrev pub do_behind : (Span → Bool) → ℕ → StmtTree → List Lexeme → Found StmtTree
do_behind named inner x ts = behind_while ts >>= do_on named inner x

-- what stands behind the first part of a `for`: the test, the step and the body
abbrev pub for_parts_at : (Span → Bool) → ℕ → StatementReader → List Lexeme → Found (MaybeExprTree × MaybeExprTree × StmtTree)
for_parts_at named inner sub ts = ended_at named inner ts >>= λ test. closed_at named inner test.1 >>= λ step. sub step.1 >>= λ x. Some ((test.0, step.0, x.0), x.1)

-- the `for` of these parts
abbrev pub for_behind : StartTree → (MaybeExprTree × MaybeExprTree × StmtTree) × List Lexeme → Found StmtTree
for_behind first p = Some (made_statement (s.for_statement first p.0.0 p.0.1 p.0.2), p.1)

-- what stands behind a `for`
abbrev pub for_with : (Span → Bool) → ℕ → StatementReader → List Lexeme → Found StmtTree
for_with named inner sub ts = behind_left_paren ts >>= λ inside. start_at named inner inside >>= λ first. for_parts_at named inner sub first.1 >>= for_behind first.0
