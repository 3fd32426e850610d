-- What follows a declarator's name, where its stars leave room for it.
use Rattle.std.specs.Prelude.{ℕ, ◌+◌, Bool, List, Some, None, cond, nat_le}
use Rattle.stk_base.specs.declared.span.Span.{Span}
use Rattle.stk_tree.specs.declared.fixed.Lexeme.{Lexeme}
use Rattle.stk_tree.specs.Nesting.{tail_nesting}
use Rattle.stk_tree.specs.Syntax.{TailTree}
use Rattle.stk_grammar.specs.Reading.{◌>>=◌, Found}
use Rattle.stk_grammar.specs.DeclarationReading.{Reader, declared_tail_at}

-- what was found behind a name, where it nests no deeper than this room with that many stars
abbrev pub low_tail : ℕ → ℕ → TailTree × List Lexeme → Found TailTree
low_tail room stars t = cond (nat_le (tail_nesting t.0 + stars) room) (Some t) None

-- what follows a name that has that many stars
abbrev pub low_tail_at : (Span → Bool) → ℕ → Bool → ℕ → Reader TailTree
low_tail_at named room file stars ts = declared_tail_at named room file ts >>= low_tail room stars
