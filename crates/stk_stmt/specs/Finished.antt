-- What a reader of statements answers.
use Rattle.std.specs.Prelude.{List, Some}
use Rattle.stk_tree.specs.declared.fixed.Lexeme.{Lexeme}
use Rattle.stk_tree.specs.Syntax.{StmtFormTree, StmtTree}
use Rattle.stk_grammar.specs.Reading.{Found}
use Rattle.stk_grammar.specs.StatementReading.{made_statement}

-- a statement of this form, and the tokens behind it
abbrev pub finished_at : StmtFormTree → List Lexeme → Found StmtTree
finished_at form rest = Some (made_statement form, rest)
