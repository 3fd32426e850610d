-- A section of a `switch`, as its labels and the statements behind them.
use Rattle.std.specs.Prelude.{ℕ, suc, Bool, List, length, Some}
use Rattle.stk_base.specs.declared.span.Span.{Span}
use Rattle.stk_tree.specs.declared.fixed.Lexeme.{Lexeme}
use Rattle.stk_tree.specs.Syntax.{LabelTrees, SectionTree}
use Rattle.stk_tree.specs.Syntax as s
use Rattle.stk_tree.specs.Unlaid.{no_node}
use Rattle.stk_grammar.specs.Reading.{◌>>=◌, Found}
use Rattle.stk_grammar.specs.StatementReading.{StatementReader, label_at, labels_at, statements_at}

-- the labels of a section
abbrev pub some_labels_at : (Span → Bool) → ℕ → List Lexeme → Found LabelTrees
some_labels_at named inner ts = label_at named inner ts >>= λ l. labels_at named inner (suc (length l.1)) l.1 >>= λ ls. Some (s.then_label l.0 ls.0, ls.1)

-- behind the labels of a section
abbrev pub body_on : StatementReader → LabelTrees × List Lexeme → Found SectionTree
body_on sub ls = statements_at sub (suc (length ls.1)) ls.1 >>= λ xs. Some (s.section no_node ls.0 xs.0, xs.1)

-- a section whose statements one reader reads
abbrev pub section_with : (Span → Bool) → ℕ → StatementReader → List Lexeme → Found SectionTree
section_with named inner sub ts = some_labels_at named inner ts >>= body_on sub
