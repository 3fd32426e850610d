use Rattle.std.proofs.Common.{◌≡◌, ◌-◌, map}
use Rattle.stk_tree.specs.Syntax as s
use Rattle.stk_tree.specs.View.{view_label}
use Rattle.stk_grammar.specs.StatementReading.{labels_at}
use Rattle.stk_expr.specs.Fronts.{in_front}
use Rattle.stk_ctype.specs.Named.{named}
use Rattle.stk_stmt.specs.Sections.{some_labels_at}
use Rattle.stk_stmt.proofs.plain.labels.Given as goal

abbrev pub invariant-loop-turn : goal.invariant-loop-turn
invariant-loop-turn l =
    in_front s.then_label (map view_label l.list.items) (labels_at (named l.bytes l.names) l.room (l._turn-end - l._turn) l.rest) ≡ some_labels_at (named l.bytes l.names) l.room l.fn.lexemes
