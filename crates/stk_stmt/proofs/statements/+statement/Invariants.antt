use Rattle.std.proofs.Common.{◌≡◌, ◌+◌, ◌*◌, ◌-◌, suc, length, map}
use Rattle.stk_tree.specs.Syntax as s
use Rattle.stk_tree.specs.View.{view_part, view_section, view_statement}
use Rattle.stk_grammar.specs.StatementReading.{parts_at, section_at, sections_at, statement_at, statements_at}
use Rattle.stk_expr.specs.Fronts.{in_front}
use Rattle.stk_ctype.specs.Named.{named}
use Rattle.stk_stmt.proofs.statements.+statement.Given as goal

abbrev pub decreases-statement : goal.decreases-statement
decreases-statement l = 16 * l.room

abbrev pub decreases-section : goal.decreases-section
decreases-section l = 16 * l.room

abbrev pub decreases-statement_of : goal.decreases-statement_of
decreases-statement_of l = 16 * l.inner + 15

abbrev pub decreases-section_of : goal.decreases-section_of
decreases-section_of l = 16 * l.inner + 15

abbrev pub decreases-block : goal.decreases-block
decreases-block l = 16 * l.inner + 14

abbrev pub decreases-if_statement : goal.decreases-if_statement
decreases-if_statement l = 16 * l.inner + 14

abbrev pub decreases-while_statement : goal.decreases-while_statement
decreases-while_statement l = 16 * l.inner + 14

abbrev pub decreases-do_statement : goal.decreases-do_statement
decreases-do_statement l = 16 * l.inner + 14

abbrev pub decreases-for_statement : goal.decreases-for_statement
decreases-for_statement l = 16 * l.inner + 14

abbrev pub decreases-switch_statement : goal.decreases-switch_statement
decreases-switch_statement l = 16 * l.inner + 14

abbrev pub decreases-parts : goal.decreases-parts
decreases-parts l = 16 * l.inner + 13

abbrev pub decreases-if_rest : goal.decreases-if_rest
decreases-if_rest l = 16 * l.inner + 13

abbrev pub decreases-for_parts : goal.decreases-for_parts
decreases-for_parts l = 16 * l.inner + 13

abbrev pub decreases-sections : goal.decreases-sections
decreases-sections l = 16 * l.inner + 13

abbrev pub decreases-section_body : goal.decreases-section_body
decreases-section_body l = 16 * l.inner + 13

abbrev pub decreases-part : goal.decreases-part
decreases-part l = 16 * l.inner + 12

abbrev pub invariant-parts-loop-turn : goal.invariant-parts-loop-turn
invariant-parts-loop-turn l =
    in_front s.then_part (map view_part l.list.items) (parts_at (named l.bytes l.names) l.inner (statement_at (named l.bytes l.names) l.inner) (l._turn-end - l._turn) l.rest) ≡ parts_at (named l.bytes l.names) l.inner (statement_at (named l.bytes l.names) l.inner) (suc (length l.fn.lexemes)) l.fn.lexemes

abbrev pub invariant-sections-loop-turn : goal.invariant-sections-loop-turn
invariant-sections-loop-turn l =
    in_front s.then_section (map view_section l.list.items) (sections_at (section_at (named l.bytes l.names) l.inner) (l._turn-end - l._turn) l.rest) ≡ sections_at (section_at (named l.bytes l.names) l.inner) (suc (length l.fn.lexemes)) l.fn.lexemes

abbrev pub invariant-section_body-loop-turn : goal.invariant-section_body-loop-turn
invariant-section_body-loop-turn l =
    in_front s.then_statement (map view_statement l.list.items) (statements_at (statement_at (named l.bytes l.names) l.inner) (l._turn-end - l._turn) l.rest) ≡ statements_at (statement_at (named l.bytes l.names) l.inner) (suc (length l.fn.lexemes)) l.fn.lexemes
