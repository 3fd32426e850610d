use Rattle.std.proofs.Common.{◌+◌, length, map, refl, sym, ap, ◌∙◌}
use Rattle.std.proofs.lemmas.Result.{err_from_is_err_and}
use Rattle.stk_tree.specs.Syntax as s
use Rattle.stk_tree.specs.View.{view_part, view_section, view_statement}
use Rattle.stk_grammar.specs.StatementReading.{behind_first, parts_at, section_at, sections_at, statement_at, statement_on, statements_at}
use Rattle.stk_ctype.specs.Named.{named}
use Rattle.stk_expr.proofs.Rows.{map_push}
use Rattle.stk_stmt.specs.Loops.{for_with}
use Rattle.stk_stmt.proofs.Rows.{for_is, map_none, no_section_in, no_statement_in, none_begins, parts_row, row_ends, row_fails, row_more, row_spent, section_in, sections_row, statement_in, statements_go, statements_row, statements_stop}
use Rattle.stk_stmt.proofs.statements.+statement.Goals as goal

pub parts-loop-turn-init : goal.parts-loop-turn-init
parts-loop-turn-init t c =
    let words = named c.args.bytes.now c.args.names.now in
    none_begins s.then_part (parts_at words c.args.inner (statement_at words c.args.inner)) (map view_part c.new-list.result.items) c.args.lexemes.now (map_none view_part c.new-list.result.items c.new-list.ensures.items)

pub parts-returns-in-Some : goal.parts-returns-in-Some
parts-returns-in-Some t c =
    let words = named c.args.bytes.now c.args.names.now in
    let l = c.loop-turn in
    rw c.from_vec.ensures (row_ends _ _ _ _ _ (parts_row words c.args.inner (statement_at words c.args.inner)) (length c.args.lexemes.now + 1) l._turn (map view_part l.list.items) l.rest.now _ c.in-Some.behind.now c.loop-turn-test.true (sym c.in-Some.ensures) l.invariant)

pub parts-returns-in_err-found : goal.parts-returns-in_err-found
parts-returns-in_err-found t c =
    let words = named c.args.bytes.now c.args.names.now in
    let l = c.loop-turn in
    let p = err_from_is_err_and c.from_residual.result c.from_residual.ensures.1 in
    rw (p.1, p.2) (row_fails _ _ _ _ _ (parts_row words c.args.inner (statement_at words c.args.inner)) (length c.args.lexemes.now + 1) l._turn (map view_part l.list.items) l.rest.now _ c.in_err-found.field-0.0 c.loop-turn-test.true (sym c.in_default.ensures) c.in_err-found.ensures l.invariant)

pub parts-loop-turn-preserved : goal.parts-loop-turn-preserved
parts-loop-turn-preserved t c =
    let words = named c.args.bytes.now c.args.names.now in
    let l = c.loop-turn in
    let n = c.in_ok-found in
    let k = row_more _ _ _ _ _ (parts_row words c.args.inner (statement_at words c.args.inner)) (length c.args.lexemes.now + 1) l._turn (map view_part l.list.items) l.rest.now _ n.behind.now (view_part n.found) c.loop-turn-test.true (sym c.in_default.ensures) n.ensures l.invariant in
    rw (map_push view_part l.list.items c.push.new.self.items n.found n.found c.in_ok-push.ensures.items refl) k

pub parts-returns : goal.parts-returns
parts-returns t c =
    let words = named c.args.bytes.now c.args.names.now in
    let l = c.loop-turn in
    row_spent _ _ _ _ _ (parts_row words c.args.inner (statement_at words c.args.inner)) (length c.args.lexemes.now + 1) l._turn (map view_part l.list.items) l.rest.now _ c.loop-turn-test.false l.invariant

pub sections-loop-turn-init : goal.sections-loop-turn-init
sections-loop-turn-init t c =
    let words = named c.args.bytes.now c.args.names.now in
    none_begins s.then_section (sections_at (section_at words c.args.inner)) (map view_section c.new-list.result.items) c.args.lexemes.now (map_none view_section c.new-list.result.items c.new-list.ensures.items)

pub sections-returns-in-Some : goal.sections-returns-in-Some
sections-returns-in-Some t c =
    let words = named c.args.bytes.now c.args.names.now in
    let l = c.loop-turn in
    rw c.from_vec.ensures (row_ends _ _ _ _ _ (sections_row (section_at words c.args.inner)) (length c.args.lexemes.now + 1) l._turn (map view_section l.list.items) l.rest.now _ c.in-Some.behind.now c.loop-turn-test.true (sym c.in-Some.ensures) l.invariant)

pub sections-returns-in_err-found : goal.sections-returns-in_err-found
sections-returns-in_err-found t c =
    let words = named c.args.bytes.now c.args.names.now in
    let l = c.loop-turn in
    let p = err_from_is_err_and c.from_residual.result c.from_residual.ensures.1 in
    rw (p.1, p.2) (row_fails _ _ _ _ _ (sections_row (section_at words c.args.inner)) (length c.args.lexemes.now + 1) l._turn (map view_section l.list.items) l.rest.now _ c.in_err-found.field-0.0 c.loop-turn-test.true (sym c.in_default.ensures) c.in_err-found.ensures l.invariant)

pub sections-loop-turn-preserved : goal.sections-loop-turn-preserved
sections-loop-turn-preserved t c =
    let words = named c.args.bytes.now c.args.names.now in
    let l = c.loop-turn in
    let n = c.in_ok-found in
    let k = row_more _ _ _ _ _ (sections_row (section_at words c.args.inner)) (length c.args.lexemes.now + 1) l._turn (map view_section l.list.items) l.rest.now _ n.behind.now (view_section n.found) c.loop-turn-test.true (sym c.in_default.ensures) n.ensures l.invariant in
    rw (map_push view_section l.list.items c.push.new.self.items n.found n.found c.in_ok-push.ensures.items refl) k

pub sections-returns : goal.sections-returns
sections-returns t c =
    let words = named c.args.bytes.now c.args.names.now in
    let l = c.loop-turn in
    row_spent _ _ _ _ _ (sections_row (section_at words c.args.inner)) (length c.args.lexemes.now + 1) l._turn (map view_section l.list.items) l.rest.now _ c.loop-turn-test.false l.invariant

pub section_body-loop-turn-init : goal.section_body-loop-turn-init
section_body-loop-turn-init t c =
    let words = named c.args.bytes.now c.args.names.now in
    none_begins s.then_statement (statements_at (statement_at words c.args.inner)) (map view_statement c.new-list.result.items) c.args.lexemes.now (map_none view_statement c.new-list.result.items c.new-list.ensures.items)

pub section_body-returns-then-ends_section : goal.section_body-returns-then-ends_section
section_body-returns-then-ends_section t c =
    let words = named c.args.bytes.now c.args.names.now in
    let l = c.loop-turn in
    rw c.from_vec.ensures (row_ends _ _ _ _ _ (statements_row (statement_at words c.args.inner)) (length c.args.lexemes.now + 1) l._turn (map view_statement l.list.items) l.rest.now _ l.rest.now c.loop-turn-test.true (statements_stop l.rest.now (sym c.ends_section.ensures ∙ c.if-ends_section.true)) l.invariant)

pub section_body-returns-in_err-found : goal.section_body-returns-in_err-found
section_body-returns-in_err-found t c =
    let words = named c.args.bytes.now c.args.names.now in
    let l = c.loop-turn in
    let p = err_from_is_err_and c.from_residual.result c.from_residual.ensures.1 in
    rw (p.1, p.2) (row_fails _ _ _ _ _ (statements_row (statement_at words c.args.inner)) (length c.args.lexemes.now + 1) l._turn (map view_statement l.list.items) l.rest.now _ c.in_err-found.field-0.0 c.loop-turn-test.true (statements_go l.rest.now (sym c.ends_section.ensures ∙ c.if-ends_section.false)) c.in_err-found.ensures l.invariant)

pub section_body-loop-turn-preserved : goal.section_body-loop-turn-preserved
section_body-loop-turn-preserved t c =
    let words = named c.args.bytes.now c.args.names.now in
    let l = c.loop-turn in
    let n = c.in_ok-found in
    let k = row_more _ _ _ _ _ (statements_row (statement_at words c.args.inner)) (length c.args.lexemes.now + 1) l._turn (map view_statement l.list.items) l.rest.now _ n.behind.now (view_statement n.found) c.loop-turn-test.true (statements_go l.rest.now (sym c.ends_section.ensures ∙ c.if-ends_section.false)) n.ensures l.invariant in
    rw (map_push view_statement l.list.items c.push.new.self.items n.found c.into_inner.result c.in_ok-push.ensures.items c.into_inner.ensures) k

pub section_body-returns : goal.section_body-returns
section_body-returns t c =
    let words = named c.args.bytes.now c.args.names.now in
    let l = c.loop-turn in
    row_spent _ _ _ _ _ (statements_row (statement_at words c.args.inner)) (length c.args.lexemes.now + 1) l._turn (map view_statement l.list.items) l.rest.now _ c.loop-turn-test.false l.invariant

pub statement-returns : goal.statement-returns
statement-returns t c =
    rw (statement_in (named c.args.bytes.now c.args.names.now) c.args.room c.args.lexemes.now c.if-room-eq0.false, sym c.kind_at-kind.ensures) c.statement_of.ensures

pub section-returns : goal.section-returns
section-returns t c = rw (section_in (named c.args.bytes.now c.args.names.now) c.args.room c.args.lexemes.now c.if-room-eq0.false) c.section_of.ensures

pub statement-returns-then-room-eq0 : goal.statement-returns-then-room-eq0
statement-returns-then-room-eq0 t c = no_statement_in (named c.args.bytes.now c.args.names.now) c.args.room c.args.lexemes.now c.if-room-eq0.true

pub section-returns-then-room-eq0 : goal.section-returns-then-room-eq0
section-returns-then-room-eq0 t c = no_section_in (named c.args.bytes.now c.args.names.now) c.args.room c.args.lexemes.now c.if-room-eq0.true

pub statement_of-returns-in-For : goal.statement_of-returns-in-For
statement_of-returns-in-For t c =
    let words = named c.args.bytes.now c.args.names.now in
    let sub = statement_at words c.args.inner in
    let e = ap (λ k. statement_on words c.args.inner sub (section_at words c.args.inner) k c.args.lexemes.now) c.in-For.is ∙ for_is words c.args.inner sub (behind_first c.args.lexemes.now) ∙ ap (for_with words c.args.inner sub) (sym c.behind_first-behind.ensures) in
    rw e c.for_statement.ensures
