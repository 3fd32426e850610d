use Rattle.std.proofs.Common.{◌+◌, length, map, refl, sym, ◌∙◌}
use Rattle.std.proofs.lemmas.Result.{err_from_is_err_and}
use Rattle.stk_tree.specs.Syntax as s
use Rattle.stk_tree.specs.View.{view_declarator}
use Rattle.stk_grammar.specs.DeclarationReading.{declarators_at, more_declarators_at}
use Rattle.stk_ctype.specs.Named.{named}
use Rattle.stk_expr.proofs.Rows.{map_push}
use Rattle.stk_decl.specs.Places.{declarator_in}
use Rattle.stk_decl.proofs.Rows.{declarators_first, declarators_row, first_begins, pushed_first, row_ends, row_fails, row_more, row_spent, row_stops, turn_end, turn_more}
use Rattle.stk_decl.proofs.declarators.declarators.Goals as goal

pub loop-turn-init : goal.loop-turn-init
loop-turn-init c =
    rw (pushed_first view_declarator c.new-list.result.items c.push.new.self.items c.in_ok-first.first c.new-list.ensures.items c.in_ok-push.ensures.items) (first_begins s.then_declarator (declarator_in c.args.place (named c.args.bytes.now c.args.names.now) c.args.room) (more_declarators_at (declarator_in c.args.place (named c.args.bytes.now c.args.names.now) c.args.room)) c.args.lexemes.now c.in_ok-first.rest.now (view_declarator c.in_ok-first.first) c.in_ok-first.ensures ∙ sym (declarators_first (declarator_in c.args.place (named c.args.bytes.now c.args.names.now) c.args.room) c.args.lexemes.now))

pub returns-in_default : goal.returns-in_default
returns-in_default c =
    row_stops _ _ _ _ _ (declarators_row (declarator_in c.args.place (named c.args.bytes.now c.args.names.now) c.args.room)) (length c.in_ok-first.rest.now + 1) c.loop-turn._turn (map view_declarator c.loop-turn.list.items) c.loop-turn.rest.now (declarators_at (declarator_in c.args.place (named c.args.bytes.now c.args.names.now) c.args.room) c.args.lexemes.now) c.loop-turn-test.true (sym c.in_default.ensures) c.loop-turn.invariant

pub returns-in-End : goal.returns-in-End
returns-in-End c =
    rw c.from_vec.ensures (row_ends _ _ _ _ _ (declarators_row (declarator_in c.args.place (named c.args.bytes.now c.args.names.now) c.args.room)) (length c.in_ok-first.rest.now + 1) c.loop-turn._turn (map view_declarator c.loop-turn.list.items) c.loop-turn.rest.now c.in-Some.next.now c.in-End.field-0 (declarators_at (declarator_in c.args.place (named c.args.bytes.now c.args.names.now) c.args.room) c.args.lexemes.now) c.loop-turn-test.true (turn_end c.in-Some.turn c.in-End.field-0 c.in-Some.next.now _ c.in-Some.ensures c.in-End.is) c.loop-turn.invariant)

pub returns-in_err-found : goal.returns-in_err-found
returns-in_err-found c =
    let p = err_from_is_err_and c.from_residual-in_err-found.result c.from_residual-in_err-found.ensures.1 in
    rw (p.1, p.2) (row_fails _ _ _ _ _ (declarators_row (declarator_in c.args.place (named c.args.bytes.now c.args.names.now) c.args.room)) c.in_err-found.field-0.0 (length c.in_ok-first.rest.now + 1) c.loop-turn._turn (map view_declarator c.loop-turn.list.items) c.loop-turn.rest.now c.in-Some.next.now (declarators_at (declarator_in c.args.place (named c.args.bytes.now c.args.names.now) c.args.room) c.args.lexemes.now) c.loop-turn-test.true (turn_more c.in-Some.turn c.in-Some.next.now _ c.in-Some.ensures c.in_default-turn.not-End) c.in_err-found.ensures c.loop-turn.invariant)

pub loop-turn-preserved : goal.loop-turn-preserved
loop-turn-preserved c =
    let k = row_more _ _ _ _ _ (declarators_row (declarator_in c.args.place (named c.args.bytes.now c.args.names.now) c.args.room)) (length c.in_ok-first.rest.now + 1) c.loop-turn._turn (map view_declarator c.loop-turn.list.items) c.loop-turn.rest.now c.in-Some.next.now c.in_ok-found.behind.now (view_declarator c.in_ok-found.found) (declarators_at (declarator_in c.args.place (named c.args.bytes.now c.args.names.now) c.args.room) c.args.lexemes.now) c.loop-turn-test.true (turn_more c.in-Some.turn c.in-Some.next.now _ c.in-Some.ensures c.in_default-turn.not-End) c.in_ok-found.ensures c.loop-turn.invariant in
    rw (map_push view_declarator c.loop-turn.list.items c.push-in-loop-turn.new.self.items c.in_ok-found.found c.in_ok-found.found c.in_ok-push-2.ensures.items refl) k

pub returns : goal.returns
returns c =
    row_spent _ _ _ _ _ (declarators_row (declarator_in c.args.place (named c.args.bytes.now c.args.names.now) c.args.room)) (length c.in_ok-first.rest.now + 1) c.loop-turn._turn (map view_declarator c.loop-turn.list.items) c.loop-turn.rest.now (declarators_at (declarator_in c.args.place (named c.args.bytes.now c.args.names.now) c.args.room) c.args.lexemes.now) c.loop-turn-test.false c.loop-turn.invariant
