use Rattle.std.proofs.Common.{◌+◌, length, map, refl, sym, ◌∙◌}
use Rattle.std.proofs.lemmas.Result.{err_from_is_err_and}
use Rattle.stk_tree.specs.Syntax as s
use Rattle.stk_tree.specs.View.{view_enumerator}
use Rattle.stk_grammar.specs.DeclarationReading.{enumerator_at, enumerators_at, more_enumerators_at}
use Rattle.stk_ctype.specs.Named.{named}
use Rattle.stk_expr.proofs.Rows.{map_push}
use Rattle.stk_decl.specs.Rows.{paired}
use Rattle.stk_decl.proofs.Rows.{enumerators_first, enumerators_row, first_begins, pushed_first, row_ends-paired, row_fails, row_more, row_spent, row_stops, turn_end, turn_more}
use Rattle.stk_decl.proofs.bases.enumerators.Goals as goal

pub loop-turn-init : goal.loop-turn-init
loop-turn-init c =
    rw (pushed_first view_enumerator c.new-list.result.items c.push.new.self.items c.in_ok-first.first c.new-list.ensures.items c.in_ok-push.ensures.items) (first_begins (paired s.then_enumerator) (enumerator_at (named c.args.bytes.now c.args.names.now) c.args.room) (more_enumerators_at (enumerator_at (named c.args.bytes.now c.args.names.now) c.args.room)) c.args.lexemes.now c.in_ok-first.rest.now (view_enumerator c.in_ok-first.first) c.in_ok-first.ensures ∙ sym (enumerators_first (enumerator_at (named c.args.bytes.now c.args.names.now) c.args.room) c.args.lexemes.now))

pub returns-in_default : goal.returns-in_default
returns-in_default c =
    row_stops _ _ _ _ _ (enumerators_row (enumerator_at (named c.args.bytes.now c.args.names.now) c.args.room)) (length c.in_ok-first.rest.now + 1) c.loop-turn._turn (map view_enumerator c.loop-turn.list.items) c.loop-turn.rest.now (enumerators_at (enumerator_at (named c.args.bytes.now c.args.names.now) c.args.room) c.args.lexemes.now) c.loop-turn-test.true (sym c.in_default.ensures) c.loop-turn.invariant

pub returns-in-End : goal.returns-in-End
returns-in-End c =
    rw c.from_vec.ensures (row_ends-paired _ _ _ _ _ (enumerators_row (enumerator_at (named c.args.bytes.now c.args.names.now) c.args.room)) (length c.in_ok-first.rest.now + 1) c.loop-turn._turn (map view_enumerator c.loop-turn.list.items) c.loop-turn.rest.now c.in-Some.next.now c.in-End.comma (enumerators_at (enumerator_at (named c.args.bytes.now c.args.names.now) c.args.room) c.args.lexemes.now) c.loop-turn-test.true (turn_end c.in-Some.turn c.in-End.comma c.in-Some.next.now _ c.in-Some.ensures c.in-End.is) c.loop-turn.invariant)

pub returns-in_err-found : goal.returns-in_err-found
returns-in_err-found c =
    let p = err_from_is_err_and c.from_residual-in_err-found.result c.from_residual-in_err-found.ensures.1 in
    rw (p.1, p.2) (row_fails _ _ _ _ _ (enumerators_row (enumerator_at (named c.args.bytes.now c.args.names.now) c.args.room)) c.in_err-found.field-0.0 (length c.in_ok-first.rest.now + 1) c.loop-turn._turn (map view_enumerator c.loop-turn.list.items) c.loop-turn.rest.now c.in-Some.next.now (enumerators_at (enumerator_at (named c.args.bytes.now c.args.names.now) c.args.room) c.args.lexemes.now) c.loop-turn-test.true (turn_more c.in-Some.turn c.in-Some.next.now _ c.in-Some.ensures c.in_default-turn.not-End) c.in_err-found.ensures c.loop-turn.invariant)

pub loop-turn-preserved : goal.loop-turn-preserved
loop-turn-preserved c =
    let k = row_more _ _ _ _ _ (enumerators_row (enumerator_at (named c.args.bytes.now c.args.names.now) c.args.room)) (length c.in_ok-first.rest.now + 1) c.loop-turn._turn (map view_enumerator c.loop-turn.list.items) c.loop-turn.rest.now c.in-Some.next.now c.in_ok-found.behind.now (view_enumerator c.in_ok-found.found) (enumerators_at (enumerator_at (named c.args.bytes.now c.args.names.now) c.args.room) c.args.lexemes.now) c.loop-turn-test.true (turn_more c.in-Some.turn c.in-Some.next.now _ c.in-Some.ensures c.in_default-turn.not-End) c.in_ok-found.ensures c.loop-turn.invariant in
    rw (map_push view_enumerator c.loop-turn.list.items c.push-in-loop-turn.new.self.items c.in_ok-found.found c.in_ok-found.found c.in_ok-push-2.ensures.items refl) k

pub returns : goal.returns
returns c =
    row_spent _ _ _ _ _ (enumerators_row (enumerator_at (named c.args.bytes.now c.args.names.now) c.args.room)) (length c.in_ok-first.rest.now + 1) c.loop-turn._turn (map view_enumerator c.loop-turn.list.items) c.loop-turn.rest.now (enumerators_at (enumerator_at (named c.args.bytes.now c.args.names.now) c.args.room) c.args.lexemes.now) c.loop-turn-test.false c.loop-turn.invariant
