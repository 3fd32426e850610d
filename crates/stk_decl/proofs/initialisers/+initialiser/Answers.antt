use Rattle.std.proofs.Common.{◌+◌, length, map, refl, sym, ◌∙◌}
use Rattle.std.proofs.lemmas.Result.{err_from_is_err_and}
use Rattle.stk_tree.specs.Syntax as s
use Rattle.stk_tree.specs.View.{view_item}
use Rattle.stk_grammar.specs.DeclarationReading.{initialiser_at, item_at, items_at, more_items_at, path_at}
use Rattle.stk_ctype.specs.Named.{named}
use Rattle.stk_expr.proofs.Rows.{map_push}
use Rattle.stk_decl.specs.Rows.{paired}
use Rattle.stk_decl.proofs.Rows.{first_begins, items_first, items_row, pushed_first, row_ends-paired, row_fails, row_more, row_spent, row_stops, turn_end, turn_more}
use Rattle.stk_decl.proofs.initialisers.+initialiser.Goals as goal

pub items-loop-turn-init : goal.items-loop-turn-init
items-loop-turn-init t c =
    rw (pushed_first view_item c.new-list.result.items c.push.new.self.items c.in_ok-first.first c.new-list.ensures.items c.in_ok-push.ensures.items) (first_begins (paired s.then_item) (item_at (path_at (named c.args.bytes.now c.args.names.now) c.args.room) (initialiser_at (named c.args.bytes.now c.args.names.now) c.args.room)) (more_items_at (item_at (path_at (named c.args.bytes.now c.args.names.now) c.args.room) (initialiser_at (named c.args.bytes.now c.args.names.now) c.args.room))) c.args.lexemes.now c.in_ok-first.rest.now (view_item c.in_ok-first.first) c.in_ok-first.ensures ∙ sym (items_first (item_at (path_at (named c.args.bytes.now c.args.names.now) c.args.room) (initialiser_at (named c.args.bytes.now c.args.names.now) c.args.room)) c.args.lexemes.now c.in_default.ensures))

pub items-returns-in_default-brace_turn : goal.items-returns-in_default-brace_turn
items-returns-in_default-brace_turn t c =
    row_stops _ _ _ _ _ (items_row (item_at (path_at (named c.args.bytes.now c.args.names.now) c.args.room) (initialiser_at (named c.args.bytes.now c.args.names.now) c.args.room))) (length c.in_ok-first.rest.now + 1) c.loop-turn._turn (map view_item c.loop-turn.list.items) c.loop-turn.rest.now (items_at (item_at (path_at (named c.args.bytes.now c.args.names.now) c.args.room) (initialiser_at (named c.args.bytes.now c.args.names.now) c.args.room)) c.args.lexemes.now) c.loop-turn-test.true (sym c.in_default-brace_turn.ensures) c.loop-turn.invariant

pub items-returns-in-End : goal.items-returns-in-End
items-returns-in-End t c =
    rw c.from_vec.ensures (row_ends-paired _ _ _ _ _ (items_row (item_at (path_at (named c.args.bytes.now c.args.names.now) c.args.room) (initialiser_at (named c.args.bytes.now c.args.names.now) c.args.room))) (length c.in_ok-first.rest.now + 1) c.loop-turn._turn (map view_item c.loop-turn.list.items) c.loop-turn.rest.now c.in-Some-brace_turn.next.now c.in-End.comma (items_at (item_at (path_at (named c.args.bytes.now c.args.names.now) c.args.room) (initialiser_at (named c.args.bytes.now c.args.names.now) c.args.room)) c.args.lexemes.now) c.loop-turn-test.true (turn_end c.in-Some-brace_turn.turn c.in-End.comma c.in-Some-brace_turn.next.now _ c.in-Some-brace_turn.ensures c.in-End.is) c.loop-turn.invariant)

pub items-returns-in_err-found : goal.items-returns-in_err-found
items-returns-in_err-found t c =
    let p = err_from_is_err_and c.from_residual-in_err-found.result c.from_residual-in_err-found.ensures.1 in
    rw (p.1, p.2) (row_fails _ _ _ _ _ (items_row (item_at (path_at (named c.args.bytes.now c.args.names.now) c.args.room) (initialiser_at (named c.args.bytes.now c.args.names.now) c.args.room))) c.in_err-found.field-0.0 (length c.in_ok-first.rest.now + 1) c.loop-turn._turn (map view_item c.loop-turn.list.items) c.loop-turn.rest.now c.in-Some-brace_turn.next.now (items_at (item_at (path_at (named c.args.bytes.now c.args.names.now) c.args.room) (initialiser_at (named c.args.bytes.now c.args.names.now) c.args.room)) c.args.lexemes.now) c.loop-turn-test.true (turn_more c.in-Some-brace_turn.turn c.in-Some-brace_turn.next.now _ c.in-Some-brace_turn.ensures c.in_default-turn.not-End) c.in_err-found.ensures c.loop-turn.invariant)

pub items-loop-turn-preserved : goal.items-loop-turn-preserved
items-loop-turn-preserved t c =
    let k = row_more _ _ _ _ _ (items_row (item_at (path_at (named c.args.bytes.now c.args.names.now) c.args.room) (initialiser_at (named c.args.bytes.now c.args.names.now) c.args.room))) (length c.in_ok-first.rest.now + 1) c.loop-turn._turn (map view_item c.loop-turn.list.items) c.loop-turn.rest.now c.in-Some-brace_turn.next.now c.in_ok-found.behind.now (view_item c.in_ok-found.found) (items_at (item_at (path_at (named c.args.bytes.now c.args.names.now) c.args.room) (initialiser_at (named c.args.bytes.now c.args.names.now) c.args.room)) c.args.lexemes.now) c.loop-turn-test.true (turn_more c.in-Some-brace_turn.turn c.in-Some-brace_turn.next.now _ c.in-Some-brace_turn.ensures c.in_default-turn.not-End) c.in_ok-found.ensures c.loop-turn.invariant in
    rw (map_push view_item c.loop-turn.list.items c.push-in-loop-turn.new.self.items c.in_ok-found.found c.in_ok-found.found c.in_ok-push-2.ensures.items refl) k

pub items-returns : goal.items-returns
items-returns t c =
    row_spent _ _ _ _ _ (items_row (item_at (path_at (named c.args.bytes.now c.args.names.now) c.args.room) (initialiser_at (named c.args.bytes.now c.args.names.now) c.args.room))) (length c.in_ok-first.rest.now + 1) c.loop-turn._turn (map view_item c.loop-turn.list.items) c.loop-turn.rest.now (items_at (item_at (path_at (named c.args.bytes.now c.args.names.now) c.args.room) (initialiser_at (named c.args.bytes.now c.args.names.now) c.args.room)) c.args.lexemes.now) c.loop-turn-test.false c.loop-turn.invariant
