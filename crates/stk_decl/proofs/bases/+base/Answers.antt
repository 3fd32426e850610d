use Rattle.std.proofs.Common.{◌+◌, length, map, refl, sym, ◌∙◌}
use Rattle.std.proofs.lemmas.Result.{err_from_is_err_and}
use Rattle.stk_tree.specs.Syntax as s
use Rattle.stk_tree.specs.View.{view_member}
use Rattle.stk_grammar.specs.DeclarationReading.{full_base_at, member_at, members_at, more_members_at}
use Rattle.stk_ctype.specs.Named.{named}
use Rattle.stk_expr.proofs.Rows.{map_push}
use Rattle.stk_decl.proofs.Rows.{first_begins, member_end, member_more, members_first, members_row, pushed_first, row_ends, row_fails, row_more, row_spent}
use Rattle.stk_decl.proofs.Steps.{reserved_base}
use Rattle.stk_decl.proofs.bases.+base.Goals as goal

pub members-loop-turn-init : goal.members-loop-turn-init
members-loop-turn-init t c =
    rw (pushed_first view_member c.new-list.result.items c.push.new.self.items c.in_ok-first.first c.new-list.ensures.items c.in_ok-push.ensures.items) (first_begins s.then_member (member_at (named c.args.bytes.now c.args.names.now) c.args.room (full_base_at (named c.args.bytes.now c.args.names.now) c.args.room)) (more_members_at (member_at (named c.args.bytes.now c.args.names.now) c.args.room (full_base_at (named c.args.bytes.now c.args.names.now) c.args.room))) c.args.lexemes.now c.in_ok-first.rest.now (view_member c.in_ok-first.first) c.in_ok-first.ensures ∙ sym (members_first (member_at (named c.args.bytes.now c.args.names.now) c.args.room (full_base_at (named c.args.bytes.now c.args.names.now) c.args.room)) c.args.lexemes.now))

pub members-returns-in-Some : goal.members-returns-in-Some
members-returns-in-Some t c =
    rw c.from_vec.ensures (row_ends _ _ _ _ _ (members_row (member_at (named c.args.bytes.now c.args.names.now) c.args.room (full_base_at (named c.args.bytes.now c.args.names.now) c.args.room))) (length c.in_ok-first.rest.now + 1) c.loop-turn._turn (map view_member c.loop-turn.list.items) c.loop-turn.rest.now c.in-Some.behind.now _ (members_at (member_at (named c.args.bytes.now c.args.names.now) c.args.room (full_base_at (named c.args.bytes.now c.args.names.now) c.args.room)) c.args.lexemes.now) c.loop-turn-test.true (member_end c.loop-turn.rest.now c.in-Some.behind.now c.in-Some.ensures) c.loop-turn.invariant)

pub members-returns-in_err-found : goal.members-returns-in_err-found
members-returns-in_err-found t c =
    let p = err_from_is_err_and c.from_residual-in_err-found.result c.from_residual-in_err-found.ensures.1 in
    rw (p.1, p.2) (row_fails _ _ _ _ _ (members_row (member_at (named c.args.bytes.now c.args.names.now) c.args.room (full_base_at (named c.args.bytes.now c.args.names.now) c.args.room))) c.in_err-found.field-0.0 (length c.in_ok-first.rest.now + 1) c.loop-turn._turn (map view_member c.loop-turn.list.items) c.loop-turn.rest.now c.loop-turn.rest.now (members_at (member_at (named c.args.bytes.now c.args.names.now) c.args.room (full_base_at (named c.args.bytes.now c.args.names.now) c.args.room)) c.args.lexemes.now) c.loop-turn-test.true (member_more c.loop-turn.rest.now c.in_default.ensures) c.in_err-found.ensures c.loop-turn.invariant)

pub members-loop-turn-preserved : goal.members-loop-turn-preserved
members-loop-turn-preserved t c =
    let k = row_more _ _ _ _ _ (members_row (member_at (named c.args.bytes.now c.args.names.now) c.args.room (full_base_at (named c.args.bytes.now c.args.names.now) c.args.room))) (length c.in_ok-first.rest.now + 1) c.loop-turn._turn (map view_member c.loop-turn.list.items) c.loop-turn.rest.now c.loop-turn.rest.now c.in_ok-found.behind.now (view_member c.in_ok-found.found) (members_at (member_at (named c.args.bytes.now c.args.names.now) c.args.room (full_base_at (named c.args.bytes.now c.args.names.now) c.args.room)) c.args.lexemes.now) c.loop-turn-test.true (member_more c.loop-turn.rest.now c.in_default.ensures) c.in_ok-found.ensures c.loop-turn.invariant in
    rw (map_push view_member c.loop-turn.list.items c.push-in-loop-turn.new.self.items c.in_ok-found.found c.in_ok-found.found c.in_ok-push-2.ensures.items refl) k

pub members-returns : goal.members-returns
members-returns t c =
    row_spent _ _ _ _ _ (members_row (member_at (named c.args.bytes.now c.args.names.now) c.args.room (full_base_at (named c.args.bytes.now c.args.names.now) c.args.room))) (length c.in_ok-first.rest.now + 1) c.loop-turn._turn (map view_member c.loop-turn.list.items) c.loop-turn.rest.now (members_at (member_at (named c.args.bytes.now c.args.names.now) c.args.room (full_base_at (named c.args.bytes.now c.args.names.now) c.args.room)) c.args.lexemes.now) c.loop-turn-test.false c.loop-turn.invariant

pub full_base-returns-in-Fixed : goal.full_base-returns-in-Fixed
full_base-returns-in-Fixed t c =
    rw (reserved_base (named c.args.bytes.now c.args.names.now) c.args.room c.args.lexemes.now c.in-Some.lexeme.now c.in-Fixed.word c.in-Some.rest.now c.if-room-eq0.false c.in-Some.ensures.cases.0 c.in-Fixed.is) c.reserved_base.ensures
