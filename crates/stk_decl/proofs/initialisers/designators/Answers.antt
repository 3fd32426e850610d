use Rattle.std.proofs.Common.{suc, ◌+◌, length, map, refl, sym, ◌∙◌, arith}
use Rattle.std.proofs.lemmas.Result.{err_from_is_err_and}
use Rattle.stk_tree.specs.View.{view_designator}
use Rattle.stk_tree.specs.Syntax as s
use Rattle.stk_grammar.specs.DeclarationReading.{designator_at, designators_at}
use Rattle.stk_ctype.specs.Named.{named}
use Rattle.stk_expr.proofs.Rows.{map_push, pushed_size}
use Rattle.stk_decl.proofs.Rows.{designator_end, designator_more, designators_nesting-items, designators_row, none_begins, row_ends, row_fails, row_more, row_spent}
use Rattle.stk_decl.proofs.initialisers.designators.Goals as goal

pub loop-turn-init : goal.loop-turn-init
loop-turn-init c =
    let row = designators_at (designator_at (named c.args.bytes.now c.args.names.now) c.args.room) in
    rw c.new-list.ensures.items (record {
      same = none_begins s.then_designator row c.args.lexemes.now;
      count = refl;
      nesting = refl;
    })

pub returns-then-not-begins_designator-clause-value : goal.returns-then-not-begins_designator-clause-value
returns-then-not-begins_designator-clause-value c =
    let i = c.loop-turn.invariant in
    rw c.from_vec.ensures (row_ends _ _ _ _ _ (designators_row (designator_at (named c.args.bytes.now c.args.names.now) c.args.room)) (length c.args.lexemes.now + 1) c.loop-turn.turn (map view_designator c.loop-turn.list.items) c.loop-turn.rest.now _ _ (designators_at (designator_at (named c.args.bytes.now c.args.names.now) c.args.room) (suc (length c.args.lexemes.now)) c.args.lexemes.now) c.loop-turn-test.true (designator_end c.loop-turn.rest.now (sym c.begins_designator.ensures ∙ c.if-not-begins_designator.true)) i.same)

pub returns-then-not-begins_designator-clause-nesting : goal.returns-then-not-begins_designator-clause-nesting
returns-then-not-begins_designator-clause-nesting c = rw c.from_vec.ensures c.loop-turn.invariant.nesting

pub returns-in_err-found-clause-value : goal.returns-in_err-found-clause-value
returns-in_err-found-clause-value c =
    let i = c.loop-turn.invariant in
    let p = err_from_is_err_and c.from_residual.result c.from_residual.ensures.1 in
    rw (p.1, p.2) (row_fails _ _ _ _ _ (designators_row (designator_at (named c.args.bytes.now c.args.names.now) c.args.room)) c.in_err-found.field-0.0 (length c.args.lexemes.now + 1) c.loop-turn.turn (map view_designator c.loop-turn.list.items) c.loop-turn.rest.now c.loop-turn.rest.now (designators_at (designator_at (named c.args.bytes.now c.args.names.now) c.args.room) (suc (length c.args.lexemes.now)) c.args.lexemes.now) c.loop-turn-test.true (designator_more c.loop-turn.rest.now (sym c.begins_designator.ensures ∙ c.if-not-begins_designator.false)) c.in_err-found.ensures.value i.same)

pub loop-turn-preserved : goal.loop-turn-preserved
loop-turn-preserved c =
    let i = c.loop-turn.invariant in
    let n = c.in_ok-found in
    let k = row_more _ _ _ _ _ (designators_row (designator_at (named c.args.bytes.now c.args.names.now) c.args.room)) (length c.args.lexemes.now + 1) c.loop-turn.turn (map view_designator c.loop-turn.list.items) c.loop-turn.rest.now c.loop-turn.rest.now n.found.rest.now (view_designator n.found.part) (designators_at (designator_at (named c.args.bytes.now c.args.names.now) c.args.room) (suc (length c.args.lexemes.now)) c.args.lexemes.now) c.loop-turn-test.true (designator_more c.loop-turn.rest.now (sym c.begins_designator.ensures ∙ c.if-not-begins_designator.false)) n.ensures.value i.same in
    let e = map_push view_designator c.loop-turn.list.items c.push.new.self.items n.found.part n.found.part c.in_ok-push.ensures.items refl in
    let size = pushed_size c.loop-turn.list.items c.push.new.self.items n.found.part c.in_ok-push.ensures.items in
    let high = designators_nesting-items view_designator c.loop-turn.list.items (view_designator n.found.part) in
    record {
      same = rw e k;
      count = omega (arith, i.count, size);
      nesting = rw e (omega (arith, i.nesting, i.count, n.ensures.nesting.0, high, c.higher-nesting.ensures));
    }

pub returns-clause-value : goal.returns-clause-value
returns-clause-value c =
    let i = c.loop-turn.invariant in
    row_spent _ _ _ _ _ (designators_row (designator_at (named c.args.bytes.now c.args.names.now) c.args.room)) (length c.args.lexemes.now + 1) c.loop-turn.turn (map view_designator c.loop-turn.list.items) c.loop-turn.rest.now (designators_at (designator_at (named c.args.bytes.now c.args.names.now) c.args.room) (suc (length c.args.lexemes.now)) c.args.lexemes.now) c.loop-turn-test.false i.same
