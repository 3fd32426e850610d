use Rattle.std.proofs.Common.{◌+◌, length, map, refl, sym, ◌∙◌}
use Rattle.std.proofs.lemmas.Result.{err_from_is_err_and}
use Rattle.stk_tree.specs.View.{view_label}
use Rattle.stk_ctype.specs.Named.{named}
use Rattle.stk_expr.proofs.Rows.{map_push}
use Rattle.stk_stmt.proofs.Rows.{labels_go, labels_row, labels_stop, row_ends, row_fails, row_more, row_spent}
use Rattle.stk_stmt.proofs.plain.labels.Goals as goal

pub returns-then-not-begins_label : goal.returns-then-not-begins_label
returns-then-not-begins_label c =
    let words = named c.args.bytes.now c.args.names.now in
    let l = c.loop-turn in
    rw c.from_vec.ensures (row_ends _ _ _ _ _ (labels_row words c.args.room) (length c.in_ok-first.rest.now + 1) l._turn (map view_label l.list.items) l.rest.now _ l.rest.now c.loop-turn-test.true (labels_stop l.rest.now (sym c.begins_label.ensures ∙ c.if-not-begins_label.true)) l.invariant)

pub returns-in_err-found : goal.returns-in_err-found
returns-in_err-found c =
    let words = named c.args.bytes.now c.args.names.now in
    let l = c.loop-turn in
    let p = err_from_is_err_and c.from_residual-in_err-found.result c.from_residual-in_err-found.ensures.1 in
    rw (p.1, p.2) (row_fails _ _ _ _ _ (labels_row words c.args.room) (length c.in_ok-first.rest.now + 1) l._turn (map view_label l.list.items) l.rest.now _ c.in_err-found.field-0.0 c.loop-turn-test.true (labels_go l.rest.now (sym c.begins_label.ensures ∙ c.if-not-begins_label.false)) c.in_err-found.ensures l.invariant)

pub loop-turn-preserved : goal.loop-turn-preserved
loop-turn-preserved c =
    let words = named c.args.bytes.now c.args.names.now in
    let l = c.loop-turn in
    let n = c.in_ok-found in
    let k = row_more _ _ _ _ _ (labels_row words c.args.room) (length c.in_ok-first.rest.now + 1) l._turn (map view_label l.list.items) l.rest.now _ n.behind.now (view_label n.found) c.loop-turn-test.true (labels_go l.rest.now (sym c.begins_label.ensures ∙ c.if-not-begins_label.false)) n.ensures l.invariant in
    rw (map_push view_label l.list.items c.push-in-loop-turn.new.self.items n.found n.found c.in_ok-push-2.ensures.items refl) k

pub returns : goal.returns
returns c =
    let words = named c.args.bytes.now c.args.names.now in
    let l = c.loop-turn in
    row_spent _ _ _ _ _ (labels_row words c.args.room) (length c.in_ok-first.rest.now + 1) l._turn (map view_label l.list.items) l.rest.now _ c.loop-turn-test.false l.invariant
