use Rattle.std.proofs.Common.{suc, None, Some, map, refl, sym, ◌∙◌, arith}
use Rattle.std.proofs.lemmas.Result.{err_from_is_err_and}
use Rattle.stk_tree.specs.View.{view_dimension, view_expression}
use Rattle.stk_ctype.specs.Named.{named}
use Rattle.stk_expr.proofs.Rows.{Fails_along, bracket_shorter, comma_shorter, ends, fails_in, map_push, more_done, more_fail, more_nesting-push, more_turn, part_shorter, parts_done, parts_fail, parts_nesting-items, parts_turn, pushed_size, rest_within, too_high, turn}
use Rattle.stk_expr.proofs.reader.+reader.Goals as goal

pub climb-loop-suffix-init : goal.climb-loop-suffix-init
climb-loop-suffix-init t c = record { same = (suc (suc c.args.inner), omega arith, refl); nesting = c.requires.nesting }

pub climb-returns-then-left-inner-clause-value : goal.climb-returns-then-left-inner-clause-value
climb-returns-then-left-inner-clause-value t c =
    let i = c.loop-suffix.invariant in
    let s = c.in-Some in
    sym i.same.2 ∙ too_high _ c.args.inner c.args.least i.same.0 _ (view_expression c.loop-suffix.left.tree) c.loop-suffix.left.rest.now (s.suffix, s.rest.now) i.nesting.2 s.ensures (omega (arith, i.nesting.0))

pub climb-returns-in_err-left-clause-value : goal.climb-returns-in_err-left-clause-value
climb-returns-in_err-left-clause-value t c =
    let i = c.loop-suffix.invariant in
    let s = c.in-Some in
    let p = err_from_is_err_and c.from_residual.result c.from_residual.ensures.1 in
    rw (p.1, p.2) (Fails_along c.in_err-left.field-0.0 _ _ i.same.2 (fails_in c.in_err-left.field-0.0 _ c.args.inner c.args.least i.same.0 _ (view_expression c.loop-suffix.left.tree) c.loop-suffix.left.rest.now (s.suffix, s.rest.now) i.nesting.2 s.ensures (omega (arith, i.nesting.0)) c.in_err-left.ensures.value))

pub climb-loop-suffix-preserved : goal.climb-loop-suffix-preserved
climb-loop-suffix-preserved t c =
    let i = c.loop-suffix.invariant in
    let s = c.in-Some in
    let n = c.in_ok-left in
    let k = turn _ c.args.inner c.args.least i.same.0 _ (view_expression c.loop-suffix.left.tree) c.loop-suffix.left.rest.now (s.suffix, s.rest.now) (view_expression n.left.tree) n.left.rest.now _ i.nesting.2 s.ensures (omega (arith, i.nesting.0)) (omega (arith, i.nesting.0, n.ensures.nesting.0, n.ensures.higher)) n.ensures.value (omega (arith, i.same.1, i.nesting.0)) i.same.2 in
    record { same = (k.0, omega (arith, k.1, n.ensures.nesting.0), k.2); nesting = n.ensures.nesting }

pub climb-returns-clause-value : goal.climb-returns-clause-value
climb-returns-clause-value t c =
    let i = c.loop-suffix.invariant in
    sym i.same.2 ∙ ends _ c.args.inner c.args.least i.same.0 _ (view_expression c.loop-suffix.left.tree) c.loop-suffix.left.rest.now (omega (arith, i.same.1, i.nesting.1)) i.nesting.2 c.in_default.ensures

pub array_parts-returns-in_err-found-clause-value : goal.array_parts-returns-in_err-found-clause-value
array_parts-returns-in_err-found-clause-value t c =
    let i = c.loop-inside.invariant in
    let s = c.in-Some in
    let p = err_from_is_err_and c.from_residual.result c.from_residual.ensures.1 in
    rw (p.1, p.2) (Fails_along c.in_err-found.field-0.0 _ _ i.same.2 (parts_fail c.in_err-found.field-0.0 _ i.same.0 (map view_dimension c.loop-inside.list.items) c.loop-inside.rest.now s.inside.now s.ensures c.in_err-found.ensures.value))

pub array_parts-loop-inside-smaller : goal.array_parts-loop-inside-smaller
array_parts-loop-inside-smaller t c =
    let s = c.in-Some in
    let n = c.in_ok-found in
    omega (arith, part_shorter (named c.args.bytes.now c.args.names.now) c.args.inner s.inside.now (view_dimension n.found.part) n.found.rest.now n.ensures.value, bracket_shorter c.loop-inside.rest.now s.inside.now s.ensures)

pub array_parts-loop-inside-preserved : goal.array_parts-loop-inside-preserved
array_parts-loop-inside-preserved t c =
    let i = c.loop-inside.invariant in
    let s = c.in-Some in
    let n = c.in_ok-found in
    let shorter = part_shorter (named c.args.bytes.now c.args.names.now) c.args.inner s.inside.now (view_dimension n.found.part) n.found.rest.now n.ensures.value in
    let bracket = bracket_shorter c.loop-inside.rest.now s.inside.now s.ensures in
    let k = parts_turn _ i.same.0 (map view_dimension c.loop-inside.list.items) c.loop-inside.rest.now s.inside.now (view_dimension n.found.part) n.found.rest.now _ s.ensures n.ensures.value (omega arith) i.same.1 i.same.2 in
    let e = map_push view_dimension c.loop-inside.list.items c.push.new.self.items n.found.part n.found.part c.in_ok-push.ensures.items refl in
    let size = pushed_size c.loop-inside.list.items c.push.new.self.items n.found.part c.in_ok-push.ensures.items in
    let full = c.push.new.self.ok in
    let high = parts_nesting-items view_dimension c.loop-inside.list.items (view_dimension n.found.part) in
    record {
      same = rw e k;
      nesting = rw e (omega (arith, i.nesting, n.ensures.nesting.0, high, c.higher-nesting.ensures, c.len.ensures, size, full));
      few = omega (arith, i.few, size);
      low = omega (arith, i.low, n.ensures.nesting.1, c.higher-nesting.ensures, c.len.ensures, size, full);
    }

pub array_parts-returns-clause-value : goal.array_parts-returns-clause-value
array_parts-returns-clause-value t c =
    let i = c.loop-inside.invariant in
    rw c.from_vec.ensures (parts_done _ i.same.0 (map view_dimension c.loop-inside.list.items) c.loop-inside.rest.now _ (omega (arith, i.same.1)) c.in_default.ensures i.same.2)

pub arguments-returns-in_err-next-clause-value : goal.arguments-returns-in_err-next-clause-value
arguments-returns-in_err-next-clause-value t c =
    let i = c.loop-behind.invariant in
    let s = c.in-Some-behind_comma in
    let p = err_from_is_err_and c.from_residual-in_err-next.result c.from_residual-in_err-next.ensures.1 in
    rw (p.1, p.2) (Fails_along c.in_err-next.field-0.0 _ _ i.same.2 (more_fail c.in_err-next.field-0.0 _ i.same.0 (map view_expression c.loop-behind.list.items) c.loop-behind.rest.now s.behind.now s.ensures c.in_err-next.ensures.value))

pub arguments-loop-behind-smaller : goal.arguments-loop-behind-smaller
arguments-loop-behind-smaller t c =
    let s = c.in-Some-behind_comma in
    let n = c.in_ok-next in
    omega (arith, rest_within (named c.args.bytes.now c.args.names.now) c.args.inner 2 s.behind.now (view_expression n.next.tree) n.next.rest.now (omega arith) n.ensures.value, comma_shorter c.loop-behind.rest.now s.behind.now s.ensures)

pub arguments-loop-behind-preserved : goal.arguments-loop-behind-preserved
arguments-loop-behind-preserved t c =
    let i = c.loop-behind.invariant in
    let s = c.in-Some-behind_comma in
    let n = c.in_ok-next in
    let within = rest_within (named c.args.bytes.now c.args.names.now) c.args.inner 2 s.behind.now (view_expression n.next.tree) n.next.rest.now (omega arith) n.ensures.value in
    let comma = comma_shorter c.loop-behind.rest.now s.behind.now s.ensures in
    let k = more_turn _ i.same.0 (map view_expression c.loop-behind.list.items) c.loop-behind.rest.now s.behind.now (view_expression n.next.tree) n.next.rest.now _ s.ensures n.ensures.value (omega arith) i.same.1 i.same.2 in
    let e = map_push view_expression c.loop-behind.list.items c.push-in-Some-behind_comma.new.self.items n.next.tree c.into_inner-in-Some-behind_comma.result c.in_ok-push-2.ensures.items c.into_inner-in-Some-behind_comma.ensures in
    let high = more_nesting-push (map view_expression c.loop-behind.list.items) (view_expression n.next.tree) in
    record {
      same = rw e k;
      nesting = rw e (omega (arith, i.nesting.0, n.ensures.nesting.0, high, c.max-nesting.ensures), omega (arith, i.nesting.1, n.ensures.nesting.1, c.max-nesting.ensures));
    }

pub arguments-returns-in_default-behind_right_paren-clause-value : goal.arguments-returns-in_default-behind_right_paren-clause-value
arguments-returns-in_default-behind_right_paren-clause-value t c =
    let i = c.loop-behind.invariant in
    more_done _ i.same.0 (map view_expression c.loop-behind.list.items) c.loop-behind.rest.now None _ (omega (arith, i.same.1)) c.in_default-behind_comma.ensures c.in_default-behind_right_paren.ensures i.same.2

pub arguments-returns-clause-value : goal.arguments-returns-clause-value
arguments-returns-clause-value t c =
    let i = c.loop-behind.invariant in
    rw c.from_vec.ensures (more_done _ i.same.0 (map view_expression c.loop-behind.list.items) c.loop-behind.rest.now (Some c.in-Some-behind_right_paren.rest.now) _ (omega (arith, i.same.1)) c.in_default-behind_comma.ensures c.in-Some-behind_right_paren.ensures i.same.2)
