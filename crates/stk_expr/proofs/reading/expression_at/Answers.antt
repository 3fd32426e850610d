use Rattle.std.proofs.Common.{drop, sym, ◌∙◌, arith}
use Rattle.std.proofs.lemmas.Result.{err_from_is_err_and}
use Rattle.std.proofs.lemmas.List.{length-drop}
use Rattle.stk_tree.specs.View.{view_expression}
use Rattle.stk_grammar.proofs.Laws.{Ends-stops, expression_of_found, found_unlaid, none_of_more, none_of_none}
use Rattle.stk_ctype.specs.Named.{named}
use Rattle.stk_expr.proofs.Rows.{none_of_fails, rest_within}
use Rattle.stk_expr.proofs.reading.expression_at.Goals as goal

pub returns-in_err-found-clause-none : goal.returns-in_err-found-clause-none
returns-in_err-found-clause-none c =
    let p = err_from_is_err_and c.from_residual.result c.from_residual.ensures.1 in
    let e = c.in_err-found.field-0.0 in
    λ is. none_of_none (named c.args.bytes.now c.args.names.now) c.args.level c.args.lexemes.now c.args.at (none_of_fails e _ (sym p.2 ∙ cc (p.1, is)) (rw c.split_at.ensures.back at c.in_err-found.ensures.value))

pub overflow_sub-result : goal.overflow_sub-result
overflow_sub-result c =
    let n = c.in_ok-found in
    omega (arith, rest_within (named c.args.bytes.now c.args.names.now) 400 c.args.level (drop c.args.at c.args.lexemes.now) (view_expression n.found.tree) n.found.rest.now c.requires.level.1 (rw c.split_at.ensures.back at n.ensures.value), length-drop c.args.at c.args.lexemes.now)

pub returns-then-stops-clause-found : goal.returns-then-stops-clause-found
returns-then-stops-clause-found c =
    let n = c.in_ok-found in
    rw c.into_inner.ensures (expression_of_found (named c.args.bytes.now c.args.names.now) c.args.level c.args.lexemes.now c.args.at (view_expression n.found.tree) n.found.rest.now c.requires.within c.requires.level.1 (rw c.split_at.ensures.back at n.ensures.value) (sym c.stops.ensures ∙ c.if-stops.true))

pub returns-then-stops-clause-unlaid : goal.returns-then-stops-clause-unlaid
returns-then-stops-clause-unlaid c =
    let n = c.in_ok-found in
    rw c.into_inner.ensures (found_unlaid (named c.args.bytes.now c.args.names.now) 400 c.args.level _ (view_expression n.found.tree) n.found.rest.now c.requires.level.1 n.ensures.value (Ends-stops c.args.level n.found.rest.now (sym c.stops.ensures ∙ c.if-stops.true)))

pub returns-else-stops-clause-none : goal.returns-else-stops-clause-none
returns-else-stops-clause-none c =
    let n = c.in_ok-found in
    λ _. none_of_more (named c.args.bytes.now c.args.names.now) c.args.level c.args.lexemes.now c.args.at (view_expression n.found.tree) n.found.rest.now (rw c.split_at.ensures.back at n.ensures.value) (sym c.stops.ensures ∙ c.if-stops.false)
