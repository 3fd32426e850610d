use Rattle.std.proofs.Common.{sym, ◌∙◌}
use Rattle.std.proofs.lemmas.Result.{err_from_is_err_and}
use Rattle.stk_tree.specs.View.{view_expression}
use Rattle.stk_grammar.proofs.Stopped.{nothing_leads, stopped_by_more, stopped_some, stopped_sound, stopped_without}
use Rattle.stk_ctype.specs.Named.{named}
use Rattle.stk_expr.proofs.Rows.{none_of_fails}
use Rattle.stk_expr.proofs.reading.expression.Goals as goal

pub returns-in_err-found-clause-none : goal.returns-in_err-found-clause-none
returns-in_err-found-clause-none c =
    let p = err_from_is_err_and c.from_residual.result c.from_residual.ensures.1 in
    let e = c.in_err-found.field-0.0 in
    λ is. nothing_leads (named c.args.bytes.now c.args.names.now) c.args.room c.args.level c.args.lexemes.now
    (stopped_without (named c.args.bytes.now c.args.names.now) c.args.room c.args.level c.args.lexemes.now (none_of_fails e _ (sym p.2 ∙ cc (p.1, is)) c.in_err-found.ensures.value))

pub returns-then-stops-clause-found : goal.returns-then-stops-clause-found
returns-then-stops-clause-found c =
    let n = c.in_ok-found in
    let e = stopped_some (named c.args.bytes.now c.args.names.now) c.args.room c.args.level c.args.lexemes.now (view_expression n.found.tree) n.found.rest.now n.ensures.value (sym c.stops.ensures ∙ c.if-stops.true) in
    (stopped_sound (named c.args.bytes.now c.args.names.now) c.args.room c.args.level c.args.lexemes.now (view_expression n.found.tree) n.found.rest.now c.requires.level.1 e).0

pub returns-then-stops-clause-unlaid : goal.returns-then-stops-clause-unlaid
returns-then-stops-clause-unlaid c =
    let n = c.in_ok-found in
    let e = stopped_some (named c.args.bytes.now c.args.names.now) c.args.room c.args.level c.args.lexemes.now (view_expression n.found.tree) n.found.rest.now n.ensures.value (sym c.stops.ensures ∙ c.if-stops.true) in
    (stopped_sound (named c.args.bytes.now c.args.names.now) c.args.room c.args.level c.args.lexemes.now (view_expression n.found.tree) n.found.rest.now c.requires.level.1 e).1

pub returns-clause-none : goal.returns-clause-none
returns-clause-none c =
    let n = c.in_ok-found in
    λ _. nothing_leads (named c.args.bytes.now c.args.names.now) c.args.room c.args.level c.args.lexemes.now
    (stopped_by_more (named c.args.bytes.now c.args.names.now) c.args.room c.args.level c.args.lexemes.now (view_expression n.found.tree) n.found.rest.now n.ensures.value (sym c.stops.ensures ∙ c.if-stops.false))
