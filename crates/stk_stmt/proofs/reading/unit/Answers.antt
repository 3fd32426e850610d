use Rattle.std.proofs.Common.{◌≡◌, Some, length, sym, ◌∙◌}
use Rattle.std.proofs.lemmas.Result.{err_from_is_err_and}
use Rattle.stk_tree.specs.Layout.{unit_laid_out}
use Rattle.stk_tree.specs.View.{view_unit}
use Rattle.stk_grammar.specs.Lexemes.{lexemes_of, spans_of}
use Rattle.stk_grammar.specs.StatementReading.{unit_at}
use Rattle.stk_grammar.proofs.StatementLaws.{none_of_none}
use Rattle.stk_ctype.specs.Named.{named}
use Rattle.stk_expr.proofs.Rows.{none_of_fails}
use Rattle.stk_stmt.proofs.Placing.{few_nodes, laid_found, laid_places, one_span_each}
use Rattle.stk_stmt.proofs.reading.unit.Goals as goal

pub returns-in_err-found-clause-none : goal.returns-in_err-found-clause-none
returns-in_err-found-clause-none c =
    let p = err_from_is_err_and c.from_residual-in_err-found.result c.from_residual-in_err-found.ensures.1 in
    let e = c.in_err-found.field-0.0 in
    λ is. none_of_none (named c.args.bytes.now c.args.names.now) (lexemes_of c.args.bytes.now c.args.tokens.now)
    (none_of_fails e _ (sym p.2 ∙ cc (p.1, is)) (rw (c.as_slice.ensures.value, c.in_ok-lexemes.ensures) at c.in_err-found.ensures))

pub lay_out-requires-clause-one_span_each : goal.lay_out-requires-clause-one_span_each
lay_out-requires-clause-one_span_each c =
    let read : unit_at (named c.args.bytes.now c.args.names.now) (lexemes_of c.args.bytes.now c.args.tokens.now) ≡ Some (view_unit c.in_ok-found.found) = rw (c.as_slice.ensures.value, c.in_ok-lexemes.ensures) at c.in_ok-found.ensures in
    rw (c.get_mut.ensures.value, c.as_slice-2.ensures.value, c.in_ok-spans.ensures) (one_span_each (named c.args.bytes.now c.args.names.now) c.args.bytes.now c.args.tokens.now (view_unit c.in_ok-found.found) read)

pub lay_out-requires-clause-numbers : goal.lay_out-requires-clause-numbers
lay_out-requires-clause-numbers c =
    let read : unit_at (named c.args.bytes.now c.args.names.now) (lexemes_of c.args.bytes.now c.args.tokens.now) ≡ Some (view_unit c.in_ok-found.found) = rw (c.as_slice.ensures.value, c.in_ok-lexemes.ensures) at c.in_ok-found.ensures in
    rw c.get_mut.ensures.value (few_nodes (named c.args.bytes.now c.args.names.now) c.args.bytes.now c.args.tokens.now (view_unit c.in_ok-found.found) c.requires read)

pub returns-clause-found : goal.returns-clause-found
returns-clause-found c =
    let u = view_unit c.in_ok-found.found in
    let read : unit_at (named c.args.bytes.now c.args.names.now) (lexemes_of c.args.bytes.now c.args.tokens.now) ≡ Some u = rw (c.as_slice.ensures.value, c.in_ok-lexemes.ensures) at c.in_ok-found.ensures in
    let laid : view_unit c.lay_out.new.unit ≡ unit_laid_out (spans_of c.args.tokens.now) u = rw (c.get_mut.ensures.value, c.as_slice-2.ensures.value, c.in_ok-spans.ensures) at c.lay_out.ensures in
    laid_found (named c.args.bytes.now c.args.names.now) (lexemes_of c.args.bytes.now c.args.tokens.now) (spans_of c.args.tokens.now) u (view_unit c.lay_out.new.unit) read laid

pub returns-clause-places : goal.returns-clause-places
returns-clause-places c =
    let u = view_unit c.in_ok-found.found in
    let read : unit_at (named c.args.bytes.now c.args.names.now) (lexemes_of c.args.bytes.now c.args.tokens.now) ≡ Some u = rw (c.as_slice.ensures.value, c.in_ok-lexemes.ensures) at c.in_ok-found.ensures in
    let laid : view_unit c.lay_out.new.unit ≡ unit_laid_out (spans_of c.args.tokens.now) u = rw (c.get_mut.ensures.value, c.as_slice-2.ensures.value, c.in_ok-spans.ensures) at c.lay_out.ensures in
    laid_places (named c.args.bytes.now c.args.names.now) (lexemes_of c.args.bytes.now c.args.tokens.now) (spans_of c.args.tokens.now) u (view_unit c.lay_out.new.unit) read laid
