use Rattle.std.proofs.Common.{◌≡◌, ◌++◌, [], ◌∷◌, Some, length, sym, ◌∙◌}
use Rattle.std.proofs.lemmas.Result.{err_from_is_err_and}
use Rattle.stk_tree.specs.Layout.{unit_laid_out}
use Rattle.stk_tree.specs.View.{view_unit}
use Rattle.stk_grammar.specs.Lexemes.{lexemes_of, spans_of}
use Rattle.stk_ctype.specs.Named.{named}
use Rattle.stk_expr.proofs.Rows.{none_of_fails}
use Rattle.stk_stmt.specs.Heads.{ended_lexemes, ended_spans}
use Rattle.stk_stmt.specs.Units.{declaration_unit_at}
use Rattle.stk_stmt.proofs.DeclarationHeads.{few_head_nodes, head_found, head_places, no_head, one_span_more}
use Rattle.stk_stmt.proofs.reading.head.Goals as goal

pub returns-in_err-found-clause-none : goal.returns-in_err-found-clause-none
returns-in_err-found-clause-none c =
    let p = err_from_is_err_and c.from_residual-in_err-found.result c.from_residual-in_err-found.ensures.1 in
    let e = c.in_err-found.field-0.0 in
    λ is. no_head (named c.args.bytes.now c.args.names.now) (lexemes_of c.args.bytes.now c.args.tokens.now)
    (none_of_fails e _ (sym p.2 ∙ cc (p.1, is)) (rw (c.as_slice.ensures.value, c.in_ok-push.ensures.items, c.in_ok-lexemes.ensures) at c.in_err-found.ensures))

pub lay_out-requires-clause-one_span_each : goal.lay_out-requires-clause-one_span_each
lay_out-requires-clause-one_span_each c =
    let u = view_unit c.in_ok-found.found in
    let read : declaration_unit_at (named c.args.bytes.now c.args.names.now) 399 (ended_lexemes (lexemes_of c.args.bytes.now c.args.tokens.now)) ≡ Some u = rw (c.as_slice.ensures.value, c.in_ok-push.ensures.items, c.in_ok-lexemes.ensures) at c.in_ok-found.ensures in
    rw (c.get_mut.ensures.value, c.as_slice-2.ensures.value, c.in_ok-push-2.ensures.items, c.in_ok-spans.ensures, c.end_of.ensures.from, c.end_of.ensures.to) (one_span_more (named c.args.bytes.now c.args.names.now) c.args.bytes.now c.args.tokens.now u read)

pub lay_out-requires-clause-numbers : goal.lay_out-requires-clause-numbers
lay_out-requires-clause-numbers c =
    let u = view_unit c.in_ok-found.found in
    let read : declaration_unit_at (named c.args.bytes.now c.args.names.now) 399 (ended_lexemes (lexemes_of c.args.bytes.now c.args.tokens.now)) ≡ Some u = rw (c.as_slice.ensures.value, c.in_ok-push.ensures.items, c.in_ok-lexemes.ensures) at c.in_ok-found.ensures in
    rw c.get_mut.ensures.value (few_head_nodes (named c.args.bytes.now c.args.names.now) c.args.bytes.now c.args.tokens.now u c.requires read)

pub returns-clause-found : goal.returns-clause-found
returns-clause-found c =
    let u = view_unit c.in_ok-found.found in
    let read : declaration_unit_at (named c.args.bytes.now c.args.names.now) 399 (ended_lexemes (lexemes_of c.args.bytes.now c.args.tokens.now)) ≡ Some u = rw (c.as_slice.ensures.value, c.in_ok-push.ensures.items, c.in_ok-lexemes.ensures) at c.in_ok-found.ensures in
    let laid : view_unit c.lay_out.new.unit ≡ unit_laid_out (ended_spans (spans_of c.args.tokens.now)) u = rw (c.get_mut.ensures.value, c.as_slice-2.ensures.value, c.in_ok-push-2.ensures.items, c.in_ok-spans.ensures, c.end_of.ensures.from, c.end_of.ensures.to) at c.lay_out.ensures in
    head_found (named c.args.bytes.now c.args.names.now) (lexemes_of c.args.bytes.now c.args.tokens.now) (ended_spans (spans_of c.args.tokens.now)) u (view_unit c.lay_out.new.unit) read laid

pub returns-clause-places : goal.returns-clause-places
returns-clause-places c =
    let u = view_unit c.in_ok-found.found in
    let read : declaration_unit_at (named c.args.bytes.now c.args.names.now) 399 (ended_lexemes (lexemes_of c.args.bytes.now c.args.tokens.now)) ≡ Some u = rw (c.as_slice.ensures.value, c.in_ok-push.ensures.items, c.in_ok-lexemes.ensures) at c.in_ok-found.ensures in
    let laid : view_unit c.lay_out.new.unit ≡ unit_laid_out (ended_spans (spans_of c.args.tokens.now)) u = rw (c.get_mut.ensures.value, c.as_slice-2.ensures.value, c.in_ok-push-2.ensures.items, c.in_ok-spans.ensures, c.end_of.ensures.from, c.end_of.ensures.to) at c.lay_out.ensures in
    head_places (named c.args.bytes.now c.args.names.now) (lexemes_of c.args.bytes.now c.args.tokens.now) (ended_spans (spans_of c.args.tokens.now)) u (view_unit c.lay_out.new.unit) read laid
