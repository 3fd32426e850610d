use Rattle.std.proofs.Common.{◌≡◌, length, sym, ◌∙◌, arith, map}
use Rattle.std.proofs.lemmas.List.{length-map}
use Rattle.stk_tree.specs.Layout.{laid_expression, unnumbered_at}
use Rattle.stk_tree.specs.View.{view_expression}
use Rattle.stk_nodes.proofs.Few.{expression_tokens-few}
use Rattle.stk_grammar.specs.Lexemes.{lexeme_of, lexemes_of, spans_of}
use Rattle.stk_grammar.specs.Expressions.{IsExpression}
use Rattle.stk_ctype.specs.Named.{named}
use Rattle.stk_expr.proofs.Placing.{laid_unlaid, laid_is, width_of}
use Rattle.stk_expr.proofs.reading.expr.Goals as goal

pub span_expression-requires-clause-numbers : goal.span_expression-requires-clause-numbers
span_expression-requires-clause-numbers c =
    let t = view_expression c.in_ok-tree.tree in
    let found : IsExpression (named c.args.bytes.now c.args.names.now) c.args.level (lexemes_of c.args.bytes.now c.args.tokens.now) c.args.at c.in_ok-tree.end t = rw (sym c.in_ok-lexemes.ensures, sym c.as_slice.ensures.value) c.in_ok-tree.ensures.found in
    let wide = width_of (named c.args.bytes.now c.args.names.now) c.args.level (lexemes_of c.args.bytes.now c.args.tokens.now) c.args.at c.in_ok-tree.end t found in
    omega (arith, expression_tokens-few t, wide, length-map c.args.tokens.now (lexeme_of c.args.bytes.now), c.requires.few)

pub returns-clause-found : goal.returns-clause-found
returns-clause-found c =
    let t = view_expression c.in_ok-tree.tree in
    let found : IsExpression (named c.args.bytes.now c.args.names.now) c.args.level (lexemes_of c.args.bytes.now c.args.tokens.now) c.args.at c.in_ok-tree.end t = rw (sym c.in_ok-lexemes.ensures, sym c.as_slice.ensures.value) c.in_ok-tree.ensures.found in
    rw c.span_expression.ensures (laid_is (unnumbered_at c.as_slice-2.result.now) (named c.args.bytes.now c.args.names.now) c.args.level (lexemes_of c.args.bytes.now c.args.tokens.now) c.args.at c.in_ok-tree.end t 0 c.args.at found)

pub returns-clause-places : goal.returns-clause-places
returns-clause-places c =
    let t = view_expression c.in_ok-tree.tree in
    let u = view_expression c.span_expression.new.x in
    let e : u ≡ laid_expression (unnumbered_at (spans_of c.args.tokens.now)) 0 c.args.at t = rw (sym c.in_ok-spans.ensures, sym c.as_slice-2.ensures.value) c.span_expression.ensures in
    laid_unlaid (unnumbered_at (spans_of c.args.tokens.now)) t u 0 c.args.at c.in_ok-tree.ensures.unlaid e
