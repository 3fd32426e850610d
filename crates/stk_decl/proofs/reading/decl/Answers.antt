use Rattle.std.proofs.Common.{◌≡◌, Err, ap, length, sym, ◌∙◌, arith, map}
use Rattle.std.proofs.lemmas.Result.{err_from_is_err_and}
use Rattle.std.proofs.lemmas.List.{length-map}
use Rattle.stk_tree.specs.Layout.{laid_declaration, unnumbered_at}
use Rattle.stk_tree.specs.View.{view_declaration}
use Rattle.stk_nodes.proofs.Few.{declaration_tokens-few}
use Rattle.stk_grammar.specs.Lexemes.{lexeme_of, lexemes_of, spans_of}
use Rattle.stk_grammar.specs.Declarations.{IsDeclaration}
use Rattle.stk_expr.specs.declared.parse.Parse.TheVariants as parse
use Rattle.stk_ctype.specs.Named.{named}
use Rattle.stk_decl.proofs.Placing.{laid_unlaid, laid_is, width_of}
use Rattle.stk_decl.proofs.reading.decl.Goals as goal

pub span_declaration-requires-clause-numbers : goal.span_declaration-requires-clause-numbers
span_declaration-requires-clause-numbers c =
    let t = view_declaration c.in_ok-tree.tree in
    let found : IsDeclaration (named c.args.bytes.now c.args.names.now) c.args.file (lexemes_of c.args.bytes.now c.args.tokens.now) c.args.at c.in_ok-tree.end t = rw (sym c.in_ok-lexemes.ensures, sym c.as_slice.ensures.value) c.in_ok-tree.ensures.found in
    let wide = width_of (named c.args.bytes.now c.args.names.now) c.args.file (lexemes_of c.args.bytes.now c.args.tokens.now) c.args.at c.in_ok-tree.end t found in
    omega (arith, declaration_tokens-few t, wide, length-map c.args.tokens.now (lexeme_of c.args.bytes.now), c.requires.few)

pub span_declaration-requires-clause-tokens : goal.span_declaration-requires-clause-tokens
span_declaration-requires-clause-tokens c =
    let t = view_declaration c.in_ok-tree.tree in
    let found : IsDeclaration (named c.args.bytes.now c.args.names.now) c.args.file (lexemes_of c.args.bytes.now c.args.tokens.now) c.args.at c.in_ok-tree.end t = rw (sym c.in_ok-lexemes.ensures, sym c.as_slice.ensures.value) c.in_ok-tree.ensures.found in
    let wide = width_of (named c.args.bytes.now c.args.names.now) c.args.file (lexemes_of c.args.bytes.now c.args.tokens.now) c.args.at c.in_ok-tree.end t found in
    omega (arith, wide, length-map c.args.tokens.now (lexeme_of c.args.bytes.now), c.requires.few)

pub returns-clause-found : goal.returns-clause-found
returns-clause-found c =
    let t = view_declaration c.in_ok-tree.tree in
    let found : IsDeclaration (named c.args.bytes.now c.args.names.now) c.args.file (lexemes_of c.args.bytes.now c.args.tokens.now) c.args.at c.in_ok-tree.end t = rw (sym c.in_ok-lexemes.ensures, sym c.as_slice.ensures.value) c.in_ok-tree.ensures.found in
    rw c.span_declaration.ensures (laid_is (unnumbered_at c.as_slice-2.result.now) (named c.args.bytes.now c.args.names.now) c.args.file (lexemes_of c.args.bytes.now c.args.tokens.now) c.args.at c.in_ok-tree.end t 0 c.args.at found)

pub returns-clause-places : goal.returns-clause-places
returns-clause-places c =
    let t = view_declaration c.in_ok-tree.tree in
    let u = view_declaration c.span_declaration.new.x in
    let e : u ≡ laid_declaration (unnumbered_at (spans_of c.args.tokens.now)) 0 c.args.at t = rw (sym c.in_ok-spans.ensures, sym c.as_slice-2.ensures.value) c.span_declaration.ensures in
    laid_unlaid (unnumbered_at (spans_of c.args.tokens.now)) t u 0 c.args.at c.in_ok-tree.ensures.unlaid e

pub returns-in_err-tree-clause-none : goal.returns-in_err-tree-clause-none
returns-in_err-tree-clause-none c =
    let p = err_from_is_err_and c.from_residual-in_err-tree.result c.from_residual-in_err-tree.ensures.1 in
    λ is. let same : c.in_err-tree.field-0.0 ≡ parse.NoTree = sym p.2 ∙ cc (p.1, is) in
    rw (c.as_slice.ensures.value, c.in_ok-lexemes.ensures) at (c.in_err-tree.ensures.none (ap Err same))
