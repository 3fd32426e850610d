use Rattle.std.proofs.Common.{drop, sym, ◌∙◌, arith}
use Rattle.std.proofs.lemmas.Result.{err_from_is_err_and}
use Rattle.stk_tree.specs.View.{view_declaration}
use Rattle.stk_grammar.specs.Declarations.{front_tokens}
use Rattle.stk_grammar.proofs.Declarations.{front_sound}
use Rattle.stk_grammar.proofs.DeclarationLaws.{front_found_unlaid, front_of_found, no_front_of_none}
use Rattle.stk_ctype.specs.Named.{named}
use Rattle.stk_expr.proofs.Rows.{none_of_fails}
use Rattle.stk_decl.proofs.Leading.{rest_within}
use Rattle.stk_decl.proofs.reading.front_at.Goals as goal

pub returns-in_err-tree-clause-none : goal.returns-in_err-tree-clause-none
returns-in_err-tree-clause-none c =
    let p = err_from_is_err_and c.from_residual.result c.from_residual.ensures.1 in
    let e = c.in_err-tree.field-0.0 in
    λ is. no_front_of_none (named c.args.bytes.now c.args.names.now) c.args.lexemes.now c.args.at (none_of_fails e _ (sym p.2 ∙ cc (p.1, is)) (rw c.split_at.ensures.back at c.in_err-tree.ensures))

pub overflow_sub-result : goal.overflow_sub-result
overflow_sub-result c =
    let n = c.in_ok-tree in
    let p = front_sound (named c.args.bytes.now c.args.names.now) 400 (drop c.args.at c.args.lexemes.now) (view_declaration n.tree) n.rest.now (rw c.split_at.ensures.back at n.ensures) in
    omega (arith, rest_within c.args.lexemes.now (front_tokens (view_declaration n.tree)) n.rest.now c.args.at p.0.tokens)

pub returns-clause-found : goal.returns-clause-found
returns-clause-found c =
    let n = c.in_ok-tree in
    front_of_found (named c.args.bytes.now c.args.names.now) c.args.lexemes.now c.args.at (view_declaration n.tree) n.rest.now c.requires (rw c.split_at.ensures.back at n.ensures)

pub returns-clause-unlaid : goal.returns-clause-unlaid
returns-clause-unlaid c =
    let n = c.in_ok-tree in
    front_found_unlaid (named c.args.bytes.now c.args.names.now) 400 _ (view_declaration n.tree) n.rest.now n.ensures
