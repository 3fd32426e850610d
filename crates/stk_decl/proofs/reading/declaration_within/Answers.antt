use Rattle.std.proofs.Common.{sym, ◌∙◌}
use Rattle.std.proofs.lemmas.Result.{err_from_is_err_and}
use Rattle.stk_tree.specs.View.{view_declaration}
use Rattle.stk_grammar.proofs.Declarations.{declaration_sound}
use Rattle.stk_grammar.proofs.DeclarationLaws.{no_declaration_read}
use Rattle.stk_ctype.specs.Named.{named}
use Rattle.stk_expr.proofs.Rows.{none_of_fails}
use Rattle.stk_decl.proofs.reading.declaration_within.Goals as goal

pub returns-in_err-tree-clause-none : goal.returns-in_err-tree-clause-none
returns-in_err-tree-clause-none c =
    let p = err_from_is_err_and c.from_residual.result c.from_residual.ensures.1 in
    let e = c.in_err-tree.field-0.0 in
    λ is. no_declaration_read (named c.args.bytes.now c.args.names.now) c.args.file c.args.room c.args.lexemes.now (none_of_fails e _ (sym p.2 ∙ cc (p.1, is)) c.in_err-tree.ensures)

pub returns-clause-found : goal.returns-clause-found
returns-clause-found c =
    let n = c.in_ok-tree in
    (declaration_sound (named c.args.bytes.now c.args.names.now) c.args.file c.args.room c.args.lexemes.now (view_declaration n.tree) n.rest.now n.ensures).0

pub returns-clause-unlaid : goal.returns-clause-unlaid
returns-clause-unlaid c =
    let n = c.in_ok-tree in
    (declaration_sound (named c.args.bytes.now c.args.names.now) c.args.file c.args.room c.args.lexemes.now (view_declaration n.tree) n.rest.now n.ensures).1
