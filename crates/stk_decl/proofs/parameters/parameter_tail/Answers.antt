use Rattle.std.proofs.Common.{Bool, sym, ap, ◌∙◌}
use Rattle.std.proofs.lemmas.Result.{err_from_is_err_and}
use Rattle.stk_tree.specs.Syntax.{ParamTrees}
use Rattle.stk_grammar.specs.Reading.{◌>>=◌, Found}
use Rattle.stk_grammar.specs.DeclarationReading.{parameter_at}
use Rattle.stk_ctype.specs.Named.{named}
use Rattle.stk_decl.proofs.Steps.{Fails_along, Fails_behind, parameters_here}
use Rattle.stk_decl.proofs.Rows.{as_tail}
use Rattle.stk_decl.proofs.parameters.parameter_tail.Goals as goal

pub returns-in_err-found-clause-value : goal.returns-in_err-found-clause-value
returns-in_err-found-clause-value c =
    let p = err_from_is_err_and c.from_residual.result c.from_residual.ensures.1 in
    let here = parameters_here (parameter_at (named c.args.bytes.now c.args.names.now) c.args.room) c.args.lexemes.now c.in_default.ensures c.in_default-behind_void.ensures in
    rw (p.1, p.2) (Fails_along c.in_err-found.field-0.0 _ _ (sym here) (Fails_behind c.in_err-found.field-0.0 _ as_tail c.in_err-found.ensures.value))

pub returns-clause-value : goal.returns-clause-value
returns-clause-value c =
    let here = parameters_here (parameter_at (named c.args.bytes.now c.args.names.now) c.args.room) c.args.lexemes.now c.in_default.ensures c.in_default-behind_void.ensures in
    rw c.with_parameters.ensures (here ∙ ap (λ (o : Found (ParamTrees × Bool)). o >>= as_tail) c.in_ok-found.ensures.value)
