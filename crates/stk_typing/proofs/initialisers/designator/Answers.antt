use Rattle.std.proofs.Common.{◌≡◌, map, Err, rules}
use Rattle.stk_tree.specs.View.{view_expression}
use Rattle.stk_type_rules.specs.Facts.{fact_of}
use Rattle.stk_type_rules.specs.Outcome.{IsAt}
use Rattle.stk_type_rules.proofs.Steps.{stops}
use Rattle.stk_typing.specs.Scope.{scope_of}
use Rattle.stk_typing.specs.Typing.{expression_typed}
use Rattle.stk_typing.proofs.InitialiserTurns.{Nothing}
use Rattle.stk_typing.proofs.InitialiserViews.{at_typed}
use Rattle.stk_typing.proofs.initialisers.designator.Goals as goal

pub returns-in_err-expression-in-At-clause-gives : goal.returns-in_err-expression-in-At-clause-gives
returns-in_err-expression-in-At-clause-gives c =
    let same : c.from_residual.result ≡ Err c.in_err-expression-in-At.field-0.0 = search rules in
    rw (at_typed (scope_of c.args.s.now) c.args.d.now c.in-At.e c.in-At.is, same)
    (stops (IsAt (map fact_of c.expression.new.facts.items)) Nothing (expression_typed (scope_of c.args.s.now) (view_expression c.in-At.e)) _ _ _ _ _ _ c.in_err-expression-in-At.ensures.gives)
