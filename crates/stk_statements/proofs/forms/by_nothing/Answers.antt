use Rattle.std.proofs.Common.{◌≡◌, Err, map, rules}
use Rattle.stk_type_rules.specs.Facts.{Fits, fact_of, plain}
use Rattle.stk_type_rules.specs.Outcome.{finish}
use Rattle.stk_statements.proofs.Turns.{any_err}
use Rattle.stk_statements.proofs.forms.by_nothing.Goals as goal

pub returns-in_err-own-clause-gives : goal.returns-in_err-own-clause-gives
returns-in_err-own-clause-gives c =
    let same : c.from_residual.result ≡ Err c.in_err-own.field-0.0 = search rules in
    rw same (any_err (finish c.args.node (Fits plain)) c.in_err-own.field-0.0 (map fact_of c.args.facts.now.items) (map fact_of c.own.new.facts.items) (c.in_err-own.ensures.gives (Fits plain) c.nothing.ensures.fact))

pub returns-clause-gives : goal.returns-clause-gives
returns-clause-gives c = ((c.in_ok-own.ensures.gives (Fits plain) c.nothing.ensures.fact).0, tt)
