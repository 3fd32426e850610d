use Rattle.std.proofs.Common.{length, ap, ◌∙◌, arith}
use Rattle.stk_arith.specs.Rows.{number}
use Rattle.stk_arith.proofs.Quotients.{rest_is, fourteen}
use Rattle.stk_arith.proofs.quotient.remainder.Goals as goal

pub returns-clause-value : goal.returns-clause-value
returns-clause-value c gates o =
    ap (number gates) c.from_vec.ensures ∙ rest_is (number gates c.args.a.now) (number gates c.args.b.now) (number gates c.in_ok-divided.divided.quotient.items) (number gates c.in_ok-divided.divided.rest.items) (c.in_ok-divided.ensures.value gates o)

pub returns-clause-adds : goal.returns-clause-adds
returns-clause-adds c =
    let w = length c.args.a.now in
    let x = c.divided.ensures.adds in
    fourteen w _ _ (omega arith)
