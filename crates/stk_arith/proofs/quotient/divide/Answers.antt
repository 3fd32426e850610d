use Rattle.std.proofs.Common.{◌≡◌, ◌*◌, length, ap, ◌∙◌, arith}
use Rattle.stk_arith.specs.Rows.{bit, number}
use Rattle.stk_gates.proofs.Growth.{obeys_before}
use Rattle.stk_arith.proofs.Quotients.{quotient_is, fourteen}
use Rattle.stk_arith.proofs.quotient.divide.Goals as goal

pub returns-clause-value : goal.returns-clause-value
returns-clause-value c gates o =
    let o1 = obeys_before _ _ gates c.mask.ensures.extends o in
    let b = number gates c.args.b.now in
    let q = number gates c.in_ok-divided.divided.quotient.items in
    ap (number gates) c.from_vec.ensures ∙ (c.in_ok-row.ensures.value gates o ∙ ((λ j. bit (c.in_ok-divided.ensures.some gates o1 j) * number gates (c.deref.ensures.value j)) ∙ quotient_is (number gates c.args.a.now) b q (number gates c.in_ok-divided.divided.rest.items) (c.in_ok-divided.ensures.value gates o1)))

pub returns-clause-adds : goal.returns-clause-adds
returns-clause-adds c =
    let w = length c.args.a.now in
    let x = c.divided.ensures.adds in
    let z = c.mask.ensures.adds in
    let size : length c.deref.result.now ≡ w = ap length c.deref.ensures.value ∙ c.in_ok-divided.ensures.length in
    fourteen w _ _ (omega arith)
