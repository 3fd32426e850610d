use Rattle.std.proofs.Common.{◌≡◌, ◌+◌, ◌*◌, ◌^◌, ◌<◌, length, subst, ap, ◌∙◌, ◌&&◌, not, if◌then◌else◌, sym}
use Rattle.stk_gates.specs.Edges.{edge_value}
use Rattle.stk_arith.specs.Rows.{number}
use Rattle.stk_arith.specs.Division.{IsTaken}
use Rattle.stk_gates.proofs.Growth.{obeys_before}
use Rattle.stk_arith.proofs.Numbers.{number-below}
use Rattle.stk_arith.proofs.Quotients.{taken}
use Rattle.stk_arith.proofs.quotient.divide_place.Goals as goal

pub returns-clause-value : goal.returns-clause-value
returns-clause-value c gates high o tells =
    let row = c.args.row.now in
    let p = 2 ^ length row in
    let d = c.in_ok-difference.difference.row.items in
    let carry = edge_value gates c.in_ok-difference.difference.carry in
    let some = edge_value gates c.args.over in
    let o2 = obeys_before _ _ gates c.select.ensures.extends o in
    let o1 = obeys_before _ _ gates c.and.ensures.extends o2 in
    let is : edge_value gates c.in_ok-bit.bit ≡ carry && not some = c.in_ok-bit.ensures.value gates o2 ∙ ap (λ v. carry && v) (c.inverted.ensures.value gates) in
    let below : number gates d < p = subst (λ n. number gates d < 2 ^ n) c.in_ok-difference.ensures.length (number-below gates d) in
    let left : number gates c.in_ok-rest.rest.items ≡ (if carry && not some then number gates d else number gates row) = c.in_ok-rest.ensures.value gates o ∙ (λ j. if is j then number gates (c.deref.ensures.value j) else number gates row) in
    subst (λ b. IsTaken (number gates row) (number gates c.args.low.now + p * high) b (number gates c.in_ok-rest.rest.items)) (sym is)
    (taken (number gates d) (number gates c.args.low.now) high (number gates row) p _ carry some tells (c.in_ok-difference.ensures.value gates o1) below (number-below gates row) left)
