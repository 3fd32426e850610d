use Rattle.std.proofs.Common.{◌≡◌, length, ap, ◌∙◌}
use Rattle.stk_arith.specs.Rows.{number}
use Rattle.std.proofs.Common.{nat_lt}
use Rattle.stk_arith.specs.Rows.{signed_place}
use Rattle.stk_arith.proofs.Tops.{when_signed}
use Rattle.stk_arith.proofs.order.less.Goals as goal

pub returns-clause-value : goal.returns-clause-value
returns-clause-value c gates o =
    let w = length c.args.a.now in
    let x : number gates c.deref.result.now ≡ signed_place w (number gates c.args.a.now) = ap (number gates) c.deref.ensures.value ∙ c.in_ok-x.ensures.value gates in
    let y : number gates c.deref-2.result.now ≡ signed_place w (number gates c.args.b.now) = ap (number gates) c.deref-2.ensures.value ∙ (c.in_ok-y.ensures.value gates ∙ ap (λ n. signed_place n (number gates c.args.b.now)) c.requires.same) in
    when_signed c.args.signed _ _ _ c.if-not-signed.false (c.in_ok-e-2.ensures.value gates o ∙ (λ j. nat_lt (x j) (y j)))
