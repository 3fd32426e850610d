use Rattle.std.proofs.Common.{◌≡◌, ◌+◌, ◌^◌, length, ap, ◌∙◌}
use Rattle.stk_arith.specs.Rows.{bit, number}
use Rattle.stk_gates.proofs.Edges.{edge_value-true}
use Rattle.stk_arith.proofs.Adders.{from_inverted}
use Rattle.stk_arith.proofs.sums.subtract_rows.Goals as goal

pub returns-clause-value : goal.returns-clause-value
returns-clause-value c gates o =
    let inverted = c.deref.result.now in
    let apart : number gates inverted + number gates c.args.b.now + 1 ≡ 2 ^ length c.args.a.now =
    ap (λ l. number gates l + number gates c.args.b.now + 1) c.deref.ensures.value ∙ (c.in_ok-inverted.ensures.value gates ∙ ap (λ n. 2 ^ n) c.requires.same) in
    from_inverted _ _ _ (number gates inverted) (2 ^ length c.args.a.now) _ _ (c.in_ok-sum.ensures.value gates o) (ap bit (edge_value-true _ gates o)) apart
