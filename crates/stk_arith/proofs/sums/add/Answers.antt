use Rattle.std.proofs.Common.{◌≡◌, ◌+◌, ◌^◌, ◌<◌, length, subst, ap, ◌∙◌, arith}
use Rattle.stk_gates.specs.Edges.{edge_value}
use Rattle.stk_arith.specs.Rows.{bit, number}
use Rattle.stk_gates.proofs.Edges.{edge_value-false}
use Rattle.stk_arith.proofs.Numbers.{number-below}
use Rattle.stk_arith.proofs.Adders.{wrapped}
use Rattle.stk_arith.proofs.sums.add.Goals as goal

pub returns-clause-value : goal.returns-clause-value
returns-clause-value c gates o =
    let row = c.in_ok-sum.sum.row.items in
    let none : bit (edge_value gates (record { 0 = 0 })) ≡ 0 = ap bit (edge_value-false _ gates o) in
    let below = subst (λ n. number gates row < 2 ^ n) c.in_ok-sum.ensures.length (number-below gates row) in
    ap (number gates) c.from_vec.ensures ∙ wrapped (number gates row) (2 ^ length c.args.a.now) (bit (edge_value gates c.in_ok-sum.sum.carry)) (number gates c.args.a.now + number gates c.args.b.now) (let value = c.in_ok-sum.ensures.value gates o in omega arith) below
