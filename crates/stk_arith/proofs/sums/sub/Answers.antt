use Rattle.std.proofs.Common.{◌^◌, ◌<◌, length, subst, ap, ◌∙◌}
use Rattle.stk_gates.specs.Edges.{edge_value}
use Rattle.stk_arith.specs.Rows.{bit, number}
use Rattle.stk_arith.proofs.Numbers.{number-below}
use Rattle.stk_arith.proofs.Adders.{without_borrow}
use Rattle.stk_arith.proofs.sums.sub.Goals as goal

pub returns-clause-value : goal.returns-clause-value
returns-clause-value c gates o =
    let row = c.in_ok-difference.difference.row.items in
    let below = subst (λ n. number gates row < 2 ^ n) c.in_ok-difference.ensures.length (number-below gates row) in
    let below_b = subst (λ n. number gates c.args.b.now < 2 ^ n) c.requires.same (number-below gates c.args.b.now) in
    ap (number gates) c.from_vec.ensures ∙ without_borrow (number gates row) (number gates c.args.a.now) (number gates c.args.b.now) (2 ^ length c.args.a.now) (bit (edge_value gates c.in_ok-difference.difference.carry)) (c.in_ok-difference.ensures.value gates o) below_b below
