use Rattle.std.proofs.Common.{◌&&◌, ap, ◌∙◌}
use Rattle.stk_gates.specs.Edges.{edge_value}
use Rattle.stk_gates.proofs.Edges.{xor_of}
use Rattle.stk_gates.proofs.Growth.{obeys_before}
use Rattle.stk_arith.proofs.sums.add_two.Goals as goal

pub returns-clause-sum : goal.returns-clause-sum
returns-clause-sum c gates o =
    let second = obeys_before _ _ gates c.and-2.ensures.extends o in
    let first = obeys_before _ _ gates c.or.ensures.extends second in
    xor_of (edge_value gates c.args.a) (edge_value gates c.args.b) _ _ _ (c.in_ok-both.ensures.value gates first) (c.in_ok-some.ensures.value gates second)
    (c.in_ok-sum.ensures.value gates o ∙ ap (λ z. edge_value gates c.in_ok-some.some && z) (c.inverted.ensures.value gates))

pub returns-clause-carry : goal.returns-clause-carry
returns-clause-carry c gates o =
    let second = obeys_before _ _ gates c.and-2.ensures.extends o in
    let first = obeys_before _ _ gates c.or.ensures.extends second in
    c.in_ok-both.ensures.value gates first
