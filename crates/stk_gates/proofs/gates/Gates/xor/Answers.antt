use Rattle.std.proofs.Common.{◌&&◌, ap, ◌∙◌}
use Rattle.stk_gates.specs.Edges.{edge_value}
use Rattle.stk_gates.proofs.Growth.{obeys_before}
use Rattle.stk_gates.proofs.Edges.{xor_of}
use Rattle.stk_gates.proofs.gates.Gates.xor.Goals as goal

pub returns-clause-value : goal.returns-clause-value
returns-clause-value c gates o =
    let second = obeys_before _ _ gates c.and-2.ensures.extends o in
    let first = obeys_before _ _ gates c.or.ensures.extends second in
    xor_of (edge_value gates c.args.a) (edge_value gates c.args.b) _ _ _ (c.in_ok-both.ensures.value gates first) (c.in_ok-some.ensures.value gates second)
    (c.in_ok-and.ensures.value gates o ∙ ap (λ z. edge_value gates c.in_ok-some.some && z) (c.inverted.ensures.value gates))
