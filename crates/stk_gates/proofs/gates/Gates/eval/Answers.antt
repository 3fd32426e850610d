use Rattle.std.proofs.Common.{◌≤◌, length, ap, ◌∙◌, arith}
use Rattle.stk_gates.proofs.Growth.{eval_end}
use Rattle.stk_gates.proofs.Decided.{decided}
use Rattle.stk_gates.proofs.gates.Gates.eval.Goals as goal

pub returns : goal.returns
returns c gates o has =
    let t = c.args.self.now in
    let done : length t.pairs ≤ c.loop-pair.pair-index = omega (arith, ap length c.as_slice-pair-items.ensures.keys, ap (λ t. length t.pairs) c.self.view_is) in
    c.known-2.ensures ∙ (eval_end _ _ _ t.pairs c.loop-pair.pair-index c.args.edge c.deref-2.ensures.value done c.loop-pair.invariant.rest ∙ decided t c.args.inputs.now.bits gates c.args.edge c.count.ensures.ordered c.requires.inputs c.requires.edge o has)
