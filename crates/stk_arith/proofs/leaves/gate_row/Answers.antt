use Rattle.std.proofs.Common.{◌≡◌, ◌+◌, ◌∷◌, [], ◌++◌, suc, sym, ap, ◌∙◌, add-one}
use Rattle.stk_arith.specs.Words.{row_from}
use Rattle.stk_arith.proofs.Steps.{row_from-more}
use Rattle.stk_arith.proofs.leaves.gate_row.Goals as goal

pub loop-i-preserved : goal.loop-i-preserved
loop-i-preserved c =
    let first = c.args.first in
    let i = c.loop-i.i in
    let more : row_from first (i + 1) ≡ row_from first (suc i) = ap (row_from first) (add-one i) in
    c.in_ok-push.ensures.items ∙ ((λ j. c.loop-i.invariant j ++ record { 0 = c.of_gate.ensures.gate j } ∷ []) ∙ (sym (row_from-more first i) ∙ sym more))
