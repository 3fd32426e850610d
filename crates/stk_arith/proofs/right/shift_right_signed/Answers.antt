use Rattle.std.proofs.Common.{length, ap, ◌∙◌}
use Rattle.stk_arith.specs.Rows.{number}
use Rattle.stk_arith.specs.Shifts.{shifted_right}
use Rattle.stk_arith.proofs.Shifting.{top_is_sign}
use Rattle.stk_arith.proofs.right.shift_right_signed.Goals as goal

pub returns-clause-value : goal.returns-clause-value
returns-clause-value c gates o =
    let a = c.args.a.now in
    c.in_ok-row.ensures.value gates o ∙ ap (λ s. shifted_right s (length a) (number gates a) (number gates c.args.b.now)) (top_is_sign gates a (record { 0 = 0 }) c.requires.some)
