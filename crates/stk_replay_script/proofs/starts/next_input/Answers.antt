use Rattle.std.proofs.Common.{◌++◌, ◌∷◌, ap, sym, ◌∙◌}
use Rattle.std.specs.Fmt.{signed_decimal}
use Rattle.stk_records.specs.Text.{printed}
use Rattle.stk_replay_script.proofs.Prefixes.{no_prefix, behind_prefix}
use Rattle.stk_replay_script.proofs.FieldTexts.{same_behind}
use Rattle.stk_replay_script.proofs.StartTexts.{number_is}
use Rattle.stk_replay_script.proofs.starts.next_input.Goals as goal

pub returns-in_err-content : goal.returns-in_err-content
returns-in_err-content c =
    rw c.from_residual-in_err-content.ensures (λ z behind h.
    no_prefix c.in_ok-behind_key.field-0.now c.as_slice.result.now c.in_err-content.ensures.cases (signed_decimal z ++ behind)
    (same_behind (printed c.args.key.now) c.in_ok-behind_key.field-0.now (61 ∷ (signed_decimal z ++ behind)) (sym c.in_ok-behind_key.ensures ∙ h.same) ∙ ap (λ p. p ++ (signed_decimal z ++ behind)) (sym c.as_slice.ensures)))

pub returns-in_err-number : goal.returns-in_err-number
returns-in_err-number c =
    rw c.from_residual-in_err-number.ensures (λ z behind h.
    let content = behind_prefix c.in_ok-behind_key.field-0.now c.as_slice.result.now c.in_ok-content.content c.in_ok-content.ensures.cases ∙ ap (λ p. p ++ c.in_ok-content.content.now) c.as_slice.ensures in
    let is = h.is in
    c.in_err-number.ensures z is (number_is c.args.key.now c.args.text.now c.in_ok-content.content.now c.cut_at.result.0.now c.cut_at.result.1.now z behind (c.in_ok-behind_key.ensures ∙ ap (λ t. printed c.args.key.now ++ t) content) c.cut_at.ensures h))
