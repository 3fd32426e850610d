use Rattle.std.proofs.Common.{ℕ, List, ap, ◌∙◌}
use Rattle.stk_tree.specs.View.{view_function}
use Rattle.stk_meaning.specs.Keys.{body_of}
use Rattle.stk_function_env.specs.Settings.{setting_in}
use Rattle.stk_weights.specs.declared.events.Event.{Event}
use Rattle.stk_weights.specs.Sums.{capped}
use Rattle.stk_weights.specs.Events.{statement_events}
use Rattle.stk_weights.specs.Counting.{passed_sum, total}
use Rattle.stk_weights.proofs.Totals.{all_passed_are}
use Rattle.stk_weights.proofs.weighing.function_counts.Goals as goal

pub returns : goal.returns
returns c =
    let g = setting_in c.args.setting.now in
    let f = view_function c.args.f.now in
    c.in_ok-count.ensures
    ∙ ap (λ (es : List Event). capped (total (passed_sum es) c.registers.result.now)) (c.as_slice.ensures.value ∙ c.in_ok-events.ensures)
    ∙ ap (λ (rs : List ℕ). capped (total (passed_sum (statement_events g (body_of f))) rs)) c.registers.ensures
    ∙ ap capped (all_passed_are g f g.registers)
