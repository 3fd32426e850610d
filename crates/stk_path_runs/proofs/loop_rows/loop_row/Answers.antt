use Rattle.std.proofs.Common.{◌≡◌, ◌≤◌, ◌&&◌, nat_lt, ℕ, false, List, length, refl, ap, subst, ◌∙◌}
use Rattle.std.specs.Option.{is_some}
use Rattle.stk_tree.specs.View.{view_statement_form}
use Rattle.stk_meaning.specs.Changes.{kept_spot, forgotten_in}
use Rattle.stk_function_env.specs.Changed.{changed_by_any}
use Rattle.stk_function_env.specs.Settings.{setting_in}
use Rattle.stk_path_runs.specs.Places.{slot_in}
use Rattle.stk_path_runs.specs.Rows.{loop_slots}
use Rattle.stk_path_runs.specs.declared.loop_rows.LoopRow.{LoopRow}
use Rattle.stk_path_runs.proofs.Rowed.{row_from}
use Rattle.stk_path_runs.proofs.loop_rows.loop_row.Goals as goal

pub returns : goal.returns
returns c keys h =
    let row : LoopRow = record { node = c.args.node; registers = c.in_ok-registers.registers; each_kept = c.is_any_of_kept-each_kept.result; kept = c.in_ok-kept.kept } in
    let few : length (setting_in c.args.setting.now).kept ≤ 32 = subst (λ (ks : List ℕ). length ks ≤ 32) c.kept.ensures.is c.kept.ensures.few in
    let g = setting_in c.args.setting.now in
    let form = view_statement_form c.args.f.now in
    let changes = c.in_ok-changes.changes.items in
    let same : (q : ℕ) → changed_by_any changes (kept_spot q) ≡ forgotten_in g form q = c.in_ok-changes.ensures in
    let each : c.is_any_of_kept-each_kept.result ≡ forgotten_in g form 32 = c.is_any_of_kept-each_kept.ensures ∙ ap (λ cs. changed_by_any cs (kept_spot 32)) c.as_slice-2.ensures.value ∙ same 32 in
    let kept : c.is_any_of_kept-each_kept.result ≡ false → (q : ℕ) → is_some (slot_in c.in_ok-kept.kept q) ≡ (nat_lt q (length g.kept) && forgotten_in g form q) =
    λ h q. c.in_ok-kept.ensures h q ∙ ap (λ cs. nat_lt q (length g.kept) && changed_by_any cs (kept_spot q)) c.as_slice-3.ensures.value ∙ ap (λ b. nat_lt q (length g.kept) && b) (same q) in
    row_from g keys c.args.node form c.in_ok-list.list.items row few c.in_ok-list.ensures refl (c.in_ok-registers.ensures keys h ∙ ap (loop_slots keys c.args.node) c.as_slice.ensures.value) each kept
