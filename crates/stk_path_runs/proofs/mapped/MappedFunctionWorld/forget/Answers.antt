use Rattle.std.proofs.Common.{◌≡◌, Some, ◌∙◌}
use Rattle.stk_tree.specs.View.{view_statement_form}
use Rattle.stk_function_env.specs.Settings.{setting_in}
use Rattle.stk_path_runs.specs.Rows.{row_at}
use Rattle.stk_path_runs.proofs.Known.{forget_by}
use Rattle.stk_path_runs.proofs.mapped.MappedFunctionWorld.forget.Goals as goal

pub returns-in-Some : goal.returns-in-Some
returns-in-Some c =
    let tables = c.args.self.now.tables.now in
    let found : Some c.in-Some.row.now ≡ row_at c.args.node c.args.self.now.tables.now.rows = c.in-Some.ensures in
    c.forget_changed.ensures
    ∙ forget_by (setting_in tables.places) tables.places.keys tables.rows c.args.node (view_statement_form c.args.form.now) c.in-Some.row.now c.args.kept.now.items c.requires found
