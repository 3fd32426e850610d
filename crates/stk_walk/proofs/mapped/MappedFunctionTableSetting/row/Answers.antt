use Rattle.std.proofs.Common.{◌≡◌, Some, None}
use Rattle.stk_tree.specs.View.{view_statement_form}
use Rattle.stk_function_env.specs.Settings.{setting_in}
use Rattle.stk_path_runs.specs.Rows.{row_at}
use Rattle.stk_path_runs.proofs.Known.{none_known}
use Rattle.stk_walk.proofs.Slots.{row_known}
use Rattle.stk_walk.proofs.mapped.MappedFunctionTableSetting.row.Goals as goal

pub returns : goal.returns
returns c =
    let tables = c.args.self.now.tables.now in
    let found : Some c.in-Some.row.now ≡ row_at c.args.node c.args.self.now.tables.now.rows = c.in-Some.ensures in
    row_known (setting_in tables.places) tables.places.keys tables.rows c.args.node (view_statement_form c.args.form.now) c.in-Some.row.now c.requires found

pub unreachable-requires : goal.unreachable-requires
unreachable-requires c =
    let tables = c.args.self.now.tables.now in
    let missing : None ≡ row_at c.args.node c.args.self.now.tables.now.rows = c.in-None.ensures in
    none_known (setting_in tables.places) tables.places.keys tables.rows c.args.node (view_statement_form c.args.form.now) c.requires missing
