use Rattle.std.proofs.Common.{◌∙◌}
use Rattle.stk_tree.specs.View.{view_statement_form}
use Rattle.stk_walk.proofs.Slots.{slots_counted}
use Rattle.stk_walk.proofs.walked.WalkedFunctionWalkSetting.count_slots.Goals as goal

pub returns : goal.returns
returns g c =
    let path = c.args.self.now.path.now in
    c.len.ensures ∙ c.row.result.now.registers.ok.0 ∙ slots_counted (g.T.RunSetting.setting path) (g.T.TableSetting.keys path) c.args.node (view_statement_form c.args.form.now) c.row.result.now c.row.ensures
