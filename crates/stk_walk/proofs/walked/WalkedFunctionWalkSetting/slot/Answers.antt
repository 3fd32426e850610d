use Rattle.std.proofs.Common.{◌≡◌, length, arith}
use Rattle.stk_tree.specs.View.{view_statement_form}
use Rattle.stk_meaning.specs.Changes.{assigned_in}
use Rattle.stk_walk.proofs.Slots.{slots_counted, slot_there}
use Rattle.stk_walk.proofs.walked.WalkedFunctionWalkSetting.slot.Goals as goal

pub index-requires : goal.index-requires
index-requires g c =
    let path = c.args.self.now.path.now in
    let many : length c.row.result.now.registers.items ≡ length (assigned_in (g.T.RunSetting.setting path) (view_statement_form c.args.form.now)) = slots_counted (g.T.RunSetting.setting path) (g.T.TableSetting.keys path) c.args.node (view_statement_form c.args.form.now) c.row.result.now c.row.ensures in
    omega (arith, many, c.requires.within)

pub returns : goal.returns
returns g c =
    let path = c.args.self.now.path.now in
    slot_there (g.T.RunSetting.setting path) (g.T.TableSetting.keys path) c.args.node (view_statement_form c.args.form.now) c.row.result.now c.args.at c.index.result.now c.row.ensures c.requires.within c.index.ensures
