use Rattle.stk_tree_tests.proofs.Views.{view_if}
use Rattle.stk_tree_tests.proofs.units.if_form.Goals as goal

pub returns : goal.returns
returns c = view_if c.args.test c.args.body
