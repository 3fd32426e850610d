use Rattle.stk_tree.specs.View.{view_function}
use Rattle.stk_wide_judge.specs.Wide.{asked_in}
use Rattle.stk_wide_judge.proofs.known.Known.begin.Goals as goal

pub try_choices-requires-clause-known : goal.try_choices-requires-clause-known
try_choices-requires-clause-known c = c.new-known.ensures (asked_in c.args.function.now.tables.now (view_function c.args.function.now.f.now))
