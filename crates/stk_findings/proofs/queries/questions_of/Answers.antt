use Rattle.stk_tree.specs.View.{view_function}
use Rattle.stk_goals.proofs.Searched.{typed_functions_are_searched}
use Rattle.stk_findings.proofs.queries.questions_of.Goals as goal

pub new-requires-clause-searched : goal.new-requires-clause-searched
new-requires-clause-searched c = typed_functions_are_searched c.args.searched.now.tables.now (view_function c.args.searched.now.function.now) c.requires.typed
