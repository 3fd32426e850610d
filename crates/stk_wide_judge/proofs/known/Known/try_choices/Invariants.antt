use Rattle.stk_tree.specs.View.{view_function}
use Rattle.stk_wide_judge.specs.Wide.{asked_in}
use Rattle.stk_wide_judge.specs.Starts.{AreKnown}
use Rattle.stk_wide_judge.proofs.known.Known.try_choices.Given as goal

abbrev pub invariant-loop-choice : goal.invariant-loop-choice
invariant-loop-choice l = AreKnown (asked_in l.function.tables.now (view_function l.function.f.now)) l.self.starts.items l.self.table
