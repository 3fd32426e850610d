use Rattle.stk_tree.specs.View.{view_function}
use Rattle.stk_wide_judge.specs.Wide.{asked_in}
use Rattle.stk_wide_judge.specs.Answers.{IsLater}
use Rattle.stk_wide_judge.specs.Starts.{AreKnown}
use Rattle.stk_wide_judge.proofs.judging.by_guesses.Given as goal

abbrev pub invariant-loop-round : goal.invariant-loop-round
invariant-loop-round g l =
    let about = g.Q.Questions.about in
    let spent = g.Q.Questions.spent in
    let given_up = g.D.Decider.given_up in
    record {
      known : AreKnown (asked_in l.function.tables.now (view_function l.function.f.now)) l.known.starts.items l.known.table;
      later : IsLater (about l.fn.questions) (about l.questions) (spent l.fn.questions) (spent l.questions) (given_up l.fn.decider) (given_up l.decider);
    }
