use Rattle.stk_tree.specs.View.{view_function}
use Rattle.stk_guess.proofs.Deletion.{IsNeededBehind}
use Rattle.stk_wide_judge.specs.Wide.{asked_in, asked_subject}
use Rattle.stk_wide_judge.specs.Answers.{IsLater}
use Rattle.stk_spent_queries.specs.Marks.{open_count, AreCounted}
use Rattle.stk_wide_judge.specs.Starts.{AreKnown}
use Rattle.stk_wide_judge.proofs.plain.needed.Given as goal

abbrev pub invariant-loop-i : goal.invariant-loop-i
invariant-loop-i g l =
    let a = asked_in l.function.tables.now (view_function l.function.f.now) in
    let about = g.Q.Questions.about in
    let spent = g.Q.Questions.spent in
    let given_up = g.D.Decider.given_up in
    record {
      set : IsNeededBehind (asked_subject a (spent l.fn.questions)) l.asked.candidate l.conditions l.i l.needs.items;
      known : AreKnown a l.known.starts.items l.known.table;
      counted : AreCounted (given_up l.fn.decider) (given_up l.decider) (open_count l.needs.items);
      later : IsLater (about l.fn.questions) (about l.questions) (spent l.fn.questions) (spent l.questions) (given_up l.fn.decider) (given_up l.decider);
    }
