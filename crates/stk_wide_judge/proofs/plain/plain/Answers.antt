use Rattle.std.proofs.Common.{Result, IfOk, sym, subst}
use Rattle.stk_base.specs.declared.failures.NoMemory.{NoMemory}
use Rattle.stk_tree.specs.View.{view_function}
use Rattle.stk_meaning.specs.declared.finding.Finding.{Finding}
use Rattle.stk_meaning.specs.Findings.{IsLawful}
use Rattle.stk_wide_judge.specs.Wide.{AskedFunction, asked_in, asked_subject}
use Rattle.stk_wide_judge.proofs.Later.{lawful_result}
use Rattle.stk_wide_judge.proofs.Settling.{clear_free, undecided_free}
use Rattle.stk_wide_judge.proofs.plain.plain.Goals as goal
use Rattle.stk_wide_judge.proofs.plain.plain.Goals.{in-Start, in-GivenUp, in-Never}

pub returns-clause-lawful : goal.returns-clause-lawful
returns-clause-lawful g c =
    let a : AskedFunction = asked_in c.args.function.now.tables.now (view_function c.args.function.now.f.now) in
    let spent = g.Q.Questions.spent c.args.questions.now in
    let k = c.args.asked.candidate in
    let all = c.args.function.now.conditions.now in
    let x = c.in_ok-answered.field-0 in
    let h = c.in_ok-answered.ensures.answer in
    elim c.match-branch-2.branch [
      | in-Start w ↦ subst (λ (r : Result Finding NoMemory). IfOk r (IsLawful (asked_subject a spent) k)) (sym w.result-is) (clear_free a spent k all x w.in-Start.field-0 c.args.function.now.all w.in-Start.is h)
      | in-GivenUp w ↦ subst (λ (r : Result Finding NoMemory). IfOk r (IsLawful (asked_subject a spent) k)) (sym w.result-is) (undecided_free a spent k all x c.args.function.now.all w.in-GivenUp.is h)
      | in-Never w ↦ subst (λ (r : Result Finding NoMemory). IfOk r (IsLawful (asked_subject a spent) k)) (sym w.result-is) (lawful_result a spent (g.Q.Questions.spent c.answered.new.questions) k w.hit_finding.result c.in_ok-answered.ensures.later.spent w.hit_finding.ensures.lawful)
    ]
