use Rattle.std.proofs.Common.{subst}
use Rattle.stk_meaning.specs.Findings.{IsLawful}
use Rattle.stk_wide_judge.specs.Wide.{asked_subject}
use Rattle.stk_findings.specs.Searched.{about_searched, spent_searched}
use Rattle.stk_findings.proofs.queries.Queries.is_clear.Goals as goal

pub returns-in-Clear-clause-clear : goal.returns-in-Clear-clause-clear
returns-in-Clear-clause-clear g c = λ e.
    let s = c.args.searched.now in
    subst (IsLawful (asked_subject (about_searched s) (spent_searched s)) c.args.candidate) c.in-Clear.is c.in_ok-finding.ensures.lawful
