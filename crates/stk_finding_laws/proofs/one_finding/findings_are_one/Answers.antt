use Rattle.stk_hits.specs.PathSubjects.{path_subject}
use Rattle.stk_finding_laws.proofs.Unique.{one_findings, path_ordered}
use Rattle.stk_finding_laws.proofs.one_finding.findings_are_one.Goals as goal

pub returns : goal.returns
returns c = λ ty without f cs xs ys h k. one_findings (path_subject ty without f) (path_ordered ty without f) cs xs ys h k
