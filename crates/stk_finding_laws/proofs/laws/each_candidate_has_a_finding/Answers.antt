use Rattle.stk_finding_laws.proofs.Paths.{path_findings}
use Rattle.stk_finding_laws.proofs.laws.each_candidate_has_a_finding.Goals as goal

pub returns : goal.returns
returns c = λ ty without f cs. path_findings ty without f cs
