use Rattle.std.proofs.Common.{◌≡◌, ◌≤◌, refl, subst}
use Rattle.stk_meaning.specs.Keys.{input_bits}
use Rattle.stk_meaning.specs.Findings.{IsLawful}
use Rattle.stk_hits.specs.PathSubjects.{path_subject}
use Rattle.stk_spent_queries.specs.Marks.{marks}
use Rattle.stk_findings.specs.Searched.{about_searched, subject_searched}
use Rattle.stk_findings.proofs.Narrow.{narrow_finding, none_marked, weaker}
use Rattle.stk_findings.proofs.by_maps.tried_finding.Goals as goal

pub returns-clause-lawful : goal.returns-clause-lawful
returns-clause-lawful c =
    let s = c.args.searched.now in
    let a = about_searched s in
    let few = subst (λ ks. input_bits ks ≤ 16) c.requires.known.typed.tables.keys c.requires.few in
    weaker c.finding.result (IsLawful (path_subject a.typing a.without a.tree) c.args.candidate) (IsLawful (subject_searched s) c.args.candidate) (narrow_finding a.typing a.without a.tree s.budget few c.args.candidate)
    (c.finding.ensures a.typing a.without a.tree c.requires.tried c.requires.known.conditions)

pub returns-clause-unmarked : goal.returns-clause-unmarked
returns-clause-unmarked c =
    let a = about_searched c.args.searched.now in
    let q = path_subject a.typing a.without a.tree in
    weaker c.finding.result (IsLawful q c.args.candidate) (λ x. marks x ≡ 0) (none_marked q refl c.args.candidate) (c.finding.ensures a.typing a.without a.tree c.requires.tried c.requires.known.conditions)
