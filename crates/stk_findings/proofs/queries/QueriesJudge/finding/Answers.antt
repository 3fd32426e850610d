use Rattle.std.proofs.Common.{◌<◌, subst}
use Rattle.stk_meaning.specs.Keys.{input_bits}
use Rattle.stk_meaning.specs.Findings.{IsLawful}
use Rattle.stk_wide_judge.specs.Wide.{asked_subject}
use Rattle.stk_findings.specs.Searched.{about_searched, spent_searched, subject_searched}
use Rattle.stk_findings.specs.Telling.{CanAsk, CanTellByQueries}
use Rattle.stk_findings.proofs.Narrow.{weaker}
use Rattle.stk_findings.proofs.Gathering.{wide_finding, still_ready}
use Rattle.stk_findings.proofs.queries.QueriesJudge.finding.Goals as goal

pub returns-clause-lawful : goal.returns-clause-lawful
returns-clause-lawful g c =
    let s = c.args.searched.now in
    let a = about_searched s in
    let wide = subst (λ ks. 16 < input_bits ks) c.requires.ready.asks.known.typed.tables.keys c.requires.ready.wide in
    weaker c.asked_finding.result (IsLawful (asked_subject a (spent_searched s)) c.args.candidate) (IsLawful (subject_searched s) c.args.candidate)
    (wide_finding a.typing a.without a.tree s.budget wide c.args.candidate) c.asked_finding.ensures.lawful

pub returns-clause-ready : goal.returns-clause-ready
returns-clause-ready g c =
    let s = c.args.searched.now in
    still_ready c.asked_finding.result (CanAsk c.asked_finding.new.self s) (CanTellByQueries c.asked_finding.new.self s) (λ h. record { wide = c.requires.ready.wide; asks = h }) c.asked_finding.ensures.ready
