use Rattle.std.proofs.Common.{◌≡◌, sym, subst, ◌∙◌}
use Rattle.stk_tree.specs.Syntax.{FunctionTree}
use Rattle.stk_tree.specs.View.{view_function}
use Rattle.stk_meaning.specs.Findings.{IsLawful}
use Rattle.stk_goals.specs.Rows.{Tables}
use Rattle.stk_goals.specs.FunctionTables.{AreTablesOf}
use Rattle.stk_wide_judge.specs.Wide.{AskedFunction, asked_in, asked_subject}
use Rattle.stk_wide_judge.specs.Starts.{AreKnown}
use Rattle.stk_wide_judge.proofs.Later.{lawful_earlier}
use Rattle.stk_findings.specs.Searched.{about_searched, spent_searched}
use Rattle.stk_findings.specs.Telling.{spent_asked, CanAsk}
use Rattle.stk_findings.proofs.Narrow.{weaker}
use Rattle.stk_findings.proofs.Gathering.{still_ready}
use Rattle.stk_findings.proofs.queries.Queries.asked_finding.Goals as goal

pub judge_candidate-requires-clause-tables : goal.judge_candidate-requires-clause-tables
judge_candidate-requires-clause-tables g c =
    subst (λ (t : Tables). AreTablesOf (view_function c.new-function.result.f.now) t) (sym c.new-function.ensures.tables)
    (subst (λ (f : FunctionTree). AreTablesOf f c.args.searched.now.tables.now) (sym c.new-function.ensures.f) c.requires.ready.known.typed.tables)

pub returns-clause-lawful : goal.returns-clause-lawful
returns-clause-lawful g c =
    let s = c.args.searched.now in
    let a = about_searched s in
    let there : AskedFunction = asked_in c.new-function.result.tables.now (view_function c.new-function.result.f.now) in
    let same : there ≡ a = λ i. asked_in (c.new-function.ensures.tables i) (c.new-function.ensures.f i) in
    let is = spent_asked c.args.self.now.questions in
    weaker c.judge_candidate.result (IsLawful (asked_subject there is) c.args.candidate) (IsLawful (asked_subject a (spent_searched s)) c.args.candidate)
    (λ x h. lawful_earlier a (spent_searched s) is c.args.candidate x c.requires.ready.spent (subst (λ (u : AskedFunction). IsLawful (asked_subject u is) c.args.candidate x) same h))
    c.judge_candidate.ensures.lawful

pub returns-clause-ready : goal.returns-clause-ready
returns-clause-ready g c =
    let s = c.args.searched.now in
    let there : AskedFunction = asked_in c.new-function.result.tables.now (view_function c.new-function.result.f.now) in
    let same : there ≡ about_searched s = λ i. asked_in (c.new-function.ensures.tables i) (c.new-function.ensures.f i) in
    let later = c.judge_candidate.ensures.later in
    let now = c.judge_candidate.new in
    still_ready c.judge_candidate.result (AreKnown there now.known.starts.items now.known.table) (CanAsk (record { alloc = c.args.self.now.alloc; questions = now.questions; known = now.known }) s)
    (λ known. record {
      known = c.requires.ready.known;
      about = later.about ∙ c.requires.ready.about;
      spent = λ c2 set h. c.requires.ready.spent c2 set (later.spent c2 set h);
      starts = subst (λ (u : AskedFunction). AreKnown u now.known.starts.items now.known.table) same known;
    })
    c.judge_candidate.ensures.known
