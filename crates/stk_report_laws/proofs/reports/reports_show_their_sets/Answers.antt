use Rattle.stk_report_laws.proofs.Needed.{shown_sets}
use Rattle.stk_report_laws.proofs.reports.reports_show_their_sets.Goals as goal

pub returns : goal.returns
returns c = shown_sets
