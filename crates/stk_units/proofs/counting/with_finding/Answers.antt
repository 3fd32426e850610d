use Rattle.stk_units.proofs.Counts.{one_more_counted}
use Rattle.stk_units.proofs.counting.with_finding.Goals as goal

pub returns : goal.returns
returns c = λ findings same. one_more_counted c.args.counts findings c.args.finding.now c.is_report.result c.is_open.result same c.is_report.ensures.value c.is_open.ensures.value
