use Rattle.stk_query.proofs.Sayings.{no_never, never_tried}
use Rattle.stk_query.proofs.cdcl.CdclDecider.ask.Goals as goal

pub returns-then-are_few-clause-verdict : goal.returns-then-are_few-clause-verdict
returns-then-are_few-clause-verdict c = c.in_ok-verdict.ensures.verdict c.args.budget

pub returns-then-are_few-clause-no : goal.returns-then-are_few-clause-no
returns-then-are_few-clause-no c = no_never c.args.terms.now c.args.goal.0 c.args.budget c.in_ok-verdict.verdict (c.in_ok-verdict.ensures.verdict c.args.budget)

pub returns-then-are_few-clause-tried : goal.returns-then-are_few-clause-tried
returns-then-are_few-clause-tried c = never_tried c.args.terms.now c.args.goal.0 c.args.budget c.in_ok-verdict.verdict (c.in_ok-verdict.ensures.verdict c.args.budget)

pub returns-clause-no : goal.returns-clause-no
returns-clause-no c = no_never c.args.terms.now c.args.goal.0 c.args.budget c.in_ok-verdict-2.verdict c.in_ok-verdict-2.ensures.verdict
