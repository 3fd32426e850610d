use Rattle.std.proofs.Common.{length}
use Rattle.stk_exec_stmt.proofs.InitialViews.{at_plain, at_braces}
use Rattle.stk_walking.proofs.Costing.{costs_then}
use Rattle.stk_walk_statements.proofs.declarations.initialised.Goals as goal

pub returns-in-Plain-clause-cost : goal.returns-in-Plain-clause-cost
returns-in-Plain-clause-cost g c = rw (at_plain c.args.x.now c.in-Plain.e c.in-Plain.is) c.begun_by.ensures.cost

pub returns-in_ok-forget-in-Braces-clause-cost : goal.returns-in_ok-forget-in-Braces-clause-cost
returns-in_ok-forget-in-Braces-clause-cost g c = rw (at_braces c.args.x.now c.in-Braces.list c.in-Braces.field-1 c.in-Braces.is, ← c.as_slice.ensures) (costs_then c.in_ok-items-in-Braces.ensures.cost (c.in_ok-forget-in-Braces.ensures.cost (length (g.O.RunSetting.setting c.args.out.now).kept)))
