use Rattle.std.proofs.Common.{Some}
use Rattle.stk_propagate.specs.Linked.{trailed}
use Rattle.stk_propagate.proofs.Fits.{fits_push, now_true, still_live}
use Rattle.stk_propagate.proofs.Visiting.{grown_push}
use Rattle.stk_propagate.proofs.inner.Inner.put.Goals as goal

pub returns-then-not-is_true-clause-fits : goal.returns-then-not-is_true-clause-fits
returns-then-not-is_true-clause-fits c =
    let e = c.push.ensures in
    fits_push (trailed c.args.self.now) c.push.new.self c.args._store.now c.args.lit c.args.id c.requires.fits c.vars.ensures.facts.paired c.requires.exists c.requires.reason e.vars e.literals e.reasons

pub returns-then-not-is_true-clause-grown : goal.returns-then-not-is_true-clause-grown
returns-then-not-is_true-clause-grown c = let e = c.push.ensures in grown_push c.args.self.now.assigned c.push.new.self c.args.lit c.args.id e.vars e.literals e.reasons

pub returns-then-not-is_true-clause-now_true : goal.returns-then-not-is_true-clause-now_true
returns-then-not-is_true-clause-now_true c =
    let e = c.push.ensures in
    now_true c.args.self.now.assigned c.push.new.self c.args.lit (Some c.args.id) c.vars.ensures.facts.paired e.literals e.reasons

pub returns-then-not-is_true-clause-live : goal.returns-then-not-is_true-clause-live
returns-then-not-is_true-clause-live c = still_live c.args.self.now.assigned.literals c.push.new.self.literals c.args.lit c.push.ensures.literals c.requires.live
