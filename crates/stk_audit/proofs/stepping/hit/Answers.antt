use Rattle.std.proofs.Common.{None}
use Rattle.stk_bundle.specs.declared.line.BundleLine.TheVariants as line
use Rattle.stk_audit_rules.specs.Knowing.{with_start}
use Rattle.stk_audit_rules.specs.Reasons as rules
use Rattle.stk_audit.specs.Progressing.{known_in}
use Rattle.stk_audit.proofs.Lines.{it_holds}
use Rattle.stk_audit.proofs.stepping.hit.Goals as goal

pub returns : goal.returns
returns g c = λ block.
    it_holds (g.A.Answering.world (g.A.Answering.about c.args._answering.now)) c.args.progress.now c.add_start.new.self (line.Hit c.args.start.now) block (with_start (known_in c.args.progress.now) c.args.progress.now.number c.args.start.now None) c.in_ok-add_start.ensures.known c.in_ok-add_start.ensures.number rules.hit
