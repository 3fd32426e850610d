use Rattle.std.proofs.Common.{refl}
use Rattle.stk_bundle.specs.declared.line.BundleLine.TheVariants as line
use Rattle.stk_audit.specs.Progressing.{known_in}
use Rattle.stk_audit.proofs.Closing.{start_fails}
use Rattle.stk_audit.proofs.proving.clauses.Goals as goal

pub returns-in-Some-clause-step : goal.returns-in-Some-clause-step
returns-in-Some-clause-step g c = λ lines.
    start_fails (g.A.Answering.world (g.A.Answering.about c.args.answering.now)) (known_in c.args.progress.now) c.claim_of.result.1 c.args.progress.now.number c.in-Some.line (line.Clauses lines) c.args.block.now c.in_ok-line.field-0 refl c.in_ok-line.ensures c.in-Some.is
