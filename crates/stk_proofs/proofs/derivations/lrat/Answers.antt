use Rattle.std.proofs.Common.{◌≤◌, length, sym, ap, subst, arith}
use Rattle.stk_proofs.specs.Lrat.{IsLrat}
use Rattle.stk_proofs.proofs.Steps.{written_all, step_holds}
use Rattle.stk_proofs.proofs.ReadBack.{derivation_back}
use Rattle.stk_proofs.proofs.derivations.lrat.Goals as goal

pub add_step-requires : goal.add_step-requires
add_step-requires c = step_holds c.args.derivation.now.steps c.as_slice-step-items.result.now c.loop-step.step-index c.step-item.result c.requires.steps c.as_slice-step-items.ensures c.loop-step-test.true c.step-item.is

pub returns-clause-read_back : goal.returns-clause-read_back
returns-clause-read_back c =
    let beyond : length c.args.derivation.now.steps ≤ c.loop-step.step-index = omega (arith, c.loop-step-test.false, ap length c.as_slice-step-items.ensures) in
    subst (λ t. IsLrat c.args.given t c.args.derivation.now) (sym (written_all c.args.given c.loop-step.id c.loop-step.step-index c.args.derivation.now.steps c.loop-step.text.items beyond c.loop-step.invariant.text)) (derivation_back c.args.given c.args.derivation.now c.requires)
