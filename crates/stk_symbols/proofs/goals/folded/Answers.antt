use Rattle.std.proofs.Common.{subst}
use Rattle.stk_symbols.proofs.Stepping.{SoFar, begins, goes_on}
use Rattle.stk_symbols.proofs.goals.folded.Goals as goal

pub loop-first-init : goal.loop-first-init
loop-first-init c = begins c.args.steps.now c.args.terms.now c.requires

pub loop-first-preserved : goal.loop-first-preserved
loop-first-preserved c = goes_on c.args.steps.now c.args.terms.now c.loop-first.terms c.stepped.new.terms c.in-Some.first.now c.in-Some.behind.now c.loop-first.state c.in_ok-state.state (subst (λ r. SoFar c.args.steps.now c.args.terms.now c.loop-first.terms r c.loop-first.state) c.in-Some.ensures.cases.0 c.loop-first.invariant) c.in_ok-state.ensures.made c.in_ok-state.ensures.value c.in_ok-state.ensures.spends c.in_ok-state.ensures.grown
