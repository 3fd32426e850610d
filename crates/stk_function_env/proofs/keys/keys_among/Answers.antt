use Rattle.std.proofs.Common.{arith}
use Rattle.std.proofs.lemmas.Grind.{common_steps}
use Rattle.stk_function_env.proofs.keys.keys_among.Goals as goal

-- Goals that the check would prove by itself, but only after searches that fail.
pub loop-visit-init : goal.loop-visit-init
loop-visit-init c = grind (arith, common_steps)

pub offset_bounds-visits-visit-index : goal.offset_bounds-visits-visit-index
offset_bounds-visits-visit-index c = grind (arith, common_steps)

pub returns-in_err-visit_keys : goal.returns-in_err-visit_keys
returns-in_err-visit_keys c = grind (arith, common_steps)

pub loop-visit-smaller : goal.loop-visit-smaller
loop-visit-smaller c = grind (arith, common_steps)

pub loop-visit-preserved : goal.loop-visit-preserved
loop-visit-preserved c = grind (arith, common_steps)

pub returns : goal.returns
returns c = grind (arith, common_steps)
