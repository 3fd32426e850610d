use Rattle.std.proofs.Common.{arith}
use Rattle.std.proofs.lemmas.Grind.{common_steps}
use Rattle.stk_function_env.proofs.keys.loop_keys.Goals as goal

-- Goals that the check would prove by itself, but only after searches that fail.
pub loop-j-init : goal.loop-j-init
loop-j-init c = grind (arith, common_steps)

pub offset_bounds-list-j-index : goal.offset_bounds-list-j-index
offset_bounds-list-j-index c = grind (arith, common_steps)

pub returns-in_err-put : goal.returns-in_err-put
returns-in_err-put c = grind (arith, common_steps)

pub loop-j-smaller : goal.loop-j-smaller
loop-j-smaller c = grind (arith, common_steps)

pub loop-j-preserved : goal.loop-j-preserved
loop-j-preserved c = grind (arith, common_steps)

pub returns : goal.returns
returns c = grind (arith, common_steps)
