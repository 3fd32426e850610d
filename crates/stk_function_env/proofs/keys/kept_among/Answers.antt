use Rattle.std.proofs.Common.{arith}
use Rattle.std.proofs.lemmas.Grind.{common_steps}
use Rattle.stk_function_env.proofs.keys.kept_among.Goals as goal

-- Goals that the check would prove by itself, but only after searches that fail.
pub loop-info-init : goal.loop-info-init
loop-info-init c = grind (arith, common_steps)

pub offset_bounds-keys-info-index : goal.offset_bounds-keys-info-index
offset_bounds-keys-info-index c = grind (arith, common_steps)

pub returns-in_err-key_kept : goal.returns-in_err-key_kept
returns-in_err-key_kept c = grind (arith, common_steps)

pub loop-info-smaller : goal.loop-info-smaller
loop-info-smaller c = grind (arith, common_steps)

pub loop-info-preserved : goal.loop-info-preserved
loop-info-preserved c = grind (arith, common_steps)

pub returns : goal.returns
returns c = grind (arith, common_steps)
