use Rattle.stk_text_laws.proofs.Skimming.{skimmed}
use Rattle.stk_text_laws.proofs.stretches.skimming_by_stretches.Goals as goal

pub returns : goal.returns
returns c = λ bytes tokens. skimmed bytes tokens 0
