use Rattle.stk_text_laws.proofs.Skimming.{one_skimmed}
use Rattle.stk_text_laws.proofs.stretches.one_skimming.Goals as goal

pub returns : goal.returns
returns c = λ bytes tokens kept notes s. one_skimmed bytes 0 tokens kept notes s
