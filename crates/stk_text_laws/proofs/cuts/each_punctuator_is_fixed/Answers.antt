use Rattle.stk_text_laws.proofs.Marking.{punctuator_is_fixed}
use Rattle.stk_text_laws.proofs.cuts.each_punctuator_is_fixed.Goals as goal

pub returns : goal.returns
returns c = punctuator_is_fixed
