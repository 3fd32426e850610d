use Rattle.stk_text_laws.proofs.Listed.{never_both}
use Rattle.stk_text_laws.proofs.candidates.script_or_too_few.Goals as goal

pub returns : goal.returns
returns c = never_both
