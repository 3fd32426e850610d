use Rattle.stk_text_laws.proofs.Listed.{each_has_candidates}
use Rattle.stk_text_laws.proofs.candidates.each_text_has_candidates.Goals as goal

pub returns : goal.returns
returns c = each_has_candidates
