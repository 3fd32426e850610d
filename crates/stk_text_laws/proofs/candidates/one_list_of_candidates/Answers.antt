use Rattle.stk_text_laws.proofs.Listed.{one_list_of_candidates}
use Rattle.stk_text_laws.proofs.candidates.one_list_of_candidates.Goals as goal

pub returns : goal.returns
returns c = one_list_of_candidates
