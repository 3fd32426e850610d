use Rattle.stk_type_laws.proofs.FewCandidates.{few_candidates}
use Rattle.stk_type_laws.proofs.candidates.candidates_are_few.Goals as goal

pub returns : goal.returns
returns c = λ ty f n. few_candidates ty f n
