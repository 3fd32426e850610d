use Rattle.stk_clauses.proofs.Steps.{refutation_sound}
use Rattle.stk_clauses.proofs.laws.refutation_is_sound.Goals as goal

pub returns : goal.returns
returns c = refutation_sound
