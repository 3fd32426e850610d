use Rattle.stk_guarded.proofs.Laws.{sequences_compose}
use Rattle.stk_guarded.proofs.composing.sequences_compose.Goals as goal

pub returns : goal.returns
returns c = sequences_compose
