use Rattle.stk_guarded.proofs.Laws.{turns_compose}
use Rattle.stk_guarded.proofs.composing.turns_compose.Goals as goal

pub returns : goal.returns
returns c = turns_compose
