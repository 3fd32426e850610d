use Rattle.stk_guarded.proofs.Laws.{sections_compose}
use Rattle.stk_guarded.proofs.composing.sections_compose.Goals as goal

pub returns : goal.returns
returns c = sections_compose
