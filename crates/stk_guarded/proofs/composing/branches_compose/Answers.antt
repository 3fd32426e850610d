use Rattle.stk_guarded.proofs.Laws.{branches_compose}
use Rattle.stk_guarded.proofs.composing.branches_compose.Goals as goal

pub returns : goal.returns
returns c = branches_compose
