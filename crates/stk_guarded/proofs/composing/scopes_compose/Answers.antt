use Rattle.stk_guarded.proofs.Laws.{scopes_compose}
use Rattle.stk_guarded.proofs.composing.scopes_compose.Goals as goal

pub returns : goal.returns
returns c = scopes_compose
