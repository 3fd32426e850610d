use Rattle.stk_guarded.proofs.Laws.{steps_follow}
use Rattle.stk_guarded.proofs.composing.steps_follow.Goals as goal

pub returns : goal.returns
returns c = steps_follow
