use Rattle.stk_guarded.proofs.Laws.{kept_objects_follow}
use Rattle.stk_guarded.proofs.composing.kept_objects_follow.Goals as goal

pub returns : goal.returns
returns c = kept_objects_follow
