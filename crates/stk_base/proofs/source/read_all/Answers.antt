use Rattle.stk_base.proofs.Runs.{answer_tells}
use Rattle.stk_base.proofs.source.read_all.Goals as goal

pub returns-clause-told : goal.returns-clause-told
returns-clause-told g c = answer_tells (λ v. v.items) c.gather.result _ _ c.gather.ensures.whole c.gather.ensures.end
