use Rattle.stk_hits.proofs.Passing.{none_described}
use Rattle.stk_hits.proofs.hit_table.HitTable.new.Goals as goal

pub returns : goal.returns
returns c = none_described _ _ c.new-2.ensures.empty
