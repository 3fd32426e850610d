use Rattle.indexmap.specs.IndexSet.{contains}
use Rattle.stk_hits.specs.ConditionIds.{same_condition_id}
use Rattle.stk_hits.proofs.Answering.{AllMeet}
use Rattle.stk_hits.proofs.hit_table.HitTable.first_apart.Given as goal

abbrev pub invariant-loop-row : goal.invariant-loop-row
invariant-loop-row l = AllMeet l.self.steps (λ m. contains same_condition_id l.condition_ids m) l.rows l.row-index
