use Rattle.std.proofs.Common.{◌≡◌, List}
use Rattle.indexmap.specs.IndexSet.{contains}
use Rattle.stk_hits.specs.declared.condition_ids.ConditionId.{ConditionId}
use Rattle.stk_hits.specs.ConditionIds.{same_condition_id}
use Rattle.stk_hits.specs.Tables.{IsNumberOf, AreSteps}
use Rattle.stk_hits.proofs.Growing.{IsLeft}
use Rattle.stk_hits.proofs.hit_table.HitTable.meets.Given as goal

abbrev pub invariant-steps : goal.invariant-steps
invariant-steps l = (l.steps ≡ l.self.steps) × AreSteps l.steps × ((ms : List ConditionId) → IsNumberOf l.self.steps l.set ms → IsLeft l.self.steps (λ m. contains same_condition_id l.condition_ids m) ms l.at)

abbrev pub decreases-steps : goal.decreases-steps
decreases-steps l = l.at
