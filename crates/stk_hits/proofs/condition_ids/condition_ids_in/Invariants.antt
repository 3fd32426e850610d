use Rattle.std.proofs.Common.{◌≡◌, take}
use Rattle.indexmap.specs.IndexSet.{contains}
use Rattle.stk_numbers.specs.declared.conditions.Condition.{Condition}
use Rattle.stk_meaning.specs.Hits.{has}
use Rattle.stk_hits.specs.ConditionIds.{condition_id_of, same_condition_id}
use Rattle.stk_hits.proofs.condition_ids.condition_ids_in.Given as goal

abbrev pub invariant-loop-condition : goal.invariant-loop-condition
invariant-loop-condition l = (k : Condition) → contains same_condition_id l.condition_ids (condition_id_of k) ≡ has (take l.condition-index l.set) k
