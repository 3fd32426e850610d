use Rattle.std.proofs.Common.{◌≡◌, ◌+◌, ◌-◌, ◌^◌, ◌≤◌, drop, map}
use Rattle.stk_function_types.specs.Visits.{marked_visit}
use Rattle.stk_function_env.specs.Settings.{setting_in}
use Rattle.stk_weights.specs.Sums.{capped}
use Rattle.stk_weights.specs.MarkedVisit.{marked_weight}
use Rattle.stk_weights.specs.Loads.{IsLimited}
use Rattle.stk_weights.proofs.visits.visits_weight.Given as goal

abbrev pub invariant-loop-visit : goal.invariant-loop-visit
invariant-loop-visit l = record {
  small : l.sum ≤ 2 ^ 64 - 1;
  weighed : capped (l.sum + marked_weight (setting_in l.setting) (map marked_visit (drop l.visit-index l.visits))) ≡ capped (marked_weight (setting_in l.setting) (map marked_visit l.visits));
  limited : IsLimited (setting_in l.setting) (map marked_visit (drop l.visit-index l.visits)) → IsLimited (setting_in l.setting) (map marked_visit l.visits);
}
