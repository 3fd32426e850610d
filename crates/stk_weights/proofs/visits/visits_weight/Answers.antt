use Rattle.std.proofs.Common.{◌≡◌, ◌+◌, List, ◌∷◌, drop, map, ap, subst, arith}
use Rattle.stk_function_types.specs.declared.visits.Visit.{Visit}
use Rattle.stk_function_types.specs.Visits.{marked_visit}
use Rattle.stk_function_env.specs.Settings.{setting_in}
use Rattle.stk_weights.specs.Sums.{capped}
use Rattle.stk_weights.specs.MarkedVisit.{marked_visit_weight, marked_weight}
use Rattle.stk_weights.specs.Loads.{IsLimited}
use Rattle.stk_weights.proofs.Ends.{drop_none, next_of, summed_end, summed_step}
use Rattle.stk_weights.proofs.Limited.{one_limited}
use Rattle.stk_weights.proofs.visits.visits_weight.Goals as goal

pub loop-visit-preserved : goal.loop-visit-preserved
loop-visit-preserved c =
    let g = setting_in c.args.setting.now in
    let xs = c.args.visits.now in
    let rest = drop (c.loop-visit.visit-index + 1) xs in
    let whole = marked_weight g (map marked_visit xs) in
    let next : drop c.loop-visit.visit-index xs ≡ c.visit-item.result ∷ rest = next_of xs c.loop-visit.visit-index c.visit-item.result (omega arith) c.visit-item.is in
    record {
      small = omega (arith, c.saturating_add-sum.ensures);
      weighed = summed_step c.loop-visit.sum c.in_ok-own.own c.saturating_add-sum.result (marked_visit_weight g (marked_visit c.visit-item.result)) (marked_weight g (map marked_visit rest)) whole c.in_ok-own.ensures.is c.saturating_add-sum.ensures (subst (λ (ys : List Visit). capped (c.loop-visit.sum + marked_weight g (map marked_visit ys)) ≡ capped whole) next c.loop-visit.invariant.weighed);
      limited = λ few. subst (λ (ys : List Visit). IsLimited g (map marked_visit ys) → IsLimited g (map marked_visit xs)) next c.loop-visit.invariant.limited (one_limited g (marked_visit c.visit-item.result) (map marked_visit rest) c.in_ok-own.ensures.limited few);
    }

pub returns-clause-is : goal.returns-clause-is
returns-clause-is c =
    let g = setting_in c.args.setting.now in
    let xs = c.args.visits.now in
    let i = c.loop-visit.visit-index in
    summed_end c.loop-visit.sum (marked_weight g (map marked_visit (drop i xs))) (marked_weight g (map marked_visit xs)) c.loop-visit.invariant.small (ap (λ (ys : List Visit). marked_weight g (map marked_visit ys)) (drop_none xs i (omega arith))) c.loop-visit.invariant.weighed
