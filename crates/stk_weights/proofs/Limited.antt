-- Visits add no more than their limit.
use Rattle.std.proofs.Common.{ℕ, ◌≡◌, ◌+◌, ◌*◌, ◌≤◌, Bool, true, false, List, [], ◌∷◌, ◌++◌, length, refl, subst, arith}
use Rattle.stk_meaning.specs.Places.{Setting}
use Rattle.stk_meaning.specs.Visits.{Visits, no_visit, one_visit, both_visits, scope, unevaluated}
use Rattle.stk_meaning.specs.Weights.{visits_weight}
use Rattle.stk_function_types.specs.Visits.{MarkedVisit, marked_visits}
use Rattle.stk_weights.specs.MarkedVisit.{marked_weight}
use Rattle.stk_weights.specs.Events.{counts}
use Rattle.stk_weights.specs.Counting.{total}
use Rattle.stk_weights.specs.Loads.{load, marked_load, visit_limit, IsMetLimited, IsLimited}
use Rattle.stk_weights.proofs.Summing.{weight_parts}
use Rattle.stk_weights.proofs.Totals.{all_few}

-- one visit more
pub one_limited : (g : Setting) (m : MarkedVisit) (ms : List MarkedVisit) → IsMetLimited g m → IsLimited g ms → IsLimited g (m ∷ ms)
one_limited g m ms h t = omega (arith, h, t)

load-append : (a b : List MarkedVisit) → marked_load (a ++ b) ≡ marked_load a + marked_load b
load-append [] b = omega arith
load-append (m ∷ a) b = omega (arith, load-append a b)

pub load-marked_visits : (evaluated : Bool) (v : Visits) → marked_load (marked_visits evaluated v) ≡ load v
load-marked_visits evaluated no_visit = refl
load-marked_visits evaluated (one_visit x) = omega arith
load-marked_visits evaluated (both_visits a b) = omega (arith, load-append (marked_visits evaluated a) (marked_visits evaluated b), load-marked_visits evaluated a, load-marked_visits evaluated b)
load-marked_visits evaluated (scope ks a) = load-marked_visits evaluated a
load-marked_visits evaluated (unevaluated a) = load-marked_visits false a

limit_parts : (n k : ℕ) → (256 * n + 140288) * k ≡ 256 * (n * k) + 140288 * k
limit_parts n k = grind arith

together : (w own count limit few l : ℕ) → w ≡ own + 256 * count → own ≤ 140288 * l → count ≤ few → limit ≡ 256 * few + 140288 * l → w ≤ limit
together w own count limit few l e f g h = omega (arith, e, f, g, h)

-- of visits
pub visits_limited : (g : Setting) (v : Visits) → IsLimited g (marked_visits true v) → visits_weight g true v ≤ visit_limit g * load v
visits_limited g v h =
    let own : marked_weight g (marked_visits true v) ≤ 140288 * load v = subst (λ n. marked_weight g (marked_visits true v) ≤ 140288 * n) (load-marked_visits true v) h in
    together (visits_weight g true v) (marked_weight g (marked_visits true v)) (total (λ r. counts g r v) g.registers) (visit_limit g * load v) (length g.registers * load v) (load v) (weight_parts g true v) own (all_few g v) (limit_parts (length g.registers) (load v))
