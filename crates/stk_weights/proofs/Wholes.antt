-- The weight of a whole function.
use Rattle.std.proofs.Common.{ℕ, ◌≡◌, ◌+◌, ◌*◌, ◌-◌, ◌^◌, ◌≤◌, min, true, List, [], ◌∷◌, length, sym, ap, ◌∙◌, subst, arith}
use Rattle.std.specs.Prelude.{filter}
use Rattle.std.proofs.Math.Nat.{mul-le-mul}
use Rattle.stk_tree.specs.Syntax.{FunctionTree}
use Rattle.stk_tree.specs.Nodes.{function_nodes}
use Rattle.stk_numbers.specs.declared.conditions.Kinds.{Kinds}
use Rattle.stk_meaning.specs.Typings.{Typing}
use Rattle.stk_meaning.specs.Places.{Setting}
use Rattle.stk_meaning.specs.Keys.{KeyInfo, Object, registers_of, setting_of, keys_of, objects_in, objects_of, function_visits}
use Rattle.stk_meaning.specs.Weights.{visits_weight, is_pair, pairs_among, weight}
use Rattle.stk_weights.specs.Sums.{capped}
use Rattle.stk_weights.specs.Loads.{load, visit_limit}
use Rattle.stk_weights.proofs.Loads.{function_few}
use Rattle.stk_weights.proofs.Counts.{length-filter, registers_few, objects_few}

square : (n m p q : ℕ) → m ≡ n + 1 → p ≤ n → q ≤ n * n → p + q ≤ m * m
square n m p q one h e =
    let d : (n + 1) * (n + 1) ≡ n * n + n + n + 1 = grind arith in
    let more : p + q ≤ (n + 1) * (n + 1) = omega (arith, h, e, d) in
    subst (λ k. p + q ≤ k * k) (sym one) more

pairs_few : (kept : List ℕ) (os : List Object) → pairs_among kept os ≤ length os * length os
pairs_few kept [] = omega arith
pairs_few kept (o ∷ os) = square (length os) (length (o ∷ os)) (length (filter (is_pair kept o) os)) (pairs_among kept os) (omega arith) (length-filter (is_pair kept o) os) (pairs_few kept os)

product_few : (a b c d : ℕ) → a ≤ c → b ≤ d → a * b ≤ c * d
product_few a b c d h e = mul-le-mul h e

-- the parts of a weight, whatever sums they are
pub weight_is : (ty : Typing) (w : Kinds) (f : FunctionTree) (g : Setting) (ks : List KeyInfo) (nodes n own o : ℕ) → g ≡ setting_of ty w f → ks ≡ keys_of ty w f → nodes ≡ function_nodes f + 1 → n ≡ capped (128 * nodes) → own ≡ capped (visits_weight g true (function_visits g.typing f)) → o ≡ capped (2048 * length (objects_in ty ks) + 2048 * pairs_among g.kept (objects_in ty ks)) → min (min (n + own) (2 ^ 64 - 1) + o) (2 ^ 64 - 1) ≡ capped (weight ty w f)
weight_is ty w f g ks nodes n own o eg ek en hn ho hp =
    let all_visits : own ≡ capped (visits_weight (setting_of ty w f) true (function_visits ty f)) = ho ∙ ap (λ (h : Setting). capped (visits_weight h true (function_visits h.typing f))) eg in
    let objects : o ≡ capped (2048 * length (objects_of ty w f) + 2048 * pairs_among (setting_of ty w f).kept (objects_of ty w f)) =
    hp ∙ ap (λ (h : Setting). capped (2048 * length (objects_in ty ks) + 2048 * pairs_among h.kept (objects_in ty ks))) eg ∙ ap (λ xs. capped (2048 * length (objects_in ty xs) + 2048 * pairs_among (setting_of ty w f).kept (objects_in ty xs))) ek in
    together (function_nodes f) (visits_weight (setting_of ty w f) true (function_visits ty f)) (2048 * length (objects_of ty w f)) (2048 * pairs_among (setting_of ty w f).kept (objects_of ty w f)) n own o (hn ∙ ap (λ m. capped (128 * m)) en) all_visits objects
  where
    together : (k v a b n own o : ℕ) → n ≡ capped (128 * (k + 1)) → own ≡ capped v → o ≡ capped (a + b) → min (min (n + own) (2 ^ 64 - 1) + o) (2 ^ 64 - 1) ≡ capped (128 * (k + 1) + v + a + b)
    together k v a b n own o p q r = omega (arith, p, q, r)

-- a function of few nodes whose visits add no more than their limit
pub weight_few : (ty : Typing) (w : Kinds) (f : FunctionTree) → function_nodes f ≤ 20000 → visits_weight (setting_of ty w f) true (function_visits ty f) ≤ visit_limit (setting_of ty w f) * load (function_visits ty f) → weight ty w f ≤ 2 ^ 63
weight_few ty w f h limited =
    let registers : length (registers_of ty f) ≤ 3 * function_nodes f = registers_few ty f in
    let visits : load (function_visits ty f) ≤ 2 * function_nodes f = function_few ty f in
    let objects : length (objects_of ty w f) ≤ 3 * function_nodes f = objects_few ty w f in
    let kept = (setting_of ty w f).kept in
    let most = product_few (visit_limit (setting_of ty w f)) (load (function_visits ty f)) 15500288 40000 (omega (arith, h, registers)) (omega (arith, h, visits)) in
    let squares = product_few (length (objects_of ty w f)) (length (objects_of ty w f)) 60000 60000 (omega (arith, h, objects)) (omega (arith, h, objects)) in
    below (function_nodes f) (visits_weight (setting_of ty w f) true (function_visits ty f)) (length (objects_of ty w f)) (pairs_among kept (objects_of ty w f)) h (omega (arith, limited, most)) (omega (arith, h, objects)) (omega (arith, pairs_few kept (objects_of ty w f), squares))
  where
    below : (k v n p : ℕ) → k ≤ 20000 → v ≤ 15500288 * 40000 → n ≤ 60000 → p ≤ 60000 * 60000 → 128 * (k + 1) + v + 2048 * n + 2048 * p ≤ 2 ^ 63
    below k v n p a b c d = omega (arith, a, b, c, d)

pub exactly : (a b : ℕ) → a ≡ capped b → b ≤ 2 ^ 63 → a ≡ b
exactly a b e h = omega (arith, e, h)
