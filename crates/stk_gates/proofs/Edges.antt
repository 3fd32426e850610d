-- What edges mean.
use Rattle.std.proofs.Common.{◌≡◌, ℕ, ◌*◌, ◌/◌, ◌%◌, Bool, true, false, not, ◌&&◌, ◌||◌, if◌then◌else◌, refl, sym, ap, ◌∙◌, arith, nat_eq, eqb-true}
use Rattle.stk_gates.specs.declared.edge.Edge.{Edge}
use Rattle.stk_gates.specs.Tables.{Table, Obeys}
use Rattle.stk_gates.specs.Edges.{edge_value}

-- the edge of a gate that isn't inverted
pub edge_value-plain : (gates : ℕ → Bool) (n : ℕ) → edge_value gates (record { 0 = 2 * n }) ≡ gates n
edge_value-plain gates n =
    let half : 2 * n / 2 ≡ n = omega arith in
    let rest : 2 * n % 2 ≡ 0 = omega arith in
    ap (λ r. if nat_eq r 0 then gates (2 * n / 2) else not (gates (2 * n / 2))) rest ∙ ap gates half

-- the test of the map between pairs
abbrev pub same_pair : Edge × Edge → Edge × Edge → Bool
same_pair x y = nat_eq x.0.0 y.0.0 && nat_eq x.1.0 y.1.0

pub pair_is : (p q : Edge × Edge) → same_pair p q ≡ true → q ≡ p
pair_is p q h =
    let first : p.0.0 ≡ q.0.0 = eqb-true _ _ (and_left _ _ h) in
    let second : p.1.0 ≡ q.1.0 = eqb-true _ _ (and_right _ _ h) in
    sym (λ i. (record { 0 = first i }, record { 0 = second i }))
  where
    and_left : (a b : Bool) → a && b ≡ true → a ≡ true
    and_left true b e = refl
    and_left false b e = e

    and_right : (a b : Bool) → a && b ≡ true → b ≡ true
    and_right true b e = e
    and_right false b e = cc

pub edge_value-false : (t : Table) (gates : ℕ → Bool) → Obeys t gates → edge_value gates (record { 0 = 0 }) ≡ false
edge_value-false t gates o = o.constant

pub edge_value-true : (t : Table) (gates : ℕ → Bool) → Obeys t gates → edge_value gates (record { 0 = 1 }) ≡ true
edge_value-true t gates o = ap not o.constant

pub and_same : (x : Bool) → x && x ≡ x
and_same true = refl
and_same false = refl

pub and_not : (x : Bool) → not x && x ≡ false
and_not true = refl
and_not false = refl

pub and_false : (x : Bool) → x && false ≡ false
and_false true = refl
and_false false = refl

pub and_true : (x : Bool) → x && true ≡ x
and_true true = refl
and_true false = refl

pub and_turned : (x y : Bool) → x && y ≡ y && x
and_turned true y = sym (and_true y)
and_turned false y = sym (and_false y)

pub ruleset folds = (edge_value-false, edge_value-true, and_same, and_not, and_false, and_true, and_turned)

pub xor_of : (x y p q r : Bool) → p ≡ x && y → q ≡ x || y → r ≡ q && not p → r ≡ (if x then not y else y)
xor_of true y p q r e f g = g ∙ (λ i. f i && not (e i))
xor_of false y p q r e f g = g ∙ ((λ i. f i && not (e i)) ∙ and_true y)

pub mux_of : (t x y p q r : Bool) → p ≡ t && x → q ≡ not t && y → r ≡ p || q → r ≡ (if t then x else y)
mux_of true x y p q r e f g = g ∙ ((λ i. e i || f i) ∙ or_false x)
  where
    or_false : (x : Bool) → x || false ≡ x
    or_false true = refl
    or_false false = refl
mux_of false x y p q r e f g = g ∙ (λ i. e i || f i)
