-- What is asked of what is indexed, and what it costs.
use Rattle.std.proofs.Common.{◌≡◌, ◌≤◌, ℕ, ◌+◌, Bool, true, false, ◌&&◌, ◌++◌, List, [], ◌∷◌, map, Option, Some, None, refl, sym, ap, ◌∙◌, subst, arith}
use Rattle.std.specs.Prelude.{if◌then◌else◌}
use Rattle.stk_ctype.specs.declared.kind.IntKind.{IntKind}
use Rattle.stk_ctype.specs.Types.{TypeTree}
use Rattle.stk_numbers.specs.declared.conditions.UbKind.{UbKind}
use Rattle.stk_numbers.specs.declared.conditions.UbKind.TheVariants as ub
use Rattle.stk_numbers.specs.Kinds.{is_signed}
use Rattle.stk_numbers.specs.Conditions.{divides}
use Rattle.stk_meaning.specs.Typings.{is_array, element_count}
use Rattle.stk_meaning.specs.Operations.{Operation, in_kind, shift_in, compare_in, move, move_behind, measure, Test, one_if, may_overflow, operation_tests}
use Rattle.stk_meaning.specs.Conditions.{array_tests, pointer_tests, index_tests}
use Rattle.stk_operators.specs.declared.node_tests.NodeTests.{NodeTests}
use Rattle.stk_operators.specs.declared.node_tests.NodeTests.TheVariants as node_tests
use Rattle.stk_operators.specs.Shown.{operation_shown}
use Rattle.stk_operators.specs.Checked.{tests_of}
use Rattle.stk_spending.specs.Charges.{index_charge}
use Rattle.stk_walking.specs.Charges.{asked_charge}
use Rattle.stk_walk_values.specs.Indexed.{bounds_in, moved_tests}

abbrev kinds_in : List Test → List UbKind
kinds_in [] = []
kinds_in (t ∷ ts) = t.kind ∷ kinds_in ts

-- ---- nothing else asks for bounds

some_asked : (a b : Bool) (t u : Test) → t.kind ≡ ub.Overflow → u.kind ≡ ub.Zero → kinds_in (one_if a t ++ one_if b u) ≡ ub.Bounds ∷ [] → ⊥
some_asked true true t u h k e = absurd cc
some_asked true false t u h k e = absurd cc
some_asked false true t u h k e = absurd cc
some_asked false false t u h k e = absurd cc

operation_asks : (o : Operation) → kinds_in (operation_tests o) ≡ ub.Bounds ∷ [] → ⊥
operation_asks (in_kind op k) e = some_asked (may_overflow op && is_signed k) (divides op) _ _ refl refl e
operation_asks (shift_in op k) e = absurd cc
operation_asks (compare_in op k) e = absurd cc
operation_asks (move minus size) e = absurd cc
operation_asks (move_behind size) e = absurd cc
operation_asks (measure size) e = absurd cc

negation_by : (b : Bool) (t : Test) (f : Test → Test) → (f t).kind ≡ ub.Overflow → kinds_in (map f (one_if b t ++ [])) ≡ ub.Bounds ∷ [] → ⊥
negation_by true t f h e = absurd cc
negation_by false t f h e = absurd cc

negation_asks : (k : IntKind) → kinds_in (tests_of (node_tests.Negation k)) ≡ ub.Bounds ∷ [] → ⊥
negation_asks k e = negation_by (is_signed k) _ _ refl e

bounds_asked : (n : NodeTests) → bounds_in n ≡ None → kinds_in (tests_of n) ≡ ub.Bounds ∷ [] → ⊥
bounds_asked node_tests.Nothing h e = absurd cc
bounds_asked (node_tests.Operation operation) h e = operation_asks (operation_shown operation) e
bounds_asked (node_tests.Negation k) h e = negation_asks k e
bounds_asked node_tests.Target h e = absurd cc
bounds_asked (node_tests.Moved size) h e = absurd cc
bounds_asked (node_tests.TargetMoved size) h e = absurd cc
bounds_asked (node_tests.Bounds count) h e = absurd cc
bounds_asked (node_tests.Absolute k) h e = absurd cc
bounds_asked node_tests.Copy h e = absurd cc

-- ---- what is asked

pub bounds_are : (n : NodeTests) (count : ℕ) → bounds_in n ≡ Some count → tests_of (node_tests.Bounds count) ≡ tests_of n
bounds_are node_tests.Nothing count h = absurd cc
bounds_are (node_tests.Operation operation) count h = absurd cc
bounds_are (node_tests.Negation k) count h = absurd cc
bounds_are node_tests.Target count h = absurd cc
bounds_are (node_tests.Moved size) count h = absurd cc
bounds_are (node_tests.TargetMoved size) count h = absurd cc
bounds_are (node_tests.Bounds other) count h = ap (λ k. tests_of (node_tests.Bounds k)) (some_one h)
  where
    some_one : Some other ≡ Some count → count ≡ other
    some_one e = cc
bounds_are (node_tests.Absolute k) count h = absurd cc
bounds_are node_tests.Copy count h = absurd cc

moves_by : (n : NodeTests) → bounds_in n ≡ None → (array accessed : Bool) (count : Option ℕ) (size : ℕ) → tests_of n ≡ (if array then array_tests accessed count size else pointer_tests accessed size) →
    tests_of (moved_tests accessed array size) ≡ (if array then array_tests accessed count size else pointer_tests accessed size)
moves_by n none true true (Some c) size e = absurd (bounds_asked n none (ap kinds_in e))
moves_by n none true true None size e = refl
moves_by n none true false count size e = refl
moves_by n none false true count size e = refl
moves_by n none false false count size e = refl

pub moves_are : (n : NodeTests) → bounds_in n ≡ None → (accessed : Bool) (t : TypeTree) (size : ℕ) → tests_of n ≡ index_tests accessed t size → tests_of (moved_tests accessed (is_array t) size) ≡ index_tests accessed t size
moves_are n none accessed t size e = moves_by n none (is_array t) accessed (element_count t) size e

-- ---- what it costs

pub bounds_charged : (count : ℕ) (a b : IntKind) (size : ℕ) → asked_charge (node_tests.Bounds count) a b ≤ index_charge a size
bounds_charged count a b size = omega arith

pub moves_charged : (accessed array : Bool) (size : ℕ) (a b : IntKind) → asked_charge (moved_tests accessed array size) a b ≤ index_charge a size
moves_charged true true size a b = omega arith
moves_charged true false size a b = omega arith
moves_charged false true size a b = omega arith
moves_charged false false size a b = omega arith
