-- The tests of a node one by one, and its operands.
use Rattle.std.specs.Prelude.{ℕ, ◌≡◌, false, not, List, [], ◌∷◌, map, filter, Option, Some, None, ℤ, pos}
use Rattle.std.specs.Ordering.{int_eq}
use Rattle.stk_ctype.specs.declared.kind.IntKind.{IntKind}
use Rattle.stk_numbers.specs.declared.operators.ArithOp.TheVariants.{Sub}
use Rattle.stk_numbers.specs.declared.conditions.UbKind.TheVariants as ub
use Rattle.stk_numbers.specs.declared.conditions.Kinds.{Kinds}
use Rattle.stk_numbers.specs.Taken.{is_taken}
use Rattle.stk_numbers.specs.Kinds.{wrap, least}
use Rattle.stk_numbers.specs.Values.{is_oversized}
use Rattle.stk_numbers.specs.Conditions.{violates, leaves_memory, is_outside, overlaps}
use Rattle.stk_meaning.specs.Operations.{Test, tested, to_address}
use Rattle.stk_meaning.specs.Conditions.{null_test, conditions_of}
use Rattle.stk_operators.specs.declared.node_tests.NodeTests.{NodeTests}
use Rattle.stk_operators.specs.declared.node_tests.NodeTests.TheVariants as node_tests
use Rattle.stk_walking.specs.declared.state.Event.{Event}
use Rattle.stk_walking.specs.declared.state.Event.TheVariants.{Broken}
use Rattle.stk_walking.specs.declared.node_tests.Operands.{Operands}
use Rattle.stk_walking.specs.declared.node_tests.NodeTest.{NodeTest}
use Rattle.stk_walking.specs.declared.node_tests.NodeTest.TheVariants as node_test

-- a test in the table of conditions
abbrev pub test_of : NodeTest → Test
test_of (node_test.Arithmetic what op k) = tested what (λ x y. violates what op k (wrap k x) (wrap k y))
test_of (node_test.Negation what k) = tested what (λ x y. violates what Sub k (wrap k (pos 0)) (wrap k x))
test_of (node_test.Shift k) = tested ub.Shift (λ x y. is_oversized k y)
test_of (node_test.Move minus size) = tested ub.Pointer (λ x y. leaves_memory (to_address x) y size minus)
test_of (node_test.MoveBehind size) = tested ub.Pointer (λ x y. leaves_memory (to_address y) x size false)
test_of node_test.Null = null_test
test_of (node_test.Bounds count) = tested ub.Bounds (λ x y. is_outside y count)
test_of (node_test.Absolute k) = tested ub.AbsValue (λ x y. int_eq x (least k))
test_of node_test.Copy = record { kind = ub.Overlap; broken = λ x y z. overlaps (to_address x) (to_address y) (to_address z) }

-- the tests whose kinds aren't taken out
abbrev pub kept_of : Kinds → List Test → List Test
kept_of without tests = filter (λ t. not (is_taken without t.kind)) tests

-- the steps of tests at a node
abbrev pub test_events : ℕ → List Test → List Event
test_events k tests = map (λ c. Broken c) (conditions_of k tests)

-- a number that is tested to have an absolute value in a kind is of that kind
abbrev pub IsTestOf : IntKind → NodeTest → Type 0
IsTestOf j (node_test.Arithmetic what op k) = Unit {0}
IsTestOf j (node_test.Negation what k) = Unit {0}
IsTestOf j (node_test.Shift k) = Unit {0}
IsTestOf j (node_test.Move minus size) = Unit {0}
IsTestOf j (node_test.MoveBehind size) = Unit {0}
IsTestOf j node_test.Null = Unit {0}
IsTestOf j (node_test.Bounds count) = Unit {0}
IsTestOf j (node_test.Absolute k) = k ≡ j
IsTestOf j node_test.Copy = Unit {0}

-- the operands of a node were made
pub record OperandsMade {V : Type 0} (made : IntKind → V → Type 0) (xs : Operands V) : Type 0 where
  pub first : made xs.first.kind xs.first.value
  pub second : made xs.second.kind xs.second.value
  pub third : made xs.third.kind xs.third.value

-- and have these numbers
pub record OperandsShow {V : Type 0} (shows : IntKind → V → ℤ → Type 0) (xs : Operands V) (x y z : ℤ) : Type 0 where
  pub first : shows xs.first.kind xs.first.value x
  pub second : shows xs.second.kind xs.second.value y
  pub third : shows xs.third.kind xs.third.value z

-- ---- the tests that a node asks for

-- one that may be missing
abbrev pub maybe_tests : Option NodeTest → List Test
maybe_tests None = []
maybe_tests (Some t) = test_of t ∷ []

abbrev pub MaybeIsTestOf : IntKind → Option NodeTest → Type 0
MaybeIsTestOf j None = Unit {0}
MaybeIsTestOf j (Some t) = IsTestOf j t

-- the same of all that are asked for
abbrev pub IsAskedOf : IntKind → NodeTests → Type 0
IsAskedOf j node_tests.Nothing = Unit {0}
IsAskedOf j (node_tests.Operation operation) = Unit {0}
IsAskedOf j (node_tests.Negation k) = Unit {0}
IsAskedOf j node_tests.Target = Unit {0}
IsAskedOf j (node_tests.Moved size) = Unit {0}
IsAskedOf j (node_tests.TargetMoved size) = Unit {0}
IsAskedOf j (node_tests.Bounds count) = Unit {0}
IsAskedOf j (node_tests.Absolute k) = k ≡ j
IsAskedOf j node_tests.Copy = Unit {0}
