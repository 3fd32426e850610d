-- What the tests of a node may cost at most, by the kinds of its first two operands; each has a step, with a guard
-- beside its test, which is 3.
use Rattle.std.specs.Prelude.{ℕ, ◌+◌, ◌*◌, Option, Some, None}
use Rattle.stk_ctype.specs.declared.kind.IntKind.{IntKind}
use Rattle.stk_numbers.specs.declared.operators.ArithOp.TheVariants.{Sub}
use Rattle.stk_numbers.specs.Kinds.{width_of}
use Rattle.stk_operators.specs.Shown.{operation_shown}
use Rattle.stk_operators.specs.declared.node_tests.NodeTests.{NodeTests}
use Rattle.stk_operators.specs.declared.node_tests.NodeTests.TheVariants as node_tests
use Rattle.stk_values.specs.Charges.{wider, convert_charge, breaks_charge, move_charge}
use Rattle.stk_spending.specs.Charges.{tests_charge, null_charge}
use Rattle.stk_walking.specs.declared.node_tests.NodeTest.{NodeTest}
use Rattle.stk_walking.specs.declared.node_tests.NodeTest.TheVariants as node_test

-- the value of a test
abbrev pub test_charge : NodeTest → IntKind → IntKind → ℕ
test_charge (node_test.Arithmetic what op k) a b = convert_charge a k + convert_charge b k + breaks_charge op (width_of k)
test_charge (node_test.Negation what k) a b = convert_charge k k + convert_charge a k + breaks_charge Sub (width_of k)
test_charge (node_test.Shift k) a b = 10 * wider k b
test_charge (node_test.Move minus size) a b = move_charge size + 512
test_charge (node_test.MoveBehind size) a b = move_charge size + 512
test_charge node_test.Null a b = 10 * width_of a
test_charge (node_test.Bounds count) a b = 704
test_charge (node_test.Absolute k) a b = 10 * width_of a
test_charge node_test.Copy a b = 2752

-- the step of a test that may be missing
abbrev pub maybe_charge : Option NodeTest → IntKind → IntKind → ℕ
maybe_charge None a b = 0
maybe_charge (Some t) a b = test_charge t a b + 3

-- the step that `-` overflows a kind
abbrev pub negation_charge : IntKind → IntKind → ℕ
negation_charge k a = convert_charge k k + convert_charge a k + breaks_charge Sub (width_of k) + 3

-- the steps of what is asked of a node
abbrev pub asked_charge : NodeTests → IntKind → IntKind → ℕ
asked_charge node_tests.Nothing a b = 0
asked_charge (node_tests.Operation operation) a b = tests_charge (operation_shown operation) a b
asked_charge (node_tests.Negation k) a b = negation_charge k a
asked_charge node_tests.Target a b = null_charge a
asked_charge (node_tests.Moved size) a b = move_charge size + 515
asked_charge (node_tests.TargetMoved size) a b = null_charge a + (move_charge size + 515)
asked_charge (node_tests.Bounds count) a b = 707
asked_charge (node_tests.Absolute k) a b = 10 * width_of a + 3
asked_charge node_tests.Copy a b = 2755
