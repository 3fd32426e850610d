-- What the code's checks are in the table of conditions, and what one kind adds.
use Rattle.std.specs.Prelude.{ℕ, Bool, true, not, if◌then◌else◌, List, [], ◌∷◌, filter}
use Rattle.std.specs.Ordering.{int_eq}
use Rattle.stk_numbers.specs.declared.conditions.UbKind.{UbKind}
use Rattle.stk_numbers.specs.declared.conditions.UbKind.TheVariants as ub
use Rattle.stk_numbers.specs.declared.conditions.Condition.{Condition}
use Rattle.stk_numbers.specs.declared.conditions.Kinds.{Kinds}
use Rattle.stk_numbers.specs.Taken.{is_taken}
use Rattle.stk_numbers.specs.Kinds.{least}
use Rattle.stk_numbers.specs.Conditions.{is_outside, overlaps}
use Rattle.stk_meaning.specs.declared.entry.Entry.{Entry}
use Rattle.stk_meaning.specs.declared.entry.Entry.TheVariants.{Ub}
use Rattle.stk_meaning.specs.Operations.{Test, tested, operation_tests, to_address}
use Rattle.stk_meaning.specs.Conditions.{null_test, moved_test, unary_tests}
use Rattle.stk_tree.specs.declared.expression.UnaryOp.TheVariants as unary
use Rattle.stk_operators.specs.declared.node_tests.NodeTests.{NodeTests}
use Rattle.stk_operators.specs.declared.node_tests.NodeTests.TheVariants as node_tests
use Rattle.stk_operators.specs.Shown.{operation_shown}

-- the tests that are asked for
abbrev pub tests_of : NodeTests → List Test
tests_of node_tests.Nothing = []
tests_of (node_tests.Operation operation) = operation_tests (operation_shown operation)
tests_of (node_tests.Negation k) = unary_tests true k unary.Minus
tests_of node_tests.Target = null_test ∷ []
tests_of (node_tests.Moved size) = moved_test size ∷ []
tests_of (node_tests.TargetMoved size) = null_test ∷ moved_test size ∷ []
tests_of (node_tests.Bounds count) = tested ub.Bounds (λ x y. is_outside y count) ∷ []
tests_of (node_tests.Absolute k) = tested ub.AbsValue (λ x y. int_eq x (least k)) ∷ []
tests_of node_tests.Copy = record { kind = ub.Overlap; broken = λ x y z. overlaps (to_address x) (to_address y) (to_address z) } ∷ []

-- those of the kinds that aren't taken out
abbrev pub kept_tests : Kinds → NodeTests → List Test
kept_tests without c = filter (λ t. not (is_taken without t.kind)) (tests_of c)

-- a condition of a kind, unless the kind is taken out
abbrev pub named : Kinds → ℕ → UbKind → List Condition
named without k kind = if is_taken without kind then [] else record { node = k; kind = kind } ∷ []

-- the entry of a kind that is violated, unless the kind is taken out
abbrev pub taken_up : Kinds → ℕ → UbKind → Bool → List Entry
taken_up without k kind broken = if is_taken without kind then [] else (if broken then Ub (record { node = k; kind = kind }) ∷ [] else [])
