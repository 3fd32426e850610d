-- What is asked of addresses isn't that they have an absolute value.
use Rattle.std.proofs.Common.{◌≡◌, ℕ, Bool, true, false, if◌then◌else◌, List, [], ◌∷◌, Option, Some, None, refl, sym, ap, ◌∙◌}
use Rattle.stk_ctype.specs.declared.kind.IntKind.{IntKind}
use Rattle.stk_ctype.specs.Types.{TypeTree}
use Rattle.stk_numbers.specs.declared.conditions.UbKind.{UbKind}
use Rattle.stk_numbers.specs.declared.conditions.UbKind.TheVariants as ub
use Rattle.stk_meaning.specs.Typings.{is_array, element_count}
use Rattle.stk_meaning.specs.Operations.{Test}
use Rattle.stk_meaning.specs.Conditions.{target_tests, array_tests, pointer_tests, index_tests}
use Rattle.stk_operators.specs.declared.node_tests.NodeTests.{NodeTests}
use Rattle.stk_operators.specs.declared.node_tests.NodeTests.TheVariants as node_tests
use Rattle.stk_operators.specs.Checked.{tests_of}
use Rattle.stk_walking.specs.NodeTests.{IsAskedOf}

abbrev first_kind : List Test → Option UbKind
first_kind [] = None
first_kind (t ∷ ts) = Some t.kind

asked_unless : (j : IntKind) (t : NodeTests) → (first_kind (tests_of t) ≡ Some ub.AbsValue → ⊥) → IsAskedOf j t
asked_unless j node_tests.Nothing h = tt
asked_unless j (node_tests.Operation operation) h = tt
asked_unless j (node_tests.Negation k) h = tt
asked_unless j node_tests.Target h = tt
asked_unless j (node_tests.Moved size) h = tt
asked_unless j (node_tests.TargetMoved size) h = tt
asked_unless j (node_tests.Bounds count) h = tt
asked_unless j (node_tests.Absolute k) h = absurd (h refl)
asked_unless j node_tests.Copy h = tt

of_target : (b : Bool) → first_kind (target_tests b) ≡ Some ub.AbsValue → ⊥
of_target true e = absurd cc
of_target false e = absurd cc

pub target_asked : (j : IntKind) (t : NodeTests) (b : Bool) → tests_of t ≡ target_tests b → IsAskedOf j t
target_asked j t b same = asked_unless j t (λ e. of_target b (ap first_kind (sym same) ∙ e))

of_index : (array accessed : Bool) (count : Option ℕ) (size : ℕ) → first_kind (if array then array_tests accessed count size else pointer_tests accessed size) ≡ Some ub.AbsValue → ⊥
of_index true true (Some n) size e = absurd cc
of_index true true None size e = absurd cc
of_index true false count size e = absurd cc
of_index false true count size e = absurd cc
of_index false false count size e = absurd cc

pub index_asked : (j : IntKind) (t : NodeTests) (accessed : Bool) (u : TypeTree) (size : ℕ) → tests_of t ≡ index_tests accessed u size → IsAskedOf j t
index_asked j t accessed u size same = asked_unless j t (λ e. of_index (is_array u) accessed (element_count u) size (ap first_kind (sym same) ∙ e))
