-- The tests of `-`, and operands that a store keeps.
use Rattle.std.proofs.Common.{◌≡◌, Bool, true, false, List, [], ◌++◌, map, ℤ, pos, refl, ap, ◌∙◌}
use Rattle.stk_ctype.specs.declared.kind.IntKind.{IntKind}
use Rattle.stk_numbers.specs.declared.operators.ArithOp.TheVariants.{Sub}
use Rattle.stk_numbers.specs.declared.conditions.UbKind.TheVariants as ub
use Rattle.stk_numbers.specs.Kinds.{wrap, is_signed}
use Rattle.stk_numbers.specs.Conditions.{violates}
use Rattle.stk_tree.specs.declared.expression.UnaryOp.TheVariants as unary
use Rattle.stk_meaning.specs.Operations.{Test, tested, one_if}
use Rattle.stk_meaning.specs.Conditions.{unary_tests}
use Rattle.stk_walking.specs.declared.node_tests.Operands.{Operands}
use Rattle.stk_walking.specs.declared.node_tests.NodeTest.TheVariants as node_test
use Rattle.stk_walking.specs.NodeTests.{test_of, OperandsShow}

negated_tests : (b : Bool) (k : IntKind) → one_if b (test_of (node_test.Negation ub.Overflow k)) ++ [] ≡ map (λ (t : Test). tested t.kind (λ x y. t.broken (pos 0) x (pos 0))) (one_if b (tested ub.Overflow (λ x y. violates ub.Overflow Sub k (wrap k x) (wrap k y))) ++ [])
negated_tests true k = refl
negated_tests false k = refl

pub negation_listed : (k : IntKind) (ts : List Test) → ts ≡ one_if (is_signed k) (test_of (node_test.Negation ub.Overflow k)) → ts ++ [] ≡ unary_tests true k unary.Minus
negation_listed k ts e = ap (λ (l : List Test). l ++ []) e ∙ negated_tests (is_signed k) k

pub operands_shown : {V : Type 0} (f h : IntKind → V → ℤ → Type 0) → ((k : IntKind) (v : V) (z : ℤ) → f k v z → h k v z) → (xs : Operands V) (x y z : ℤ) → OperandsShow f xs x y z → OperandsShow h xs x y z
operands_shown f h keep xs x y z a = record { first = keep xs.first.kind xs.first.value x a.first; second = keep xs.second.kind xs.second.value y a.second; third = keep xs.third.kind xs.third.value z a.third }
