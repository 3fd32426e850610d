-- The entries of tests one after another.
use Rattle.std.proofs.Common.{◌≡◌, ℕ, Bool, true, false, not, ◌&&◌, if◌then◌else◌, List, [], ◌∷◌, ◌++◌, ℤ, pos, map, refl, sym, ap, ◌∙◌, append_assoc}
use Rattle.std.specs.Prelude.{filter}
use Rattle.std.proofs.lemmas.List.{append-nil}
use Rattle.stk_ctype.specs.declared.kind.IntKind.{IntKind}
use Rattle.stk_numbers.specs.declared.operators.ArithOp.{ArithOp}
use Rattle.stk_numbers.specs.declared.operators.ArithOp.TheVariants as arith_op
use Rattle.stk_numbers.specs.declared.conditions.UbKind.TheVariants as ub
use Rattle.stk_numbers.specs.declared.conditions.Kinds.{Kinds}
use Rattle.stk_numbers.specs.Taken.{is_taken}
use Rattle.stk_numbers.specs.Kinds.{wrap, is_signed}
use Rattle.stk_numbers.specs.Conditions.{violates, divides, leaves_memory}
use Rattle.stk_meaning.specs.declared.entry.Entry.{Entry}
use Rattle.stk_meaning.specs.declared.entry.Entry.TheVariants.{Ub}
use Rattle.stk_meaning.specs.Operations.{Test, tested, one_if, may_overflow, to_address}
use Rattle.stk_meaning.specs.Conditions.{violated, null_test, moved_test}
use Rattle.stk_operators.specs.declared.node_tests.NodeTests.TheVariants as node_tests
use Rattle.stk_operators.specs.declared.operators.Operation.TheVariants as operation
use Rattle.stk_operators.specs.Checked.{kept_tests, taken_up}

abbrev kept_of : Kinds → List Test → List Test
kept_of without ts = filter (λ t. not (is_taken without t.kind)) ts

abbrev broken_entry : ℕ → Test → ℤ → ℤ → ℤ → List Entry
broken_entry n t x y z = if t.broken x y z then Ub (record { node = n; kind = t.kind }) ∷ [] else []

-- the first test adds its own entry, unless its kind is taken out
pub first : (without : Kinds) (n : ℕ) (t : Test) (ts : List Test) (x y z : ℤ) → violated n (kept_of without (t ∷ ts)) x y z ≡ taken_up without n t.kind (t.broken x y z) ++ violated n (kept_of without ts) x y z
first without n t ts x y z = one (is_taken without t.kind)
  where
    one : (b : Bool) → violated n (if not b then t ∷ kept_of without ts else kept_of without ts) x y z ≡ (if b then [] else broken_entry n t x y z) ++ violated n (kept_of without ts) x y z
    one true = refl
    one false = refl

-- one test alone
pub only_one : (without : Kinds) (n : ℕ) (t : Test) (x y z : ℤ) → violated n (kept_of without (t ∷ [])) x y z ≡ taken_up without n t.kind (t.broken x y z)
only_one without n t x y z = first without n t [] x y z ∙ append-nil (taken_up without n t.kind (t.broken x y z))

abbrev if_asked : Bool → List Entry → List Entry
if_asked asked xs = if asked then xs else []

-- two tests, each where it is asked for
two_asked : (without : Kinds) (n : ℕ) (a b : Bool) (t u : Test) (x y z : ℤ) → violated n (kept_of without (one_if a t ++ one_if b u)) x y z ≡ if_asked a (taken_up without n t.kind (t.broken x y z)) ++ if_asked b (taken_up without n u.kind (u.broken x y z))
two_asked without n true true t u x y z = first without n t (u ∷ []) x y z ∙ ap (λ e. taken_up without n t.kind (t.broken x y z) ++ e) (only_one without n u x y z)
two_asked without n true false t u x y z = first without n t [] x y z
two_asked without n false true t u x y z = only_one without n u x y z
two_asked without n false false t u x y z = refl

joined : (old mid new a b whole : List Entry) → mid ≡ old ++ a → new ≡ mid ++ b → whole ≡ a ++ b → new ≡ old ++ whole
joined old mid new a b whole f g h = g ∙ ap (λ e. e ++ b) f ∙ append_assoc old a b ∙ ap (λ e. old ++ e) (sym h)

-- the two tests of an operator in a kind, on numbers that were converted to it
pub arithmetic_violated : (without : Kinds) (n : ℕ) (op : ArithOp) (k : IntKind) (x y z l r : ℤ) (asked divide over zero : Bool) (old mid new : List Entry) →
    l ≡ wrap k x → r ≡ wrap k y → asked ≡ (may_overflow op && is_signed k) → divide ≡ divides op → over ≡ violates ub.Overflow op k l r → zero ≡ violates ub.Zero op k l r →
    mid ≡ old ++ (if asked then taken_up without n ub.Overflow over else []) → new ≡ mid ++ (if divide then taken_up without n ub.Zero zero else []) →
    new ≡ old ++ violated n (kept_tests without (node_tests.Operation (operation.InKind op k))) x y z
arithmetic_violated without n op k x y z l r asked divide over zero old mid new same_l same_r a d o e f g =
    let over_is = o ∙ ap (λ u. violates ub.Overflow op k u r) same_l ∙ ap (λ u. violates ub.Overflow op k (wrap k x) u) same_r in
    let zero_is = e ∙ ap (λ u. violates ub.Zero op k u r) same_l ∙ ap (λ u. violates ub.Zero op k (wrap k x) u) same_r in
    let first_is = ap (λ u. if_asked u (taken_up without n ub.Overflow over)) a ∙ ap (λ u. if_asked (may_overflow op && is_signed k) (taken_up without n ub.Overflow u)) over_is in
    let second_is = ap (λ u. if_asked u (taken_up without n ub.Zero zero)) d ∙ ap (λ u. if_asked (divides op) (taken_up without n ub.Zero u)) zero_is in
    joined old mid new _ _ _ (f ∙ ap (λ u. old ++ u) first_is) (g ∙ ap (λ u. mid ++ u) second_is)
    (two_asked without n (may_overflow op && is_signed k) (divides op) (tested ub.Overflow (λ x y. violates ub.Overflow op k (wrap k x) (wrap k y))) (tested ub.Zero (λ x y. violates ub.Zero op k (wrap k x) (wrap k y))) x y z)

-- `-` is tested as 0 less its operand
pub negation_violated : (without : Kinds) (n : ℕ) (k : IntKind) (x y z : ℤ) → violated n (kept_tests without (node_tests.Operation (operation.InKind arith_op.Sub k))) (pos 0) x z ≡ violated n (kept_tests without (node_tests.Negation k)) x y z
negation_violated without n k x y z = one (is_signed k)
  where
    t : Test
    t = tested ub.Overflow (λ x y. violates ub.Overflow arith_op.Sub k (wrap k x) (wrap k y))

    u : Test
    u = tested ub.Zero (λ x y. violates ub.Zero arith_op.Sub k (wrap k x) (wrap k y))

    negated : Test → Test
    negated t = tested t.kind (λ x y. t.broken (pos 0) x (pos 0))

    one : (b : Bool) → violated n (kept_of without (one_if (true && b) t ++ one_if false u)) (pos 0) x z ≡ violated n (kept_of without (map negated (one_if (true && b) t ++ one_if false u))) x y z
    one true = only_one without n t (pos 0) x z ∙ sym (only_one without n (negated t) x y z)
    one false = refl

-- a pointer that may be null, moved by an index
pub target_moved_violated : (without : Kinds) (n size : ℕ) (x y z : ℤ) (null : Bool) (old mid new : List Entry) → null ≡ (null_test).broken x y z →
    mid ≡ old ++ taken_up without n ub.Null null → new ≡ mid ++ taken_up without n ub.Pointer (leaves_memory (to_address x) y size false) →
    new ≡ old ++ violated n (kept_tests without (node_tests.TargetMoved size)) x y z
target_moved_violated without n size x y z null old mid new is f g =
    joined old mid new _ _ _ (f ∙ ap (λ b. old ++ taken_up without n ub.Null b) is) g (first without n null_test (moved_test size ∷ []) x y z ∙ ap (λ e. taken_up without n ub.Null ((null_test).broken x y z) ++ e) (only_one without n (moved_test size) x y z))
