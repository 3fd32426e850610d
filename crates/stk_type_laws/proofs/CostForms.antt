-- What each form costs itself, beside what it pays with.
use Rattle.std.proofs.Common.{◌≡◌, ℕ, ◌+◌, ◌*◌, ◌≤◌, Bool, true, false, ◌&&◌, ◌==◌, [], ◌∷◌, Option, Some, None, refl, arith, length}
use Rattle.std.specs.Prelude.{if◌then◌else◌, max}
use Rattle.std.proofs.Math.Nat.{le-max_left, le-max_right, mul-le-mul_left, mul_assoc, mul_comm}
use Rattle.stk_base.specs.declared.span.Span.{Span}
use Rattle.stk_base.specs.Text.{text_of, same_text}
use Rattle.stk_ctype.specs.declared.kind.IntKind.{IntKind}
use Rattle.stk_ctype.specs.declared.kind.IntKind.TheVariants as kind
use Rattle.stk_ctype.specs.Types.{TypeTree, integer_type, SignatureTree}
use Rattle.stk_tree.specs.declared.expression.StepOp.{StepOp}
use Rattle.stk_tree.specs.declared.expression.StepOp.TheVariants as step
use Rattle.stk_tree.specs.Syntax.{ExprTree, TypeNameTree, BaseTree}
use Rattle.stk_tree.specs.Syntax as s
use Rattle.stk_tree.specs.Nodes.{base_nodes, expression_nodes, type_name_nodes}
use Rattle.stk_numbers.specs.declared.operators.ArithOp.{ArithOp}
use Rattle.stk_numbers.specs.declared.operators.ArithOp.TheVariants as arith_op
use Rattle.stk_numbers.specs.Kinds.{width_of, promote, common}
use Rattle.stk_type_rules.specs.Types.{kind_of}
use Rattle.stk_meaning.specs.Typings.{Typing, type_in, number_kind, stride_in}
use Rattle.stk_meaning.specs.Operations.{Operator, arithmetic, shifting, comparing, in_kind, arithmetic_of, comparison_kind, operation_of, step_operation}
use Rattle.stk_meaning.specs.Libraries.{Library, absolute_in, copy_bytes, is_absolute, is_copy, called_name, called_signature, library_at, called_library}
use Rattle.stk_meaning.specs.Replacements.{Replaced}
use Rattle.stk_meaning.specs.Places.{Setting, target_of}
use Rattle.stk_meaning.specs.Weights.{bits_in, operation_bits, operation_weight, step_weight, assigned_weight, greatest_bits, replaced_weight, library_weight, store_weight}
use Rattle.stk_values.specs.Charges.{wider, convert_charge, distance_charge}
use Rattle.stk_kinded.specs.Kinds.{operation_kind}
use Rattle.stk_spending.specs.Charges.{operated_charge, tests_charge, seen_charge, replaced_charge, read_charge, store_charge, argument_charge, call_charge}
use Rattle.stk_spending.specs.Expressions.{operator_spent, joined_spent, stored_spent, assigned_spent, kind_in}
use Rattle.stk_type_laws.proofs.KeyWeights.{width_most}
use Rattle.stk_type_laws.specs.Bits.{HasBits, OperandHasBits, AssignedHasBits}
use Rattle.stk_type_laws.proofs.CostNumbers.{wider_most, convert_most, promoted_free, common_free, promoted_least, common_least, read_most, store_most}

-- ---- numbers

square : (w v : ℕ) → w ≤ v → w * w ≤ v * v
square w v h = omega (arith, mul-le-mul_left w h, mul-le-mul_left v h, mul_comm w v)

large : (w : ℕ) → 32 ≤ w → 32 * w ≤ w * w
large w h = omega (arith, mul-le-mul_left w h)

multiplied : (w v : ℕ) → 32 ≤ w → w ≤ v → 6 * w * w + 6 * w + (24 * w * w + 20 * w + 3) ≤ 16 * v + 32 * v * v
multiplied w v l h = omega (arith, mul_assoc 6 w w, mul_assoc 24 w w, mul_assoc 32 v v, square w v h, large w l, h)

divided : (w v : ℕ) → 32 ≤ w → w ≤ v → 14 * w * w + 60 * w + 2 * (10 * w + 16 + 3) ≤ 16 * v + 32 * v * v
divided w v l h = omega (arith, mul_assoc 14 w w, mul_assoc 32 v v, square w v h, large w l, h)

-- ---- operations

-- an operator in a kind to which conversions are free, with its conditions
in_kind_fits : (op : ArithOp) (c a b : IntKind) (x : ℕ) → convert_charge a c ≡ 0 → convert_charge b c ≡ 0 → 32 ≤ width_of c → width_of c ≤ x
    → operated_charge (in_kind op c) a b + tests_charge (in_kind op c) a b ≤ operation_weight x (in_kind op c)
in_kind_fits arith_op.Add c a b x p q l h = omega (arith, p, q, l, h)
in_kind_fits arith_op.Sub c a b x p q l h = omega (arith, p, q, l, h)
in_kind_fits arith_op.Mul c a b x p q l h = omega (arith, p, q, multiplied (width_of c) x l h)
in_kind_fits arith_op.Div c a b x p q l h = omega (arith, p, q, divided (width_of c) x l h)
in_kind_fits arith_op.Rem c a b x p q l h = omega (arith, p, q, divided (width_of c) x l h)
in_kind_fits arith_op.And c a b x p q l h = omega (arith, p, q, l, h)
in_kind_fits arith_op.Xor c a b x p q l h = omega (arith, p, q, l, h)
in_kind_fits arith_op.Or c a b x p q l h = omega (arith, p, q, l, h)

distance_by : (b : Bool) → (if b then 704 else 64000) ≤ (if b then 1024 else 132096)
distance_by true = omega arith
distance_by false = omega arith

distance_fits : (size : ℕ) → distance_charge size ≤ (if size == 1 then 1024 else 132096)
distance_fits size = distance_by (size == 1)

arithmetic_fits : (op : ArithOp) (j k : Option IntKind) (m n : ℕ) (a b : IntKind) (x : ℕ) → operation_bits (arithmetic_of op j k m n) ≤ x
    → operated_charge (arithmetic_of op j k m n) a b + tests_charge (arithmetic_of op j k m n) a b ≤ operation_weight x (arithmetic_of op j k m n)
arithmetic_fits op (Some j) (Some k) m n a b x h = in_kind_fits op (common j k) a b x (common_free a j k) (common_free b j k) (common_least j k) h
arithmetic_fits op (Some j) None m n a b x h = omega arith
arithmetic_fits op None (Some k) m n a b x h = omega arith
arithmetic_fits op None None m n a b x h = omega (arith, distance_fits m)

comparison_fits : (j k : Option IntKind) (a b : IntKind) (x : ℕ) → width_of (comparison_kind j k) ≤ x → convert_charge a (comparison_kind j k) + convert_charge b (comparison_kind j k) + 10 * width_of (comparison_kind j k) ≤ 32 * x
comparison_fits (Some j) (Some k) a b x h = omega (arith, common_free a j k, common_free b j k, h)
comparison_fits (Some j) None a b x h = omega (arith, h)
comparison_fits None (Some k) a b x h = omega (arith, h)
comparison_fits None None a b x h = omega (arith, h)

shift_fits : (a b : IntKind) (x : ℕ) → width_of (promote a) ≤ x → width_of b ≤ x → convert_charge a (promote a) + 26 * wider (promote a) b + (10 * wider (promote a) b + 3) ≤ 48 * x
shift_fits a b x h s =
    let w = wider_most (promote a) b x h s in
    omega (arith, promoted_free a a, w, promoted_least a, h)

-- the width of a second operand, where it counts
abbrev pub CountsWithin : Operator → IntKind → ℕ → Type 0
CountsWithin (arithmetic op) b x = Unit {0}
CountsWithin (shifting op) b x = width_of b ≤ x
CountsWithin (comparing op) b x = Unit {0}

-- an operator on operands of two types, with its conditions, pays by a width that its operation has
pub operation_fits : (ty : Typing) (op : Operator) (t u : TypeTree) (x : ℕ) → operation_bits (operation_of ty op t u) ≤ x → CountsWithin op (number_kind u) x
    → operator_spent (operation_of ty op t u) (number_kind t) (number_kind u) ≤ operation_weight x (operation_of ty op t u)
operation_fits ty (arithmetic op) t u x h c = arithmetic_fits op (kind_of t) (kind_of u) (stride_in ty t) (stride_in ty u) (number_kind t) (number_kind u) x h
operation_fits ty (shifting op) t u x h c = shift_fits (number_kind t) (number_kind u) x h c
operation_fits ty (comparing op) t u x h c = omega (arith, comparison_fits (kind_of t) (kind_of u) (number_kind t) (number_kind u) x h)

arithmetic_least : (op : ArithOp) (j k : Option IntKind) (m n : ℕ) → 32 ≤ operation_bits (arithmetic_of op j k m n)
arithmetic_least op (Some j) (Some k) m n = common_least j k
arithmetic_least op (Some j) None m n = omega arith
arithmetic_least op None (Some k) m n = omega arith
arithmetic_least op None None m n = omega arith

comparison_least : (j k : Option IntKind) → 32 ≤ width_of (comparison_kind j k)
comparison_least (Some j) (Some k) = common_least j k
comparison_least (Some j) None = omega arith
comparison_least None (Some k) = omega arith
comparison_least None None = omega arith

operation_least : (ty : Typing) (op : Operator) (t u : TypeTree) → 32 ≤ operation_bits (operation_of ty op t u)
operation_least ty (arithmetic op) t u = arithmetic_least op (kind_of t) (kind_of u) (stride_in ty t) (stride_in ty u)
operation_least ty (shifting op) t u = promoted_least (number_kind t)
operation_least ty (comparing op) t u = comparison_least (kind_of t) (kind_of u)

-- ---- operators with two operands

counts_within : (ty : Typing) (op : Operator) (b : ExprTree) (x : ℕ) → OperandHasBits ty op b → bits_in (type_in ty b) ≤ x → CountsWithin op (number_kind (type_in ty b)) x
counts_within ty (arithmetic op) b x h l = tt
counts_within ty (shifting op) b x h l = omega (arith, h, l)
counts_within ty (comparing op) b x h l = tt

-- the greatest of three widths and another one
abbrev widest : ℕ → ℕ → ℕ → ℕ → ℕ
widest a b c d = max (greatest_bits a b c) d

widest_second : (a b c d : ℕ) → b ≤ widest a b c d
widest_second a b c d = omega (arith, le-max_left b c, le-max_right a (max b c), le-max_left (greatest_bits a b c) d)

widest_last : (a b c d : ℕ) → d ≤ widest a b c d
widest_last a b c d = le-max_right (greatest_bits a b c) d

pub operator_within : (ty : Typing) (op : Operator) (a b : ExprTree) (c : ℕ) → OperandHasBits ty op b →
    let how = operation_of ty op (type_in ty a) (type_in ty b) in
    operator_spent how (kind_in ty a) (kind_in ty b) ≤ operation_weight (widest (bits_in (type_in ty a)) (bits_in (type_in ty b)) c (operation_bits how)) how
operator_within ty op a b c h =
    let t = type_in ty a in
    let u = type_in ty b in
    let n = operation_bits (operation_of ty op t u) in
    let x = widest (bits_in t) (bits_in u) c n in
    operation_fits ty op t u x (widest_last (bits_in t) (bits_in u) c n) (counts_within ty op b x h (widest_second (bits_in t) (bits_in u) c n))

replaced_fits : (found : Option Replaced) → replaced_charge found + seen_charge found ≤ 6 + replaced_weight found
replaced_fits None = omega arith
replaced_fits (Some found) = omega arith

-- a comparison, whose operation is one that compares
pub compared_within : (op k found : ℕ) (o n x : ℕ) → o ≤ x → n ≤ 6 + found → o + n ≤ 112 + (x + found)
compared_within op k found o n x h l = omega (arith, h, l)

pub comparison_within : (ty : Typing) (j k : Option IntKind) (a b : IntKind) (found : Option Replaced) (x : ℕ) → width_of (comparison_kind j k) ≤ x
    → convert_charge a (comparison_kind j k) + convert_charge b (comparison_kind j k) + 10 * width_of (comparison_kind j k) + replaced_charge found + seen_charge found ≤ 112 + (32 * x + replaced_weight found)
comparison_within ty j k a b found x h = omega (arith, comparison_fits j k a b x h, replaced_fits found)

pub joined_within : (a b : IntKind) (m n c : ℕ) → width_of a ≤ m → width_of b ≤ n → joined_spent a b ≤ 224 + 32 * greatest_bits m n c
joined_within a b m n c h k = omega (arith, h, k, le-max_left m (max n c), le-max_right m (max n c), le-max_left n c)

-- ---- what stores

-- a read of a place, an operation, a conversion and a store
stored_by : (r o c t st w x sw : ℕ) → r ≤ 195 → o + t ≤ w → c ≤ 256 → st ≤ 195 + sw → 32 ≤ x → r + o + c + t + st ≤ 32 * x + w + sw
stored_by r o c t st w x sw h1 h2 h3 h4 h5 = omega (arith, h1, h2, h3, h4, h5)

narrow : (a b : IntKind) → convert_charge a b ≤ 256
narrow a b = omega (arith, convert_most a b, width_most a)

pub compound_within : (g : Setting) (a b : ExprTree) (op : Operator) → OperandHasBits g.typing op b →
    let how = operation_of g.typing op (type_in g.typing a) (type_in g.typing b) in
    let w = greatest_bits (bits_in (type_in g.typing a)) (bits_in (type_in g.typing b)) (operation_bits how) in
    stored_spent g a how (kind_in g.typing b) ≤ 32 * w + operation_weight w how + store_weight (length g.kept) (bits_in (type_in g.typing a)) (target_of g a)
compound_within g a b op h =
    let ty = g.typing in
    let t = type_in ty a in
    let u = type_in ty b in
    let how = operation_of ty op t u in
    let n = operation_bits how in
    let w = greatest_bits (bits_in t) (bits_in u) n in
    let second : bits_in u ≤ w = omega (arith, le-max_left (bits_in u) n, le-max_right (bits_in t) (max (bits_in u) n)) in
    let last : n ≤ w = omega (arith, le-max_right (bits_in u) n, le-max_right (bits_in t) (max (bits_in u) n)) in
    let fits = operation_fits ty op t u w last (counts_within ty op b w h second) in
    let wide : 32 ≤ w = omega (arith, operation_least ty op t u, last) in
    stored_by (read_charge (target_of g a) (number_kind t)) (operated_charge how (number_kind t) (number_kind u)) (convert_charge (operation_kind how) (number_kind t)) (tests_charge how (number_kind t) (number_kind u)) (store_charge (length g.kept) (target_of g a) (number_kind t))
    (operation_weight w how) w (store_weight (length g.kept) (bits_in t) (target_of g a)) (read_most (target_of g a) (number_kind t)) fits (narrow (operation_kind how) (number_kind t)) (store_most (length g.kept) (bits_in t) (target_of g a) (number_kind t)) wide

-- `++` and `--`
sum_costs : (c a b : IntKind) → convert_charge a c ≡ 0 → convert_charge b c ≡ 0 → operated_charge (in_kind arith_op.Add c) a b + tests_charge (in_kind arith_op.Add c) a b ≤ 20 * width_of c + 19
sum_costs c a b p q = omega (arith, p, q)

difference_costs : (c a b : IntKind) → convert_charge a c ≡ 0 → convert_charge b c ≡ 0 → operated_charge (in_kind arith_op.Sub c) a b + tests_charge (in_kind arith_op.Sub c) a b ≤ 20 * width_of c + 19
difference_costs c a b p q = omega (arith, p, q)

added_fits : (o : Option IntKind) (m n : ℕ) (a b : IntKind) (x r st sw : ℕ) → let how = arithmetic_of arith_op.Add o (Some kind.Int) m n in
    operation_bits how ≤ x → r ≤ 195 → st ≤ 195 + sw → r + operated_charge how a b + convert_charge (operation_kind how) a + tests_charge how a b + st ≤ 112 + (step_weight x how + sw)
added_fits (Some j) m n a b x r st sw h h1 h2 =
    omega (arith, sum_costs (common j kind.Int) a b (common_free a j kind.Int) (common_free b j kind.Int), narrow (common j kind.Int) a, common_least j kind.Int, h, h1, h2)
added_fits None m n a b x r st sw h h1 h2 = omega (arith, narrow kind.ULong a, h1, h2)

taken_fits : (o : Option IntKind) (m n : ℕ) (a b : IntKind) (x r st sw : ℕ) → let how = arithmetic_of arith_op.Sub o (Some kind.Int) m n in
    operation_bits how ≤ x → r ≤ 195 → st ≤ 195 + sw → r + operated_charge how a b + convert_charge (operation_kind how) a + tests_charge how a b + st ≤ 112 + (step_weight x how + sw)
taken_fits (Some j) m n a b x r st sw h h1 h2 =
    omega (arith, difference_costs (common j kind.Int) a b (common_free a j kind.Int) (common_free b j kind.Int), narrow (common j kind.Int) a, common_least j kind.Int, h, h1, h2)
taken_fits None m n a b x r st sw h h1 h2 = omega (arith, narrow kind.ULong a, h1, h2)

pub step_within : (g : Setting) (op : StepOp) (e : ExprTree) →
    let t = type_in g.typing e in
    let how = step_operation g.typing op t in
    stored_spent g e how kind.Int ≤ 112 + (step_weight (max (bits_in t) (operation_bits how)) how + store_weight (length g.kept) (bits_in t) (target_of g e))
step_within g step.IncBefore e =
    let ty = g.typing in
    let t = type_in ty e in
    let how = arithmetic_of arith_op.Add (kind_of t) (Some kind.Int) (stride_in ty t) (stride_in ty (integer_type kind.Int)) in
    added_fits (kind_of t) (stride_in ty t) (stride_in ty (integer_type kind.Int)) (number_kind t) kind.Int (max (bits_in t) (operation_bits how)) (read_charge (target_of g e) (number_kind t)) (store_charge (length g.kept) (target_of g e) (number_kind t)) (store_weight (length g.kept) (bits_in t) (target_of g e))
    (le-max_right (bits_in t) (operation_bits how)) (read_most (target_of g e) (number_kind t)) (store_most (length g.kept) (bits_in t) (target_of g e) (number_kind t))
step_within g step.DecBefore e =
    let ty = g.typing in
    let t = type_in ty e in
    let how = arithmetic_of arith_op.Sub (kind_of t) (Some kind.Int) (stride_in ty t) (stride_in ty (integer_type kind.Int)) in
    taken_fits (kind_of t) (stride_in ty t) (stride_in ty (integer_type kind.Int)) (number_kind t) kind.Int (max (bits_in t) (operation_bits how)) (read_charge (target_of g e) (number_kind t)) (store_charge (length g.kept) (target_of g e) (number_kind t)) (store_weight (length g.kept) (bits_in t) (target_of g e))
    (le-max_right (bits_in t) (operation_bits how)) (read_most (target_of g e) (number_kind t)) (store_most (length g.kept) (bits_in t) (target_of g e) (number_kind t))
step_within g step.IncAfter e =
    let ty = g.typing in
    let t = type_in ty e in
    let how = arithmetic_of arith_op.Add (kind_of t) (Some kind.Int) (stride_in ty t) (stride_in ty (integer_type kind.Int)) in
    added_fits (kind_of t) (stride_in ty t) (stride_in ty (integer_type kind.Int)) (number_kind t) kind.Int (max (bits_in t) (operation_bits how)) (read_charge (target_of g e) (number_kind t)) (store_charge (length g.kept) (target_of g e) (number_kind t)) (store_weight (length g.kept) (bits_in t) (target_of g e))
    (le-max_right (bits_in t) (operation_bits how)) (read_most (target_of g e) (number_kind t)) (store_most (length g.kept) (bits_in t) (target_of g e) (number_kind t))
step_within g step.DecAfter e =
    let ty = g.typing in
    let t = type_in ty e in
    let how = arithmetic_of arith_op.Sub (kind_of t) (Some kind.Int) (stride_in ty t) (stride_in ty (integer_type kind.Int)) in
    taken_fits (kind_of t) (stride_in ty t) (stride_in ty (integer_type kind.Int)) (number_kind t) kind.Int (max (bits_in t) (operation_bits how)) (read_charge (target_of g e) (number_kind t)) (store_charge (length g.kept) (target_of g e) (number_kind t)) (store_weight (length g.kept) (bits_in t) (target_of g e))
    (le-max_right (bits_in t) (operation_bits how)) (read_most (target_of g e) (number_kind t)) (store_most (length g.kept) (bits_in t) (target_of g e) (number_kind t))

-- `=`: the conversion and the store
pub plain_within : (g : Setting) (a b : ExprTree) → HasBits (type_in g.typing b) →
    assigned_spent g a b None ≤ 199 + (32 * max (bits_in (type_in g.typing a)) (bits_in (type_in g.typing b)) + store_weight (length g.kept) (bits_in (type_in g.typing a)) (target_of g a))
plain_within g a b h =
    let t = type_in g.typing a in
    let u = type_in g.typing b in
    omega (arith, convert_most (number_kind u) (number_kind t), h, le-max_right (bits_in t) (bits_in u), store_most (length g.kept) (bits_in t) (target_of g a) (number_kind t))

pub assigned_within : (g : Setting) (a b : ExprTree) (o : Option Operator) → AssignedHasBits g.typing o b →
    assigned_spent g a b o ≤ 199 + (assigned_weight g.typing o a b + store_weight (length g.kept) (bits_in (type_in g.typing a)) (target_of g a))
assigned_within g a b None h = plain_within g a b h
assigned_within g a b (Some op) h = omega (arith, compound_within g a b op h)

-- ---- calls

pub call_within : (kept : ℕ) (l : Option Library) → call_charge kept l ≤ 112 + (16 * kept + library_weight l)
call_within kept None = omega arith
call_within kept (Some (absolute_in k)) = omega arith
call_within kept (Some copy_bytes) = omega arith

named_free : (a b c d : Bool) →
    argument_charge (if a then Some (absolute_in kind.Int) else (if b then Some (absolute_in kind.Long) else (if c then Some (absolute_in kind.LLong) else (if d then Some copy_bytes else None)))) ≡ 0
named_free true b c d = refl
named_free false true c d = refl
named_free false false true d = refl
named_free false false false true = refl
named_free false false false false = refl

library_free : (ty : Typing) (name : Option Span) (f : Option SignatureTree) → argument_charge (library_at ty name f) ≡ 0
library_free ty (Some at) (Some f) =
    let name = text_of ty.bytes at in
    named_free (same_text name (97 ∷ 98 ∷ 115 ∷ []) && is_absolute kind.Int f) (same_text name (108 ∷ 97 ∷ 98 ∷ 115 ∷ []) && is_absolute kind.Long f) (same_text name (108 ∷ 108 ∷ 97 ∷ 98 ∷ 115 ∷ []) && is_absolute kind.LLong f)
    (same_text name (109 ∷ 101 ∷ 109 ∷ 99 ∷ 112 ∷ 121 ∷ []) && is_copy f)
library_free ty (Some at) None = refl
library_free ty None f = refl

-- an argument of a function of the library is converted to no `_Bool`
pub argument_free : (ty : Typing) (e : ExprTree) → argument_charge (called_library ty e) ≡ 0
argument_free ty e = library_free ty (called_name e) (called_signature ty e)

-- ---- nodes

pub one_node : (e : ExprTree) → 1 ≤ expression_nodes e
one_node (s.expression n f) = omega arith

base_node : (b : BaseTree) → 1 ≤ base_nodes b
base_node (s.base n f) = omega arith

pub two_nodes : (t : TypeNameTree) → 2 ≤ type_name_nodes t
two_nodes (s.type_name n b count ds) = omega (arith, base_node b)
