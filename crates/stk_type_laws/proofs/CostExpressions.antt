-- What an expression costs as a value and as a place, beside what its nodes and its visits weigh. Some leaf of each
-- expression has 112 to spare, which serves the nodes with two operands above it.
use Rattle.std.proofs.Common.{◌≡◌, ℕ, ◌+◌, ◌*◌, ◌≤◌, Bool, true, false, Option, Some, None, ℤ, refl, arith, length}
use Rattle.std.specs.Prelude.{if◌then◌else◌, max, count_ones}
use Rattle.std.specs.Int.Count.{ones}
use Rattle.std.proofs.Math.Nat.{le-max_left, le-max_right}
use Rattle.stk_ctype.specs.declared.kind.IntKind.{IntKind}
use Rattle.stk_tree.specs.declared.expression.UnaryOp.{UnaryOp}
use Rattle.stk_tree.specs.declared.expression.UnaryOp.TheVariants as unary
use Rattle.stk_tree.specs.declared.expression.BinaryOp.{BinaryOp}
use Rattle.stk_tree.specs.declared.expression.BinaryOp.TheVariants as binary
use Rattle.stk_tree.specs.Syntax.{ExprTree, ExprTrees, MaybeExprTree, ExprFormTree}
use Rattle.stk_tree.specs.Syntax as s
use Rattle.stk_tree.specs.Nodes.{expression_nodes, expression_form_nodes, expressions_nodes, maybe_expression_nodes}
use Rattle.stk_numbers.specs.Kinds.{width_of, is_bool, promote}
use Rattle.stk_type_rules.specs.Types.{kind_of}
use Rattle.stk_meaning.specs.Typings.{Typing, type_in, number_kind, is_array, stride_in}
use Rattle.stk_meaning.specs.Operations.{arithmetic, shifting, comparing, comparison_kind, BinarySort, operates, joins, or_else, and_also, sort_of, assigned_operator}
use Rattle.stk_meaning.specs.Libraries.{Library, called_library}
use Rattle.stk_meaning.specs.Replacements.{replacement}
use Rattle.stk_meaning.specs.Places.{Setting, Target, target_of, form_target}
use Rattle.stk_meaning.specs.Visits.{Use, read, accessed, taken, Role, reading, taking, as_arm, as_test, inner_role, inside, unary_role, left_role, right_role, assigned_role, expression_visits, form_visits, arguments_visits, maybe_visits}
use Rattle.stk_meaning.specs.Weights.{bits_in, greatest_bits, read_weight, binary_weight, unary_weight, form_weight, compared_weight, evaluated_weight, visits_weight}
use Rattle.stk_run_laws.specs.Visits.{EachVisit}
use Rattle.stk_values.specs.Charges.{convert_charge, move_charge}
use Rattle.stk_spending.specs.Charges.{index_charge, null_charge, argument_charge}
use Rattle.stk_spending.specs.Expressions.{Spent, kind_in, kind_at, name_spent, binary_spent, unary_spent, choice_spent, expression_spent, form_spent, arguments_spent, maybe_spent}
use Rattle.stk_type_laws.proofs.KeyWeights.{width_most}
use Rattle.stk_type_laws.specs.Bits.{HasBits, NameHasBits, UnaryHasBits, BinaryHasBits, FormHasBits, VisitHasBits}
use Rattle.stk_type_laws.proofs.CostNumbers.{convert_none, convert_most, promoted_free, promoted_least, member_free, read_within}
use Rattle.stk_type_laws.proofs.CostForms.{operator_within, comparison_within, joined_within, step_within, assigned_within, call_within, argument_free, one_node, two_nodes}

-- ---- each form by itself

name_place : (g : Setting) (k : ℕ) (t : Target) (z : Option ℤ) → (name_spent g k t z).place ≡ 0
name_place g k t None = refl
name_place g k t (Some z) = refl

name_read : (ty : Typing) (k : ℕ) (u : Use) → u ≡ read → NameHasBits ty k u None → HasBits (ty.type_at k)
name_read ty k read e h = h
name_read ty k accessed e h = absurd cc
name_read ty k taken e h = absurd cc

name_value : (g : Setting) (k : ℕ) (u : Use) (t : Target) (z : Option ℤ) → u ≡ read → NameHasBits g.typing k u z → (name_spent g k t z).value ≤ read_weight g.typing k u t
name_value g k u t None e h = omega (arith, read_within g.typing k u t e (name_read g.typing k u e h))
name_value g k u t (Some z) e h = omega arith

index_own : (k : IntKind) (size : ℕ) → move_charge size + index_charge k size ≤ 112 + (2048 + 2048 * count_ones size)
index_own k size = omega (arith, width_most k)

null_own : (k : IntKind) → null_charge k ≤ 643
null_own k = omega (arith, width_most k)

-- the face of the operand of a unary operator: an address is taken of a place
abbrev unary_face : UnaryOp → Spent → ℕ
unary_face unary.Address x = x.place
unary_face unary.Deref x = x.value
unary_face unary.Plus x = x.value
unary_face unary.Minus x = x.value
unary_face unary.Flip x = x.value
unary_face unary.Not x = x.value

unary_value : (g : Setting) (k : ℕ) (op : UnaryOp) (e : ExprTree) (x : Spent) (n w : ℕ) → UnaryHasBits g.typing k op e
    → (unary_face op x) + 112 ≤ 112 * n + w
    → (unary_spent g k op (kind_in g.typing e) x).value + 112 ≤ 112 * (n + 1) + (w + (unary_weight (max (bits_in (type_in g.typing e)) (bits_in (g.typing.type_at k))) op + 0))
unary_value g k unary.Address e x n w h i = omega (arith, i)
unary_value g k unary.Deref e x n w h i = omega (arith, i, null_own (kind_in g.typing e))
unary_value g k unary.Plus e x n w h i = omega (arith, i, convert_none (kind_in g.typing e) (kind_at g.typing k) h)
unary_value g k unary.Minus e x n w h i =
    let a = kind_in g.typing e in
    omega (arith, i, h, promoted_free (promote a) a, promoted_free a a, promoted_least a, le-max_right (bits_in (type_in g.typing e)) (bits_in (g.typing.type_at k)))
unary_value g k unary.Flip e x n w h i =
    let a = kind_in g.typing e in
    omega (arith, i, h, promoted_free a a, le-max_right (bits_in (type_in g.typing e)) (bits_in (g.typing.type_at k)))
unary_value g k unary.Not e x n w h i = omega (arith, i, h, le-max_left (bits_in (type_in g.typing e)) (bits_in (g.typing.type_at k)))

unary_place : (g : Setting) (k : ℕ) (op : UnaryOp) (e : ExprTree) (x : Spent) (n w : ℕ) → (unary_face op x) + 112 ≤ 112 * n + w
    → (unary_spent g k op (kind_in g.typing e) x).place + 112 ≤ 112 * (n + 1) + (w + (unary_weight (max (bits_in (type_in g.typing e)) (bits_in (g.typing.type_at k))) op + 0))
unary_place g k unary.Address e x n w i = omega arith
unary_place g k unary.Deref e x n w i = omega (arith, i, null_own (kind_in g.typing e))
unary_place g k unary.Plus e x n w i = omega arith
unary_place g k unary.Minus e x n w i = omega arith
unary_place g k unary.Flip e x n w i = omega arith
unary_place g k unary.Not e x n w i = omega arith

sort_own : (ty : Typing) (k : ℕ) (x : BinarySort) (a b : ExprTree) → BinaryHasBits ty x a b → binary_spent ty a b x ≤ 224 + (binary_weight ty k x a b + compared_weight ty x a b)
sort_own ty k (operates (arithmetic op)) a b h = omega (arith, operator_within ty (arithmetic op) a b (bits_in (ty.type_at k)) h)
sort_own ty k (operates (shifting op)) a b h = omega (arith, operator_within ty (shifting op) a b (bits_in (ty.type_at k)) h)
sort_own ty k (operates (comparing op)) a b h =
    let t = type_in ty a in
    let u = type_in ty b in
    let n = width_of (comparison_kind (kind_of t) (kind_of u)) in
    let g = greatest_bits (bits_in t) (bits_in u) (bits_in (ty.type_at k)) in
    omega (arith, comparison_within ty (kind_of t) (kind_of u) (number_kind t) (number_kind u) (replacement ty a b) (max g n) (le-max_right g n))
sort_own ty k joins a b h = omega arith
sort_own ty k or_else a b h = omega (arith, joined_within (kind_in ty a) (kind_in ty b) (bits_in (type_in ty a)) (bits_in (type_in ty b)) (bits_in (ty.type_at k)) h.0 h.1)
sort_own ty k and_also a b h = omega (arith, joined_within (kind_in ty a) (kind_in ty b) (bits_in (type_in ty a)) (bits_in (type_in ty b)) (bits_in (ty.type_at k)) h.0 h.1)

choice_own : (ty : Typing) (k : ℕ) (a b c : ExprTree) (m : ℕ) → HasBits (type_in ty a) → is_bool (kind_at ty k) ≡ false
    → choice_spent (kind_at ty k) (kind_in ty a) (kind_in ty b) (kind_in ty c) ≤ 336 + 32 * max (bits_in (type_in ty a)) m
choice_own ty k a b c m h e =
    omega (arith, h, convert_none (kind_in ty b) (kind_at ty k) e, convert_none (kind_in ty c) (kind_at ty k) e, width_most (kind_at ty k), le-max_left (bits_in (type_in ty a)) m)

cast_own : (a k : IntKind) → convert_charge a k ≤ 256
cast_own a k = omega (arith, convert_most a k, width_most a)

left_reads : (op : BinaryOp) → (left_role op).use_of ≡ read
left_reads binary.Comma = refl
left_reads binary.OrElse = refl
left_reads binary.AndAlso = refl
left_reads binary.Or = refl
left_reads binary.Xor = refl
left_reads binary.And = refl
left_reads binary.Eq = refl
left_reads binary.Ne = refl
left_reads binary.Lt = refl
left_reads binary.Gt = refl
left_reads binary.Le = refl
left_reads binary.Ge = refl
left_reads binary.Left = refl
left_reads binary.Right = refl
left_reads binary.Add = refl
left_reads binary.Sub = refl
left_reads binary.Mul = refl
left_reads binary.Div = refl
left_reads binary.Rem = refl

right_reads : (op : BinaryOp) → (right_role op).use_of ≡ read
right_reads binary.Comma = refl
right_reads binary.OrElse = refl
right_reads binary.AndAlso = refl
right_reads binary.Or = refl
right_reads binary.Xor = refl
right_reads binary.And = refl
right_reads binary.Eq = refl
right_reads binary.Ne = refl
right_reads binary.Lt = refl
right_reads binary.Gt = refl
right_reads binary.Le = refl
right_reads binary.Ge = refl
right_reads binary.Left = refl
right_reads binary.Right = refl
right_reads binary.Add = refl
right_reads binary.Sub = refl
right_reads binary.Mul = refl
right_reads binary.Div = refl
right_reads binary.Rem = refl

-- ---- operands, by the face that is asked

indexed_face : (g : Setting) (a : ExprTree) (b : Bool) (r1 r2 : Role) (x : Spent) → (EachVisit (VisitHasBits g.typing) (expression_visits g.typing r1 a) → x.place + 112 ≤ 112 * expression_nodes a + visits_weight g true (expression_visits g.typing r1 a))
    → (EachVisit (VisitHasBits g.typing) (expression_visits g.typing r2 a) → x.value + 112 ≤ 112 * expression_nodes a + visits_weight g true (expression_visits g.typing r2 a)) → EachVisit (VisitHasBits g.typing) (expression_visits g.typing (if b then r1 else r2) a)
    → (if b then x.place else x.value) + 112 ≤ 112 * expression_nodes a + visits_weight g true (expression_visits g.typing (if b then r1 else r2) a)
indexed_face g a true r1 r2 x p q h = p h
indexed_face g a false r1 r2 x p q h = q h

unary_operand : (g : Setting) (op : UnaryOp) (e : ExprTree) (x : Spent) → (EachVisit (VisitHasBits g.typing) (expression_visits g.typing taking e) → x.place + 112 ≤ 112 * expression_nodes e + visits_weight g true (expression_visits g.typing taking e))
    → (EachVisit (VisitHasBits g.typing) (expression_visits g.typing reading e) → x.value + 112 ≤ 112 * expression_nodes e + visits_weight g true (expression_visits g.typing reading e)) → EachVisit (VisitHasBits g.typing) (expression_visits g.typing (unary_role op) e)
    → unary_face op x + 112 ≤ 112 * expression_nodes e + visits_weight g true (expression_visits g.typing (unary_role op) e)
unary_operand g unary.Address e x p q h = p h
unary_operand g unary.Deref e x p q h = q h
unary_operand g unary.Plus e x p q h = q h
unary_operand g unary.Minus e x p q h = q h
unary_operand g unary.Flip e x p q h = q h
unary_operand g unary.Not e x p q h = q h

-- ---- all expressions

mutual
  pub value_within : (g : Setting) (role : Role) (e : ExprTree) → role.use_of ≡ read → EachVisit (VisitHasBits g.typing) (expression_visits g.typing role e)
      → (expression_spent g e).value + 112 ≤ 112 * expression_nodes e + visits_weight g true (expression_visits g.typing role e)
  value_within g role (s.expression n f) u h = form_value g n.number role f u h.0 h.1

  form_value : (g : Setting) (k : ℕ) (role : Role) (f : ExprFormTree) → role.use_of ≡ read → EachVisit (VisitHasBits g.typing) (form_visits g.typing k role f) → FormHasBits g.typing k role f
      → (form_spent g k f).value + 112 ≤ 112 * (expression_form_nodes f + 1) + (visits_weight g true (form_visits g.typing k role f) + (form_weight g.typing k f + evaluated_weight g k role f))
  form_value g k role (s.name at) u h o = omega (arith, name_value g k role.use_of (form_target g k (s.name at)) (g.typing.number_at k) u o)
  form_value g k role (s.number at) u h o = omega arith
  form_value g k role (s.character at) u h o = omega arith
  form_value g k role (s.text parts) u h o = omega arith
  form_value g k role (s.paren e) u h o = omega (arith, value_within g (inside role) e u h)
  form_value g k role (s.index a b) u h o =
      let whole = g.typing.type_at k in
      let t = type_in g.typing a in
      let first = indexed_face g a (is_array t) (inner_role whole role.use_of) reading (expression_spent g a) (λ p. place_within g (inner_role whole role.use_of) a p) (λ p. value_within g reading a refl p) h.0 in
      omega (arith, first, value_within g reading b refl h.1, index_own (kind_in g.typing a) (stride_in g.typing t))
  form_value g k role (s.call e es) u h o =
      omega (arith, arguments_within g (called_library g.typing e) es (argument_free g.typing e) h, call_within (length g.kept) (called_library g.typing e), one_node e)
  form_value g k role (s.dot e at) u h o =
      omega (arith, place_within g (inner_role (g.typing.type_at k) role.use_of) e h, member_free (target_of g e) (kind_at g.typing k))
  form_value g k role (s.arrow e at) u h o = omega (arith, value_within g reading e refl h, null_own (kind_in g.typing e))
  form_value g k role (s.step op e) u h o = omega (arith, place_within g reading e h, step_within g op e)
  form_value g k role (s.unary op e) u h o =
      unary_value g k op e (expression_spent g e) (expression_nodes e) (visits_weight g true (expression_visits g.typing (unary_role op) e)) o
      (unary_operand g op e (expression_spent g e) (λ p. place_within g taking e p) (λ p. value_within g reading e refl p) h)
  form_value g k role (s.size_expression e) u h o = omega arith
  form_value g k role (s.size_name t) u h o = omega arith
  form_value g k role (s.cast t e) u h o = omega (arith, value_within g reading e refl h.1, cast_own (kind_in g.typing e) (kind_at g.typing k), two_nodes t)
  form_value g k role (s.binary op a b) u h o =
      omega (arith, value_within g (left_role op) a (left_reads op) h.0, value_within g (right_role op) b (right_reads op) h.1, sort_own g.typing k (sort_of op) a b o)
  form_value g k role (s.choice a b c) u h o =
      omega (
        arith,
        value_within g as_test a refl h.0,
        value_within g as_arm b refl h.1.0,
        value_within g as_arm c refl h.1.1,
        choice_own g.typing k a b c (greatest_bits (bits_in (type_in g.typing b)) (bits_in (type_in g.typing c)) (bits_in (g.typing.type_at k))) o.0 o.1,
      )
  form_value g k role (s.assign op a b) u h o =
      omega (arith, place_within g (assigned_role op) a h.0, value_within g reading b refl h.1, assigned_within g a b (assigned_operator op) o)

  pub place_within : (g : Setting) (role : Role) (e : ExprTree) → EachVisit (VisitHasBits g.typing) (expression_visits g.typing role e)
      → (expression_spent g e).place + 112 ≤ 112 * expression_nodes e + visits_weight g true (expression_visits g.typing role e)
  place_within g role (s.expression n f) h = form_place g n.number role f h.0

  form_place : (g : Setting) (k : ℕ) (role : Role) (f : ExprFormTree) → EachVisit (VisitHasBits g.typing) (form_visits g.typing k role f)
      → (form_spent g k f).place + 112 ≤ 112 * (expression_form_nodes f + 1) + (visits_weight g true (form_visits g.typing k role f) + (form_weight g.typing k f + evaluated_weight g k role f))
  form_place g k role (s.name at) h = omega (arith, name_place g k (form_target g k (s.name at)) (g.typing.number_at k))
  form_place g k role (s.number at) h = omega arith
  form_place g k role (s.character at) h = omega arith
  form_place g k role (s.text parts) h = omega arith
  form_place g k role (s.paren e) h = omega (arith, place_within g (inside role) e h)
  form_place g k role (s.index a b) h =
      let whole = g.typing.type_at k in
      let t = type_in g.typing a in
      let first = indexed_face g a (is_array t) (inner_role whole role.use_of) reading (expression_spent g a) (λ p. place_within g (inner_role whole role.use_of) a p) (λ p. value_within g reading a refl p) h.0 in
      omega (arith, first, value_within g reading b refl h.1, index_own (kind_in g.typing a) (stride_in g.typing t))
  form_place g k role (s.call e es) h = omega arith
  form_place g k role (s.dot e at) h = omega (arith, place_within g (inner_role (g.typing.type_at k) role.use_of) e h)
  form_place g k role (s.arrow e at) h = omega (arith, value_within g reading e refl h, null_own (kind_in g.typing e))
  form_place g k role (s.step op e) h = omega arith
  form_place g k role (s.unary op e) h =
      unary_place g k op e (expression_spent g e) (expression_nodes e) (visits_weight g true (expression_visits g.typing (unary_role op) e))
      (unary_operand g op e (expression_spent g e) (λ p. place_within g taking e p) (λ p. value_within g reading e refl p) h)
  form_place g k role (s.size_expression e) h = omega arith
  form_place g k role (s.size_name t) h = omega arith
  form_place g k role (s.cast t e) h = omega arith
  form_place g k role (s.binary op a b) h = omega arith
  form_place g k role (s.choice a b c) h = omega arith
  form_place g k role (s.assign op a b) h = omega arith

  arguments_within : (g : Setting) (l : Option Library) (es : ExprTrees) → argument_charge l ≡ 0 → EachVisit (VisitHasBits g.typing) (arguments_visits g.typing es)
      → arguments_spent g l es ≤ 112 * expressions_nodes es + visits_weight g true (arguments_visits g.typing es)
  arguments_within g l s.no_expressions e h = omega arith
  arguments_within g l (s.then_expression x xs) e h = omega (arith, value_within g reading x refl h.0, arguments_within g l xs e h.1, e)

-- one that may be missing
pub maybe_within : (g : Setting) (role : Role) (e : MaybeExprTree) → role.use_of ≡ read → EachVisit (VisitHasBits g.typing) (maybe_visits g.typing role e)
    → maybe_spent g e ≤ 112 * maybe_expression_nodes e + visits_weight g true (maybe_visits g.typing role e)
maybe_within g role s.no_expression u h = omega arith
maybe_within g role (s.some_expression e) u h = omega (arith, value_within g role e u h)
