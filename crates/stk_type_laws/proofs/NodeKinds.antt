-- The kinds that the rules of typing give, form by form, and what is stored to.
use Rattle.std.proofs.Common.{◌≡◌, ℕ, zero, suc, ◌+◌, ◌==◌, ◌≤◌, Bool, true, false, ◌&&◌, ◌||◌, List, [], ◌∷◌, Option, Some, None, refl, sym, ap, ◌∙◌, subst, inl, inr, get_or, arith}
use Rattle.std.specs.Prelude.{if◌then◌else◌}
use Rattle.std.specs.Option.{is_some}
use Rattle.std.proofs.lemmas.Grind.{common_steps}
use Rattle.stk_ctype.specs.declared.kind.IntKind.{IntKind}
use Rattle.stk_ctype.specs.declared.kind.IntKind.TheVariants.{Int, Long, ULong}
use Rattle.stk_ctype.specs.Types.{TypeTree, void_type, integer_type, pointer_type, array_type, struct_type, function_type}
use Rattle.stk_ctype.specs.Structs.{Structs}
use Rattle.stk_tree.specs.declared.expression.UnaryOp.TheVariants as unary
use Rattle.stk_tree.specs.declared.expression.BinaryOp.{BinaryOp}
use Rattle.stk_tree.specs.declared.expression.BinaryOp.TheVariants as binary
use Rattle.stk_tree.specs.declared.expression.AssignOp.{AssignOp}
use Rattle.stk_tree.specs.Syntax.{ExprTree, ExprFormTree}
use Rattle.stk_tree.specs.Syntax as s
use Rattle.stk_tree.specs.Parts.{bare}
use Rattle.stk_numbers.specs.declared.operators.ArithOp.{ArithOp}
use Rattle.stk_numbers.specs.declared.operators.ArithOp.TheVariants as arith_op
use Rattle.stk_numbers.specs.declared.operators.ShiftOp.{ShiftOp}
use Rattle.stk_numbers.specs.declared.operators.ShiftOp.TheVariants as shift_op
use Rattle.stk_numbers.specs.declared.operators.CompareOp.{CompareOp}
use Rattle.stk_numbers.specs.declared.operators.CompareOp.TheVariants as compare_op
use Rattle.stk_numbers.specs.Kinds.{promote, common}
use Rattle.stk_type_rules.specs.declared.facts.Constancy.{Constancy}
use Rattle.stk_type_rules.specs.Facts.{Fact, Breaks, Fits, value, constant}
use Rattle.stk_type_rules.specs.Types.{decayed, kind_of, pointee, is_struct, stride}
use Rattle.stk_type_rules.specs.Rules.{has_scalar, paren_rule, promoted_rule, integer, unary_rule, assigned, unstepped, step_rule, common_rule, arithmetic_rule, moved_pointer, sum_rule, distance_rule, apart, difference_rule, shift_rule, compared_as, comparison_rule, logical_rule, comma_rule, binary_rule, assign_refused, assign_rule}
use Rattle.stk_type_rules.specs.Constants.{negated, flipped, arithmetic, shift, both, logical, denied}
use Rattle.stk_meaning.specs.Typings.{Typing, type_in, number_kind, is_array, stride_in, is_among}
use Rattle.stk_meaning.specs.Operations.{arithmetic_of, operation_of, BinarySort, operates, joins, or_else, and_also, sort_of}
use Rattle.stk_meaning.specs.Places.{Setting, Target, in_register, in_kept, in_object, unnamed, object_named, position_behind, object_target, target_at, target_of, form_target, member_target}
use Rattle.stk_meaning.specs.Keys.{Object}
use Rattle.stk_run_laws.specs.TypedTree.{HasTypeOf, PlaceAgrees, FormAgrees}
use Rattle.stk_type_laws.proofs.Rulings.{not_broken, same_fact, held, passed, paren_fits}
use Rattle.stk_kinded.specs.Kinds.{operation_kind, Suits, IsStored}

-- ---- kinds of facts

-- the kind of a fact's numbers
abbrev pub kind_in : Fact → IntKind
kind_in x = number_kind x.ty

of_fit : (x y : Fact) (k : IntKind) → kind_in x ≡ k → Fits x ≡ Fits y → kind_in y ≡ k
of_fit x y k p e = sym (ap kind_in (same_fact x y e)) ∙ p

pub integer_kind : (t : TypeTree) (k : IntKind) → kind_of t ≡ Some k → number_kind t ≡ k
integer_kind void_type k e = absurd cc
integer_kind (integer_type j) k e = cc
integer_kind (pointer_type t) k e = absurd cc
integer_kind (array_type t count) k e = absurd cc
integer_kind (struct_type id) k e = absurd cc
integer_kind (function_type f) k e = absurd cc

pub decayed_kind : (t : TypeTree) → number_kind (decayed t) ≡ number_kind t
decayed_kind void_type = refl
decayed_kind (integer_type j) = refl
decayed_kind (pointer_type t) = refl
decayed_kind (array_type t count) = refl
decayed_kind (struct_type id) = refl
decayed_kind (function_type f) = refl

array_kind : (t : TypeTree) → is_array t ≡ true → number_kind t ≡ ULong
array_kind void_type e = absurd cc
array_kind (integer_type j) e = absurd cc
array_kind (pointer_type t) e = absurd cc
array_kind (array_type t count) e = refl
array_kind (struct_type id) e = absurd cc
array_kind (function_type f) e = absurd cc

both_arrays : (a b : Bool) → (a && b) ≡ true → (a ≡ true) × (b ≡ true)
both_arrays true true e = (refl, refl)
both_arrays true false e = absurd cc
both_arrays false b e = absurd cc

-- a name has the kind of what it means
pub same_kind : (t u : TypeTree) → HasTypeOf t u → number_kind t ≡ number_kind u
same_kind t u (inl e) = ap number_kind e
same_kind t u (inr e) = let b = both_arrays (is_array t) (is_array u) e in array_kind t b.0 ∙ sym (array_kind u b.1)

-- ---- rules with one operand

pub paren_kind : (x y : Fact) → paren_rule x ≡ Fits y → kind_in y ≡ kind_in x
paren_kind x y e = ap number_kind (paren_fits x y e).type

assigned_kind : (o : Option ℕ) (x y : Fact) → assigned o x ≡ Fits y → kind_in y ≡ kind_in x
assigned_kind (Some n) x y e = absurd (not_broken n y e)
assigned_kind None x y e = of_fit (value x.ty) y (kind_in x) refl (held x.lvalue (Fits (value x.ty)) 7 y e).rule

pub step_kind : (structs : Structs) (x y : Fact) → step_rule structs x ≡ Fits y → kind_in y ≡ kind_in x
step_kind structs x y e = assigned_kind (unstepped structs x.ty) x y e

pub assign_kind : (structs : Structs) (op : AssignOp) (x z y : Fact) → assign_rule structs op x z ≡ Fits y → kind_in y ≡ kind_in x
assign_kind structs op x z y e = assigned_kind (assign_refused structs op x z) x y e

promoted_kind : (f : IntKind → Constancy → Constancy) (x y : Fact) (o : Option IntKind) (c : Constancy) → kind_of x.ty ≡ o → promoted_rule f o c ≡ Fits y → kind_in y ≡ promote (kind_in x)
promoted_kind f x y None c p e = absurd (not_broken 6 y e)
promoted_kind f x y (Some k) c p e = of_fit (constant (integer_type (promote k)) (f (promote k) c)) y (promote (kind_in x)) (ap promote (sym (integer_kind x.ty k p))) e

pub minus_kind : (structs : Structs) (x y : Fact) → unary_rule structs unary.Minus x ≡ Fits y → kind_in y ≡ promote (kind_in x)
minus_kind structs x y e = promoted_kind negated x y (kind_of x.ty) x.constancy refl e

pub flip_kind : (structs : Structs) (x y : Fact) → unary_rule structs unary.Flip x ≡ Fits y → kind_in y ≡ promote (kind_in x)
flip_kind structs x y e = promoted_kind flipped x y (kind_of x.ty) x.constancy refl e

pub address_kind : (structs : Structs) (x y : Fact) → unary_rule structs unary.Address x ≡ Fits y → kind_in y ≡ ULong
address_kind structs x y e = of_fit (value (pointer_type x.ty)) y ULong refl (held x.lvalue (Fits (value (pointer_type x.ty))) 7 y e).rule

pub not_kind : (structs : Structs) (x y : Fact) → unary_rule structs unary.Not x ≡ Fits y → kind_in y ≡ Int
not_kind structs x y e = of_fit (constant (integer_type Int) (denied x.constancy)) y Int refl (held (has_scalar x) (integer (denied x.constancy)) 6 y e).rule

-- ---- operators with two operands: the kind of their operation

common_kind : (f : IntKind → Constancy → Constancy → Constancy) (op : ArithOp) (j k : Option IntKind) (c d : Constancy) (y : Fact) (m n : ℕ) → common_rule f j k c d ≡ Fits y → kind_in y ≡ operation_kind (arithmetic_of op j k m n)
common_kind f op (Some j) (Some k) c d y m n e = of_fit (constant (integer_type (common j k)) (f (common j k) c d)) y (common j k) refl e
common_kind f op (Some j) None c d y m n e = absurd (not_broken 6 y e)
common_kind f op None k c d y m n e = absurd (not_broken 6 y e)

moved_kind : (structs : Structs) (t : Option TypeTree) (y : Fact) → moved_pointer structs t ≡ Fits y → kind_in y ≡ ULong
moved_kind structs None y e = absurd (not_broken 6 y e)
moved_kind structs (Some t) y e = of_fit (value (pointer_type t)) y ULong refl (held (is_some (stride structs t)) (Fits (value (pointer_type t))) 4 y e).rule

distance_kind : (m n : Option ℕ) (y : Fact) → distance_rule m n ≡ Fits y → kind_in y ≡ Long
distance_kind (Some m) (Some n) y e = of_fit (value (integer_type Long)) y Long refl (held (m == n) (Fits (value (integer_type Long))) 6 y e).rule
distance_kind (Some m) None y e = absurd (not_broken 4 y e)
distance_kind None n y e = absurd (not_broken 4 y e)

apart_kind : (structs : Structs) (t u : Option TypeTree) (y : Fact) → apart structs t u ≡ Fits y → kind_in y ≡ Long
apart_kind structs (Some t) (Some u) y e = distance_kind (stride structs t) (stride structs u) y e
apart_kind structs (Some t) None y e = absurd (not_broken 6 y e)
apart_kind structs None u y e = absurd (not_broken 6 y e)

sum_kind : (structs : Structs) (x z y : Fact) (j k : Option IntKind) (m n : ℕ) → kind_of x.ty ≡ j → kind_of z.ty ≡ k → sum_rule structs j k x z ≡ Fits y → kind_in y ≡ operation_kind (arithmetic_of arith_op.Add j k m n)
sum_kind structs x z y (Some j) (Some k) m n p q e =
    let here = subst (λ o. common_rule (λ i. both (arithmetic arith_op.Add i)) o (kind_of z.ty) x.constancy z.constancy ≡ Fits y) p e in
    common_kind (λ i. both (arithmetic arith_op.Add i)) arith_op.Add (Some j) (Some k) x.constancy z.constancy y m n (subst (λ o. common_rule (λ i. both (arithmetic arith_op.Add i)) (Some j) o x.constancy z.constancy ≡ Fits y) q here)
sum_kind structs x z y (Some j) None m n p q e = moved_kind structs (pointee z.ty) y e
sum_kind structs x z y None (Some k) m n p q e = moved_kind structs (pointee x.ty) y e
sum_kind structs x z y None None m n p q e = absurd (not_broken 6 y e)

difference_kind : (structs : Structs) (x z y : Fact) (j k : Option IntKind) (m n : ℕ) → kind_of x.ty ≡ j → kind_of z.ty ≡ k → difference_rule structs j k x z ≡ Fits y → kind_in y ≡ operation_kind (arithmetic_of arith_op.Sub j k m n)
difference_kind structs x z y (Some j) (Some k) m n p q e =
    let here = subst (λ o. common_rule (λ i. both (arithmetic arith_op.Sub i)) o (kind_of z.ty) x.constancy z.constancy ≡ Fits y) p e in
    common_kind (λ i. both (arithmetic arith_op.Sub i)) arith_op.Sub (Some j) (Some k) x.constancy z.constancy y m n (subst (λ o. common_rule (λ i. both (arithmetic arith_op.Sub i)) (Some j) o x.constancy z.constancy ≡ Fits y) q here)
difference_kind structs x z y (Some j) None m n p q e = absurd (not_broken 6 y e)
difference_kind structs x z y None (Some k) m n p q e = moved_kind structs (pointee x.ty) y e
difference_kind structs x z y None None m n p q e = apart_kind structs (pointee x.ty) (pointee z.ty) y e

shift_kind : (op : ShiftOp) (x y : Fact) (j k : Option IntKind) (c d : Constancy) → kind_of x.ty ≡ j → shift_rule op j k c d ≡ Fits y → kind_in y ≡ promote (kind_in x)
shift_kind op x y (Some j) (Some k) c d p e = of_fit (constant (integer_type (promote j)) (both (shift op (promote j)) c d)) y (promote (kind_in x)) (ap promote (sym (integer_kind x.ty j p))) e
shift_kind op x y (Some j) None c d p e = absurd (not_broken 6 y e)
shift_kind op x y None k c d p e = absurd (not_broken 6 y e)

truth_kind : (b : Bool) (c : Constancy) (y : Fact) → (if b then integer c else Breaks 6) ≡ Fits y → kind_in y ≡ Int
truth_kind b c y e = of_fit (constant (integer_type Int) c) y Int refl (held b (integer c) 6 y e).rule

comparison_is_int : (op : CompareOp) (x z y : Fact) → comparison_rule op x z ≡ Fits y → kind_in y ≡ Int
comparison_is_int op x z y e = truth_kind (has_scalar x && has_scalar z) (compared_as op (kind_of x.ty) (kind_of z.ty) x.constancy z.constancy) y e

logical_is_int : (stops : Bool) (x z y : Fact) → logical_rule stops x z ≡ Fits y → kind_in y ≡ Int
logical_is_int stops x z y e = truth_kind (has_scalar x && has_scalar z) (logical stops x.constancy z.constancy) y e

arithmetic_kind : (ty : Typing) (op : ArithOp) (x z y : Fact) → arithmetic_rule op x z ≡ Fits y → kind_in y ≡ operation_kind (arithmetic_of op (kind_of x.ty) (kind_of z.ty) (stride_in ty x.ty) (stride_in ty z.ty))
arithmetic_kind ty op x z y e = common_kind (λ k. both (arithmetic op k)) op (kind_of x.ty) (kind_of z.ty) x.constancy z.constancy y (stride_in ty x.ty) (stride_in ty z.ty) e

comma_kind : (x z y : Fact) → comma_rule x z ≡ Fits y → kind_in y ≡ kind_in z
comma_kind x z y e = of_fit (value (decayed z.ty)) y (kind_in z) (decayed_kind z.ty) (passed (is_struct x.ty || is_struct z.ty) (Fits (value (decayed z.ty))) 9 y e).rule

-- the kind that an operator's value has, by the types of its operands
abbrev pub SortKind : Typing → BinarySort → TypeTree → TypeTree → IntKind
SortKind ty (operates op) t u = operation_kind (operation_of ty op t u)
SortKind ty joins t u = number_kind u
SortKind ty or_else t u = Int
SortKind ty and_also t u = Int

pub binary_kind : (ty : Typing) (structs : Structs) (op : BinaryOp) (x z y : Fact) → binary_rule structs op x z ≡ Fits y → kind_in y ≡ SortKind ty (sort_of op) x.ty z.ty
binary_kind ty structs binary.Comma x z y e = comma_kind x z y e
binary_kind ty structs binary.OrElse x z y e = logical_is_int true x z y e
binary_kind ty structs binary.AndAlso x z y e = logical_is_int false x z y e
binary_kind ty structs binary.Or x z y e = arithmetic_kind ty arith_op.Or x z y e
binary_kind ty structs binary.Xor x z y e = arithmetic_kind ty arith_op.Xor x z y e
binary_kind ty structs binary.And x z y e = arithmetic_kind ty arith_op.And x z y e
binary_kind ty structs binary.Eq x z y e = comparison_is_int compare_op.Eq x z y e
binary_kind ty structs binary.Ne x z y e = comparison_is_int compare_op.Ne x z y e
binary_kind ty structs binary.Lt x z y e = comparison_is_int compare_op.Lt x z y e
binary_kind ty structs binary.Gt x z y e = comparison_is_int compare_op.Gt x z y e
binary_kind ty structs binary.Le x z y e = comparison_is_int compare_op.Le x z y e
binary_kind ty structs binary.Ge x z y e = comparison_is_int compare_op.Ge x z y e
binary_kind ty structs binary.Left x z y e = shift_kind shift_op.Left x y (kind_of x.ty) (kind_of z.ty) x.constancy z.constancy refl e
binary_kind ty structs binary.Right x z y e = shift_kind shift_op.Right x y (kind_of x.ty) (kind_of z.ty) x.constancy z.constancy refl e
binary_kind ty structs binary.Add x z y e = sum_kind structs x z y (kind_of x.ty) (kind_of z.ty) (stride_in ty x.ty) (stride_in ty z.ty) refl refl e
binary_kind ty structs binary.Sub x z y e = difference_kind structs x z y (kind_of x.ty) (kind_of z.ty) (stride_in ty x.ty) (stride_in ty z.ty) refl refl e
binary_kind ty structs binary.Mul x z y e = arithmetic_kind ty arith_op.Mul x z y e
binary_kind ty structs binary.Div x z y e = arithmetic_kind ty arith_op.Div x z y e
binary_kind ty structs binary.Rem x z y e = arithmetic_kind ty arith_op.Rem x z y e

-- ---- what a declarator or a first mention stands for has its kind

same_node : (j k : ℕ) → k == j ≡ true → j ≡ k
same_node j k e = grind (arith, common_steps)

position_least : (k i : ℕ) (js : List ℕ) (q : ℕ) → position_behind i k js ≡ Some q → i ≤ q
position_least k i [] q e = absurd cc
position_least k i (j ∷ js) q e = by (k == j) e (λ d. position_least k (i + 1) js q d)
  where
    by : (b : Bool) → (if b then Some i else position_behind (i + 1) k js) ≡ Some q → (position_behind (i + 1) k js ≡ Some q → i + 1 ≤ q) → i ≤ q
    by true d more = let is : i ≡ q = cc in omega (arith, is)
    by false d more = omega (arith, more d)

-- the number at a position among others
position_is : (k i : ℕ) (js : List ℕ) (q : ℕ) → position_behind i k js ≡ Some q → (m : ℕ) → q ≡ i + m → get_or js m 0 ≡ k
position_is k i [] q e m same = absurd cc
position_is k i (j ∷ js) q e m same = by (k == j) refl e m same (λ d n there. position_is k (i + 1) js q d n there)
  where
    by : (b : Bool) → k == j ≡ b → (if b then Some i else position_behind (i + 1) k js) ≡ Some q → (m : ℕ) → q ≡ i + m → (position_behind (i + 1) k js ≡ Some q → (n : ℕ) → q ≡ i + 1 + n → get_or js n 0 ≡ k) → get_or (j ∷ js) m 0 ≡ k
    by true d found zero there more = same_node j k d
    by true d found (suc m) there more = let is : i ≡ q = cc in absurd (omega (arith, is, there))
    by false d found zero there more = absurd (omega (arith, there, position_least k (i + 1) js q found))
    by false d found (suc m) there more = more found m (omega (arith, there))

kept_suits : (g : Setting) (k : ℕ) (o : Option ℕ) → position_behind 0 k g.kept ≡ o → Suits g (object_target k o) (number_kind (g.typing.type_at k))
kept_suits g k None e = tt
kept_suits g k (Some q) e = ap (λ z. number_kind (g.typing.type_at z)) (position_is k 0 g.kept q e q (omega arith))

pub target_suits : (g : Setting) (k : ℕ) → Suits g (target_at g k) (number_kind (g.typing.type_at k))
target_suits g k = by (is_among k g.registers)
  where
    by : (b : Bool) → Suits g (if b then in_register k else object_target k (position_behind 0 k g.kept)) (number_kind (g.typing.type_at k))
    by true = refl
    by false = kept_suits g k (position_behind 0 k g.kept) refl

-- ---- what is stored to

member_suits : (g : Setting) (t : Target) (k : IntKind) → Suits g (member_target t) k
member_suits g (in_register i) k = tt
member_suits g (in_kept q) k = tt
member_suits g (in_object o) k = tt
member_suits g unnamed k = tt

mutual
  pub place_suits : (g : Setting) (objects : List Object) (e : ExprTree) → PlaceAgrees g objects e → Suits g (target_of g e) (number_kind (type_in g.typing e))
  place_suits g objects (s.expression n f) h = form_suits g objects n.number f h

  form_suits : (g : Setting) (objects : List Object) (k : ℕ) (f : ExprFormTree) → FormAgrees g objects k f → Suits g (form_target g k f) (number_kind (g.typing.type_at k))
  form_suits g objects k (s.name at) h = subst (λ t. Suits g (target_at g (object_named g k at)) (number_kind t)) (sym h.type) (target_suits g (object_named g k at))
  form_suits g objects k (s.number at) h = tt
  form_suits g objects k (s.character at) h = tt
  form_suits g objects k (s.text parts) h = tt
  form_suits g objects k (s.paren e) h = subst (λ t. Suits g (target_of g e) (number_kind t)) (sym h.0) (place_suits g objects e h.1)
  form_suits g objects k (s.index a b) h = tt
  form_suits g objects k (s.call e es) h = tt
  form_suits g objects k (s.dot e at) h = member_suits g (target_of g e) (number_kind (g.typing.type_at k))
  form_suits g objects k (s.arrow e at) h = tt
  form_suits g objects k (s.step op e) h = tt
  form_suits g objects k (s.unary op e) h = tt
  form_suits g objects k (s.size_expression e) h = tt
  form_suits g objects k (s.size_name t) h = tt
  form_suits g objects k (s.cast t e) h = tt
  form_suits g objects k (s.binary op a b) h = tt
  form_suits g objects k (s.choice a b c) h = tt
  form_suits g objects k (s.assign op a b) h = tt

  -- the place in parentheses has their type
  bare_type : (g : Setting) (objects : List Object) (e : ExprTree) → PlaceAgrees g objects e → type_in g.typing (bare e) ≡ type_in g.typing e
  bare_type g objects (s.expression n (s.name at)) h = refl
  bare_type g objects (s.expression n (s.number at)) h = refl
  bare_type g objects (s.expression n (s.character at)) h = refl
  bare_type g objects (s.expression n (s.text parts)) h = refl
  bare_type g objects (s.expression n (s.paren e)) h = bare_type g objects e h.1 ∙ sym h.0
  bare_type g objects (s.expression n (s.index a b)) h = refl
  bare_type g objects (s.expression n (s.call e es)) h = refl
  bare_type g objects (s.expression n (s.dot e at)) h = refl
  bare_type g objects (s.expression n (s.arrow e at)) h = refl
  bare_type g objects (s.expression n (s.step op e)) h = refl
  bare_type g objects (s.expression n (s.unary op e)) h = refl
  bare_type g objects (s.expression n (s.size_expression e)) h = refl
  bare_type g objects (s.expression n (s.size_name t)) h = refl
  bare_type g objects (s.expression n (s.cast t e)) h = refl
  bare_type g objects (s.expression n (s.binary op a b)) h = refl
  bare_type g objects (s.expression n (s.choice a b c)) h = refl
  bare_type g objects (s.expression n (s.assign op a b)) h = refl

pub is_stored : (g : Setting) (objects : List Object) (e : ExprTree) → PlaceAgrees g objects e → IsStored g e
is_stored g objects e h = record { suits = place_suits g objects e h; inside = ap number_kind (bare_type g objects e h) }
