-- What the rules of typing say of bits, form by form.
use Rattle.std.proofs.Common.{◌≡◌, ℕ, ◌≤◌, Bool, true, false, ◌&&◌, ◌||◌, Option, Some, None, refl, sym, ap, ◌∙◌, subst, arith}
use Rattle.std.specs.Prelude.{if◌then◌else◌}
use Rattle.stk_ctype.specs.declared.kind.IntKind.{IntKind}
use Rattle.stk_ctype.specs.declared.kind.IntKind.TheVariants.{ULong}
use Rattle.stk_ctype.specs.Types.{TypeTree, void_type, integer_type, pointer_type, array_type, struct_type, function_type}
use Rattle.stk_ctype.specs.Structs.{Structs}
use Rattle.stk_tree.specs.declared.expression.UnaryOp.{UnaryOp}
use Rattle.stk_tree.specs.declared.expression.UnaryOp.TheVariants as unary
use Rattle.stk_tree.specs.declared.expression.BinaryOp.{BinaryOp}
use Rattle.stk_tree.specs.declared.expression.BinaryOp.TheVariants as binary
use Rattle.stk_tree.specs.declared.expression.AssignOp.{AssignOp}
use Rattle.stk_tree.specs.declared.expression.AssignOp.TheVariants as assign
use Rattle.stk_tree.specs.Syntax.{ExprTree}
use Rattle.stk_numbers.specs.declared.operators.ShiftOp.{ShiftOp}
use Rattle.stk_numbers.specs.declared.operators.ShiftOp.TheVariants as shift_op
use Rattle.stk_numbers.specs.Kinds.{width_of, is_bool, promote, common}
use Rattle.stk_type_rules.specs.declared.facts.Constancy.{Constancy}
use Rattle.stk_type_rules.specs.Facts.{Fact, Breaks, Fits, value, constant}
use Rattle.stk_type_rules.specs.Types.{decayed, kind_of, pointee, is_scalar, is_void}
use Rattle.stk_type_rules.specs.Rules.{has_scalar, promoted_rule, integer, unary_rule, assigned, shift_rule, logical_rule, binary_rule, plain_refused, compound_refused, assign_refused, assign_rule, either, branches, chosen, choice_rule}
use Rattle.stk_type_rules.specs.Constants.{converted, negated, flipped, logical, choice, denied}
use Rattle.stk_meaning.specs.Typings.{Typing, type_in, number_kind, is_array}
use Rattle.stk_meaning.specs.Operations.{sort_of, assigned_operator}
use Rattle.stk_meaning.specs.Weights.{bits_in}
use Rattle.stk_type_laws.proofs.Rulings.{not_broken, same_fact, held, both_true}
use Rattle.stk_type_laws.proofs.Widths.{kinds_are_wide}
use Rattle.stk_type_laws.specs.Bits.{HasBits, UnaryHasBits, BinaryHasBits, AssignedHasBits}
use Rattle.stk_type_laws.proofs.CostNumbers.{integer_width, scalar_bits}

-- ---- types

scalar_has_bits : (t : TypeTree) → is_scalar t ≡ true → HasBits t
scalar_has_bits t h = let e = scalar_bits t h in omega (arith, e)

array_has_bits : (t : TypeTree) → is_array t ≡ true → HasBits t
array_has_bits void_type e = absurd cc
array_has_bits (integer_type j) e = absurd cc
array_has_bits (pointer_type t) e = absurd cc
array_has_bits (array_type t count) e = let w : width_of ULong ≡ 64 = refl in omega (arith, w)
array_has_bits (struct_type id) e = absurd cc
array_has_bits (function_type f) e = absurd cc

-- what is read is a scalar or an array
pub whole_has_bits : (t : TypeTree) → (is_scalar t || is_array t) ≡ true → HasBits t
whole_has_bits t h = by (is_scalar t) refl h
  where
    by : (b : Bool) → is_scalar t ≡ b → (b || is_array t) ≡ true → HasBits t
    by true s e = scalar_has_bits t s
    by false s e = array_has_bits t e

-- what is tested is a scalar as a value
pub tested_has_bits : (t : TypeTree) → is_scalar (decayed t) ≡ true → HasBits t
tested_has_bits void_type e = absurd cc
tested_has_bits (integer_type j) e = omega arith
tested_has_bits (pointer_type t) e = scalar_has_bits (pointer_type t) refl
tested_has_bits (array_type t count) e = array_has_bits (array_type t count) refl
tested_has_bits (struct_type id) e = absurd cc
tested_has_bits (function_type f) e = absurd cc

kind_has_bits : (t : TypeTree) (k : IntKind) → kind_of t ≡ Some k → HasBits t
kind_has_bits void_type k e = absurd cc
kind_has_bits (integer_type j) k e = omega arith
kind_has_bits (pointer_type t) k e = absurd cc
kind_has_bits (array_type t count) k e = absurd cc
kind_has_bits (struct_type id) k e = absurd cc
kind_has_bits (function_type f) k e = absurd cc

-- ---- operators with one operand

promoted_type : (f : IntKind → Constancy → Constancy) (x y : Fact) (o : Option IntKind) (c : Constancy) → kind_of x.ty ≡ o → promoted_rule f o c ≡ Fits y → integer_type (promote (number_kind x.ty)) ≡ y.ty
promoted_type f x y None c p e = absurd (not_broken 6 y e)
promoted_type f x y (Some k) c p e =
    ap (λ j. integer_type (promote j)) (integer_width x.ty k p) ∙ ap (λ (z : Fact). z.ty) (same_fact (constant (integer_type (promote k)) (f (promote k) c)) y e)

-- its bits are those of the promoted operand
promoted_bits : (x y : Fact) → integer_type (promote (number_kind x.ty)) ≡ y.ty → width_of (promote (number_kind x.ty)) ≤ bits_in y.ty
promoted_bits x y e = let w : width_of (promote (number_kind x.ty)) ≡ bits_in y.ty = ap bits_in e in omega (arith, w)

module _ (ty : Typing) (structs : Structs) (x y : Fact) where
  pub unary_has_bits : (k : ℕ) (op : UnaryOp) (e : ExprTree) → ty.type_at k ≡ y.ty → type_in ty e ≡ x.ty → unary_rule structs op x ≡ Fits y → UnaryHasBits ty k op e
  unary_has_bits k unary.Address e at of r = tt
  unary_has_bits k unary.Deref e at of r = tt
  unary_has_bits k unary.Plus e at of r =
      let is = promoted_type converted x y (kind_of x.ty) x.constancy refl r in
      ap (λ t. is_bool (number_kind t)) (at ∙ sym is) ∙ kinds_are_wide.promoted_number (number_kind x.ty)
  unary_has_bits k unary.Minus e at of r =
      let b = promoted_bits x y (promoted_type negated x y (kind_of x.ty) x.constancy refl r) in
      subst (λ t. width_of (promote (number_kind (type_in ty e))) ≤ bits_in t) (sym at) (subst (λ t. width_of (promote (number_kind t)) ≤ bits_in y.ty) (sym of) b)
  unary_has_bits k unary.Flip e at of r =
      let b = promoted_bits x y (promoted_type flipped x y (kind_of x.ty) x.constancy refl r) in
      subst (λ t. width_of (promote (number_kind (type_in ty e))) ≤ bits_in t) (sym at) (subst (λ t. width_of (promote (number_kind t)) ≤ bits_in y.ty) (sym of) b)
  unary_has_bits k unary.Not e at of r = subst HasBits (sym of) (tested_has_bits x.ty (held (has_scalar x) (integer (denied x.constancy)) 6 y r).test)

-- ---- operators with two operands

shifted_has_bits : (op : ShiftOp) (t : TypeTree) (y : Fact) (j k : Option IntKind) (c d : Constancy) → kind_of t ≡ k → shift_rule op j k c d ≡ Fits y → HasBits t
shifted_has_bits op t y (Some j) (Some k) c d p e = kind_has_bits t k p
shifted_has_bits op t y (Some j) None c d p e = absurd (not_broken 6 y e)
shifted_has_bits op t y None k c d p e = absurd (not_broken 6 y e)

joined_has_bits : (stops : Bool) (x z y : Fact) → logical_rule stops x z ≡ Fits y → HasBits x.ty × HasBits z.ty
joined_has_bits stops x z y e =
    let b = both_true (has_scalar x) (has_scalar z) (held (has_scalar x && has_scalar z) (integer (logical stops x.constancy z.constancy)) 6 y e).test in
    (tested_has_bits x.ty b.0, tested_has_bits z.ty b.1)

module _ (ty : Typing) (structs : Structs) (x z y : Fact) (a b : ExprTree) (left : type_in ty a ≡ x.ty) (right : type_in ty b ≡ z.ty) where
  pub binary_has_bits : (op : BinaryOp) → binary_rule structs op x z ≡ Fits y → BinaryHasBits ty (sort_of op) a b
  binary_has_bits binary.Comma r = tt
  binary_has_bits binary.OrElse r = let h = joined_has_bits true x z y r in (subst HasBits (sym left) h.0, subst HasBits (sym right) h.1)
  binary_has_bits binary.AndAlso r = let h = joined_has_bits false x z y r in (subst HasBits (sym left) h.0, subst HasBits (sym right) h.1)
  binary_has_bits binary.Or r = tt
  binary_has_bits binary.Xor r = tt
  binary_has_bits binary.And r = tt
  binary_has_bits binary.Eq r = tt
  binary_has_bits binary.Ne r = tt
  binary_has_bits binary.Lt r = tt
  binary_has_bits binary.Gt r = tt
  binary_has_bits binary.Le r = tt
  binary_has_bits binary.Ge r = tt
  binary_has_bits binary.Left r = subst HasBits (sym right) (shifted_has_bits shift_op.Left z.ty y (kind_of x.ty) (kind_of z.ty) x.constancy z.constancy refl r)
  binary_has_bits binary.Right r = subst HasBits (sym right) (shifted_has_bits shift_op.Right z.ty y (kind_of x.ty) (kind_of z.ty) x.constancy z.constancy refl r)
  binary_has_bits binary.Add r = tt
  binary_has_bits binary.Sub r = tt
  binary_has_bits binary.Mul r = tt
  binary_has_bits binary.Div r = tt
  binary_has_bits binary.Rem r = tt

-- ---- assignments

unrefused : (o : Option ℕ) (x y : Fact) → assigned o x ≡ Fits y → o ≡ None
unrefused (Some n) x y e = absurd (not_broken n y e)
unrefused None x y e = refl

plain_has_bits : (x z : Fact) (c : Bool) → is_scalar x.ty && has_scalar z ≡ c → if◌then◌else◌ {A = Option ℕ} c None (Some 6) ≡ None → HasBits z.ty
plain_has_bits x z true c e = tested_has_bits z.ty (both_true (is_scalar x.ty) (has_scalar z) c).1
plain_has_bits x z false c e = absurd cc

compound_has_bits : (structs : Structs) (op : AssignOp) (x : Fact) (t : TypeTree) (k : Option IntKind) → kind_of t ≡ k → compound_refused structs op x k ≡ None → HasBits t
compound_has_bits structs op x t None p e = absurd cc
compound_has_bits structs op x t (Some k) p e = kind_has_bits t k p

module _ (ty : Typing) (structs : Structs) (x z y : Fact) (b : ExprTree) (right : type_in ty b ≡ z.ty) where
  refused_has_bits : (op : AssignOp) → assign_refused structs op x z ≡ None → AssignedHasBits ty (assigned_operator op) b
  refused_has_bits assign.Plain r = subst HasBits (sym right) (plain_has_bits x z (is_scalar x.ty && has_scalar z) refl r)
  refused_has_bits assign.Mul r = tt
  refused_has_bits assign.Div r = tt
  refused_has_bits assign.Rem r = tt
  refused_has_bits assign.Add r = tt
  refused_has_bits assign.Sub r = tt
  refused_has_bits assign.Left r = subst HasBits (sym right) (compound_has_bits structs assign.Left x z.ty (kind_of z.ty) refl r)
  refused_has_bits assign.Right r = subst HasBits (sym right) (compound_has_bits structs assign.Right x z.ty (kind_of z.ty) refl r)
  refused_has_bits assign.And r = tt
  refused_has_bits assign.Xor r = tt
  refused_has_bits assign.Or r = tt

  pub assigned_has_bits : (op : AssignOp) → assign_rule structs op x z ≡ Fits y → AssignedHasBits ty (assigned_operator op) b
  assigned_has_bits op r = refused_has_bits op (unrefused (assign_refused structs op x z) x y r)

-- ---- `?:`, whose value is no `_Bool`

abbrev NoBool : Fact → Type 0
NoBool y = is_bool (number_kind y.ty) ≡ false

of_fit : (x y : Fact) → NoBool x → Fits x ≡ Fits y → NoBool y
of_fit x y n e = subst NoBool (same_fact x y e) n

pointer_no_bool : (b : Bool) (t u : TypeTree) → is_bool (number_kind (if b then pointer_type u else pointer_type t)) ≡ false
pointer_no_bool true t u = refl
pointer_no_bool false t u = refl

either_no_bool : (t u : TypeTree) (a b : Bool) → NoBool (value (either t u a b))
either_no_bool t u true false = refl
either_no_bool t u false true = refl
either_no_bool t u true true = pointer_no_bool (is_void u) t u
either_no_bool t u false false = pointer_no_bool (is_void u) t u

branches_no_bool : (y z w : Fact) (k l : Option IntKind) (t u : Option TypeTree) → branches k l t u y z ≡ Fits w → NoBool w
branches_no_bool y z w k l (Some t) (Some u) e = of_fit (value (either t u y.is_null z.is_null)) w (either_no_bool t u y.is_null z.is_null) e
branches_no_bool y z w k (Some l) (Some t) None e = of_fit (value (pointer_type t)) w refl e
branches_no_bool y z w k None (Some t) None e = absurd (not_broken 6 w e)
branches_no_bool y z w (Some k) l None (Some u) e = of_fit (value (pointer_type u)) w refl e
branches_no_bool y z w None l None (Some u) e = absurd (not_broken 6 w e)
branches_no_bool y z w k l None None e = of_fit (value void_type) w refl (held (is_void y.ty && is_void z.ty) (Fits (value void_type)) 6 w e).rule

chosen_no_bool : (x y z w : Fact) (k l : Option IntKind) → chosen k l x y z ≡ Fits w → NoBool w
chosen_no_bool x y z w (Some k) (Some l) e = of_fit (constant (integer_type (common k l)) (choice (common k l) x.constancy y.constancy z.constancy)) w (kinds_are_wide.common_number k l) e
chosen_no_bool x y z w (Some k) None e = branches_no_bool y z w (Some k) None (pointee y.ty) (pointee z.ty) e
chosen_no_bool x y z w None l e = branches_no_bool y z w None l (pointee y.ty) (pointee z.ty) e

pub choice_has_bits : (x y z w : Fact) → choice_rule x y z ≡ Fits w → HasBits x.ty × (is_bool (number_kind w.ty) ≡ false)
choice_has_bits x y z w e =
    let h = held (has_scalar x) (chosen (kind_of y.ty) (kind_of z.ty) x y z) 6 w e in
    (tested_has_bits x.ty h.test, chosen_no_bool x y z w (kind_of y.ty) (kind_of z.ty) h.rule)
