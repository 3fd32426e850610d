-- What a rule that fits tells of the operands and of the node (C11 6.5).
use Rattle.std.proofs.Common.{◌≡◌, ℕ, Bool, true, false, not, ◌&&◌, ◌||◌, List, Option, Some, None, refl, sym, ap, subst}
use Rattle.std.specs.Prelude.{if◌then◌else◌}
use Rattle.std.specs.Option.{is_some}
use Rattle.stk_ctype.specs.declared.ctype.CType.{CType}
use Rattle.stk_ctype.specs.declared.kind.IntKind.{IntKind}
use Rattle.stk_ctype.specs.Types.{TypeTree, void_type, integer_type, pointer_type, array_type, struct_type, function_type, type_of}
use Rattle.stk_ctype.specs.Structs.{Structs, member_of}
use Rattle.stk_tree.specs.declared.expression.UnaryOp.TheVariants as unary
use Rattle.stk_tree.specs.declared.expression.BinaryOp.{BinaryOp}
use Rattle.stk_tree.specs.declared.expression.BinaryOp.TheVariants as binary
use Rattle.stk_tree.specs.declared.expression.AssignOp.{AssignOp}
use Rattle.stk_tree.specs.declared.expression.AssignOp.TheVariants as assign
use Rattle.stk_numbers.specs.declared.operators.ArithOp.{ArithOp}
use Rattle.stk_numbers.specs.declared.operators.ArithOp.TheVariants as arith
use Rattle.stk_numbers.specs.declared.operators.ShiftOp.{ShiftOp}
use Rattle.stk_numbers.specs.declared.operators.ShiftOp.TheVariants as shifts
use Rattle.stk_type_rules.specs.declared.facts.Constancy.{Constancy}
use Rattle.stk_type_rules.specs.Facts.{Fact, Ruled, Breaks, Fits, value, place}
use Rattle.stk_type_laws.specs.Orderly.{is_object_type}
use Rattle.stk_type_rules.specs.Types.{decayed, kind_of, pointee, is_scalar, is_void, is_struct, is_complete}
use Rattle.stk_type_rules.specs.Rules.{has_scalar, paren_rule, pointed, indexed, index_rule, found, member_rule, dot_rule, arrow_to, arrow_rule, promoted_rule, unary_rule, assigned, unstepped, step_rule, cast_rule, common_rule, moved_pointer, sum_rule, apart, difference_rule, shift_rule, arithmetic_rule, cast_to, comma_rule, binary_rule, compound_left, compound_refused, is_additive, assign_refused, assign_rule, branches, chosen, choice_rule}
use Rattle.stk_type_rules.specs.Constants.{arithmetic, both}

-- ---- whether a rule fits

does_fit : Ruled → Type 0
does_fit (Breaks n) = ⊥
does_fit (Fits x) = Unit {0}

fact_in : Fact → Ruled → Fact
fact_in d (Breaks n) = d
fact_in d (Fits x) = x

pub not_broken : (n : ℕ) (y : Fact) → Breaks n ≡ Fits y → ⊥
unfolding does_fit
not_broken n y e = subst does_fit (sym e) tt

pub same_fact : (x y : Fact) → Fits x ≡ Fits y → x ≡ y
unfolding fact_in
same_fact x y e = ap (fact_in x) e

-- what holds where a test lets a rule go on
pub record Held (c : Bool) (r : Ruled) (y : Fact) : Type 0 where
  pub test : c ≡ true
  pub rule : r ≡ Fits y

pub held : (c : Bool) (r : Ruled) (n : ℕ) (y : Fact) → (if c then r else Breaks n) ≡ Fits y → Held c r y
held true r n y e = record { test = refl; rule = e }
held false r n y e = absurd (not_broken n y e)

pub record Passed (c : Bool) (r : Ruled) (y : Fact) : Type 0 where
  pub test : c ≡ false
  pub rule : r ≡ Fits y

pub passed : (c : Bool) (r : Ruled) (n : ℕ) (y : Fact) → (if c then Breaks n else r) ≡ Fits y → Passed c r y
passed true r n y e = absurd (not_broken n y e)
passed false r n y e = record { test = refl; rule = e }

pub both_true : (a b : Bool) → a && b ≡ true → (a ≡ true) × (b ≡ true)
both_true true true e = (refl, refl)
both_true true false e = absurd cc
both_true false b e = absurd cc

pub both_false : (a b : Bool) → a || b ≡ false → (a ≡ false) × (b ≡ false)
both_false true b e = absurd cc
both_false false b e = (refl, e)

pub denied_true : (a : Bool) → not a ≡ false → a ≡ true
denied_true true e = refl
denied_true false e = absurd cc

-- ---- types

pub complete_object : (structs : Structs) (t : TypeTree) → is_complete structs t ≡ true → is_object_type t ≡ true
complete_object structs void_type e = absurd cc
complete_object structs (integer_type k) e = refl
complete_object structs (pointer_type t) e = refl
complete_object structs (array_type t count) e = refl
complete_object structs (struct_type id) e = refl
complete_object structs (function_type f) e = absurd cc

pub scalar_no_struct : (t : TypeTree) → is_scalar t ≡ true → is_struct t ≡ false
scalar_no_struct void_type e = refl
scalar_no_struct (integer_type k) e = refl
scalar_no_struct (pointer_type t) e = refl
scalar_no_struct (array_type t count) e = refl
scalar_no_struct (struct_type id) e = absurd cc
scalar_no_struct (function_type f) e = refl

pub decayed_no_struct : (t : TypeTree) → is_scalar (decayed t) ≡ true → is_struct t ≡ false
decayed_no_struct void_type e = refl
decayed_no_struct (integer_type k) e = refl
decayed_no_struct (pointer_type t) e = refl
decayed_no_struct (array_type t count) e = refl
decayed_no_struct (struct_type id) e = absurd cc
decayed_no_struct (function_type f) e = refl

pub kind_no_struct : (t : TypeTree) (k : IntKind) → kind_of t ≡ Some k → is_struct t ≡ false
kind_no_struct void_type k e = refl
kind_no_struct (integer_type j) k e = refl
kind_no_struct (pointer_type t) k e = refl
kind_no_struct (array_type t count) k e = refl
kind_no_struct (struct_type id) k e = absurd cc
kind_no_struct (function_type f) k e = refl

pub pointee_no_struct : (t u : TypeTree) → pointee t ≡ Some u → is_struct t ≡ false
pointee_no_struct void_type u e = refl
pointee_no_struct (integer_type j) u e = refl
pointee_no_struct (pointer_type t) u e = refl
pointee_no_struct (array_type t count) u e = refl
pointee_no_struct (struct_type id) u e = absurd cc
pointee_no_struct (function_type f) u e = refl

pub void_no_struct : (t : TypeTree) → is_void t ≡ true → is_struct t ≡ false
void_no_struct void_type e = refl
void_no_struct (integer_type j) e = refl
void_no_struct (pointer_type t) e = refl
void_no_struct (array_type t count) e = refl
void_no_struct (struct_type id) e = absurd cc
void_no_struct (function_type f) e = refl

-- ---- places

-- an object that a pointer points to
pub record Points (structs : Structs) (t : Option TypeTree) (y : Fact) : Type 0 where
  pub target : TypeTree
  pub points : t ≡ Some target
  pub is : y ≡ place target
  pub object : is_object_type target ≡ true

points_at : (structs : Structs) (t : Option TypeTree) (y : Fact) → pointed structs t ≡ Fits y → Points structs t y
points_at structs None y e = absurd (not_broken 6 y e)
points_at structs (Some t) y e =
    let h = held (is_complete structs t) (Fits (place t)) 4 y e in
    record { target = t; points = refl; is = sym (same_fact (place t) y h.rule); object = complete_object structs t h.test }

-- an element of an index
pub record Element (structs : Structs) (x z y : Fact) : Type 0 where
  pub points : Points structs (pointee x.ty) y
  pub index : is_struct z.ty ≡ false

some_kind : (t : TypeTree) → is_some (kind_of t) ≡ true → is_struct t ≡ false
some_kind void_type e = refl
some_kind (integer_type j) e = refl
some_kind (pointer_type t) e = refl
some_kind (array_type t count) e = refl
some_kind (struct_type id) e = absurd cc
some_kind (function_type f) e = refl

indexed_at : (structs : Structs) (x z y : Fact) (t : Option TypeTree) → pointee x.ty ≡ t → indexed structs (is_some (kind_of z.ty)) t ≡ Fits y → Element structs x z y
indexed_at structs x z y None p e = absurd (not_broken 6 y e)
indexed_at structs x z y (Some t) p e =
    let h = held (is_complete structs t) _ 4 y e in
    let i = held (is_some (kind_of z.ty)) (Fits (place t)) 6 y h.rule in
    record {
      points = record { target = t; points = p; is = sym (same_fact (place t) y i.rule); object = complete_object structs t h.test };
      index = some_kind z.ty i.test;
    }

pub index_fits : (structs : Structs) (x z y : Fact) → index_rule structs x z ≡ Fits y → Element structs x z y
index_fits structs x z y e = indexed_at structs x z y (pointee x.ty) refl e

-- a member of a struct
pub record Member (structs : Structs) (t : TypeTree) (name : List ℕ) (y : Fact) : Type 0 where
  pub found : ℕ × CType
  pub is : member_of structs t name ≡ Some found
  pub place : y ≡ place (type_of found.1)
  pub struct : is_struct t ≡ true

found_at : (structs : Structs) (t : TypeTree) (name : List ℕ) (y : Fact) (m : Option (ℕ × CType)) → member_of structs t name ≡ m → is_struct t ≡ true → found m ≡ Fits y → Member structs t name y
found_at structs t name y None p struct e = absurd (not_broken 10 y e)
found_at structs t name y (Some m) p struct e = record { found = m; is = p; place = sym (same_fact (place (type_of m.1)) y e); struct = struct }

member_at : (structs : Structs) (t : TypeTree) (name : List ℕ) (y : Fact) → member_rule structs t name ≡ Fits y → Member structs t name y
member_at structs t name y e =
    let h = held (is_struct t) (found (member_of structs t name)) 6 y e in
    found_at structs t name y (member_of structs t name) refl h.test h.rule

pub dot_fits : (structs : Structs) (x y : Fact) (name : List ℕ) → dot_rule structs x name ≡ Fits y → Member structs x.ty name y
dot_fits structs x y name e =
    member_at structs x.ty name y (passed (is_struct x.ty && not (is_complete structs x.ty)) (member_rule structs x.ty name) 4 y e).rule

-- a member of what a pointer points to
pub record Reached (structs : Structs) (x : Fact) (name : List ℕ) (y : Fact) : Type 0 where
  pub target : TypeTree
  pub points : pointee x.ty ≡ Some target
  pub member : Member structs target name y

reached_at : (structs : Structs) (x y : Fact) (name : List ℕ) (t : Option TypeTree) → pointee x.ty ≡ t → arrow_to structs t name ≡ Fits y → Reached structs x name y
reached_at structs x y name None p e = absurd (not_broken 6 y e)
reached_at structs x y name (Some t) p e =
    record { target = t; points = p; member = member_at structs t name y (held (is_complete structs t) (member_rule structs t name) 4 y e).rule }

pub arrow_fits : (structs : Structs) (x y : Fact) (name : List ℕ) → arrow_rule structs x name ≡ Fits y → Reached structs x name y
arrow_fits structs x y name e = reached_at structs x y name (pointee x.ty) refl e

-- ---- what is stored to

pub record Stored (x : Fact) : Type 0 where
  pub scalar : is_scalar x.ty ≡ true
  pub lvalue : x.lvalue ≡ true

assigned_at : (o : Option ℕ) (x y : Fact) → assigned o x ≡ Fits y → (o ≡ None) × (x.lvalue ≡ true)
assigned_at (Some n) x y e = absurd (not_broken n y e)
assigned_at None x y e = (refl, (held x.lvalue (Fits (value x.ty)) 7 y e).test)

stepped_scalar : (structs : Structs) (t : TypeTree) → unstepped structs t ≡ None → is_scalar t ≡ true
stepped_scalar structs void_type e = absurd cc
stepped_scalar structs (integer_type j) e = refl
stepped_scalar structs (pointer_type t) e = refl
stepped_scalar structs (array_type t count) e = absurd cc
stepped_scalar structs (struct_type id) e = absurd cc
stepped_scalar structs (function_type f) e = absurd cc

pub step_fits : (structs : Structs) (x y : Fact) → step_rule structs x ≡ Fits y → Stored x
step_fits structs x y e = let a = assigned_at (unstepped structs x.ty) x y e in record { scalar = stepped_scalar structs x.ty a.0; lvalue = a.1 }

-- both operands of an assignment
pub record Assigned (x z : Fact) : Type 0 where
  pub left : Stored x
  pub right : is_struct z.ty ≡ false

record Unrefused (x z : Fact) : Type 0 where
  scalar : is_scalar x.ty ≡ true
  right : is_struct z.ty ≡ false

plain_at : (x z : Fact) (c : Bool) → is_scalar x.ty && has_scalar z ≡ c → if◌then◌else◌ {A = Option ℕ} c None (Some 6) ≡ None → Unrefused x z
plain_at x z true c e = let b = both_true (is_scalar x.ty) (has_scalar z) c in record { scalar = b.0; right = decayed_no_struct z.ty b.1 }
plain_at x z false c e = absurd cc

left_at : (structs : Structs) (additive : Bool) (t : TypeTree) → compound_left structs additive t ≡ None → is_scalar t ≡ true
left_at structs additive void_type e = absurd cc
left_at structs additive (integer_type j) e = refl
left_at structs additive (pointer_type t) e = refl
left_at structs additive (array_type t count) e = absurd cc
left_at structs additive (struct_type id) e = absurd cc
left_at structs additive (function_type f) e = absurd cc

compound_at : (structs : Structs) (op : AssignOp) (x z : Fact) (k : Option IntKind) → kind_of z.ty ≡ k → compound_refused structs op x k ≡ None → Unrefused x z
compound_at structs op x z None p e = absurd cc
compound_at structs op x z (Some k) p e = record { scalar = left_at structs (is_additive op) x.ty e; right = kind_no_struct z.ty k p }

unrefused : (structs : Structs) (op : AssignOp) (x z : Fact) → assign_refused structs op x z ≡ None → Unrefused x z
unrefused structs assign.Plain x z e = plain_at x z (is_scalar x.ty && has_scalar z) refl e
unrefused structs assign.Mul x z e = compound_at structs assign.Mul x z (kind_of z.ty) refl e
unrefused structs assign.Div x z e = compound_at structs assign.Div x z (kind_of z.ty) refl e
unrefused structs assign.Rem x z e = compound_at structs assign.Rem x z (kind_of z.ty) refl e
unrefused structs assign.Add x z e = compound_at structs assign.Add x z (kind_of z.ty) refl e
unrefused structs assign.Sub x z e = compound_at structs assign.Sub x z (kind_of z.ty) refl e
unrefused structs assign.Left x z e = compound_at structs assign.Left x z (kind_of z.ty) refl e
unrefused structs assign.Right x z e = compound_at structs assign.Right x z (kind_of z.ty) refl e
unrefused structs assign.And x z e = compound_at structs assign.And x z (kind_of z.ty) refl e
unrefused structs assign.Xor x z e = compound_at structs assign.Xor x z (kind_of z.ty) refl e
unrefused structs assign.Or x z e = compound_at structs assign.Or x z (kind_of z.ty) refl e

pub assign_fits : (structs : Structs) (op : AssignOp) (x z y : Fact) → assign_rule structs op x z ≡ Fits y → Assigned x z
assign_fits structs op x z y e =
    let a = assigned_at (assign_refused structs op x z) x y e in
    let u = unrefused structs op x z a.0 in
    record { left = record { scalar = u.scalar; lvalue = a.1 }; right = u.right }

-- ---- operators whose operands are read

-- both operands of an operator are no structs
pub record NoStructs (x z : Fact) : Type 0 where
  pub left : is_struct x.ty ≡ false
  pub right : is_struct z.ty ≡ false

pub promoted_fits : (f : IntKind → Constancy → Constancy) (x y : Fact) (k : Option IntKind) (c : Constancy) → kind_of x.ty ≡ k → promoted_rule f k c ≡ Fits y → is_struct x.ty ≡ false
promoted_fits f x y None c p e = absurd (not_broken 6 y e)
promoted_fits f x y (Some k) c p e = kind_no_struct x.ty k p

pub not_fits : (structs : Structs) (x y : Fact) → unary_rule structs unary.Not x ≡ Fits y → is_struct x.ty ≡ false
not_fits structs x y e = decayed_no_struct x.ty (held (has_scalar x) _ 6 y e).test

pub deref_fits : (structs : Structs) (x y : Fact) → unary_rule structs unary.Deref x ≡ Fits y → Points structs (pointee x.ty) y
deref_fits structs x y e = points_at structs (pointee x.ty) y e

cast_at : (t : TypeTree) (x y : Fact) (c : Bool) → (if c then (if is_struct x.ty then Breaks 9 else Fits (value void_type)) else (if is_scalar t && has_scalar x then Fits (cast_to t x.constancy) else Breaks 6)) ≡ Fits y → is_struct x.ty ≡ false
cast_at t x y true e = (passed (is_struct x.ty) (Fits (value void_type)) 9 y e).test
cast_at t x y false e = decayed_no_struct x.ty (both_true (is_scalar t) (has_scalar x) (held (is_scalar t && has_scalar x) (Fits (cast_to t x.constancy)) 6 y e).test).1

pub cast_fits : (t : TypeTree) (x y : Fact) → cast_rule t x ≡ Fits y → is_struct x.ty ≡ false
cast_fits t x y e = cast_at t x y (is_void t) e

common_at : (f : IntKind → Constancy → Constancy → Constancy) (x z y : Fact) (j k : Option IntKind) (c d : Constancy) → kind_of x.ty ≡ j → kind_of z.ty ≡ k → common_rule f j k c d ≡ Fits y → NoStructs x z
common_at f x z y (Some j) (Some k) c d p q e = record { left = kind_no_struct x.ty j p; right = kind_no_struct z.ty k q }
common_at f x z y (Some j) None c d p q e = absurd (not_broken 6 y e)
common_at f x z y None k c d p q e = absurd (not_broken 6 y e)

arithmetic_fits : (op : ArithOp) (x z y : Fact) → arithmetic_rule op x z ≡ Fits y → NoStructs x z
arithmetic_fits op x z y e = common_at (λ k. both (arithmetic op k)) x z y (kind_of x.ty) (kind_of z.ty) x.constancy z.constancy refl refl e

shift_at : (op : ShiftOp) (x z y : Fact) (j k : Option IntKind) (c d : Constancy) → kind_of x.ty ≡ j → kind_of z.ty ≡ k → shift_rule op j k c d ≡ Fits y → NoStructs x z
shift_at op x z y (Some j) (Some k) c d p q e = record { left = kind_no_struct x.ty j p; right = kind_no_struct z.ty k q }
shift_at op x z y (Some j) None c d p q e = absurd (not_broken 6 y e)
shift_at op x z y None k c d p q e = absurd (not_broken 6 y e)

scalars_at : (x z y : Fact) (r : Ruled) → (if has_scalar x && has_scalar z then r else Breaks 6) ≡ Fits y → NoStructs x z
scalars_at x z y r e =
    let b = both_true (has_scalar x) (has_scalar z) (held (has_scalar x && has_scalar z) r 6 y e).test in
    record { left = decayed_no_struct x.ty b.0; right = decayed_no_struct z.ty b.1 }

moved_at : (structs : Structs) (x y : Fact) (t : Option TypeTree) → pointee x.ty ≡ t → moved_pointer structs t ≡ Fits y → is_struct x.ty ≡ false
moved_at structs x y None p e = absurd (not_broken 6 y e)
moved_at structs x y (Some t) p e = pointee_no_struct x.ty t p

sum_at : (structs : Structs) (x z y : Fact) (j k : Option IntKind) → kind_of x.ty ≡ j → kind_of z.ty ≡ k → sum_rule structs j k x z ≡ Fits y → NoStructs x z
sum_at structs x z y (Some j) (Some k) p q e = record { left = kind_no_struct x.ty j p; right = kind_no_struct z.ty k q }
sum_at structs x z y (Some j) None p q e = record { left = kind_no_struct x.ty j p; right = moved_at structs z y (pointee z.ty) refl e }
sum_at structs x z y None (Some k) p q e = record { left = moved_at structs x y (pointee x.ty) refl e; right = kind_no_struct z.ty k q }
sum_at structs x z y None None p q e = absurd (not_broken 6 y e)

apart_at : (structs : Structs) (x z y : Fact) (t u : Option TypeTree) → pointee x.ty ≡ t → pointee z.ty ≡ u → apart structs t u ≡ Fits y → NoStructs x z
apart_at structs x z y (Some t) (Some u) p q e = record { left = pointee_no_struct x.ty t p; right = pointee_no_struct z.ty u q }
apart_at structs x z y (Some t) None p q e = absurd (not_broken 6 y e)
apart_at structs x z y None u p q e = absurd (not_broken 6 y e)

difference_at : (structs : Structs) (x z y : Fact) (j k : Option IntKind) → kind_of x.ty ≡ j → kind_of z.ty ≡ k → difference_rule structs j k x z ≡ Fits y → NoStructs x z
difference_at structs x z y (Some j) (Some k) p q e = record { left = kind_no_struct x.ty j p; right = kind_no_struct z.ty k q }
difference_at structs x z y (Some j) None p q e = absurd (not_broken 6 y e)
difference_at structs x z y None (Some k) p q e = record { left = moved_at structs x y (pointee x.ty) refl e; right = kind_no_struct z.ty k q }
difference_at structs x z y None None p q e = apart_at structs x z y (pointee x.ty) (pointee z.ty) refl refl e

comma_fits : (x z y : Fact) → comma_rule x z ≡ Fits y → NoStructs x z
comma_fits x z y e =
    let b = both_false (is_struct x.ty) (is_struct z.ty) (passed (is_struct x.ty || is_struct z.ty) (Fits (value (decayed z.ty))) 9 y e).test in
    record { left = b.0; right = b.1 }

pub binary_fits : (structs : Structs) (op : BinaryOp) (x z y : Fact) → binary_rule structs op x z ≡ Fits y → NoStructs x z
binary_fits structs binary.Comma x z y e = comma_fits x z y e
binary_fits structs binary.OrElse x z y e = scalars_at x z y _ e
binary_fits structs binary.AndAlso x z y e = scalars_at x z y _ e
binary_fits structs binary.Or x z y e = arithmetic_fits arith.Or x z y e
binary_fits structs binary.Xor x z y e = arithmetic_fits arith.Xor x z y e
binary_fits structs binary.And x z y e = arithmetic_fits arith.And x z y e
binary_fits structs binary.Eq x z y e = scalars_at x z y _ e
binary_fits structs binary.Ne x z y e = scalars_at x z y _ e
binary_fits structs binary.Lt x z y e = scalars_at x z y _ e
binary_fits structs binary.Gt x z y e = scalars_at x z y _ e
binary_fits structs binary.Le x z y e = scalars_at x z y _ e
binary_fits structs binary.Ge x z y e = scalars_at x z y _ e
binary_fits structs binary.Left x z y e = shift_at shifts.Left x z y (kind_of x.ty) (kind_of z.ty) x.constancy z.constancy refl refl e
binary_fits structs binary.Right x z y e = shift_at shifts.Right x z y (kind_of x.ty) (kind_of z.ty) x.constancy z.constancy refl refl e
binary_fits structs binary.Add x z y e = sum_at structs x z y (kind_of x.ty) (kind_of z.ty) refl refl e
binary_fits structs binary.Sub x z y e = difference_at structs x z y (kind_of x.ty) (kind_of z.ty) refl refl e
binary_fits structs binary.Mul x z y e = arithmetic_fits arith.Mul x z y e
binary_fits structs binary.Div x z y e = arithmetic_fits arith.Div x z y e
binary_fits structs binary.Rem x z y e = arithmetic_fits arith.Rem x z y e

-- ---- `?:`

-- the condition and the branches are no structs
pub record NoStructsInChoice (x y z : Fact) : Type 0 where
  pub test : is_struct x.ty ≡ false
  pub branches : NoStructs y z

voids_at : (y z w : Fact) → (if is_void y.ty && is_void z.ty then Fits (value void_type) else Breaks 6) ≡ Fits w → NoStructs y z
voids_at y z w e =
    let b = both_true (is_void y.ty) (is_void z.ty) (held (is_void y.ty && is_void z.ty) (Fits (value void_type)) 6 w e).test in
    record { left = void_no_struct y.ty b.0; right = void_no_struct z.ty b.1 }

branches_at : (y z w : Fact) (k l : Option IntKind) (t u : Option TypeTree) → kind_of y.ty ≡ k → kind_of z.ty ≡ l → pointee y.ty ≡ t → pointee z.ty ≡ u → branches k l t u y z ≡ Fits w → NoStructs y z
branches_at y z w k l (Some t) (Some u) a b p q e = record { left = pointee_no_struct y.ty t p; right = pointee_no_struct z.ty u q }
branches_at y z w k (Some l) (Some t) None a b p q e = record { left = pointee_no_struct y.ty t p; right = kind_no_struct z.ty l b }
branches_at y z w k None (Some t) None a b p q e = absurd (not_broken 6 w e)
branches_at y z w (Some k) l None (Some u) a b p q e = record { left = kind_no_struct y.ty k a; right = pointee_no_struct z.ty u q }
branches_at y z w None l None (Some u) a b p q e = absurd (not_broken 6 w e)
branches_at y z w k l None None a b p q e = voids_at y z w e

chosen_at : (x y z w : Fact) (k l : Option IntKind) → kind_of y.ty ≡ k → kind_of z.ty ≡ l → chosen k l x y z ≡ Fits w → NoStructs y z
chosen_at x y z w (Some k) (Some l) a b e = record { left = kind_no_struct y.ty k a; right = kind_no_struct z.ty l b }
chosen_at x y z w (Some k) None a b e = branches_at y z w (Some k) None (pointee y.ty) (pointee z.ty) a b refl refl e
chosen_at x y z w None l a b e = branches_at y z w None l (pointee y.ty) (pointee z.ty) a b refl refl e

pub choice_fits : (x y z w : Fact) → choice_rule x y z ≡ Fits w → NoStructsInChoice x y z
choice_fits x y z w e =
    let h = held (has_scalar x) (chosen (kind_of y.ty) (kind_of z.ty) x y z) 6 w e in
    record { test = decayed_no_struct x.ty h.test; branches = chosen_at x y z w (kind_of y.ty) (kind_of z.ty) refl refl h.rule }

-- ---- parentheses

pub record Within (x y : Fact) : Type 0 where
  pub type : y.ty ≡ x.ty
  pub lvalue : y.lvalue ≡ x.lvalue

pub paren_fits : (x y : Fact) → paren_rule x ≡ Fits y → Within x y
paren_fits x y e = let same = same_fact _ y e in record { type = sym (ap (λ (z : Fact). z.ty) same); lvalue = sym (ap (λ (z : Fact). z.lvalue) same) }
