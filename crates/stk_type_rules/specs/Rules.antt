-- The types of expressions: for each form the rule that refuses it, the lowest first, or what is known of it (C11 6.5).
--
-- Rule 4: a complete object type is needed. 6: the operands don't fit the operator. 7: an lvalue is needed. 9: a struct
-- can't be used as a value. 10: there is no such member.
use Rattle.std.specs.Prelude.{ℕ, Bool, true, false, not, ◌&&◌, ◌||◌, ◌==◌, if◌then◌else◌, List, Option, Some, None, ℤ, pos}
use Rattle.std.specs.Option.{is_some}
use Rattle.std.specs.Ordering.{int_eq}
use Rattle.stk_ctype.specs.declared.ctype.CType.{CType}
use Rattle.stk_ctype.specs.declared.kind.IntKind.{IntKind}
use Rattle.stk_ctype.specs.declared.kind.IntKind.TheVariants.{Int, Long, ULong}
use Rattle.stk_ctype.specs.Types.{TypeTree, void_type, integer_type, pointer_type, array_type, struct_type, function_type, type_of}
use Rattle.stk_ctype.specs.Structs.{Structs, size_of, member_of}
use Rattle.stk_tree.specs.declared.expression.UnaryOp.{UnaryOp}
use Rattle.stk_tree.specs.declared.expression.UnaryOp.TheVariants as unary
use Rattle.stk_tree.specs.declared.expression.BinaryOp.{BinaryOp}
use Rattle.stk_tree.specs.declared.expression.BinaryOp.TheVariants as binary
use Rattle.stk_tree.specs.declared.expression.AssignOp.{AssignOp}
use Rattle.stk_tree.specs.declared.expression.AssignOp.TheVariants as assign
use Rattle.stk_numbers.specs.declared.operators.ArithOp.{ArithOp}
use Rattle.stk_numbers.specs.declared.operators.ArithOp.TheVariants as arith
use Rattle.stk_numbers.specs.declared.operators.ShiftOp.{ShiftOp}
use Rattle.stk_numbers.specs.declared.operators.ShiftOp.TheVariants as shifts
use Rattle.stk_numbers.specs.declared.operators.CompareOp.{CompareOp}
use Rattle.stk_numbers.specs.declared.operators.CompareOp.TheVariants as compares
use Rattle.stk_numbers.specs.Kinds.{promote, common}
use Rattle.stk_type_rules.specs.declared.facts.Constancy.{Constancy}
use Rattle.stk_type_rules.specs.declared.facts.Constancy.TheVariants.{Varies, Violates, Number}
use Rattle.stk_type_rules.specs.Facts.{Fact, Ruled, Breaks, Fits, value, place, constant, literal, measured}
use Rattle.stk_type_rules.specs.Types.{decayed, kind_of, pointee, is_scalar, is_void, is_struct, is_complete, stride}
use Rattle.stk_type_rules.specs.Constants.{arithmetic, shift, comparison, both, logical, choice, converted, negated, flipped, denied}

-- a value is an integer or a pointer
abbrev pub has_scalar : Fact → Bool
has_scalar x = is_scalar (decayed x.ty)

-- a value of type `int`
abbrev pub integer : Constancy → Ruled
integer c = Fits (constant (integer_type Int) c)

-- `( e )`: as the expression in it, but that it is no name
abbrev pub paren_rule : Fact → Ruled
paren_rule x = Fits (record { role = x.role; ty = x.ty; lvalue = x.lvalue; means = None; constancy = x.constancy; number = None; is_null = x.is_null })

-- ---- places

-- the object that a pointer points to
abbrev pub pointed : Structs → Option TypeTree → Ruled
pointed structs None = Breaks 6
pointed structs (Some t) = if is_complete structs t then Fits (place t) else Breaks 4

-- the element of an index
abbrev pub indexed : Structs → Bool → Option TypeTree → Ruled
indexed structs is_index None = Breaks 6
indexed structs is_index (Some t) = if is_complete structs t then (if is_index then Fits (place t) else Breaks 6) else Breaks 4

-- `e[e]` (C11 6.5.2.1): a pointer and an integer, in this order
abbrev pub index_rule : Structs → Fact → Fact → Ruled
index_rule structs x y = indexed structs (is_some (kind_of y.ty)) (pointee x.ty)

-- a member
abbrev pub found : Option (ℕ × CType) → Ruled
found None = Breaks 10
found (Some m) = Fits (place (type_of m.1))

-- the member of a name in a complete type
abbrev pub member_rule : Structs → TypeTree → List ℕ → Ruled
member_rule structs t name = if is_struct t then found (member_of structs t name) else Breaks 6

-- `e.name` (C11 6.5.2.3)
abbrev pub dot_rule : Structs → Fact → List ℕ → Ruled
dot_rule structs x name = if is_struct x.ty && not (is_complete structs x.ty) then Breaks 4 else member_rule structs x.ty name

-- what a pointer's target has as members
abbrev pub arrow_to : Structs → Option TypeTree → List ℕ → Ruled
arrow_to structs None name = Breaks 6
arrow_to structs (Some t) name = if is_complete structs t then member_rule structs t name else Breaks 4

-- `e->name` (C11 6.5.2.3)
abbrev pub arrow_rule : Structs → Fact → List ℕ → Ruled
arrow_rule structs x name = arrow_to structs (pointee x.ty) name

-- ---- operators with one operand

-- a promoted integer
abbrev pub promoted_rule : (IntKind → Constancy → Constancy) → Option IntKind → Constancy → Ruled
promoted_rule f None c = Breaks 6
promoted_rule f (Some k) c = Fits (constant (integer_type (promote k)) (f (promote k) c))

-- `& * + - ~ !` (C11 6.5.3.2, 6.5.3.3)
abbrev pub unary_rule : Structs → UnaryOp → Fact → Ruled
unary_rule structs unary.Address x = if x.lvalue then Fits (value (pointer_type x.ty)) else Breaks 7
unary_rule structs unary.Deref x = pointed structs (pointee x.ty)
unary_rule structs unary.Plus x = promoted_rule converted (kind_of x.ty) x.constancy
unary_rule structs unary.Minus x = promoted_rule negated (kind_of x.ty) x.constancy
unary_rule structs unary.Flip x = promoted_rule flipped (kind_of x.ty) x.constancy
unary_rule structs unary.Not x = if has_scalar x then integer (denied x.constancy) else Breaks 6

-- what is assigned to, where nothing else refuses it
abbrev pub assigned : Option ℕ → Fact → Ruled
assigned (Some rule) x = Breaks rule
assigned None x = if x.lvalue then Fits (value x.ty) else Breaks 7

-- a number can move a pointer to this type, or the rule that refuses it
abbrev pub unmoved : Option ℕ → Option ℕ
unmoved None = Some 4
unmoved (Some n) = None

-- what refuses `++` and `--`: a scalar is needed, and a pointer's target has a size
abbrev pub unstepped : Structs → TypeTree → Option ℕ
unstepped structs void_type = Some 6
unstepped structs (integer_type kind) = None
unstepped structs (pointer_type t) = unmoved (stride structs t)
unstepped structs (array_type t count) = Some 6
unstepped structs (struct_type id) = Some 6
unstepped structs (function_type f) = Some 6

-- `++` and `--`, before and behind (C11 6.5.2.4, 6.5.3.1)
abbrev pub step_rule : Structs → Fact → Ruled
step_rule structs x = assigned (unstepped structs x.ty) x

-- the size of a type
abbrev pub sized : (ℤ → Fact) → Option ℕ → Ruled
sized f None = Breaks 4
sized f (Some n) = Fits (f (pos n))

-- `sizeof e`, with the type of e where it doesn't become a pointer; it is no constant expression in this profile (C11
-- 6.5.3.4)
abbrev pub size_rule : Structs → Fact → Ruled
size_rule structs x = sized (measured (integer_type ULong)) (size_of structs x.ty)

-- `sizeof ( type )` (C11 6.5.3.4)
abbrev pub type_size_rule : Structs → TypeTree → Ruled
type_size_rule structs t = sized (literal (integer_type ULong)) (size_of structs t)

-- whether a number is 0
abbrev pub is_zero : Constancy → Bool
is_zero Varies = false
is_zero Violates = false
is_zero (Number z) = int_eq z (pos 0)

-- a scalar converted to a scalar type; a constant 0 as `void *` is a null pointer constant (C11 6.3.2.3p3)
abbrev pub cast_to : TypeTree → Constancy → Fact
cast_to (integer_type k) c = constant (integer_type k) (converted k c)
cast_to (pointer_type t) c = record { role = (value void_type).role; ty = pointer_type t; lvalue = false; means = None; constancy = Varies; number = None; is_null = is_void t && is_zero c }
cast_to void_type c = value void_type
cast_to (array_type t count) c = value (array_type t count)
cast_to (struct_type id) c = value (struct_type id)
cast_to (function_type f) c = value (function_type f)

-- `( type ) e`: a scalar to a scalar, or anything but a struct to `void` (C11 6.5.4)
abbrev pub cast_rule : TypeTree → Fact → Ruled
cast_rule t x =
    if is_void t then (if is_struct x.ty then Breaks 9 else Fits (value void_type)) else
    (if is_scalar t && has_scalar x then Fits (cast_to t x.constancy) else Breaks 6)

-- ---- operators with two operands

-- two integers, converted to their common kind (C11 6.3.1.8)
abbrev pub common_rule : (IntKind → Constancy → Constancy → Constancy) → Option IntKind → Option IntKind → Constancy → Constancy → Ruled
common_rule f (Some j) (Some k) c d = Fits (constant (integer_type (common j k)) (f (common j k) c d))
common_rule f (Some j) None c d = Breaks 6
common_rule f None k c d = Breaks 6

-- `+ - * / % & ^ |` of integers
abbrev pub arithmetic_rule : ArithOp → Fact → Fact → Ruled
arithmetic_rule op x y = common_rule (λ k. both (arithmetic op k)) (kind_of x.ty) (kind_of y.ty) x.constancy y.constancy

-- a pointer to a type, moved by a number
abbrev pub moved_pointer : Structs → Option TypeTree → Ruled
moved_pointer structs None = Breaks 6
moved_pointer structs (Some t) = if is_some (stride structs t) then Fits (value (pointer_type t)) else Breaks 4

-- `+`: integers, or a pointer and an integer in either order (C11 6.5.6)
abbrev pub sum_rule : Structs → Option IntKind → Option IntKind → Fact → Fact → Ruled
sum_rule structs (Some j) (Some k) x y = arithmetic_rule arith.Add x y
sum_rule structs (Some j) None x y = moved_pointer structs (pointee y.ty)
sum_rule structs None (Some k) x y = moved_pointer structs (pointee x.ty)
sum_rule structs None None x y = Breaks 6

-- two pointers to types of the same size
abbrev pub distance_rule : Option ℕ → Option ℕ → Ruled
distance_rule (Some m) (Some n) = if m == n then Fits (value (integer_type Long)) else Breaks 6
distance_rule (Some m) None = Breaks 4
distance_rule None n = Breaks 4

-- two pointers
abbrev pub apart : Structs → Option TypeTree → Option TypeTree → Ruled
apart structs (Some t) (Some u) = distance_rule (stride structs t) (stride structs u)
apart structs (Some t) None = Breaks 6
apart structs None u = Breaks 6

-- `-`: integers, a pointer less an integer, or two pointers (C11 6.5.6)
abbrev pub difference_rule : Structs → Option IntKind → Option IntKind → Fact → Fact → Ruled
difference_rule structs (Some j) (Some k) x y = arithmetic_rule arith.Sub x y
difference_rule structs (Some j) None x y = Breaks 6
difference_rule structs None (Some k) x y = moved_pointer structs (pointee x.ty)
difference_rule structs None None x y = apart structs (pointee x.ty) (pointee y.ty)

-- `<<` and `>>`, in the promoted kind of the left operand (C11 6.5.7)
abbrev pub shift_rule : ShiftOp → Option IntKind → Option IntKind → Constancy → Constancy → Ruled
shift_rule op (Some j) (Some k) c d = Fits (constant (integer_type (promote j)) (both (shift op (promote j)) c d))
shift_rule op (Some j) None c d = Breaks 6
shift_rule op None k c d = Breaks 6

-- the constant that a comparison is: of integers in their common kind
abbrev pub compared_as : CompareOp → Option IntKind → Option IntKind → Constancy → Constancy → Constancy
compared_as op (Some j) (Some k) c d = both (comparison op (common j k)) c d
compared_as op (Some j) None c d = Varies
compared_as op None k c d = Varies

-- a comparison of scalars (C11 6.5.8, 6.5.9)
abbrev pub comparison_rule : CompareOp → Fact → Fact → Ruled
comparison_rule op x y = if has_scalar x && has_scalar y then integer (compared_as op (kind_of x.ty) (kind_of y.ty) x.constancy y.constancy) else Breaks 6

-- `&&` and `||` of scalars; `||` is decided by a true operand, and `&&` by a false one (C11 6.5.13, 6.5.14)
abbrev pub logical_rule : Bool → Fact → Fact → Ruled
logical_rule stops x y = if has_scalar x && has_scalar y then integer (logical stops x.constancy y.constancy) else Breaks 6

-- `e , e`: the value of the right one (C11 6.5.17)
abbrev pub comma_rule : Fact → Fact → Ruled
comma_rule x y = if is_struct x.ty || is_struct y.ty then Breaks 9 else Fits (value (decayed y.ty))

-- the operators with two operands
abbrev pub binary_rule : Structs → BinaryOp → Fact → Fact → Ruled
binary_rule structs binary.Comma x y = comma_rule x y
binary_rule structs binary.OrElse x y = logical_rule true x y
binary_rule structs binary.AndAlso x y = logical_rule false x y
binary_rule structs binary.Or x y = arithmetic_rule arith.Or x y
binary_rule structs binary.Xor x y = arithmetic_rule arith.Xor x y
binary_rule structs binary.And x y = arithmetic_rule arith.And x y
binary_rule structs binary.Eq x y = comparison_rule compares.Eq x y
binary_rule structs binary.Ne x y = comparison_rule compares.Ne x y
binary_rule structs binary.Lt x y = comparison_rule compares.Lt x y
binary_rule structs binary.Gt x y = comparison_rule compares.Gt x y
binary_rule structs binary.Le x y = comparison_rule compares.Le x y
binary_rule structs binary.Ge x y = comparison_rule compares.Ge x y
binary_rule structs binary.Left x y = shift_rule shifts.Left (kind_of x.ty) (kind_of y.ty) x.constancy y.constancy
binary_rule structs binary.Right x y = shift_rule shifts.Right (kind_of x.ty) (kind_of y.ty) x.constancy y.constancy
binary_rule structs binary.Add x y = sum_rule structs (kind_of x.ty) (kind_of y.ty) x y
binary_rule structs binary.Sub x y = difference_rule structs (kind_of x.ty) (kind_of y.ty) x y
binary_rule structs binary.Mul x y = arithmetic_rule arith.Mul x y
binary_rule structs binary.Div x y = arithmetic_rule arith.Div x y
binary_rule structs binary.Rem x y = arithmetic_rule arith.Rem x y

-- ---- assignments

-- whether an operator adds or subtracts
abbrev pub is_additive : AssignOp → Bool
is_additive assign.Plain = false
is_additive assign.Mul = false
is_additive assign.Div = false
is_additive assign.Rem = false
is_additive assign.Add = true
is_additive assign.Sub = true
is_additive assign.Left = false
is_additive assign.Right = false
is_additive assign.And = false
is_additive assign.Xor = false
is_additive assign.Or = false

-- what refuses an assignment without an operator
abbrev pub plain_refused : Fact → Fact → Option ℕ
plain_refused x y = if is_scalar x.ty && has_scalar y then None else Some 6

-- what refuses an operator whose left operand has this type and whose right one is an integer: a pointer is moved by
-- `+=` and `-=` alone
abbrev pub compound_left : Structs → Bool → TypeTree → Option ℕ
compound_left structs additive void_type = Some 6
compound_left structs additive (integer_type kind) = None
compound_left structs additive (pointer_type t) = if additive then unmoved (stride structs t) else Some 6
compound_left structs additive (array_type t count) = Some 6
compound_left structs additive (struct_type id) = Some 6
compound_left structs additive (function_type f) = Some 6

-- what refuses an assignment with an operator: the right operand is an integer
abbrev pub compound_refused : Structs → AssignOp → Fact → Option IntKind → Option ℕ
compound_refused structs op x None = Some 6
compound_refused structs op x (Some k) = compound_left structs (is_additive op) x.ty

-- what refuses an assignment
abbrev pub assign_refused : Structs → AssignOp → Fact → Fact → Option ℕ
assign_refused structs assign.Plain x y = plain_refused x y
assign_refused structs assign.Mul x y = compound_refused structs assign.Mul x (kind_of y.ty)
assign_refused structs assign.Div x y = compound_refused structs assign.Div x (kind_of y.ty)
assign_refused structs assign.Rem x y = compound_refused structs assign.Rem x (kind_of y.ty)
assign_refused structs assign.Add x y = compound_refused structs assign.Add x (kind_of y.ty)
assign_refused structs assign.Sub x y = compound_refused structs assign.Sub x (kind_of y.ty)
assign_refused structs assign.Left x y = compound_refused structs assign.Left x (kind_of y.ty)
assign_refused structs assign.Right x y = compound_refused structs assign.Right x (kind_of y.ty)
assign_refused structs assign.And x y = compound_refused structs assign.And x (kind_of y.ty)
assign_refused structs assign.Xor x y = compound_refused structs assign.Xor x (kind_of y.ty)
assign_refused structs assign.Or x y = compound_refused structs assign.Or x (kind_of y.ty)

-- `=` and the assignments with an operator (C11 6.5.16)
abbrev pub assign_rule : Structs → AssignOp → Fact → Fact → Ruled
assign_rule structs op x y = assigned (assign_refused structs op x y) x

-- ---- `?:` (C11 6.5.15)

-- two pointers: beside a null pointer constant the other's type; else `void *` where either is; else the first's type
abbrev pub either : TypeTree → TypeTree → Bool → Bool → TypeTree
either t u true false = pointer_type u
either t u false true = pointer_type t
either t u true true = if is_void u then pointer_type u else pointer_type t
either t u false false = if is_void u then pointer_type u else pointer_type t

-- the branches of which at least one is no integer
abbrev pub branches : Option IntKind → Option IntKind → Option TypeTree → Option TypeTree → Fact → Fact → Ruled
branches k l (Some t) (Some u) x y = Fits (value (either t u x.is_null y.is_null))
branches k (Some l) (Some t) None x y = Fits (value (pointer_type t))
branches (Some k) l None (Some u) x y = Fits (value (pointer_type u))
branches k None (Some t) None x y = Breaks 6
branches None l None (Some u) x y = Breaks 6
branches k l None None x y = if is_void x.ty && is_void y.ty then Fits (value void_type) else Breaks 6

-- two integers, or else other branches
abbrev pub chosen : Option IntKind → Option IntKind → Fact → Fact → Fact → Ruled
chosen (Some k) (Some l) x y z = Fits (constant (integer_type (common k l)) (choice (common k l) x.constancy y.constancy z.constancy))
chosen (Some k) None x y z = branches (Some k) None (pointee y.ty) (pointee z.ty) y z
chosen None l x y z = branches None l (pointee y.ty) (pointee z.ty) y z

-- `e ? e : e`
abbrev pub choice_rule : Fact → Fact → Fact → Ruled
choice_rule x y z = if has_scalar x then chosen (kind_of y.ty) (kind_of z.ty) x y z else Breaks 6
