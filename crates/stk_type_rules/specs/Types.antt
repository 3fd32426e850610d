-- What a type is for an operator.
use Rattle.std.specs.Prelude.{ℕ, Bool, true, false, if◌then◌else◌, Option, Some, None}
use Rattle.std.specs.Option.{is_some}
use Rattle.stk_ctype.specs.declared.kind.IntKind.{IntKind}
use Rattle.stk_ctype.specs.Types.{TypeTree, void_type, integer_type, pointer_type, array_type, struct_type, function_type}
use Rattle.stk_ctype.specs.Structs.{Structs, size_of}

-- the type of a value: that of an array is a pointer to its first element (C11 6.3.2.1p3)
abbrev pub decayed : TypeTree → TypeTree
decayed void_type = void_type
decayed (integer_type kind) = integer_type kind
decayed (pointer_type t) = pointer_type t
decayed (array_type t count) = pointer_type t
decayed (struct_type id) = struct_type id
decayed (function_type f) = function_type f

-- the kind of an integer type
abbrev pub kind_of : TypeTree → Option IntKind
kind_of void_type = None
kind_of (integer_type kind) = Some kind
kind_of (pointer_type t) = None
kind_of (array_type t count) = None
kind_of (struct_type id) = None
kind_of (function_type f) = None

-- what a pointer points to, or an array when it is read
abbrev pub pointee : TypeTree → Option TypeTree
pointee void_type = None
pointee (integer_type kind) = None
pointee (pointer_type t) = Some t
pointee (array_type t count) = Some t
pointee (struct_type id) = None
pointee (function_type f) = None

-- an integer or a pointer (C11 6.2.5p21)
abbrev pub is_scalar : TypeTree → Bool
is_scalar void_type = false
is_scalar (integer_type kind) = true
is_scalar (pointer_type t) = true
is_scalar (array_type t count) = false
is_scalar (struct_type id) = false
is_scalar (function_type f) = false

-- `void`
abbrev pub is_void : TypeTree → Bool
is_void void_type = true
is_void (integer_type kind) = false
is_void (pointer_type t) = false
is_void (array_type t count) = false
is_void (struct_type id) = false
is_void (function_type f) = false

-- a struct
abbrev pub is_struct : TypeTree → Bool
is_struct void_type = false
is_struct (integer_type kind) = false
is_struct (pointer_type t) = false
is_struct (array_type t count) = false
is_struct (struct_type id) = true
is_struct (function_type f) = false

-- a complete object type: one that has a size (C11 6.2.5p1)
abbrev pub is_complete : Structs → TypeTree → Bool
is_complete structs t = is_some (size_of structs t)

-- by how many bytes a number moves a pointer to a type; for `void` by 1 in this profile
abbrev pub stride : Structs → TypeTree → Option ℕ
stride structs t = if is_void t then Some 1 else size_of structs t
