-- What is inside all arrays of a type.
use Rattle.std.specs.Prelude.{ℕ, ◌*◌, ◌^◌, nat_lt, if◌then◌else◌, Option, Some, None}
use Rattle.stk_ctype.specs.declared.shared_type.Inmost.{Inmost}
use Rattle.stk_ctype.specs.declared.shared_type.Inmost.TheVariants as inside
use Rattle.stk_ctype.specs.Kinds.{bytes_of}
use Rattle.stk_ctype.specs.Trees.{TypeTree, void_type, integer_type, pointer_type, array_type, struct_type, function_type}
use Rattle.stk_ctype.specs.Structs.{Structs, size_of}

-- what is inside all arrays of a type
abbrev pub inmost_of : TypeTree → Inmost
inmost_of void_type = inside.Nothing
inmost_of (integer_type kind) = inside.Bytes (bytes_of kind)
inmost_of (pointer_type t) = inside.Bytes 8
inmost_of (array_type t n) = inmost_of t
inmost_of (struct_type id) = inside.Struct id
inmost_of (function_type f) = inside.Nothing

-- a product, where both numbers are known and it is below 2^64
abbrev pub product_of : Option ℕ → Option ℕ → Option ℕ
product_of (Some n) (Some m) = if nat_lt (n * m) (2 ^ 64) then Some (n * m) else None
product_of (Some n) None = None
product_of None m = None

-- how many of them are in a type, where that is known and below 2^64
abbrev pub count_in : TypeTree → Option ℕ
count_in void_type = Some 1
count_in (integer_type kind) = Some 1
count_in (pointer_type t) = Some 1
count_in (array_type t n) = product_of n (count_in t)
count_in (struct_type id) = Some 1
count_in (function_type f) = Some 1

-- the size of what is inside, where it is a complete object
abbrev pub size_inside : Structs → Inmost → Option ℕ
size_inside structs (inside.Bytes bytes) = Some bytes
size_inside structs (inside.Struct id) = size_of structs (struct_type id)
size_inside structs inside.Nothing = None
