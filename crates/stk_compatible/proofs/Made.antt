-- A type is the one that its tree makes, and a tree that of the type that it makes.
use Rattle.std.proofs.Common.{◌≡◌, refl}
use Rattle.stk_ctype.specs.declared.ctype.CType.{CType}
use Rattle.stk_ctype.specs.declared.ctype.CType.TheVariants as ctype
use Rattle.stk_ctype.specs.Types.{TypeTree, void_type, integer_type, pointer_type, array_type, struct_type, function_type, type_of}
use Rattle.stk_compatible.specs.Making.{made}

pub made_type : (t : CType) → made (type_of t) ≡ t
made_type ctype.Void = refl
made_type (ctype.Int k) = refl
made_type (ctype.Pointer t) = refl
made_type (ctype.Array t n) = refl
made_type (ctype.Struct id) = refl
made_type (ctype.Function f) = refl

pub shown : (t : TypeTree) → type_of (made t) ≡ t
shown void_type = refl
shown (integer_type k) = refl
shown (pointer_type t) = refl
shown (array_type t n) = refl
shown (struct_type id) = refl
shown (function_type f) = refl
