-- The view that shows trees of the code's types.
use Rattle.std.specs.Prelude.{map}
use Rattle.stk_ctype.specs.declared.ctype.CType.{CType}
use Rattle.stk_ctype.specs.declared.ctype.CType.TheVariants as ctype
use Rattle.stk_ctype.specs.declared.ctype.Signature.{Signature}
pub use Rattle.stk_ctype.specs.Trees.{TypeTree, void_type, integer_type, pointer_type, array_type, struct_type, function_type, SignatureTree, signature, TypeTrees, no_types, then_type, row_of}

-- the tree of a type
abbrev pub type_of : CType → TypeTree
type_of ctype.Void = void_type
type_of (ctype.Int kind) = integer_type kind
type_of (ctype.Pointer t) = pointer_type t
type_of (ctype.Array t n) = array_type t n
type_of (ctype.Struct id) = struct_type id
type_of (ctype.Function f) = function_type f

-- the tree of a signature
abbrev pub signature_of : Signature → SignatureTree
signature_of f = signature (type_of f.result) (row_of (map type_of f.params)) f.more f.no_return
