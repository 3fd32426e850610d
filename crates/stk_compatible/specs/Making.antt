-- The type that a tree is, as the code holds it.
use Rattle.std.specs.Prelude.{List, [], ◌∷◌}
use Rattle.stk_ctype.specs.declared.ctype.CType.{CType}
use Rattle.stk_ctype.specs.declared.ctype.CType.TheVariants as ctype
use Rattle.stk_ctype.specs.declared.ctype.Signature.{Signature}
use Rattle.stk_ctype.specs.Types.{TypeTree, void_type, integer_type, pointer_type, array_type, struct_type, function_type, SignatureTree, signature, TypeTrees, no_types, then_type}

abbrev pub made : TypeTree → CType
made void_type = ctype.Void
made (integer_type k) = ctype.Int k
made (pointer_type t) = ctype.Pointer t
made (array_type t c) = ctype.Array t c
made (struct_type id) = ctype.Struct id
made (function_type f) = ctype.Function f

abbrev pub made_row : TypeTrees → List CType
made_row no_types = []
made_row (then_type t ts) = made t ∷ made_row ts

abbrev pub made_signature : SignatureTree → Signature
made_signature (signature r ps more x) = record { result = made r; params = made_row ps; more = more; no_return = x }
