-- The type of a function (C11 6.7.6.3).
use Rattle.std.specs.Prelude.{ℕ, Bool, true, false, not, ◌&&◌, ◌||◌, if◌then◌else◌, List, [], ◌∷◌, Option, Some, None}
use Rattle.stk_ctype.specs.Types.{TypeTree, void_type, integer_type, pointer_type, array_type, struct_type, function_type, signature, row_of}
use Rattle.stk_ctype.specs.Structs.{Structs}
use Rattle.stk_type_rules.specs.Facts.{Ruled, Breaks, Fits, declares}
use Rattle.stk_type_rules.specs.Types.{is_complete}
use Rattle.stk_declarators.specs.Parameters.{Parameter, types_of, have_unnamed}

-- a function may return `void`, a scalar or a struct, which is complete in a definition
abbrev pub may_return : Structs → Bool → TypeTree → Bool
may_return structs defines void_type = true
may_return structs defines (integer_type k) = true
may_return structs defines (pointer_type t) = true
may_return structs defines (array_type t count) = false
may_return structs defines (struct_type id) = not defines || is_complete structs (struct_type id)
may_return structs defines (function_type f) = false

-- the type of a function with these parameters, which may take more arguments
abbrev pub function_of : TypeTree → List Parameter → Bool → TypeTree
function_of t ps more = function_type (signature t (row_of (types_of ps)) more false)

-- a function's declarator: each parameter of a definition has a name
abbrev pub function_rule : Structs → Bool → TypeTree → List Parameter → Bool → Ruled
function_rule structs defines t ps more =
    if may_return structs defines t then (if defines && have_unnamed ps then Breaks 15 else Fits (declares (function_of t ps more))) else Breaks 4
