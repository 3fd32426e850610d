-- Parameters of a function (C11 6.7.6.3): their types and names.
use Rattle.std.specs.Prelude.{ℕ, Bool, true, false, not, ◌&&◌, ◌||◌, if◌then◌else◌, List, [], ◌∷◌, ◌++◌, Option, Some, None}
use Rattle.std.specs.Option.{option_map, is_some}
use Rattle.stk_base.specs.declared.span.Span.{Span}
use Rattle.stk_base.specs.Text.{text_of}
use Rattle.stk_ctype.specs.Types.{TypeTree, void_type, integer_type, pointer_type, array_type, struct_type, function_type}
use Rattle.stk_ctype.specs.Structs.{Structs}
use Rattle.stk_tree.specs.Syntax.{DimensionTrees, TailTree, DeclrTree, ParamTree, ParamTrees}
use Rattle.stk_tree.specs.Syntax as s
use Rattle.stk_type_rules.specs.Facts.{Fact, Ruled, Breaks, Fits, plain, declares}
use Rattle.stk_type_rules.specs.Outcome.{Outcome, Good, and_then, finish}
use Rattle.stk_type_rules.specs.Types.{is_complete}
use Rattle.stk_typing.specs.declared.arrays.Size.{Size}
use Rattle.stk_typing.specs.Locals.{Local, find_local}
use Rattle.stk_typing.specs.Scope.{Scope, unevaluated}
use Rattle.stk_typing.specs.Arrays.{starred, declared_type}
use Rattle.stk_typing.specs.Forms.{structs_in}
use Rattle.stk_typing.specs.Typing.{base_typed, dimensions_typed}

-- a parameter: its name, where it has one, its declarator, its type
pub record Parameter : Type 0 where
  pub name : Option (List ℕ)
  pub node : ℕ
  pub ty : TypeTree

-- a struct as a parameter is complete in a definition
abbrev pub struct_parameter : Structs → Bool → TypeTree → Ruled
struct_parameter structs defines t = if defines && not (is_complete structs t) then Breaks 4 else Fits (declares t)

-- the type of a parameter: an array is passed as a pointer to its element; `void` and functions are no types of
-- parameters
abbrev pub adjusted : Structs → Bool → TypeTree → Ruled
adjusted structs defines void_type = Breaks 4
adjusted structs defines (integer_type k) = Fits (declares (integer_type k))
adjusted structs defines (pointer_type t) = Fits (declares (pointer_type t))
adjusted structs defines (array_type t count) = Fits (declares (pointer_type t))
adjusted structs defines (struct_type id) = struct_parameter structs defines (struct_type id)
adjusted structs defines (function_type f) = Breaks 4

abbrev pub adjusted_from : Structs → Bool → Ruled → Ruled
adjusted_from structs defines (Breaks r) = Breaks r
adjusted_from structs defines (Fits x) = adjusted structs defines x.ty

-- a parameter's declarator: no other parameter has its name
abbrev pub parameter_rule : Structs → Bool → Bool → List Size → TypeTree → Ruled
parameter_rule structs defines twice sizes t = if twice then Breaks 3 else adjusted_from structs defines (declared_type structs sizes t)

-- whether one of the locals has this name
abbrev pub is_taken : List Local → Option (List ℕ) → Bool
is_taken ls None = false
is_taken ls (Some name) = is_some (find_local name ls)

-- the text of a name
abbrev pub name_text : List ℕ → Option Span → Option (List ℕ)
name_text bytes at = option_map (text_of bytes) at

-- the local of a name, where there is one
abbrev pub local_from : Option (List ℕ) → ℕ → TypeTree → List Local
local_from None k t = []
local_from (Some name) k t = record { name = name; node = k; ty = t } ∷ []

-- the local that a parameter is, where it has a name
abbrev pub as_local : Parameter → List Local
as_local p = local_from p.name p.node p.ty

-- the array parts of a parameter's declarator, which has no other tail
abbrev pub array_parts : TailTree → DimensionTrees
array_parts (s.arrays ds) = ds
array_parts s.unspecified = s.no_dimensions
array_parts s.void_parameters = s.no_dimensions
array_parts (s.with_parameters ps more) = s.no_dimensions

-- more locals in force
abbrev pub with_locals : Scope → List Local → Scope
with_locals scope ls = record { bytes = scope.bytes; entries = scope.entries; locals = scope.locals ++ ls; own = scope.own }

-- the type of a parameter: its base, its array parts, its declarator
abbrev pub declarator_given : Scope → Bool → TypeTree → DeclrTree → Outcome Fact
declarator_given scope defines t (s.declarator k count at tail init) =
    and_then (dimensions_typed (unevaluated scope) (array_parts tail)) (λ sizes.
    finish k.number (parameter_rule (structs_in scope) defines (is_taken scope.locals (name_text scope.bytes at)) sizes (starred count t)))

abbrev pub parameter_type : Scope → Bool → ParamTree → Outcome Fact
parameter_type scope defines (s.parameter n b d) = and_then (base_typed scope b) (λ x. declarator_given scope defines x.ty d)

-- a parameter, whose own node has no type
abbrev pub parameter_typed : Scope → Bool → ParamTree → Outcome Fact
parameter_typed scope defines p = and_then (parameter_type scope defines p) (λ y. Good y (plain ∷ []))

-- what a parameter is whose declarator has this type
abbrev pub declared_by : List ℕ → TypeTree → DeclrTree → Parameter
declared_by bytes t (s.declarator k count at tail init) = record { name = name_text bytes at; node = k.number; ty = t }

abbrev pub parameter_of : List ℕ → TypeTree → ParamTree → Parameter
parameter_of bytes t (s.parameter n b d) = declared_by bytes t d

-- parameters, each with those before it in force
abbrev pub parameters_typed : Scope → Bool → ParamTrees → Outcome (List Parameter)
parameters_typed scope defines s.no_parameters = Good [] []
parameters_typed scope defines (s.then_parameter p ps) =
    and_then (parameter_typed scope defines p) (λ y.
    and_then (parameters_typed (with_locals scope (as_local (parameter_of scope.bytes y.ty p))) defines ps) (λ ls.
    Good (parameter_of scope.bytes y.ty p ∷ ls) []))

-- whether a parameter has no name
abbrev pub is_unnamed : Parameter → Bool
is_unnamed p = not (is_some p.name)

abbrev pub have_unnamed : List Parameter → Bool
have_unnamed [] = false
have_unnamed (p ∷ ps) = is_unnamed p || have_unnamed ps

-- the locals that parameters are
abbrev pub as_locals : List Parameter → List Local
as_locals [] = []
as_locals (p ∷ ps) = as_local p ++ as_locals ps

-- the types of parameters
abbrev pub types_of : List Parameter → List TypeTree
types_of [] = []
types_of (p ∷ ps) = p.ty ∷ types_of ps
