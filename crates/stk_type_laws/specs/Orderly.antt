-- The names that units leave in force: objects have types of objects, and structs are given members that have sizes
-- (C11 6.7p7, 6.7.2.1).
use Rattle.std.specs.Prelude.{ℕ, ◌≡◌, ◌<◌, ◌⊎◌, Bool, true, false, IsTrue, List, [], ◌∷◌, length, None, IsSome}
use Rattle.stk_ctype.specs.declared.symbol.MemberInfo.{MemberInfo}
use Rattle.stk_ctype.specs.declared.symbol.Symbol.{Symbol}
use Rattle.stk_ctype.specs.declared.symbol.Symbol.TheVariants as symbol
use Rattle.stk_ctype.specs.declared.symbol.NameEntry.{NameEntry}
use Rattle.stk_ctype.specs.declared.symbol.NameEntry.TheVariants as entry
use Rattle.stk_ctype.specs.Types.{TypeTree, void_type, integer_type, pointer_type, array_type, struct_type, function_type, type_of}
use Rattle.stk_ctype.specs.Structs.{Structs, size_of, struct_at, after}
use Rattle.stk_ctype.specs.Sound.{IsOpenArray}
use Rattle.stk_tree.specs.Syntax.{UnitTree}
use Rattle.stk_type_rules.specs.Facts.{Fact}
use Rattle.stk_type_rules.specs.Outcome.{Good}
use Rattle.stk_declare.specs.Declaring.{unit_declared}

-- ---- objects

-- a type that an object has: a scalar, an array or a struct, which may be incomplete (C11 6.2.5p1)
abbrev pub is_object_type : TypeTree → Bool
is_object_type void_type = false
is_object_type (integer_type k) = true
is_object_type (pointer_type t) = true
is_object_type (array_type t count) = true
is_object_type (struct_type id) = true
is_object_type (function_type f) = false

-- an object has such a type
abbrev pub HasObjectType : Symbol → Type 0
HasObjectType (symbol.TypeDef t) = Unit {0}
HasObjectType (symbol.Object t) = IsTrue (is_object_type (type_of t))
HasObjectType (symbol.Function f) = Unit {0}
HasObjectType (symbol.Enumerator v) = Unit {0}

abbrev pub DeclaresObject : NameEntry → Type 0
DeclaresObject (entry.Symbol name symbol) = HasObjectType symbol
DeclaresObject (entry.Struct tag) = Unit {0}
DeclaresObject (entry.Members id members) = Unit {0}
DeclaresObject (entry.Enumeration tag) = Unit {0}

abbrev pub HaveObjectTypes : List NameEntry → Type 0
HaveObjectTypes [] = Unit {0}
HaveObjectTypes (e ∷ es) = DeclaresObject e × HaveObjectTypes es

-- ---- structs

-- members are complete, the last one perhaps an array of unknown size
abbrev pub AreSized : Structs → List MemberInfo → Type 0
AreSized structs [] = Unit {0}
AreSized structs (m ∷ []) = IsSome (size_of structs (type_of m.ty)) ⊎ IsOpenArray (type_of m.ty)
AreSized structs (m ∷ next ∷ ms) = IsSome (size_of structs (type_of m.ty)) × AreSized structs (next ∷ ms)

-- a struct that is given members is declared, and had none
abbrev pub GivesMembers : Structs → NameEntry → Type 0
GivesMembers structs (entry.Symbol name symbol) = Unit {0}
GivesMembers structs (entry.Struct tag) = Unit {0}
GivesMembers structs (entry.Members id members) = (id < length structs) × (struct_at structs id ≡ None) × AreSized structs members
GivesMembers structs (entry.Enumeration tag) = Unit {0}

abbrev pub AreLaidOut : Structs → List NameEntry → Type 0
AreLaidOut structs [] = Unit {0}
AreLaidOut structs (e ∷ es) = GivesMembers structs e × AreLaidOut (after structs e) es

-- ---- both

pub record AreOrderly (es : List NameEntry) : Type 0 where
  pub objects : HaveObjectTypes es
  pub structs : AreLaidOut [] es

-- where the names in force before a unit that is accepted are orderly, so are those behind it; before the first unit
-- there are none
pub record UnitsKeepOrder : Type 0 where
  pub first : AreOrderly []
  pub next : (bytes : List ℕ) (mark : Bool) (es now : List NameEntry) (facts : List Fact) (u : UnitTree) → unit_declared bytes mark es u ≡ Good now facts → AreOrderly es → AreOrderly now
