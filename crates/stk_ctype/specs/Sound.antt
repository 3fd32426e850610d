-- Which types and entries rest on the structs that there are.
use Rattle.std.specs.Prelude.{◌≡◌, ◌⊎◌, ℕ, ◌≤◌, ◌<◌, List, [], ◌∷◌, length, Option, None, IsSome, IfSome}
use Rattle.stk_ctype.specs.declared.symbol.MemberInfo.{MemberInfo}
use Rattle.stk_ctype.specs.declared.symbol.Symbol.{Symbol}
use Rattle.stk_ctype.specs.declared.symbol.Symbol.TheVariants as symbol
use Rattle.stk_ctype.specs.declared.symbol.NameEntry.{NameEntry}
use Rattle.stk_ctype.specs.declared.symbol.NameEntry.TheVariants as entry
use Rattle.stk_ctype.specs.declared.symbol.Tag.{Tag}
use Rattle.stk_ctype.specs.declared.symbol.Tag.TheVariants as tag
use Rattle.stk_ctype.specs.Types.{TypeTree, void_type, integer_type, pointer_type, array_type, struct_type, function_type, SignatureTree, signature, TypeTrees, no_types, then_type, type_of, signature_of}
use Rattle.stk_ctype.specs.Structs.{Structs, size_limit, size_of, struct_at, struct_size}

-- a size that is known is at most the limit
abbrev pub IsWithinLimit : Option ℕ → Type 0
IsWithinLimit size = IfSome size (λ n. n ≤ size_limit)

-- a number of elements that is known is at least 1
abbrev pub IsCount : Option ℕ → Type 0
IsCount count = IfSome count (λ n. 1 ≤ n)

abbrev mutual
  -- a type is sound: each struct in it is declared, each array in it has a complete element type and at least one
  -- element, and no type in it is larger than the limit (C11 6.7.6.2)
  pub IsSound : Structs → TypeTree → Type 0
  IsSound structs void_type = Unit {0}
  IsSound structs (integer_type kind) = Unit {0}
  IsSound structs (pointer_type t) = IsSound structs t
  IsSound structs (array_type t count) = IsSound structs t × IsSome (size_of structs t) × IsCount count × IsWithinLimit (size_of structs (array_type t count))
  IsSound structs (struct_type id) = (id < length structs) × IsWithinLimit (size_of structs (struct_type id))
  IsSound structs (function_type f) = IsSoundSignature structs f

  -- the types of a signature are sound
  pub IsSoundSignature : Structs → SignatureTree → Type 0
  IsSoundSignature structs (signature result params more no_return) = IsSound structs result × AreSound structs params

  -- types in a row are sound
  pub AreSound : Structs → TypeTrees → Type 0
  AreSound structs no_types = Unit {0}
  AreSound structs (then_type t ts) = IsSound structs t × AreSound structs ts

-- an array of unknown size
abbrev pub IsOpenArray : TypeTree → Type 0
IsOpenArray void_type = ⊥
IsOpenArray (integer_type kind) = ⊥
IsOpenArray (pointer_type t) = ⊥
IsOpenArray (array_type t count) = count ≡ None
IsOpenArray (struct_type id) = ⊥
IsOpenArray (function_type f) = ⊥

-- a member has a sound type that is complete
abbrev pub IsMember : Structs → MemberInfo → Type 0
IsMember structs m = IsSound structs (type_of m.ty) × IsSome (size_of structs (type_of m.ty))

-- a last member has a sound type that is complete or an array of unknown size (C11 6.7.2.1)
abbrev pub IsLastMember : Structs → MemberInfo → Type 0
IsLastMember structs m = IsSound structs (type_of m.ty) × (IsSome (size_of structs (type_of m.ty)) ⊎ IsOpenArray (type_of m.ty))

-- members that a struct may have
abbrev pub AreMembers : Structs → List MemberInfo → Type 0
AreMembers structs [] = Unit {0}
AreMembers structs (m ∷ []) = IsLastMember structs m
AreMembers structs (m ∷ next ∷ ms) = IsMember structs m × AreMembers structs (next ∷ ms)

-- the struct of a tag is as sound as a type
abbrev pub IsSoundTag : Structs → Tag → Type 0
IsSoundTag structs (tag.Struct id) = IsSound structs (struct_type id)
IsSoundTag structs tag.Enumeration = Unit {0}

-- the types that a symbol mentions are sound
abbrev pub IsSoundSymbol : Structs → Symbol → Type 0
IsSoundSymbol structs (symbol.TypeDef t) = IsSound structs (type_of t)
IsSoundSymbol structs (symbol.Object t) = IsSound structs (type_of t)
IsSoundSymbol structs (symbol.Function f) = IsSoundSignature structs (signature_of f)
IsSoundSymbol structs (symbol.Enumerator value) = Unit {0}

-- an entry rests on the structs that there are: its types are sound; a struct that gets members has none yet, and then
-- has a size from 1 to the limit
abbrev pub RestsOn : Structs → NameEntry → Type 0
RestsOn structs (entry.Symbol name symbol) = IsSoundSymbol structs symbol
RestsOn structs (entry.Struct tag) = Unit {0}
RestsOn structs (entry.Members id members) = (id < length structs) × (struct_at structs id ≡ None) × AreMembers structs members × (1 ≤ struct_size structs members) × (struct_size structs members ≤ size_limit)
RestsOn structs (entry.Enumeration tag) = Unit {0}

-- types that are sound stay so, and sizes that are known stay the same
pub record Keeps (before now : Structs) : Type 0 where
  pub sound : (t : TypeTree) → IsSound before t → IsSound now t
  pub sizes : (t : TypeTree) → IsSome (size_of before t) → size_of now t ≡ size_of before t
