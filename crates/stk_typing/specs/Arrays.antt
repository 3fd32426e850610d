-- The type that stars and array parts make of another (C11 6.7.6.1, 6.7.6.2).
use Rattle.std.specs.Prelude.{ℕ, zero, suc, Bool, true, false, not, ◌&&◌, ◌||◌, nat_le, if◌then◌else◌, List, [], ◌∷◌, Option, Some, None, ℤ, pos, negsuc}
use Rattle.stk_ctype.specs.Types.{TypeTree, pointer_type, array_type}
use Rattle.stk_ctype.specs.Structs.{Structs, size_of, size_limit}
use Rattle.stk_type_rules.specs.declared.facts.Constancy.{Constancy}
use Rattle.stk_type_rules.specs.declared.facts.Constancy.TheVariants.{Varies, Violates, Number}
use Rattle.stk_type_rules.specs.Facts.{Ruled, Breaks, Fits, names_type, declares}
use Rattle.stk_type_rules.specs.Types.{is_complete}
use Rattle.stk_typing.specs.declared.arrays.Size.{Size}
use Rattle.stk_typing.specs.declared.arrays.Size.TheVariants.{Open, Sized}

-- a type under stars
abbrev pub starred : ℕ → TypeTree → TypeTree
starred zero t = t
starred (suc n) t = pointer_type (starred n t)

-- the number of elements that a constant gives, where it is from 1 to the greatest size of a type
abbrev pub counted : ℤ → Option ℕ
counted (pos n) = if nat_le 1 n && nat_le n size_limit then Some n else None
counted (negsuc n) = None

abbrev pub count_of : Constancy → Option ℕ
count_of Varies = None
count_of Violates = None
count_of (Number z) = counted z

-- a type, where its size is known and no larger than the limit
abbrev pub fitting : Option ℕ → TypeTree → Option TypeTree
fitting None t = None
fitting (Some n) t = if nat_le n size_limit then Some t else None

-- an array of so many elements, where it isn't too large
abbrev pub array_within : Structs → Option ℕ → TypeTree → Option TypeTree
array_within structs None t = None
array_within structs (Some n) t = fitting (size_of structs (array_type t (Some n))) (array_type t (Some n))

-- an array part around a type
abbrev pub around : Structs → Size → Option TypeTree → Option TypeTree
around structs size None = None
around structs Open (Some t) = Some (array_type t None)
around structs (Sized c) (Some t) = array_within structs (count_of c) t

-- array parts around a type, the first outermost; none where a size isn't a constant of at least 1, or a type is too
-- large
abbrev pub nested : Structs → List Size → TypeTree → Option TypeTree
nested structs [] t = Some t
nested structs (size ∷ sizes) t = around structs size (nested structs sizes t)

-- whether an array part has no size
abbrev pub is_open : Size → Bool
is_open Open = true
is_open (Sized c) = false

-- whether some array part has no size
abbrev pub has_open : List Size → Bool
has_open [] = false
has_open (size ∷ sizes) = is_open size || has_open sizes

-- elements must be complete, and each size given
abbrev pub lacks_type : Structs → List Size → TypeTree → Bool
lacks_type structs [] t = false
lacks_type structs (size ∷ sizes) t = has_open (size ∷ sizes) || not (is_complete structs t)

abbrev pub sized_as : Option TypeTree → Ruled
sized_as None = Breaks 5
sized_as (Some t) = Fits (names_type t)

-- the type of array parts that all need a size
abbrev pub sized_type : Structs → List Size → TypeTree → Ruled
sized_type structs sizes t = if lacks_type structs sizes t then Breaks 4 else sized_as (nested structs sizes t)

-- the first array part of a declarator may lack a size
abbrev pub lacks_element : Structs → List Size → TypeTree → Bool
lacks_element structs [] t = false
lacks_element structs (size ∷ sizes) t = has_open sizes || not (is_complete structs t)

abbrev pub declared_as : Option TypeTree → Ruled
declared_as None = Breaks 5
declared_as (Some t) = Fits (declares t)

-- the type that a declarator's array parts make
abbrev pub declared_type : Structs → List Size → TypeTree → Ruled
declared_type structs sizes t = if lacks_element structs sizes t then Breaks 4 else declared_as (nested structs sizes t)
