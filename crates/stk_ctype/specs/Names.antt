-- What names and tags mean under the entries that are in force (C11 6.2.1, 6.2.3).
use Rattle.std.specs.Prelude.{ℕ, ◌+◌, Bool, true, false, if◌then◌else◌, List, [], ◌∷◌, Option, Some, None, sum_by}
use Rattle.stk_base.specs.Text.{same_text}
use Rattle.stk_ctype.specs.declared.symbol.Symbol.{Symbol}
use Rattle.stk_ctype.specs.declared.symbol.Symbol.TheVariants as symbol
use Rattle.stk_ctype.specs.declared.symbol.NameEntry.{NameEntry}
use Rattle.stk_ctype.specs.declared.symbol.NameEntry.TheVariants as entry
use Rattle.stk_ctype.specs.declared.symbol.Tag.{Tag}
use Rattle.stk_ctype.specs.declared.symbol.Tag.TheVariants as tag

-- the later of two answers, where there is one
abbrev pub later_of : {T : Type 0} → Option T → Option T → Option T
later_of earlier None = earlier
later_of earlier (Some x) = Some x

-- what an entry makes of a name
abbrev pub symbol_named : List ℕ → NameEntry → Option Symbol
symbol_named name (entry.Symbol n s) = if same_text n name then Some s else None
symbol_named name (entry.Struct t) = None
symbol_named name (entry.Members id ms) = None
symbol_named name (entry.Enumeration t) = None

-- the meaning of a name: that of the last entry of this name
abbrev pub find : List ℕ → List NameEntry → Option Symbol
find name [] = None
find name (e ∷ es) = later_of (symbol_named name e) (find name es)

-- a meaning is that of a typedef name (C11 6.7.8)
abbrev pub is_type_definition : Option Symbol → Bool
is_type_definition None = false
is_type_definition (Some (symbol.TypeDef t)) = true
is_type_definition (Some (symbol.Object t)) = false
is_type_definition (Some (symbol.Function f)) = false
is_type_definition (Some (symbol.Enumerator v)) = false

-- a name is a typedef name
abbrev pub is_type : List ℕ → List NameEntry → Bool
is_type name es = is_type_definition (find name es)

-- how many structs an entry declares
abbrev pub structs_in : NameEntry → ℕ
structs_in (entry.Symbol n s) = 0
structs_in (entry.Struct t) = 1
structs_in (entry.Members id ms) = 0
structs_in (entry.Enumeration t) = 0

-- how many structs entries declare
abbrev pub struct_count : List NameEntry → ℕ
struct_count es = sum_by structs_in es

-- what an entry makes of a tag, where so many structs are declared before it
abbrev pub tag_named : ℕ → List ℕ → NameEntry → Option Tag
tag_named count name (entry.Symbol n s) = None
tag_named count name (entry.Struct None) = None
tag_named count name (entry.Struct (Some t)) = if same_text t name then Some (tag.Struct count) else None
tag_named count name (entry.Members id ms) = None
tag_named count name (entry.Enumeration t) = if same_text t name then Some tag.Enumeration else None

-- the meaning of a tag behind so many structs: that of the last entry with this tag (C11 6.7.2.3)
abbrev pub tag_behind : ℕ → List ℕ → List NameEntry → Option Tag
tag_behind count name [] = None
tag_behind count name (e ∷ es) = later_of (tag_named count name e) (tag_behind (count + structs_in e) name es)

-- the meaning of a tag
abbrev pub tag_of : List ℕ → List NameEntry → Option Tag
tag_of name es = tag_behind 0 name es
