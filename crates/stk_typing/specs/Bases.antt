-- The type that a base names where nothing is declared: basic words, tags and typedef names that are there (C11 6.7.2).
use Rattle.std.specs.Prelude.{ℕ, List, Option, Some, None}
use Rattle.stk_base.specs.Text.{text_of}
use Rattle.stk_ctype.specs.declared.kind.IntKind.TheVariants.{Int}
use Rattle.stk_ctype.specs.declared.symbol.NameEntry.{NameEntry}
use Rattle.stk_ctype.specs.declared.symbol.Symbol.{Symbol}
use Rattle.stk_ctype.specs.declared.symbol.Symbol.TheVariants as symbol
use Rattle.stk_ctype.specs.declared.symbol.Tag.{Tag}
use Rattle.stk_ctype.specs.declared.symbol.Tag.TheVariants as tag
use Rattle.stk_ctype.specs.Types.{TypeTree, integer_type, struct_type, type_of}
use Rattle.stk_ctype.specs.Names.{find, tag_of}
use Rattle.stk_tree.specs.Syntax.{BaseFormTree}
use Rattle.stk_tree.specs.Syntax as s
use Rattle.stk_type_rules.specs.Facts.{Ruled, Breaks, Fits, names_type}
use Rattle.stk_typing.specs.Specifiers.{basic_type}

-- what basic words name
abbrev pub words_rule : Option TypeTree → Ruled
words_rule None = Breaks 2
words_rule (Some t) = Fits (names_type t)

-- `struct tag`
abbrev pub struct_rule : Option Tag → Ruled
struct_rule None = Breaks 1
struct_rule (Some (tag.Struct id)) = Fits (names_type (struct_type id))
struct_rule (Some tag.Enumeration) = Breaks 17

-- `enum tag`, which is as good as `int` (C11 6.7.2.2p4)
abbrev pub enum_rule : Option Tag → Ruled
enum_rule None = Breaks 1
enum_rule (Some (tag.Struct id)) = Breaks 17
enum_rule (Some tag.Enumeration) = Fits (names_type (integer_type Int))

-- a typedef name
abbrev pub typedef_rule : Option Symbol → Ruled
typedef_rule None = Breaks 1
typedef_rule (Some (symbol.TypeDef t)) = Fits (names_type (type_of t))
typedef_rule (Some (symbol.Object t)) = Breaks 1
typedef_rule (Some (symbol.Function f)) = Breaks 1
typedef_rule (Some (symbol.Enumerator v)) = Breaks 1

-- a base without braces; one with braces stands in no type name, and names nothing here
abbrev pub base_rule : List ℕ → List NameEntry → BaseFormTree → Ruled
base_rule bytes entries (s.words ws) = words_rule (basic_type ws)
base_rule bytes entries (s.struct_ref at) = struct_rule (tag_of (text_of bytes at) entries)
base_rule bytes entries (s.struct_def at ms) = Breaks 1
base_rule bytes entries (s.enum_ref at) = enum_rule (tag_of (text_of bytes at) entries)
base_rule bytes entries (s.enum_def at es comma) = Breaks 1
base_rule bytes entries (s.named at) = typedef_rule (find (text_of bytes at) entries)
