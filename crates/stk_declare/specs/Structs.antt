-- The bases of declarations, and structs with their members (C11 6.7.2, 6.7.2.1, 6.7.2.3).
use Rattle.std.specs.Prelude.{ℕ, Bool, true, false, not, ◌&&◌, ◌||◌, if◌then◌else◌, List, [], ◌∷◌, ◌++◌, Option, Some, None}
use Rattle.std.specs.Option.{is_some}
use Rattle.stk_base.specs.declared.span.Span.{Span}
use Rattle.stk_base.specs.Text.{text_of, same_text}
use Rattle.stk_ctype.specs.declared.symbol.MemberInfo.{MemberInfo}
use Rattle.stk_ctype.specs.declared.symbol.NameEntry.{NameEntry}
use Rattle.stk_ctype.specs.declared.symbol.NameEntry.TheVariants as entry
use Rattle.stk_ctype.specs.declared.symbol.Tag.{Tag}
use Rattle.stk_ctype.specs.declared.symbol.Tag.TheVariants as tag
use Rattle.stk_ctype.specs.Types.{TypeTree, struct_type}
use Rattle.stk_ctype.specs.Structs.{Structs, structs_of, struct_at, layout_of}
use Rattle.stk_ctype.specs.Names.{tag_of, struct_count}
use Rattle.stk_tree.specs.Syntax.{BaseTree, BaseFormTree, MemberTree, MemberTrees, DeclrTree, DeclrTrees}
use Rattle.stk_tree.specs.Syntax as s
use Rattle.stk_type_rules.specs.Facts.{Fact, Ruled, Breaks, Fits, names_type}
use Rattle.stk_type_rules.specs.Outcome.{Outcome, Good, and_then, finish}
use Rattle.stk_type_rules.specs.Types.{is_complete}
use Rattle.stk_typing.specs.declared.arrays.Size.{Size}
use Rattle.stk_typing.specs.Arrays.{starred, declared_type}
use Rattle.stk_typing.specs.Typing.{dimensions_typed}
use Rattle.stk_declarators.specs.Uses.{dimensions_uses}
use Rattle.stk_declarators.specs.Parameters.{array_parts}
use Rattle.stk_compatible.specs.Making.{made}
use Rattle.stk_declare.specs.Tags.{at_file, behind_uses}
use Rattle.stk_declare.specs.Symbols.{is_open_array, is_unsized, size_first}
use Rattle.stk_declare.specs.Bases.{Based, plain_declared}
use Rattle.stk_declare.specs.Enumerations.{enumeration_declared}

-- the entries in force behind members, and the members so far
pub record Membered : Type 0 where
  pub entries : List NameEntry
  pub members : List MemberInfo

-- the struct that a definition gives members: the entries with it, its number, and whether its tag is that of an
-- enumeration
pub record Opening : Type 0 where
  pub entries : List NameEntry
  pub id : ℕ
  pub clash : Bool

-- a struct that is new, with a tag or without
abbrev pub opening_new : List NameEntry → Option (List ℕ) → Bool → Opening
opening_new es name clash = record { entries = es ++ entry.Struct name ∷ []; id = struct_count es; clash = clash }

-- the struct of a tag: the one that it means, or else a new one
abbrev pub opening_named : List NameEntry → List ℕ → Option Tag → Opening
opening_named es name None = opening_new es (Some name) false
opening_named es name (Some (tag.Struct id)) = record { entries = es; id = id; clash = false }
opening_named es name (Some tag.Enumeration) = opening_new es None true

-- a struct's own tag is declared before its members
abbrev pub opening : List ℕ → List NameEntry → Option Span → Opening
opening bytes es None = opening_new es None false
opening bytes es (Some at) = opening_named es (text_of bytes at) (tag_of (text_of bytes at) es)

-- a struct with its members: it isn't too large, and had none before
abbrev pub struct_rule : Structs → Opening → List MemberInfo → Ruled
struct_rule structs o ms =
    if is_some (layout_of structs ms) then (if o.clash || is_some (struct_at structs o.id) then Breaks 17 else Fits (names_type (struct_type o.id))) else Breaks 5

-- the name of a member
abbrev pub member_name : List ℕ → Option Span → List ℕ
member_name bytes None = []
member_name bytes (Some at) = text_of bytes at

-- whether a member of this name is there
abbrev pub has_member : List ℕ → List MemberInfo → Bool
has_member name [] = false
has_member name (m ∷ ms) = same_text m.name name || has_member name ms

abbrev pub is_empty : List MemberInfo → Bool
is_empty [] = true
is_empty (m ∷ ms) = false

-- a member has a complete type; the last one that isn't the only one may be an array of unknown size
abbrev pub may_be_member : Structs → Bool → Bool → TypeTree → Bool
may_be_member structs first last t = is_complete structs t || (is_open_array t && (last && not first))

-- what a member's array parts make
abbrev pub member_made : Structs → Bool → Bool → Ruled → Ruled
member_made structs first last (Breaks r) = Breaks r
member_made structs first last (Fits x) = if may_be_member structs first last x.ty then Fits x else Breaks 4

-- a member's declarator: no other member has its name
abbrev pub member_rule : Structs → Bool → List MemberInfo → List ℕ → Ruled → Ruled
member_rule structs last before name makes = if has_member name before then Breaks 3 else member_made structs (is_empty before) last makes

-- a size that is missing refuses a member first, but for a last one that isn't the only one
abbrev pub member_size_first : Bool → List MemberInfo → List Size → Ruled → Ruled
member_size_first last before sizes made = size_first (is_unsized None sizes && not (last && not (is_empty before))) made

-- one more member
abbrev pub with_member : List NameEntry → List MemberInfo → List ℕ → Fact → Membered
with_member es before name x = record { entries = es; members = before ++ record { name = name; ty = made x.ty } ∷ [] }

-- the type of a member's declarator, under a base that names a type
abbrev pub member_typed : List ℕ → List NameEntry → List MemberInfo → Bool → TypeTree → DeclrTree → Outcome Fact
member_typed bytes es before last t (s.declarator k count at tail init) =
    and_then (dimensions_typed (at_file bytes es) (array_parts tail)) (λ sizes.
    finish k.number (member_rule (structs_of es) last before (member_name bytes at) (member_size_first last before sizes (declared_type (structs_of es) sizes (starred count t)))))

-- a member with this name and type
abbrev pub member_declared_as : List ℕ → List NameEntry → List MemberInfo → Option Span → Outcome Fact → Outcome Membered
member_declared_as bytes es before at o = and_then o (λ x. Good (with_member es before (member_name bytes at) x) [])

-- a member's declarator, with the struct tags that its array parts use
abbrev pub member_declarator : List ℕ → List NameEntry → List MemberInfo → Bool → TypeTree → DeclrTree → Outcome Membered
member_declarator bytes es before last t (s.declarator k count at tail init) =
    let es = behind_uses bytes es (dimensions_uses (array_parts tail)) in
    member_declared_as bytes es before at (member_typed bytes es before last t (s.declarator k count at tail init))

abbrev pub ends_declarators : DeclrTrees → Bool
ends_declarators s.no_declarators = true
ends_declarators (s.then_declarator d ds) = false

abbrev pub ends_members : MemberTrees → Bool
ends_members s.no_members = true
ends_members (s.then_member m ms) = false

abbrev pub member_declarators : List ℕ → List NameEntry → List MemberInfo → Bool → TypeTree → DeclrTrees → Outcome Membered
member_declarators bytes es before last t s.no_declarators = Good (record { entries = es; members = before }) []
member_declarators bytes es before last t (s.then_declarator d ds) =
    and_then (member_declarator bytes es before (last && ends_declarators ds) t d) (λ m. member_declarators bytes m.entries m.members last t ds)

-- a struct behind its members, whose base has this number
abbrev pub struct_closed : ℕ → Opening → Membered → Outcome Based
struct_closed k o m =
    and_then (finish k (struct_rule (structs_of m.entries) o m.members)) (λ x.
    Good (record { entries = m.entries ++ entry.Members o.id m.members ∷ []; ty = x.ty }) [])

abbrev mutual
  -- a base of a declaration or of members
  pub base_declared : List ℕ → List NameEntry → BaseTree → Outcome Based
  base_declared bytes es (s.base n f) = form_declared bytes es n.number f

  pub form_declared : List ℕ → List NameEntry → ℕ → BaseFormTree → Outcome Based
  form_declared bytes es k (s.words ws) = plain_declared bytes es k (s.words ws)
  form_declared bytes es k (s.struct_ref at) = plain_declared bytes es k (s.struct_ref at)
  form_declared bytes es k (s.struct_def at ms) = and_then (members_declared bytes (opening bytes es at).entries [] ms) (λ m. struct_closed k (opening bytes es at) m)
  form_declared bytes es k (s.enum_ref at) = plain_declared bytes es k (s.enum_ref at)
  form_declared bytes es k (s.enum_def at rs comma) = enumeration_declared bytes es k at rs
  form_declared bytes es k (s.named at) = plain_declared bytes es k (s.named at)

  -- members, behind others
  pub members_declared : List ℕ → List NameEntry → List MemberInfo → MemberTrees → Outcome Membered
  members_declared bytes es before s.no_members = Good (record { entries = es; members = before }) []
  members_declared bytes es before (s.then_member m ms) =
      and_then (member_declared bytes es before (ends_members ms) m) (λ r. members_declared bytes r.entries r.members ms)

  -- the members of one base, which is the last one or isn't
  pub member_declared : List ℕ → List NameEntry → List MemberInfo → Bool → MemberTree → Outcome Membered
  member_declared bytes es before last (s.member b ds) = and_then (base_declared bytes es b) (λ x. member_declarators bytes x.entries before last x.ty ds)
