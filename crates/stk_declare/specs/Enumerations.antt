-- Enumerations (C11 6.7.2.2): enumerators are constants of type `int`, each one more than the one before it where no
-- value is given.
use Rattle.std.specs.Prelude.{ℕ, Bool, true, false, not, ◌&&◌, ◌||◌, if◌then◌else◌, List, [], ◌∷◌, ◌++◌, Option, Some, None, ℤ, pos, ◌+ℤ◌}
use Rattle.std.specs.Option.{is_some}
use Rattle.std.specs.Ordering.{int_eq}
use Rattle.stk_base.specs.declared.span.Span.{Span}
use Rattle.stk_base.specs.Text.{text_of}
use Rattle.stk_ctype.specs.declared.kind.IntKind.TheVariants.{Int}
use Rattle.stk_ctype.specs.declared.symbol.Symbol.TheVariants as symbol
use Rattle.stk_ctype.specs.declared.symbol.NameEntry.{NameEntry}
use Rattle.stk_ctype.specs.declared.symbol.NameEntry.TheVariants as entry
use Rattle.stk_ctype.specs.declared.symbol.Tag.{Tag}
use Rattle.stk_ctype.specs.Types.{integer_type}
use Rattle.stk_ctype.specs.Names.{find, tag_of}
use Rattle.stk_tree.specs.Syntax.{EnumrTree, EnumrTrees}
use Rattle.stk_tree.specs.Syntax as s
use Rattle.stk_numbers.specs.Kinds.{wrap}
use Rattle.stk_type_rules.specs.declared.facts.Constancy.{Constancy}
use Rattle.stk_type_rules.specs.declared.facts.Constancy.TheVariants.{Varies, Violates, Number}
use Rattle.stk_type_rules.specs.Facts.{Ruled, Breaks, Fits, names_type}
use Rattle.stk_type_rules.specs.Outcome.{Outcome, Good, and_then, finish}
use Rattle.stk_typing.specs.Typing.{expression_typed}
use Rattle.stk_declarators.specs.Uses.{expression_uses}
use Rattle.stk_declare.specs.Tags.{at_file, behind_uses}
use Rattle.stk_declare.specs.Bases.{Based}

-- what is known behind some enumerators: the entries in force, the number that the next one has, whether a name stood
-- for something before, and whether a value wasn't an `int` constant
pub record Enumerated : Type 0 where
  pub entries : List NameEntry
  pub next : ℤ
  pub twice : Bool
  pub improper : Bool

-- whether a number is an `int`
abbrev pub is_int : ℤ → Bool
is_int z = int_eq (wrap Int z) z

-- a value that is no `int` counts as 0 in what follows; its enumeration is refused
abbrev pub counted_as : ℤ → ℤ
counted_as z = if is_int z then z else pos 0

-- one more enumerator with this number
abbrev pub with_number : Enumerated → List NameEntry → List ℕ → ℤ → Bool → Enumerated
with_number c es name z proper = record {
  entries = es ++ entry.Symbol name (symbol.Enumerator (counted_as z)) ∷ [];
  next = counted_as z +ℤ pos 1;
  twice = c.twice || is_some (find name es);
  improper = c.improper || not (proper && is_int z);
}

-- the same, whose value is this constant expression
abbrev pub with_value : Enumerated → List NameEntry → List ℕ → Constancy → Enumerated
with_value c es name Varies = with_number c es name (pos 0) false
with_value c es name Violates = with_number c es name (pos 0) false
with_value c es name (Number z) = with_number c es name z true

-- an enumerator
abbrev pub enumerator_declared : List ℕ → Enumerated → EnumrTree → Outcome Enumerated
enumerator_declared bytes c (s.enumerator at s.no_expression) = Good (with_number c c.entries (text_of bytes at) c.next true) []
enumerator_declared bytes c (s.enumerator at (s.some_expression e)) =
    and_then (expression_typed (at_file bytes (behind_uses bytes c.entries (expression_uses e))) e)
    (λ x. Good (with_value c (behind_uses bytes c.entries (expression_uses e)) (text_of bytes at) x.constancy) [])

-- enumerators, each with those before it in force
abbrev pub enumerators_declared : List ℕ → Enumerated → EnumrTrees → Outcome Enumerated
enumerators_declared bytes c s.no_enumerators = Good c []
enumerators_declared bytes c (s.then_enumerator e es) = and_then (enumerator_declared bytes c e) (λ d. enumerators_declared bytes d es)

-- before the first enumerator
abbrev pub none_enumerated : List NameEntry → Enumerated
none_enumerated es = record { entries = es; next = pos 0; twice = false; improper = false }

-- what the tag of an enumeration means before it is defined
abbrev pub tag_before : List ℕ → List NameEntry → Option Span → Option Tag
tag_before bytes es None = None
tag_before bytes es (Some at) = tag_of (text_of bytes at) es

-- an enumeration: its enumerators' names meant nothing, their values are `int` constants, and its tag isn't declared
abbrev pub enumeration_rule : Enumerated → Option Tag → Ruled
enumeration_rule c tag =
    if c.twice then Breaks 3 else (if c.improper then Breaks 5 else (if is_some tag then Breaks 17 else Fits (names_type (integer_type Int))))

-- the entries behind it
abbrev pub with_enumeration : List ℕ → List NameEntry → Option Span → List NameEntry
with_enumeration bytes es None = es
with_enumeration bytes es (Some at) = es ++ entry.Enumeration (text_of bytes at) ∷ []

-- an enumeration, whose base has this number
abbrev pub enumeration_declared : List ℕ → List NameEntry → ℕ → Option Span → EnumrTrees → Outcome Based
enumeration_declared bytes es k at rs =
    and_then (enumerators_declared bytes (none_enumerated es) rs) (λ c.
    and_then (finish k (enumeration_rule c (tag_before bytes c.entries at))) (λ x.
    Good (record { entries = with_enumeration bytes c.entries at; ty = x.ty }) []))
