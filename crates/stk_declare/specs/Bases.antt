-- Bases without braces in a declaration (C11 6.7.2): a struct tag that isn't declared is declared by its use.
use Rattle.std.specs.Prelude.{ℕ, List, []}
use Rattle.stk_ctype.specs.declared.symbol.NameEntry.{NameEntry}
use Rattle.stk_ctype.specs.Types.{TypeTree}
use Rattle.stk_tree.specs.Syntax.{BaseTree, BaseFormTree}
use Rattle.stk_tree.specs.Syntax as s
use Rattle.stk_type_rules.specs.Outcome.{Outcome, Good, and_then, finish}
use Rattle.stk_typing.specs.Bases.{base_rule}
use Rattle.stk_declarators.specs.Uses.{form_uses}
use Rattle.stk_declare.specs.Tags.{behind_uses}

-- the entries in force behind a base, and the type that it names
pub record Based : Type 0 where
  pub entries : List NameEntry
  pub ty : TypeTree

-- a base that names a type under these entries
abbrev pub named_under : List ℕ → List NameEntry → ℕ → BaseFormTree → Outcome Based
named_under bytes es k f = and_then (finish k (base_rule bytes es f)) (λ x. Good (record { entries = es; ty = x.ty }) [])

-- a base without braces, whose node has this number
abbrev pub plain_declared : List ℕ → List NameEntry → ℕ → BaseFormTree → Outcome Based
plain_declared bytes es k f = named_under bytes (behind_uses bytes es (form_uses f)) k f

abbrev pub base_plainly_declared : List ℕ → List NameEntry → BaseTree → Outcome Based
base_plainly_declared bytes es (s.base n f) = plain_declared bytes es n.number f
