-- Tags at file scope and in the head of a function (C11 6.7.2.3p8): a struct tag that isn't declared is declared by its
-- use, as an incomplete struct.
use Rattle.std.specs.Prelude.{ℕ, List, [], ◌∷◌, ◌++◌, Option, Some, None}
use Rattle.stk_base.specs.Text.{text_of}
use Rattle.stk_ctype.specs.declared.symbol.NameEntry.{NameEntry}
use Rattle.stk_ctype.specs.declared.symbol.NameEntry.TheVariants as entry
use Rattle.stk_ctype.specs.declared.symbol.Tag.{Tag}
use Rattle.stk_ctype.specs.Names.{tag_of}
use Rattle.stk_typing.specs.Scope.{Scope}
use Rattle.stk_declarators.specs.declared.uses.TagUse.{TagUse}
use Rattle.stk_declarators.specs.declared.uses.TagUse.TheVariants as used

-- the names in force at file scope, where there are no locals
abbrev pub at_file : List ℕ → List NameEntry → Scope
at_file bytes es = record { bytes = bytes; entries = es; locals = []; own = None }

-- a struct of this tag, where the tag means nothing yet
abbrev pub with_struct : List NameEntry → List ℕ → Option Tag → List NameEntry
with_struct es name None = es ++ entry.Struct (Some name) ∷ []
with_struct es name (Some t) = es

-- what follows the use of an enumeration's tag: nothing, where the tag isn't declared, since its base is refused
abbrev pub past : Option Tag → List NameEntry → List NameEntry → List NameEntry
past None es rest = es
past (Some t) es rest = rest

-- the entries in force behind uses of tags
abbrev pub behind_uses : List ℕ → List NameEntry → List TagUse → List NameEntry
behind_uses bytes es [] = es
behind_uses bytes es (used.Struct at ∷ us) = behind_uses bytes (with_struct es (text_of bytes at) (tag_of (text_of bytes at) es)) us
behind_uses bytes es (used.Enumeration at ∷ us) = past (tag_of (text_of bytes at) es) es (behind_uses bytes es us)
