-- Which words of a text are typedef names in force.
use Rattle.std.specs.Prelude.{ℕ, Bool, List}
use Rattle.stk_base.specs.declared.span.Span.{Span}
use Rattle.stk_base.specs.Text.{text_of}
use Rattle.stk_ctype.specs.declared.symbol.NameEntry.{NameEntry}
use Rattle.stk_ctype.specs.Names.{is_type}

-- whether the word at a span is a typedef name in force (C11 6.7.8)
unfoldable pub named : List ℕ → List NameEntry → Span → Bool
named bytes names at = is_type (text_of bytes at) names
