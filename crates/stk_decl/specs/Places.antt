-- Where declarators stand.
use Rattle.std.specs.Prelude.{ℕ, Bool, true, false}
use Rattle.stk_base.specs.declared.span.Span.{Span}
use Rattle.stk_tree.specs.Syntax.{DeclrTree}
use Rattle.stk_grammar.specs.DeclarationReading.{Reader, array_declarator_at, declarator_at}
use Rattle.stk_decl.specs.declared.declarators.DeclaratorScope.{DeclaratorScope}
use Rattle.stk_decl.specs.declared.declarators.DeclaratorScope.TheVariants as place

-- the reader of the declarators that stand there
abbrev pub declarator_in : DeclaratorScope → (Span → Bool) → ℕ → Reader DeclrTree
declarator_in place.Member named room = array_declarator_at named room false
declarator_in place.Local named room = declarator_at named room false
declarator_in place.File named room = declarator_at named room true
