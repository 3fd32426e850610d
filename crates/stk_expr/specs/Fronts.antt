-- What stands at the front of some tokens, and what was read before them.
use Rattle.std.specs.Prelude.{List, [], ◌∷◌, Some, None}
use Rattle.stk_base.specs.declared.span.Span.{Span}
use Rattle.stk_base.specs.declared.token.Class.TheVariants.{Text}
use Rattle.stk_tree.specs.declared.fixed.Lexeme.{Lexeme}
use Rattle.stk_tree.specs.declared.fixed.Lexeme.TheVariants.{Leaf, Fixed as Token}
use Rattle.stk_tree.specs.Syntax.{ExprFormTree, ExprTree}
use Rattle.stk_tree.specs.View.{chained}
use Rattle.stk_grammar.specs.Reading.{◌>>=◌, Found, made, word_at}

abbrev pub text_at : List Lexeme → Found Span
text_at [] = None
text_at (Token f ∷ ts) = None
text_at (Leaf Text at ∷ ts) = Some (at, ts)
text_at (Leaf class at ∷ ts) = None

-- the elements that were read before a row
abbrev pub in_front : {X T : Type 0} → (X → T → T) → List X → Found T → Found T
in_front add xs None = None
in_front add xs (Some y) = Some (chained add y.0 xs, y.1)

-- an expression and what stands behind it
abbrev pub found : ExprFormTree → List Lexeme → Found ExprTree
found form rest = Some (made form, rest)

-- the expression that a word makes
abbrev pub member_at : (Span → ExprFormTree) → List Lexeme → Found ExprTree
member_at form ts = word_at ts >>= λ w. found (form w.0) w.1
