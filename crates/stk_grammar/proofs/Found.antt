-- The punctuator or the word that stood where something was found behind it.
use Rattle.std.proofs.Common.{◌≡◌, true, false, List, [], ◌∷◌, Some, refl, sym, ap}
use Rattle.stk_tree.specs.declared.fixed.Fixed.{Fixed}
use Rattle.stk_tree.specs.declared.fixed.Fixed.TheVariants as fixed
use Rattle.stk_tree.specs.declared.fixed.Lexeme.{Lexeme}
use Rattle.stk_tree.specs.declared.fixed.Lexeme.TheVariants.{Leaf, Fixed as Token}
use Rattle.stk_grammar.specs.Reading.{behind_right_brace}
use Rattle.stk_grammar.proofs.Operators.{some_is}
use Rattle.stk_grammar.specs.StatementReading.{begins_label, behind_case, behind_default, behind_else, behind_first, behind_while, ends_section, is_end, is_semicolon, kind_at, kind_punctuator}
use Rattle.stk_grammar.specs.declared.statement_tables.Kind.{Kind}
use Rattle.stk_grammar.specs.declared.statement_tables.Kind.TheVariants as kind

pub else_is : (ts rest : List Lexeme) → behind_else ts ≡ Some rest → ts ≡ Token fixed.Else ∷ rest
else_is [] rest e = absurd cc
else_is (Token fixed.Else ∷ ts) rest e = ap (λ x. Token fixed.Else ∷ x) (some_is ts rest e)
else_is (t ∷ ts) rest e = absurd cc

pub while_is : (ts rest : List Lexeme) → behind_while ts ≡ Some rest → ts ≡ Token fixed.While ∷ rest
while_is [] rest e = absurd cc
while_is (Token fixed.While ∷ ts) rest e = ap (λ x. Token fixed.While ∷ x) (some_is ts rest e)
while_is (t ∷ ts) rest e = absurd cc

pub case_is : (ts rest : List Lexeme) → behind_case ts ≡ Some rest → ts ≡ Token fixed.Case ∷ rest
case_is [] rest e = absurd cc
case_is (Token fixed.Case ∷ ts) rest e = ap (λ x. Token fixed.Case ∷ x) (some_is ts rest e)
case_is (t ∷ ts) rest e = absurd cc

pub default_is : (ts rest : List Lexeme) → behind_default ts ≡ Some rest → ts ≡ Token fixed.Default ∷ rest
default_is [] rest e = absurd cc
default_is (Token fixed.Default ∷ ts) rest e = ap (λ x. Token fixed.Default ∷ x) (some_is ts rest e)
default_is (t ∷ ts) rest e = absurd cc

pub end_is : (ts : List Lexeme) → is_end ts ≡ true → ts ≡ []
end_is [] h = refl
end_is (t ∷ ts) h = absurd cc

pub lone_is : (ts : List Lexeme) → is_semicolon ts ≡ true → ts ≡ Token fixed.Semicolon ∷ []
lone_is [] h = absurd cc
lone_is (Token fixed.Semicolon ∷ []) h = refl
lone_is (t ∷ ts) h = absurd cc

-- where a section ends and no label begins, the `}` stands
pub brace_of_end : (ts : List Lexeme) → ends_section ts ≡ true → begins_label ts ≡ false → (rest : List Lexeme) × (behind_right_brace ts ≡ Some rest)
brace_of_end [] h k = absurd cc
brace_of_end (Token fixed.RightBrace ∷ ts) h k = (ts, refl)
brace_of_end (t ∷ ts) h k = absurd (cc (h, k))

-- ---- the kinds of statements

-- the punctuator of each kind but the plain one
abbrev pub kind_token : Kind → Fixed
kind_token kind.Block = fixed.LeftBrace
kind_token kind.If = fixed.If
kind_token kind.Switch = fixed.Switch
kind_token kind.While = fixed.While
kind_token kind.Do = fixed.Do
kind_token kind.For = fixed.For
kind_token kind.Break = fixed.Break
kind_token kind.Continue = fixed.Continue
kind_token kind.Return = fixed.Return
kind_token kind.Plain = fixed.Semicolon

punctuator_is : (f : Fixed) (k : Kind) → kind_punctuator f ≡ k → (k ≡ kind.Plain → ⊥) → f ≡ kind_token k
punctuator_is fixed.LeftBrace k e h = ap kind_token e
punctuator_is fixed.If k e h = ap kind_token e
punctuator_is fixed.Switch k e h = ap kind_token e
punctuator_is fixed.While k e h = ap kind_token e
punctuator_is fixed.Do k e h = ap kind_token e
punctuator_is fixed.For k e h = ap kind_token e
punctuator_is fixed.Break k e h = ap kind_token e
punctuator_is fixed.Continue k e h = ap kind_token e
punctuator_is fixed.Return k e h = ap kind_token e
punctuator_is f k e h = absurd (h (sym e))

pub kind_is : (ts : List Lexeme) (k : Kind) → kind_at ts ≡ k → (k ≡ kind.Plain → ⊥) → ts ≡ Token (kind_token k) ∷ behind_first ts
kind_is [] k e h = absurd (h (sym e))
kind_is (Leaf class at ∷ ts) k e h = absurd (h (sym e))
kind_is (Token f ∷ ts) k e h = ap (λ f. Token f ∷ ts) (punctuator_is f k e h)
