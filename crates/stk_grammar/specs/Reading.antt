-- Reading from left to right: what the readers compute, over lexemes. Only contracts of tables and of private functions
-- speak of it.
use Rattle.std.specs.Prelude.{ℕ, zero, suc, ◌+◌, Bool, true, false, cond, ◌&&◌, nat_le, List, [], ◌∷◌, length, Option, Some, None}
use Rattle.stk_base.specs.declared.span.Span.{Span}
use Rattle.stk_base.specs.declared.token.Class.{Class}
use Rattle.stk_base.specs.declared.token.Class.TheVariants.{Word, Number, Character, Text, Punctuator, Stray}
use Rattle.stk_tree.specs.Levels.{comma_level, assignment_level, conditional_level, logical_or_level, cast_level, unary_level, postfix_level}
use Rattle.stk_tree.specs.declared.fixed.Fixed.{Fixed}
use Rattle.stk_tree.specs.declared.fixed.Fixed.TheVariants as fixed
use Rattle.stk_tree.specs.declared.fixed.Lexeme.{Lexeme}
use Rattle.stk_tree.specs.declared.fixed.Lexeme.TheVariants.{Leaf, Fixed as Token}
use Rattle.stk_tree.specs.declared.expression.BinaryOp.TheVariants as binary
use Rattle.stk_tree.specs.declared.expression.AssignOp.TheVariants as assign
use Rattle.stk_tree.specs.declared.expression.UnaryOp.TheVariants as unary
use Rattle.stk_tree.specs.declared.expression.StepOp.TheVariants.{IncBefore, DecBefore, IncAfter, DecAfter}
use Rattle.stk_tree.specs.Nesting.{expression_nesting, type_name_nesting}
use Rattle.stk_tree.specs.Placed.{binary_level, form_level, is_basic}
use Rattle.stk_tree.specs.Syntax.{BaseFormTree, DimensionTree, DimensionTrees, ExprFormTree, ExprTree, ExprTrees, TypeNameTree}
use Rattle.stk_tree.specs.Syntax as s
use Rattle.stk_grammar.specs.declared.tables.Opener.{Opener}
use Rattle.stk_grammar.specs.declared.tables.Opener.TheVariants as opener
use Rattle.stk_grammar.specs.declared.tables.Suffix.{Suffix}
use Rattle.stk_grammar.specs.declared.tables.Suffix.TheVariants as suffix
use Rattle.stk_tree.specs.Unlaid.{no_node}

infixl 10 ◌>>=◌
abbrev pub ◌>>=◌ : {A B : Type 0} → Option A → (A → Option B) → Option B
None >>= f = None
(Some x) >>= f = f x

-- what a reader finds at the front, and what stands behind it
abbrev pub Found : Type 0 → Type 0
Found A = Option (A × List Lexeme)

-- an operand's reader: from a level on
abbrev pub Sub : Type 0
Sub = ℕ → List Lexeme → Found ExprTree

-- an expression whose node isn't laid out
abbrev pub made : ExprFormTree → ExprTree
made f = s.expression no_node f

abbrev pub level : ExprTree → ℕ
level (s.expression n f) = form_level f

-- ---- tokens

-- what may stand behind an operand, by the punctuator that it begins with
abbrev pub suffix_punctuator : Fixed → Option Suffix
suffix_punctuator fixed.Comma = Some (suffix.Binary binary.Comma)
suffix_punctuator fixed.OrOr = Some (suffix.Binary binary.OrElse)
suffix_punctuator fixed.AndAnd = Some (suffix.Binary binary.AndAlso)
suffix_punctuator fixed.Pipe = Some (suffix.Binary binary.Or)
suffix_punctuator fixed.Caret = Some (suffix.Binary binary.Xor)
suffix_punctuator fixed.Ampersand = Some (suffix.Binary binary.And)
suffix_punctuator fixed.EqualEqual = Some (suffix.Binary binary.Eq)
suffix_punctuator fixed.NotEqual = Some (suffix.Binary binary.Ne)
suffix_punctuator fixed.Less = Some (suffix.Binary binary.Lt)
suffix_punctuator fixed.Greater = Some (suffix.Binary binary.Gt)
suffix_punctuator fixed.LessEqual = Some (suffix.Binary binary.Le)
suffix_punctuator fixed.GreaterEqual = Some (suffix.Binary binary.Ge)
suffix_punctuator fixed.LeftShift = Some (suffix.Binary binary.Left)
suffix_punctuator fixed.RightShift = Some (suffix.Binary binary.Right)
suffix_punctuator fixed.Plus = Some (suffix.Binary binary.Add)
suffix_punctuator fixed.Minus = Some (suffix.Binary binary.Sub)
suffix_punctuator fixed.Star = Some (suffix.Binary binary.Mul)
suffix_punctuator fixed.Slash = Some (suffix.Binary binary.Div)
suffix_punctuator fixed.Percent = Some (suffix.Binary binary.Rem)
suffix_punctuator fixed.Assign = Some (suffix.Assign assign.Plain)
suffix_punctuator fixed.StarAssign = Some (suffix.Assign assign.Mul)
suffix_punctuator fixed.SlashAssign = Some (suffix.Assign assign.Div)
suffix_punctuator fixed.PercentAssign = Some (suffix.Assign assign.Rem)
suffix_punctuator fixed.PlusAssign = Some (suffix.Assign assign.Add)
suffix_punctuator fixed.MinusAssign = Some (suffix.Assign assign.Sub)
suffix_punctuator fixed.LeftShiftAssign = Some (suffix.Assign assign.Left)
suffix_punctuator fixed.RightShiftAssign = Some (suffix.Assign assign.Right)
suffix_punctuator fixed.AmpersandAssign = Some (suffix.Assign assign.And)
suffix_punctuator fixed.CaretAssign = Some (suffix.Assign assign.Xor)
suffix_punctuator fixed.PipeAssign = Some (suffix.Assign assign.Or)
suffix_punctuator fixed.Question = Some suffix.Choice
suffix_punctuator fixed.LeftBracket = Some suffix.Index
suffix_punctuator fixed.LeftParen = Some suffix.Call
suffix_punctuator fixed.Dot = Some suffix.Dot
suffix_punctuator fixed.Arrow = Some suffix.Arrow
suffix_punctuator fixed.PlusPlus = Some suffix.Increment
suffix_punctuator fixed.MinusMinus = Some suffix.Decrement
suffix_punctuator other = None

abbrev pub suffix_of : Lexeme → Option Suffix
suffix_of (Token f) = suffix_punctuator f
suffix_of (Leaf class at) = None

-- the level of the expression that a suffix makes, and the least levels of its first and last operands
abbrev pub suffix_level : Suffix → ℕ
suffix_level (suffix.Binary o) = binary_level o
suffix_level (suffix.Assign o) = assignment_level
suffix_level suffix.Choice = conditional_level
suffix_level suffix.Index = postfix_level
suffix_level suffix.Call = postfix_level
suffix_level suffix.Dot = postfix_level
suffix_level suffix.Arrow = postfix_level
suffix_level suffix.Increment = postfix_level
suffix_level suffix.Decrement = postfix_level

abbrev pub suffix_left : Suffix → ℕ
suffix_left (suffix.Binary o) = binary_level o
suffix_left (suffix.Assign o) = unary_level
suffix_left suffix.Choice = logical_or_level
suffix_left suffix.Index = postfix_level
suffix_left suffix.Call = postfix_level
suffix_left suffix.Dot = postfix_level
suffix_left suffix.Arrow = postfix_level
suffix_left suffix.Increment = postfix_level
suffix_left suffix.Decrement = postfix_level

-- what an operand begins with
abbrev pub opener_punctuator : Fixed → Option Opener
opener_punctuator fixed.LeftParen = Some opener.Paren
opener_punctuator fixed.Sizeof = Some opener.SizeOf
opener_punctuator fixed.PlusPlus = Some opener.Increment
opener_punctuator fixed.MinusMinus = Some opener.Decrement
opener_punctuator fixed.Ampersand = Some (opener.Unary unary.Address)
opener_punctuator fixed.Star = Some (opener.Unary unary.Deref)
opener_punctuator fixed.Plus = Some (opener.Unary unary.Plus)
opener_punctuator fixed.Minus = Some (opener.Unary unary.Minus)
opener_punctuator fixed.Tilde = Some (opener.Unary unary.Flip)
opener_punctuator fixed.Exclamation = Some (opener.Unary unary.Not)
opener_punctuator other = None

abbrev pub opener_leaf : Class → Span → Option Opener
opener_leaf Word at = Some (opener.Name at)
opener_leaf Number at = Some (opener.Number at)
opener_leaf Character at = Some (opener.Character at)
opener_leaf Text at = Some (opener.Text at)
opener_leaf Punctuator at = None
opener_leaf Stray at = None

abbrev pub opener_of : Lexeme → Option Opener
opener_of (Token f) = opener_punctuator f
opener_of (Leaf class at) = opener_leaf class at

-- ---- punctuators and words

abbrev pub behind_right_paren : List Lexeme → Option (List Lexeme)
behind_right_paren (Token fixed.RightParen ∷ ts) = Some ts
behind_right_paren ts = None

abbrev pub behind_left_paren : List Lexeme → Option (List Lexeme)
behind_left_paren (Token fixed.LeftParen ∷ ts) = Some ts
behind_left_paren ts = None

abbrev pub behind_right_bracket : List Lexeme → Option (List Lexeme)
behind_right_bracket (Token fixed.RightBracket ∷ ts) = Some ts
behind_right_bracket ts = None

abbrev pub behind_left_bracket : List Lexeme → Option (List Lexeme)
behind_left_bracket (Token fixed.LeftBracket ∷ ts) = Some ts
behind_left_bracket ts = None

abbrev pub behind_colon : List Lexeme → Option (List Lexeme)
behind_colon (Token fixed.Colon ∷ ts) = Some ts
behind_colon ts = None

abbrev pub behind_comma : List Lexeme → Option (List Lexeme)
behind_comma (Token fixed.Comma ∷ ts) = Some ts
behind_comma ts = None

abbrev pub behind_semicolon : List Lexeme → Option (List Lexeme)
behind_semicolon (Token fixed.Semicolon ∷ ts) = Some ts
behind_semicolon ts = None

abbrev pub behind_left_brace : List Lexeme → Option (List Lexeme)
behind_left_brace (Token fixed.LeftBrace ∷ ts) = Some ts
behind_left_brace ts = None

abbrev pub behind_right_brace : List Lexeme → Option (List Lexeme)
behind_right_brace (Token fixed.RightBrace ∷ ts) = Some ts
behind_right_brace ts = None

abbrev pub behind_assign : List Lexeme → Option (List Lexeme)
behind_assign (Token fixed.Assign ∷ ts) = Some ts
behind_assign ts = None

abbrev pub behind_dot : List Lexeme → Option (List Lexeme)
behind_dot (Token fixed.Dot ∷ ts) = Some ts
behind_dot ts = None

abbrev pub behind_ellipsis : List Lexeme → Option (List Lexeme)
behind_ellipsis (Token fixed.Ellipsis ∷ ts) = Some ts
behind_ellipsis ts = None

abbrev pub word_at : List Lexeme → Found Span
word_at (Leaf Word at ∷ ts) = Some (at, ts)
word_at ts = None

-- string literals in a row
unfoldable pub texts_at : List Lexeme → List Span × List Lexeme
texts_at [] = ([], [])
texts_at (Leaf Text at ∷ ts) = (at ∷ (texts_at ts).0, (texts_at ts).1)
texts_at (t ∷ ts) = ([], t ∷ ts)

-- ---- types

-- `struct` and `enum`, which a tag follows
abbrev pub is_tag_word : Fixed → Bool
is_tag_word fixed.Struct = true
is_tag_word fixed.Enum = true
is_tag_word other = false

-- whether a type name begins here
abbrev pub begins_type : (Span → Bool) → List Lexeme → Bool
begins_type named [] = false
begins_type named (Leaf Word at ∷ ts) = named at
begins_type named (Leaf class at ∷ ts) = false
begins_type named (Token f ∷ ts) = cond (is_basic f) true (is_tag_word f)

-- a basic word
abbrev pub basic_at : List Lexeme → Found Fixed
basic_at [] = None
basic_at (Token f ∷ ts) = cond (is_basic f) (Some (f, ts)) None
basic_at (Leaf class at ∷ ts) = None

-- basic words in a row
abbrev pub words_on : Bool → Fixed → List Lexeme → List Fixed × List Lexeme → List Fixed × List Lexeme
words_on true f ts more = (f ∷ more.0, more.1)
words_on false f ts more = ([], Token f ∷ ts)

unfoldable pub words_at : List Lexeme → List Fixed × List Lexeme
words_at [] = ([], [])
words_at (Leaf class at ∷ ts) = ([], Leaf class at ∷ ts)
words_at (Token f ∷ ts) = words_on (is_basic f) f ts (words_at ts)

abbrev pub tag_base : Fixed → List Lexeme → Found BaseFormTree
tag_base fixed.Struct ts = word_at ts >>= λ w. Some (s.struct_ref w.0, w.1)
tag_base fixed.Enum ts = word_at ts >>= λ w. Some (s.enum_ref w.0, w.1)
tag_base other ts = None

abbrev pub words_base : Fixed → List Fixed × List Lexeme → Found BaseFormTree
words_base f more = Some (s.words (f ∷ more.0), more.1)

abbrev pub base_at : (Span → Bool) → List Lexeme → Found BaseFormTree
base_at named [] = None
base_at named (Leaf Word at ∷ ts) = cond (named at) (Some (s.named at, ts)) None
base_at named (Leaf class at ∷ ts) = None
base_at named (Token f ∷ ts) = cond (is_basic f) (words_base f (words_at ts)) (tag_base f ts)

-- how many `*` stand here, and those that were counted before
unfoldable pub stars_at : ℕ → List Lexeme → ℕ × List Lexeme
stars_at n [] = (n, [])
stars_at n (Token fixed.Star ∷ ts) = stars_at (suc n) ts
stars_at n (t ∷ ts) = (n, t ∷ ts)

-- an array part, behind its `[`
abbrev pub dimension_at : Sub → Option (List Lexeme) → List Lexeme → Found DimensionTree
dimension_at sub (Some rest) ts = Some (s.open_dimension, rest)
dimension_at sub None ts = sub conditional_level ts >>= λ e. behind_right_bracket e.1 >>= λ rest. Some (s.sized e.0, rest)

abbrev pub dimensions_on : (List Lexeme → Found DimensionTrees) → Sub → Option (List Lexeme) → List Lexeme → Found DimensionTrees
dimensions_on go_on sub None ts = Some (s.no_dimensions, ts)
dimensions_on go_on sub (Some inside) ts = dimension_at sub (behind_right_bracket inside) inside >>= λ x. go_on x.1 >>= λ xs. Some (s.then_dimension x.0 xs.0, xs.1)

-- array parts in a row; the number bounds the turns
unfoldable pub dimensions_at : Sub → ℕ → List Lexeme → Found DimensionTrees
dimensions_at sub zero ts = None
dimensions_at sub (suc f) ts = dimensions_on (dimensions_at sub f) sub (behind_left_bracket ts) ts

-- a type name, where it isn't too high
abbrev pub low_type : ℕ → TypeNameTree → List Lexeme → Found TypeNameTree
low_type inner y rest = cond (nat_le (type_name_nesting y) inner) (Some (y, rest)) None

abbrev pub behind_stars : Sub → ℕ → BaseFormTree → ℕ × List Lexeme → Found TypeNameTree
behind_stars sub inner b x = dimensions_at sub (suc (length x.1)) x.1 >>= λ ds. low_type inner (s.type_name no_node (s.base no_node b) x.0 ds.0) ds.1

-- a type name, of at most this nesting
unfoldable pub type_at : (Span → Bool) → Sub → ℕ → List Lexeme → Found TypeNameTree
type_at named sub inner ts = base_at named ts >>= λ b. behind_stars sub inner b.0 (stars_at 0 b.1)

-- ---- what begins an expression

-- behind a left parenthesis: a cast where a type name begins, and else an expression in parentheses
abbrev pub paren_at : (Span → Bool) → Sub → ℕ → ℕ → Bool → List Lexeme → Found ExprTree
paren_at named sub inner least false ts = sub comma_level ts >>= λ e. behind_right_paren e.1 >>= λ rest. Some (made (s.paren e.0), rest)
paren_at named sub inner least true ts = cond (nat_le least cast_level) (type_at named sub inner ts >>= λ y. behind_right_paren y.1 >>= λ rest. sub cast_level rest >>= λ e. Some (made (s.cast y.0 e.0), e.1)) None

-- an operator before its operand
abbrev pub before_at : Sub → ℕ → ℕ → (ExprTree → ExprFormTree) → List Lexeme → Found ExprTree
before_at sub least operand form ts = cond (nat_le least unary_level) (sub operand ts >>= λ e. Some (made (form e.0), e.1)) None

-- whether a type name in parentheses begins here
abbrev pub opens_type : (Span → Bool) → Option (List Lexeme) → Bool
opens_type named None = false
opens_type named (Some ts) = begins_type named ts

-- behind `sizeof`
abbrev pub size_at : (Span → Bool) → Sub → ℕ → ℕ → Bool → List Lexeme → Found ExprTree
size_at named sub inner least false ts = before_at sub least 15 s.size_expression ts
size_at named sub inner least true ts = cond (nat_le least unary_level) (behind_left_paren ts >>= λ inside. type_at named sub inner inside >>= λ y. behind_right_paren y.1 >>= λ rest. Some (made (s.size_name y.0), rest)) None

unfoldable pub operand_at : (Span → Bool) → Sub → ℕ → ℕ → Opener → List Lexeme → Found ExprTree
operand_at named sub inner least (opener.Name at) ts = cond (named at) None (Some (made (s.name at), ts))
operand_at named sub inner least (opener.Number at) ts = Some (made (s.number at), ts)
operand_at named sub inner least (opener.Character at) ts = Some (made (s.character at), ts)
operand_at named sub inner least (opener.Text at) ts = Some (made (s.text (at ∷ (texts_at ts).0)), (texts_at ts).1)
operand_at named sub inner least opener.Paren ts = paren_at named sub inner least (begins_type named ts) ts
operand_at named sub inner least (opener.Unary o) ts = before_at sub least 14 (s.unary o) ts
operand_at named sub inner least opener.Increment ts = before_at sub least 15 (s.step IncBefore) ts
operand_at named sub inner least opener.Decrement ts = before_at sub least 15 (s.step DecBefore) ts
operand_at named sub inner least opener.SizeOf ts = size_at named sub inner least (opens_type named (behind_left_paren ts)) ts

-- what an expression begins with, and what stands behind that token
abbrev pub first_opener : List Lexeme → Option (Opener × List Lexeme)
first_opener [] = None
first_opener (t ∷ ts) = opener_of t >>= λ h. Some (h, ts)

-- ---- what stands behind an operand

abbrev pub arguments_on : (List Lexeme → Found ExprTrees) → Sub → Option (List Lexeme) → List Lexeme → Found ExprTrees
arguments_on go_on sub None ts = behind_right_paren ts >>= λ rest. Some (s.no_expressions, rest)
arguments_on go_on sub (Some next) ts = sub assignment_level next >>= λ e. go_on e.1 >>= λ es. Some (s.then_expression e.0 es.0, es.1)

-- arguments with a comma before each, up to the `)`; the number bounds the turns
unfoldable pub more_arguments : Sub → ℕ → List Lexeme → Found ExprTrees
more_arguments sub zero ts = None
more_arguments sub (suc f) ts = arguments_on (more_arguments sub f) sub (behind_comma ts) ts

abbrev pub first_argument : Sub → List Lexeme → Found ExprTrees
first_argument sub ts = sub assignment_level ts >>= λ e. more_arguments sub (suc (length e.1)) e.1 >>= λ es. Some (s.then_expression e.0 es.0, es.1)

abbrev pub arguments_from : Sub → Option (List Lexeme) → List Lexeme → Found ExprTrees
arguments_from sub (Some rest) ts = Some (s.no_expressions, rest)
arguments_from sub None ts = first_argument sub ts

-- the arguments of a call, behind its `(`
unfoldable pub arguments : Sub → List Lexeme → Found ExprTrees
arguments sub ts = arguments_from sub (behind_right_paren ts) ts

unfoldable pub tail_at : Sub → Suffix → ExprTree → List Lexeme → Found ExprTree
tail_at sub (suffix.Binary o) a ts = sub (binary_level o + 1) ts >>= λ b. Some (made (s.binary o a b.0), b.1)
tail_at sub (suffix.Assign o) a ts = sub assignment_level ts >>= λ b. Some (made (s.assign o a b.0), b.1)
tail_at sub suffix.Choice a ts = sub comma_level ts >>= λ b. behind_colon b.1 >>= λ rest. sub conditional_level rest >>= λ c. Some (made (s.choice a b.0 c.0), c.1)
tail_at sub suffix.Index a ts = sub comma_level ts >>= λ i. behind_right_bracket i.1 >>= λ rest. Some (made (s.index a i.0), rest)
tail_at sub suffix.Call a ts = arguments sub ts >>= λ es. Some (made (s.call a es.0), es.1)
tail_at sub suffix.Dot a ts = word_at ts >>= λ w. Some (made (s.dot a w.0), w.1)
tail_at sub suffix.Arrow a ts = word_at ts >>= λ w. Some (made (s.arrow a w.0), w.1)
tail_at sub suffix.Increment a ts = Some (made (s.step IncAfter a), ts)
tail_at sub suffix.Decrement a ts = Some (made (s.step DecAfter a), ts)

abbrev pub if_taken : ℕ → ℕ → List Lexeme → Suffix → Option (Suffix × List Lexeme)
if_taken least left ts x = cond (nat_le least (suffix_level x) && nat_le (suffix_left x) left) (Some (x, ts)) None

-- the suffix that an operand of a level takes, where an expression of a least level is wanted
abbrev pub taken : ℕ → ℕ → List Lexeme → Option (Suffix × List Lexeme)
taken least left [] = None
taken least left (t ∷ ts) = suffix_of t >>= if_taken least left ts

abbrev pub climb_on : (ExprTree → List Lexeme → Found ExprTree) → Sub → ℕ → ExprTree → List Lexeme → Option (Suffix × List Lexeme) → Found ExprTree
climb_on go_on sub inner a ts None = Some (a, ts)
climb_on go_on sub inner a ts (Some x) = cond (nat_le (expression_nesting a) inner) (tail_at sub x.0 a x.1 >>= λ b. go_on b.0 b.1) None

-- an operand and what stands behind it; the number bounds the turns
unfoldable pub climb : Sub → ℕ → ℕ → ℕ → ExprTree → List Lexeme → Found ExprTree
climb sub inner least zero a ts = None
climb sub inner least (suc f) a ts = climb_on (climb sub inner least f) sub inner a ts (taken least (level a) ts)

-- an expression of a level or a higher one, of at most this nesting
unfoldable pub expression_at : (Span → Bool) → ℕ → Sub
expression_at named zero least ts = None
expression_at named (suc inner) least ts = first_opener ts >>= λ h. operand_at named (expression_at named inner) inner least h.0 h.1
    >>= λ a. climb (expression_at named inner) inner least (suc (suc inner)) a.0 a.1
