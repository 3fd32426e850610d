-- The tables of the operators: numbers, so that each law is one of arithmetic.
use Rattle.std.proofs.Common.{◌≡◌, ℕ, ◌+◌, ◌<◌, ◌≤◌, Bool, true, false, cond, ◌&&◌, ◌⊎◌, List, [], ◌∷◌, Option, Some, None, refl, sym, ap, subst, arith}
use Rattle.std.proofs.lemmas.Bool.{le-leb, lt-leb, leb-true}
use Rattle.stk_base.specs.declared.span.Span.{Span}
use Rattle.stk_base.specs.declared.token.Class.{Class}
use Rattle.stk_base.specs.declared.token.Class.TheVariants.{Word, Number, Character, Text, Punctuator, Stray}
use Rattle.stk_tree.specs.declared.fixed.Fixed.{Fixed}
use Rattle.stk_tree.specs.declared.fixed.Fixed.TheVariants as fixed
use Rattle.stk_tree.specs.declared.fixed.Lexeme.{Lexeme}
use Rattle.stk_tree.specs.declared.fixed.Lexeme.TheVariants.{Leaf, Fixed as Token}
use Rattle.stk_tree.specs.declared.expression.StepOp.{StepOp}
use Rattle.stk_tree.specs.declared.expression.StepOp.TheVariants.{IncBefore, DecBefore, IncAfter, DecAfter}
use Rattle.stk_tree.specs.declared.expression.UnaryOp.{UnaryOp}
use Rattle.stk_tree.specs.declared.expression.UnaryOp.TheVariants as unary
use Rattle.stk_tree.specs.declared.expression.BinaryOp.{BinaryOp}
use Rattle.stk_tree.specs.declared.expression.BinaryOp.TheVariants as binary
use Rattle.stk_tree.specs.declared.expression.AssignOp.{AssignOp}
use Rattle.stk_tree.specs.declared.expression.AssignOp.TheVariants as assign
use Rattle.stk_tree.specs.Syntax.{BaseTree, BaseFormTree, TypeNameTree, DimensionTree, DimensionTrees, ExprTree, ExprTrees, ExprFormTree}
use Rattle.stk_tree.specs.Syntax as s
use Rattle.stk_tree.specs.Placed.{binary_level, form_level, step_level}
use Rattle.stk_tree.specs.Tokens.{assign_punctuator, binary_punctuator, unary_punctuator}
use Rattle.stk_grammar.specs.declared.tables.Opener.{Opener}
use Rattle.stk_grammar.specs.declared.tables.Opener.TheVariants as opener
use Rattle.stk_grammar.specs.declared.tables.Suffix.{Suffix}
use Rattle.stk_grammar.specs.declared.tables.Suffix.TheVariants as suffix
use Rattle.stk_grammar.specs.Reading.{◌>>=◌, opener_leaf, opener_punctuator, opener_of, if_taken, level, suffix_left, suffix_level, suffix_punctuator, suffix_of, taken}

-- ---- options

pub bind_some : {A B : Type 0} (o : Option A) (f : A → Option B) (y : B) → (o >>= f) ≡ Some y → (x : A) × (o ≡ Some x) × (f x ≡ Some y)
bind_some None f y e = absurd cc
bind_some (Some x) f y e = (x, refl, e)

pub if_some : {A : Type 0} (b : Bool) (o : Option A) (y : A) → cond b o None ≡ Some y → (b ≡ true) × (o ≡ Some y)
if_some true o y e = (refl, e)
if_some false o y e = absurd cc

pub unless_some : {A : Type 0} (b : Bool) (o : Option A) (y : A) → cond b None o ≡ Some y → (b ≡ false) × (o ≡ Some y)
unless_some true o y e = absurd cc
unless_some false o y e = (refl, e)

pub some_is : {A : Type 0} (x y : A) → ◌≡◌ {A = Option A} (Some x) (Some y) → x ≡ y
some_is x y e = cc

pub both_true : (a b : Bool) → (a && b) ≡ true → (a ≡ true) × (b ≡ true)
both_true true b e = (refl, e)
both_true false b e = absurd cc

pub true_both : (a b : Bool) → a ≡ true → b ≡ true → (a && b) ≡ true
true_both true b e d = d
true_both false b e d = absurd cc

-- ---- levels

-- the level of an operator is 1, or from 4 to 13
abbrev IsBinary : ℕ → Type 0
IsBinary at = (at ≡ 1) ⊎ ((4 ≤ at) × (at ≤ 13))

binary_range : (o : BinaryOp) → IsBinary (binary_level o)
binary_range binary.Comma = grind arith
binary_range binary.OrElse = grind arith
binary_range binary.AndAlso = grind arith
binary_range binary.Or = grind arith
binary_range binary.Xor = grind arith
binary_range binary.And = grind arith
binary_range binary.Eq = grind arith
binary_range binary.Ne = grind arith
binary_range binary.Lt = grind arith
binary_range binary.Gt = grind arith
binary_range binary.Le = grind arith
binary_range binary.Ge = grind arith
binary_range binary.Left = grind arith
binary_range binary.Right = grind arith
binary_range binary.Add = grind arith
binary_range binary.Sub = grind arith
binary_range binary.Mul = grind arith
binary_range binary.Div = grind arith
binary_range binary.Rem = grind arith

range_low : (at : ℕ) → IsBinary at → at ≤ 13
range_low at h = grind arith

pub binary_level_low : (o : BinaryOp) → binary_level o ≤ 13
binary_level_low o = range_low _ (binary_range o)

-- the least level that is read last in a tree
abbrev pub step_right : StepOp → ℕ
step_right IncBefore = 15
step_right DecBefore = 15
step_right IncAfter = 17
step_right DecAfter = 17

abbrev pub right : ExprFormTree → ℕ
right (s.name at) = 17
right (s.number at) = 17
right (s.character at) = 17
right (s.text parts) = 17
right (s.paren e) = 17
right (s.index a b) = 17
right (s.call f args) = 17
right (s.dot e at) = 17
right (s.arrow e at) = 17
right (s.step op e) = step_right op
right (s.unary op e) = 14
right (s.size_expression e) = 15
right (s.size_name y) = 17
right (s.cast y e) = 14
right (s.binary op a b) = binary_level op + 1
right (s.choice a b c) = 3
right (s.assign op a b) = 2

abbrev pub last : ExprTree → ℕ
last (s.expression n f) = right f

-- what a tree of this level may be followed by
abbrev IsEdge : ℕ → ℕ → Type 0
IsEdge at right = ((15 ≤ at) × (at ≤ 17) × (right ≡ 17)) ⊎ ((14 ≤ at) × (at ≤ 15) × (14 ≤ right) × (right ≤ 15)) ⊎ ((at ≡ 3) × (right ≡ 3)) ⊎ ((at ≡ 2) × (right ≡ 2)) ⊎ (((at ≡ 1) ⊎ ((4 ≤ at) × (at ≤ 13))) × (right ≡ at + 1))

edge_of_range : (at : ℕ) → IsBinary at → IsEdge at (at + 1)
edge_of_range at h = grind arith

step_edge : (o : StepOp) → IsEdge (step_level o) (step_right o)
step_edge IncBefore = grind arith
step_edge DecBefore = grind arith
step_edge IncAfter = grind arith
step_edge DecAfter = grind arith

form_edge : (f : ExprFormTree) → IsEdge (form_level f) (right f)
form_edge (s.name at) = grind arith
form_edge (s.number at) = grind arith
form_edge (s.character at) = grind arith
form_edge (s.text parts) = grind arith
form_edge (s.paren e) = grind arith
form_edge (s.index a b) = grind arith
form_edge (s.call f args) = grind arith
form_edge (s.dot e at) = grind arith
form_edge (s.arrow e at) = grind arith
form_edge (s.step op e) = step_edge op
form_edge (s.unary op e) = grind arith
form_edge (s.size_expression e) = grind arith
form_edge (s.size_name y) = grind arith
form_edge (s.cast y e) = grind arith
form_edge (s.binary op a b) = edge_of_range _ (binary_range op)
form_edge (s.choice a b c) = grind arith
form_edge (s.assign op a b) = grind arith

tree_edge : (t : ExprTree) → IsEdge (level t) (last t)
tree_edge (s.expression n f) = form_edge f

abbrev IsPlace : ℕ → ℕ → Type 0
IsPlace at left = ((left ≡ at) × ((at ≡ 1) ⊎ ((4 ≤ at) × (at ≤ 13)) ⊎ (at ≡ 16))) ⊎ ((at ≡ 2) × (left ≡ 15)) ⊎ ((at ≡ 3) × (left ≡ 4))

place_of_range : (at : ℕ) → IsBinary at → IsPlace at at
place_of_range at h = grind arith

suffix_place : (x : Suffix) → IsPlace (suffix_level x) (suffix_left x)
suffix_place (suffix.Binary o) = place_of_range _ (binary_range o)
suffix_place (suffix.Assign o) = grind arith
suffix_place suffix.Choice = grind arith
suffix_place suffix.Index = grind arith
suffix_place suffix.Call = grind arith
suffix_place suffix.Dot = grind arith
suffix_place suffix.Arrow = grind arith
suffix_place suffix.Increment = grind arith
suffix_place suffix.Decrement = grind arith

numbers_below : (at left here right : ℕ) → IsPlace at left → IsEdge here right → left ≤ here → at < right
numbers_below at left here right p e h = grind arith

-- where a tree may stand on the left of an operator, the operator may follow it
pub level_below_last : (x : Suffix) (a : ExprTree) → suffix_left x ≤ level a → suffix_level x < last a
level_below_last x a h = numbers_below _ _ _ _ (suffix_place x) (tree_edge a) h

place_low : (at left : ℕ) → IsPlace at left → at ≤ 16
place_low at left p = grind arith

pub suffix_level_low : (x : Suffix) → suffix_level x ≤ 16
suffix_level_low x = place_low _ _ (suffix_place x)

above_of_edge : (at right : ℕ) → IsEdge at right → 1 ≤ at
above_of_edge at right h = grind arith

pub level_above : (t : ExprTree) → 1 ≤ level t
level_above t = above_of_edge _ _ (tree_edge t)

-- ---- what ends an expression of a level

abbrev pub EndsAt : ℕ → Option Suffix → Type 0
EndsAt least None = Unit {0}
EndsAt least (Some x) = suffix_level x < least

abbrev pub is_text : Lexeme → Bool
is_text (Token f) = false
is_text (Leaf Word at) = false
is_text (Leaf Number at) = false
is_text (Leaf Character at) = false
is_text (Leaf Text at) = true
is_text (Leaf Punctuator at) = false
is_text (Leaf Stray at) = false

abbrev pub Ends : ℕ → List Lexeme → Type 0
Ends least [] = Unit {0}
Ends least (t ∷ ts) = (is_text t ≡ false) × EndsAt least (suffix_of t)

at_end : (o : Option Suffix) (least left : ℕ) (ts : List Lexeme) → EndsAt least o → (o >>= if_taken least left ts) ≡ None
at_end None least left ts h = refl
at_end (Some x) least left ts h = rw (lt-leb least (suffix_level x) h) refl

pub taken_none : (least left : ℕ) (ts : List Lexeme) → Ends least ts → taken least left ts ≡ None
taken_none least left [] h = refl
taken_none least left (t ∷ ts) h = at_end (suffix_of t) least left ts h.1

pub taken_some : (least left : ℕ) (t : Lexeme) (ts : List Lexeme) (x : Suffix) → suffix_of t ≡ Some x → least ≤ suffix_level x → suffix_left x ≤ left → taken least left (t ∷ ts) ≡ Some (x, ts)
taken_some least left t ts x e h k = rw (e, le-leb least (suffix_level x) h, le-leb (suffix_left x) left k) refl

numbers_end : (at left m here right : ℕ) → IsPlace at left → IsEdge here right → at < m → m ≤ here → at < right
numbers_end at left m here right p e h k = grind arith

ends_at_last : (o : Option Suffix) (least : ℕ) (t : ExprTree) → EndsAt least o → least ≤ level t → EndsAt (last t) o
ends_at_last None least t h k = tt
ends_at_last (Some x) least t h k = numbers_end (suffix_level x) (suffix_left x) least (level t) (last t) (suffix_place x) (tree_edge t) h k

-- what ends an expression ends the tree in its place
pub Ends-last : (least : ℕ) (t : ExprTree) (ts : List Lexeme) → Ends least ts → least ≤ level t → Ends (last t) ts
Ends-last least t [] h k = tt
Ends-last least t (u ∷ ts) h k = (h.0, ends_at_last (suffix_of u) least t h.1 k)

pub suffix_of_binary : (o : BinaryOp) → suffix_of (Token (binary_punctuator o)) ≡ Some (suffix.Binary o)
suffix_of_binary binary.Comma = refl
suffix_of_binary binary.OrElse = refl
suffix_of_binary binary.AndAlso = refl
suffix_of_binary binary.Or = refl
suffix_of_binary binary.Xor = refl
suffix_of_binary binary.And = refl
suffix_of_binary binary.Eq = refl
suffix_of_binary binary.Ne = refl
suffix_of_binary binary.Lt = refl
suffix_of_binary binary.Gt = refl
suffix_of_binary binary.Le = refl
suffix_of_binary binary.Ge = refl
suffix_of_binary binary.Left = refl
suffix_of_binary binary.Right = refl
suffix_of_binary binary.Add = refl
suffix_of_binary binary.Sub = refl
suffix_of_binary binary.Mul = refl
suffix_of_binary binary.Div = refl
suffix_of_binary binary.Rem = refl

pub suffix_of_assign : (o : AssignOp) → suffix_of (Token (assign_punctuator o)) ≡ Some (suffix.Assign o)
suffix_of_assign assign.Plain = refl
suffix_of_assign assign.Mul = refl
suffix_of_assign assign.Div = refl
suffix_of_assign assign.Rem = refl
suffix_of_assign assign.Add = refl
suffix_of_assign assign.Sub = refl
suffix_of_assign assign.Left = refl
suffix_of_assign assign.Right = refl
suffix_of_assign assign.And = refl
suffix_of_assign assign.Xor = refl
suffix_of_assign assign.Or = refl

pub Ends-suffix : (u : Fixed) (x : Suffix) (a : ExprTree) (ts : List Lexeme) → suffix_of (Token u) ≡ Some x → suffix_left x ≤ level a → Ends (last a) (Token u ∷ ts)
Ends-suffix u x a ts e h = (refl, subst (EndsAt (last a)) (sym e) (level_below_last x a h))

-- ---- which token begins what

abbrev pub suffix_punctuator_of : Suffix → Fixed
suffix_punctuator_of (suffix.Binary o) = binary_punctuator o
suffix_punctuator_of (suffix.Assign o) = assign_punctuator o
suffix_punctuator_of suffix.Choice = fixed.Question
suffix_punctuator_of suffix.Index = fixed.LeftBracket
suffix_punctuator_of suffix.Call = fixed.LeftParen
suffix_punctuator_of suffix.Dot = fixed.Dot
suffix_punctuator_of suffix.Arrow = fixed.Arrow
suffix_punctuator_of suffix.Increment = fixed.PlusPlus
suffix_punctuator_of suffix.Decrement = fixed.MinusMinus

punctuator_is : (f : Fixed) (x : Suffix) → suffix_punctuator f ≡ Some x → f ≡ suffix_punctuator_of x
punctuator_is fixed.Comma x e = ap suffix_punctuator_of (some_is _ x e)
punctuator_is fixed.OrOr x e = ap suffix_punctuator_of (some_is _ x e)
punctuator_is fixed.AndAnd x e = ap suffix_punctuator_of (some_is _ x e)
punctuator_is fixed.Pipe x e = ap suffix_punctuator_of (some_is _ x e)
punctuator_is fixed.Caret x e = ap suffix_punctuator_of (some_is _ x e)
punctuator_is fixed.Ampersand x e = ap suffix_punctuator_of (some_is _ x e)
punctuator_is fixed.EqualEqual x e = ap suffix_punctuator_of (some_is _ x e)
punctuator_is fixed.NotEqual x e = ap suffix_punctuator_of (some_is _ x e)
punctuator_is fixed.Less x e = ap suffix_punctuator_of (some_is _ x e)
punctuator_is fixed.Greater x e = ap suffix_punctuator_of (some_is _ x e)
punctuator_is fixed.LessEqual x e = ap suffix_punctuator_of (some_is _ x e)
punctuator_is fixed.GreaterEqual x e = ap suffix_punctuator_of (some_is _ x e)
punctuator_is fixed.LeftShift x e = ap suffix_punctuator_of (some_is _ x e)
punctuator_is fixed.RightShift x e = ap suffix_punctuator_of (some_is _ x e)
punctuator_is fixed.Plus x e = ap suffix_punctuator_of (some_is _ x e)
punctuator_is fixed.Minus x e = ap suffix_punctuator_of (some_is _ x e)
punctuator_is fixed.Star x e = ap suffix_punctuator_of (some_is _ x e)
punctuator_is fixed.Slash x e = ap suffix_punctuator_of (some_is _ x e)
punctuator_is fixed.Percent x e = ap suffix_punctuator_of (some_is _ x e)
punctuator_is fixed.Assign x e = ap suffix_punctuator_of (some_is _ x e)
punctuator_is fixed.StarAssign x e = ap suffix_punctuator_of (some_is _ x e)
punctuator_is fixed.SlashAssign x e = ap suffix_punctuator_of (some_is _ x e)
punctuator_is fixed.PercentAssign x e = ap suffix_punctuator_of (some_is _ x e)
punctuator_is fixed.PlusAssign x e = ap suffix_punctuator_of (some_is _ x e)
punctuator_is fixed.MinusAssign x e = ap suffix_punctuator_of (some_is _ x e)
punctuator_is fixed.LeftShiftAssign x e = ap suffix_punctuator_of (some_is _ x e)
punctuator_is fixed.RightShiftAssign x e = ap suffix_punctuator_of (some_is _ x e)
punctuator_is fixed.AmpersandAssign x e = ap suffix_punctuator_of (some_is _ x e)
punctuator_is fixed.CaretAssign x e = ap suffix_punctuator_of (some_is _ x e)
punctuator_is fixed.PipeAssign x e = ap suffix_punctuator_of (some_is _ x e)
punctuator_is fixed.Question x e = ap suffix_punctuator_of (some_is _ x e)
punctuator_is fixed.LeftBracket x e = ap suffix_punctuator_of (some_is _ x e)
punctuator_is fixed.LeftParen x e = ap suffix_punctuator_of (some_is _ x e)
punctuator_is fixed.Dot x e = ap suffix_punctuator_of (some_is _ x e)
punctuator_is fixed.Arrow x e = ap suffix_punctuator_of (some_is _ x e)
punctuator_is fixed.PlusPlus x e = ap suffix_punctuator_of (some_is _ x e)
punctuator_is fixed.MinusMinus x e = ap suffix_punctuator_of (some_is _ x e)
punctuator_is f x e = absurd cc

pub suffix_is : (t : Lexeme) (x : Suffix) → suffix_of t ≡ Some x → t ≡ Token (suffix_punctuator_of x)
suffix_is (Token f) x e = ap (λ f. Token f) (punctuator_is f x e)
suffix_is (Leaf class at) x e = absurd cc

pub taken_is : (least left : ℕ) (ts : List Lexeme) (x : Suffix × List Lexeme) → taken least left ts ≡ Some x → (ts ≡ Token (suffix_punctuator_of x.0) ∷ x.1) × (least ≤ suffix_level x.0) × (suffix_left x.0 ≤ left)
taken_is least left [] x e = absurd cc
taken_is least left (t ∷ ts) x e =
    let a = bind_some (suffix_of t) (if_taken least left ts) x e in
    let b = if_some _ _ x a.2 in
    let c = both_true _ _ b.0 in
    let d = some_is (a.0, ts) x b.1 in
    subst (λ (y : Suffix × List Lexeme). (t ∷ ts ≡ Token (suffix_punctuator_of y.0) ∷ y.1) × (least ≤ suffix_level y.0) × (suffix_left y.0 ≤ left)) d
    (ap (λ u. u ∷ ts) (suffix_is t a.0 a.1), leb-true _ _ c.0, leb-true _ _ c.1)

abbrev pub head_token : Opener → Lexeme
head_token (opener.Name at) = Leaf Word at
head_token (opener.Number at) = Leaf Number at
head_token (opener.Character at) = Leaf Character at
head_token (opener.Text at) = Leaf Text at
head_token opener.Paren = Token fixed.LeftParen
head_token opener.SizeOf = Token fixed.Sizeof
head_token opener.Increment = Token fixed.PlusPlus
head_token opener.Decrement = Token fixed.MinusMinus
head_token (opener.Unary o) = Token (unary_punctuator o)

punctuator_head_is : (f : Fixed) (h : Opener) → opener_punctuator f ≡ Some h → Token f ≡ head_token h
punctuator_head_is fixed.LeftParen h e = ap head_token (some_is _ h e)
punctuator_head_is fixed.Sizeof h e = ap head_token (some_is _ h e)
punctuator_head_is fixed.PlusPlus h e = ap head_token (some_is _ h e)
punctuator_head_is fixed.MinusMinus h e = ap head_token (some_is _ h e)
punctuator_head_is fixed.Ampersand h e = ap head_token (some_is _ h e)
punctuator_head_is fixed.Star h e = ap head_token (some_is _ h e)
punctuator_head_is fixed.Plus h e = ap head_token (some_is _ h e)
punctuator_head_is fixed.Minus h e = ap head_token (some_is _ h e)
punctuator_head_is fixed.Tilde h e = ap head_token (some_is _ h e)
punctuator_head_is fixed.Exclamation h e = ap head_token (some_is _ h e)
punctuator_head_is f h e = absurd cc

leaf_head_is : (class : Class) (at : Span) (h : Opener) → opener_leaf class at ≡ Some h → Leaf class at ≡ head_token h
leaf_head_is Word at h e = ap head_token (some_is _ h e)
leaf_head_is Number at h e = ap head_token (some_is _ h e)
leaf_head_is Character at h e = ap head_token (some_is _ h e)
leaf_head_is Text at h e = ap head_token (some_is _ h e)
leaf_head_is Punctuator at h e = absurd cc
leaf_head_is Stray at h e = absurd cc

pub head_is : (t : Lexeme) (h : Opener) → opener_of t ≡ Some h → t ≡ head_token h
head_is (Token f) h e = punctuator_head_is f h e
head_is (Leaf class at) h e = leaf_head_is class at h e

pub head_of_unary : (o : UnaryOp) → opener_of (Token (unary_punctuator o)) ≡ Some (opener.Unary o)
head_of_unary unary.Address = refl
head_of_unary unary.Deref = refl
head_of_unary unary.Plus = refl
head_of_unary unary.Minus = refl
head_of_unary unary.Flip = refl
head_of_unary unary.Not = refl
