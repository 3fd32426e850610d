-- Tokens by themselves that are no brackets and no `;`, and rows of them.
use Rattle.std.proofs.Common.{◌≡◌, ℕ, zero, suc, Bool, true, false, ◌&&◌, List, [], ◌∷◌, Option, Some, None, refl}
use Rattle.std.proofs.lemmas.Bool.{false≢true}
use Rattle.stk_base.specs.declared.span.Span.{Span}
use Rattle.stk_base.specs.declared.token.Class.{Class}
use Rattle.stk_tree.specs.declared.fixed.Fixed.{Fixed}
use Rattle.stk_tree.specs.declared.fixed.Fixed.TheVariants as fixed
use Rattle.stk_tree.specs.declared.fixed.Lexeme.{Lexeme}
use Rattle.stk_tree.specs.declared.fixed.Lexeme.TheVariants.{Leaf, Fixed as Token}
use Rattle.stk_tree.specs.declared.declaration.Storage.{Storage}
use Rattle.stk_tree.specs.declared.declaration.Storage.TheVariants.{Typedef, Extern, Static}
use Rattle.stk_tree.specs.declared.expression.StepOp.{StepOp}
use Rattle.stk_tree.specs.declared.expression.StepOp.TheVariants as step
use Rattle.stk_tree.specs.declared.expression.UnaryOp.{UnaryOp}
use Rattle.stk_tree.specs.declared.expression.UnaryOp.TheVariants as unary
use Rattle.stk_tree.specs.declared.expression.BinaryOp.{BinaryOp}
use Rattle.stk_tree.specs.declared.expression.BinaryOp.TheVariants as binary
use Rattle.stk_tree.specs.declared.expression.AssignOp.{AssignOp}
use Rattle.stk_tree.specs.declared.expression.AssignOp.TheVariants as assign
use Rattle.stk_tree.specs.Placed.{all_basic, is_basic}
use Rattle.stk_tree.specs.Syntax.{DesigTrees}
use Rattle.stk_tree.specs.Syntax as s
use Rattle.stk_tree.specs.Tokens.{assign_punctuator, binary_punctuator, last_comma, more_tokens, optional_word, path_end, reserved, stars, step_tokens, storage_tokens, texts, unary_punctuator, word}
use Rattle.stk_text_laws.proofs.Passing.{Passes, nothing, then, token}

-- these tokens pass at each depth, and leave it
abbrev pub Level : List Lexeme → Type 0
Level xs = (d : ℕ) → Passes d xs d

pub leaf : (c : Class) (at : Span) → Level (Leaf c at ∷ [])
leaf c at d = token d (Leaf c at) refl

pub comma_level : Level (Token fixed.Comma ∷ [])
comma_level d = token d (Token fixed.Comma) refl

pub dot_level : Level (Token fixed.Dot ∷ [])
dot_level d = token d (Token fixed.Dot) refl

pub arrow_level : Level (Token fixed.Arrow ∷ [])
arrow_level d = token d (Token fixed.Arrow) refl

pub sizeof_level : Level (Token fixed.Sizeof ∷ [])
sizeof_level d = token d (Token fixed.Sizeof) refl

pub question_level : Level (Token fixed.Question ∷ [])
question_level d = token d (Token fixed.Question) refl

pub colon_level : Level (Token fixed.Colon ∷ [])
colon_level d = token d (Token fixed.Colon) refl

pub assign_level : Level (Token fixed.Assign ∷ [])
assign_level d = token d (Token fixed.Assign) refl

pub struct_level : Level (Token fixed.Struct ∷ [])
struct_level d = token d (Token fixed.Struct) refl

pub enum_level : Level (Token fixed.Enum ∷ [])
enum_level d = token d (Token fixed.Enum) refl

pub plusplus_level : Level (Token fixed.PlusPlus ∷ [])
plusplus_level d = token d (Token fixed.PlusPlus) refl

pub minusminus_level : Level (Token fixed.MinusMinus ∷ [])
minusminus_level d = token d (Token fixed.MinusMinus) refl

pub void_level : Level (Token fixed.Void ∷ [])
void_level d = token d (Token fixed.Void) refl

pub ellipsis_level : Level (Token fixed.Ellipsis ∷ [])
ellipsis_level d = token d (Token fixed.Ellipsis) refl

pub star_level : Level (Token fixed.Star ∷ [])
star_level d = token d (Token fixed.Star) refl

pub word_level : (at : Span) → Level (word at)
word_level at = leaf _ at

pub optional_level : (o : Option Span) → Level (optional_word o)
optional_level None d = nothing d
optional_level (Some at) d = word_level at d

pub texts_level : (parts : List Span) → Level (texts parts)
texts_level [] d = nothing d
texts_level (p ∷ ps) d = then (leaf _ p d) (texts_level ps d)

pub stars_level : (n : ℕ) → Level (stars n)
stars_level zero d = nothing d
stars_level (suc n) d = then (star_level d) (stars_level n d)

both_of : (p q : Bool) → (p && q) ≡ true → (p ≡ true) × (q ≡ true)
both_of true q e = (refl, e)
both_of false q e = absurd (false≢true e)

basic_level : (f : Fixed) → is_basic f ≡ true → Level (Token f ∷ [])
basic_level fixed.Void e d = token d (Token fixed.Void) refl
basic_level fixed.Char e d = token d (Token fixed.Char) refl
basic_level fixed.Short e d = token d (Token fixed.Short) refl
basic_level fixed.Int e d = token d (Token fixed.Int) refl
basic_level fixed.Long e d = token d (Token fixed.Long) refl
basic_level fixed.Signed e d = token d (Token fixed.Signed) refl
basic_level fixed.Unsigned e d = token d (Token fixed.Unsigned) refl
basic_level fixed.Bool e d = token d (Token fixed.Bool) refl
basic_level other e d = absurd (false≢true e)

pub reserved_level : (ws : List Fixed) → all_basic ws ≡ true → Level (reserved ws)
reserved_level [] e d = nothing d
reserved_level (w ∷ ws) e d = let p = both_of (is_basic w) (all_basic ws) e in then (basic_level w p.0 d) (reserved_level ws p.1 d)

pub storage_level : (o : Option Storage) → Level (storage_tokens o)
storage_level None d = nothing d
storage_level (Some Typedef) d = token d (Token fixed.Typedef) refl
storage_level (Some Extern) d = token d (Token fixed.Extern) refl
storage_level (Some Static) d = token d (Token fixed.Static) refl

pub last_comma_level : (b : Bool) → Level (last_comma b)
last_comma_level true d = comma_level d
last_comma_level false d = nothing d

pub more_level : (b : Bool) → Level (more_tokens b)
more_level true d = then (comma_level d) (ellipsis_level d)
more_level false d = nothing d

pub path_level : (ds : DesigTrees) → Level (path_end ds)
path_level s.no_designators d = nothing d
path_level (s.then_designator x xs) d = assign_level d

pub step_level : (op : StepOp) (e : List Lexeme) → Level e → Level (step_tokens op e)
step_level step.IncBefore e h d = then (plusplus_level d) (h d)
step_level step.DecBefore e h d = then (minusminus_level d) (h d)
step_level step.IncAfter e h d = then (h d) (plusplus_level d)
step_level step.DecAfter e h d = then (h d) (minusminus_level d)

pub unary_level : (op : UnaryOp) → Level (Token (unary_punctuator op) ∷ [])
unary_level unary.Address d = token d (Token (unary_punctuator unary.Address)) refl
unary_level unary.Deref d = token d (Token (unary_punctuator unary.Deref)) refl
unary_level unary.Plus d = token d (Token (unary_punctuator unary.Plus)) refl
unary_level unary.Minus d = token d (Token (unary_punctuator unary.Minus)) refl
unary_level unary.Flip d = token d (Token (unary_punctuator unary.Flip)) refl
unary_level unary.Not d = token d (Token (unary_punctuator unary.Not)) refl

pub binary_level : (op : BinaryOp) → Level (Token (binary_punctuator op) ∷ [])
binary_level binary.Comma d = token d (Token (binary_punctuator binary.Comma)) refl
binary_level binary.OrElse d = token d (Token (binary_punctuator binary.OrElse)) refl
binary_level binary.AndAlso d = token d (Token (binary_punctuator binary.AndAlso)) refl
binary_level binary.Or d = token d (Token (binary_punctuator binary.Or)) refl
binary_level binary.Xor d = token d (Token (binary_punctuator binary.Xor)) refl
binary_level binary.And d = token d (Token (binary_punctuator binary.And)) refl
binary_level binary.Eq d = token d (Token (binary_punctuator binary.Eq)) refl
binary_level binary.Ne d = token d (Token (binary_punctuator binary.Ne)) refl
binary_level binary.Lt d = token d (Token (binary_punctuator binary.Lt)) refl
binary_level binary.Gt d = token d (Token (binary_punctuator binary.Gt)) refl
binary_level binary.Le d = token d (Token (binary_punctuator binary.Le)) refl
binary_level binary.Ge d = token d (Token (binary_punctuator binary.Ge)) refl
binary_level binary.Left d = token d (Token (binary_punctuator binary.Left)) refl
binary_level binary.Right d = token d (Token (binary_punctuator binary.Right)) refl
binary_level binary.Add d = token d (Token (binary_punctuator binary.Add)) refl
binary_level binary.Sub d = token d (Token (binary_punctuator binary.Sub)) refl
binary_level binary.Mul d = token d (Token (binary_punctuator binary.Mul)) refl
binary_level binary.Div d = token d (Token (binary_punctuator binary.Div)) refl
binary_level binary.Rem d = token d (Token (binary_punctuator binary.Rem)) refl

pub assignment_level : (op : AssignOp) → Level (Token (assign_punctuator op) ∷ [])
assignment_level assign.Plain d = token d (Token (assign_punctuator assign.Plain)) refl
assignment_level assign.Mul d = token d (Token (assign_punctuator assign.Mul)) refl
assignment_level assign.Div d = token d (Token (assign_punctuator assign.Div)) refl
assignment_level assign.Rem d = token d (Token (assign_punctuator assign.Rem)) refl
assignment_level assign.Add d = token d (Token (assign_punctuator assign.Add)) refl
assignment_level assign.Sub d = token d (Token (assign_punctuator assign.Sub)) refl
assignment_level assign.Left d = token d (Token (assign_punctuator assign.Left)) refl
assignment_level assign.Right d = token d (Token (assign_punctuator assign.Right)) refl
assignment_level assign.And d = token d (Token (assign_punctuator assign.And)) refl
assignment_level assign.Xor d = token d (Token (assign_punctuator assign.Xor)) refl
assignment_level assign.Or d = token d (Token (assign_punctuator assign.Or)) refl
