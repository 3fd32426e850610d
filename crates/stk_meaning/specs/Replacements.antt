-- What a comparison may be replaced by (Wang, Zeldovich, Kaashoek, Solar-Lezama, SOSP 2013, section 3.2): of a sum or
-- difference that is compared with one of its own operands, the other operand compared with 0.
use Rattle.std.specs.Prelude.{ℕ, Bool, true, false, ◌&&◌, ◌||◌, not, if◌then◌else◌, List, [], ◌∷◌, ◌++◌, map, Option, Some, None, ℤ, pos}
use Rattle.std.specs.Option.{is_some}
use Rattle.std.specs.Cmp.Lexicographic.{pointwise}
use Rattle.stk_base.specs.Text.{text_of, same_text}
use Rattle.stk_ctype.specs.declared.kind.IntKind.{IntKind}
use Rattle.stk_ctype.specs.declared.kind.IntKind.TheVariants as kind
use Rattle.stk_tree.specs.declared.fixed.Fixed.TheVariants as fixed
use Rattle.stk_tree.specs.declared.fixed.Lexeme.{Lexeme}
use Rattle.stk_tree.specs.declared.fixed.Lexeme.TheVariants.{Leaf, Fixed}
use Rattle.stk_tree.specs.declared.expression.BinaryOp.{BinaryOp}
use Rattle.stk_tree.specs.declared.expression.BinaryOp.TheVariants as binary
use Rattle.stk_tree.specs.Syntax.{ExprTree, ExprTrees, ExprFormTree}
use Rattle.stk_tree.specs.Syntax as s
use Rattle.stk_tree.specs.Tokens.{expression_tokens}
use Rattle.stk_tree.specs.Spelling.{spelling_of}
use Rattle.stk_tree.specs.Parts.{bare}
use Rattle.stk_numbers.specs.declared.operators.CompareOp.{CompareOp}
use Rattle.stk_numbers.specs.declared.operators.CompareOp.TheVariants as compare_op
use Rattle.stk_numbers.specs.Kinds.{wrap, common}
use Rattle.stk_numbers.specs.Values.{compared}
use Rattle.stk_type_rules.specs.Types.{kind_of}
use Rattle.stk_meaning.specs.Typings.{Typing, type_in}

-- the spelling of a token
abbrev pub spelled : List ℕ → Lexeme → List ℕ
spelled bytes (Fixed f) = spelling_of f
spelled bytes (Leaf class at) = text_of bytes at

-- whether two expressions have the same tokens, by their spelling
abbrev pub spelled_alike : List ℕ → ExprTree → ExprTree → Bool
spelled_alike bytes a b = pointwise same_text (map (spelled bytes) (expression_tokens a)) (map (spelled bytes) (expression_tokens b))

-- whether an expression holds a call, an assignment, `++` or `--`
abbrev mutual
  pub has_effect : ExprTree → Bool
  has_effect (s.expression n f) = form_has_effect f

  pub form_has_effect : ExprFormTree → Bool
  form_has_effect (s.name at) = false
  form_has_effect (s.number at) = false
  form_has_effect (s.character at) = false
  form_has_effect (s.text parts) = false
  form_has_effect (s.paren e) = has_effect e
  form_has_effect (s.index a b) = has_effect a || has_effect b
  form_has_effect (s.call e es) = true
  form_has_effect (s.dot e at) = has_effect e
  form_has_effect (s.arrow e at) = has_effect e
  form_has_effect (s.step op e) = true
  form_has_effect (s.unary op e) = has_effect e
  form_has_effect (s.size_expression e) = has_effect e
  form_has_effect (s.size_name t) = false
  form_has_effect (s.cast t e) = has_effect e
  form_has_effect (s.binary op a b) = has_effect a || has_effect b
  form_has_effect (s.choice a b c) = has_effect a || (has_effect b || has_effect c)
  form_has_effect (s.assign op a b) = true

-- the operands of a sum or difference, and whether it is a difference
pub record Summed : Type 0 where
  pub left : ExprTree
  pub right : ExprTree
  pub minus : Bool

abbrev pub summed_by : BinaryOp → ExprTree → ExprTree → Option Summed
summed_by binary.Comma a b = None
summed_by binary.OrElse a b = None
summed_by binary.AndAlso a b = None
summed_by binary.Or a b = None
summed_by binary.Xor a b = None
summed_by binary.And a b = None
summed_by binary.Eq a b = None
summed_by binary.Ne a b = None
summed_by binary.Lt a b = None
summed_by binary.Gt a b = None
summed_by binary.Le a b = None
summed_by binary.Ge a b = None
summed_by binary.Left a b = None
summed_by binary.Right a b = None
summed_by binary.Add a b = Some (record { left = a; right = b; minus = false })
summed_by binary.Sub a b = Some (record { left = a; right = b; minus = true })
summed_by binary.Mul a b = None
summed_by binary.Div a b = None
summed_by binary.Rem a b = None

abbrev pub summed_form : ExprFormTree → Option Summed
summed_form (s.name at) = None
summed_form (s.number at) = None
summed_form (s.character at) = None
summed_form (s.text parts) = None
summed_form (s.paren e) = None
summed_form (s.index a b) = None
summed_form (s.call e es) = None
summed_form (s.dot e at) = None
summed_form (s.arrow e at) = None
summed_form (s.step op e) = None
summed_form (s.unary op e) = None
summed_form (s.size_expression e) = None
summed_form (s.size_name t) = None
summed_form (s.cast t e) = None
summed_form (s.binary op a b) = summed_by op a b
summed_form (s.choice a b c) = None
summed_form (s.assign op a b) = None

-- the sum or difference that an expression without parentheses is
abbrev pub summed : ExprTree → Option Summed
summed (s.expression n f) = summed_form f

-- A replacement: the operand that is kept (its node, and whether it is the right operand of the sum), whether the sum
-- is the left side of the comparison, and whether 0 is the left side of what replaces it.
pub record Replaced : Type 0 where
  pub kept : ExprTree
  pub is_right : Bool
  pub sum_first : Bool
  pub zero_first : Bool

-- an operand may be kept where it has an integer type and neither it nor the other one has an effect
abbrev pub kept_if : Typing → Bool → ExprTree → ExprTree → Replaced → Option Replaced
kept_if ty alike x y found = if alike && (is_some (kind_of (type_in ty y)) && not (has_effect x || has_effect y)) then Some found else None

-- the first answer that there is
abbrev pub first_of_both : Option Replaced → Option Replaced → Option Replaced
first_of_both None b = b
first_of_both (Some x) b = Some x

-- a sum compared with another side: the left operand is left out where it is spelled like that side, and else the right
-- one where it is; of a difference the left one alone. `x - y op x` becomes `0 op y`, as `x op x + y` does.
abbrev pub replaced_sum : Typing → Bool → Summed → ExprTree → Option Replaced
replaced_sum ty first sum other =
    let left_alike = spelled_alike ty.bytes sum.left other in
    let right_alike = spelled_alike ty.bytes sum.right other in
    let keep_right : Replaced = record { kept = sum.right; is_right = true; sum_first = first; zero_first = if first then sum.minus else not sum.minus } in
    let keep_left : Replaced = record { kept = sum.left; is_right = false; sum_first = first; zero_first = not first } in
    if left_alike then kept_if ty true sum.left sum.right keep_right
    else kept_if ty (right_alike && not sum.minus) sum.right sum.left keep_left

abbrev pub replaced_side : Typing → Bool → Option Summed → ExprTree → Option Replaced
replaced_side ty first None other = None
replaced_side ty first (Some sum) other = replaced_sum ty first sum other

-- the replacement of a comparison of two sides, parentheses round them aside
abbrev pub replacement : Typing → ExprTree → ExprTree → Option Replaced
replacement ty a b = first_of_both (replaced_side ty true (summed (bare a)) (bare b)) (replaced_side ty false (summed (bare b)) (bare a))

-- the truth of `y op 0`, or of `0 op y`, in the common kind of y and `int`
abbrev pub replaced_truth : Bool → CompareOp → IntKind → ℤ → Bool
replaced_truth true op k y = compared op (pos 0) (wrap (common k kind.Int) y)
replaced_truth false op k y = compared op (wrap (common k kind.Int) y) (pos 0)

-- the spelling of a comparison
abbrev pub comparison_punctuator : CompareOp → List ℕ
comparison_punctuator compare_op.Lt = spelling_of fixed.Less
comparison_punctuator compare_op.Gt = spelling_of fixed.Greater
comparison_punctuator compare_op.Le = spelling_of fixed.LessEqual
comparison_punctuator compare_op.Ge = spelling_of fixed.GreaterEqual
comparison_punctuator compare_op.Eq = spelling_of fixed.EqualEqual
comparison_punctuator compare_op.Ne = spelling_of fixed.NotEqual

-- texts with one space between each two
abbrev pub spaced : List (List ℕ) → List ℕ
spaced [] = []
spaced (x ∷ []) = x
spaced (x ∷ y ∷ xs) = x ++ 32 ∷ spaced (y ∷ xs)

-- the text of what replaces a comparison: the tokens of `y op 0`, or of `0 op y`
abbrev pub replacement_text : List ℕ → CompareOp → Replaced → List ℕ
replacement_text bytes op found =
    let kept = map (spelled bytes) (expression_tokens found.kept) in
    spaced (if found.zero_first then (48 ∷ []) ∷ comparison_punctuator op ∷ kept else kept ++ comparison_punctuator op ∷ (48 ∷ []) ∷ [])
