-- The tokens of a tree in front of others, with no `++`.
use Rattle.std.proofs.Common.{◌≡◌, ℕ, zero, suc, ◌<◌, ◌≤◌, List, [], ◌∷◌, length, ◌++◌, refl, ap, ◌∙◌, append_assoc, length-append, arith}
use Rattle.stk_base.specs.declared.span.Span.{Span}
use Rattle.stk_base.specs.declared.token.Class.TheVariants.{Word, Number, Character, Text}
use Rattle.stk_tree.specs.declared.fixed.Fixed.{Fixed}
use Rattle.stk_tree.specs.declared.fixed.Fixed.TheVariants as fixed
use Rattle.stk_tree.specs.declared.fixed.Lexeme.{Lexeme}
use Rattle.stk_tree.specs.declared.fixed.Lexeme.TheVariants.{Leaf, Fixed as Token}
use Rattle.stk_tree.specs.declared.expression.StepOp.TheVariants.{IncBefore, DecBefore, IncAfter, DecAfter}
use Rattle.stk_tree.specs.Syntax.{BaseTree, BaseFormTree, TypeNameTree, DimensionTree, DimensionTrees, ExprTree, ExprTrees, ExprFormTree}
use Rattle.stk_tree.specs.Syntax as s
use Rattle.stk_tree.specs.Nesting.{expression_nesting}
use Rattle.stk_tree.specs.Tokens.{assign_punctuator, base_form_tokens, binary_punctuator, dimension_tokens, dimensions_tokens, expression_form_tokens, expression_tokens, expressions_tokens, more_expressions, reserved, stars, texts, type_name_tokens, unary_punctuator}

abbrev pub prints_texts : List Span → List Lexeme → List Lexeme
prints_texts [] r = r
prints_texts (p ∷ ps) r = Leaf Text p ∷ prints_texts ps r

abbrev pub prints_words : List Fixed → List Lexeme → List Lexeme
prints_words [] r = r
prints_words (w ∷ ws) r = Token w ∷ prints_words ws r

abbrev pub prints_stars : ℕ → List Lexeme → List Lexeme
prints_stars zero r = r
prints_stars (suc n) r = Token fixed.Star ∷ prints_stars n r

-- a base with braces prints what it prints
abbrev pub prints_base : BaseFormTree → List Lexeme → List Lexeme
prints_base (s.words ws) r = prints_words ws r
prints_base (s.struct_ref tag) r = Token fixed.Struct ∷ Leaf Word tag ∷ r
prints_base (s.struct_def tag ms) r = base_form_tokens (s.struct_def tag ms) ++ r
prints_base (s.enum_ref tag) r = Token fixed.Enum ∷ Leaf Word tag ∷ r
prints_base (s.enum_def tag es comma) r = base_form_tokens (s.enum_def tag es comma) ++ r
prints_base (s.named at) r = Leaf Word at ∷ r

abbrev mutual
  pub prints : ExprTree → List Lexeme → List Lexeme
  prints (s.expression n f) r = prints_form f r

  -- expressions with a comma between each two; and with one before each
  pub prints_all : ExprTrees → List Lexeme → List Lexeme
  prints_all s.no_expressions r = r
  prints_all (s.then_expression x xs) r = prints x (prints_more xs r)

  pub prints_more : ExprTrees → List Lexeme → List Lexeme
  prints_more s.no_expressions r = r
  prints_more (s.then_expression x xs) r = Token fixed.Comma ∷ prints x (prints_more xs r)

  pub prints_dimension : DimensionTree → List Lexeme → List Lexeme
  prints_dimension s.open_dimension r = Token fixed.LeftBracket ∷ Token fixed.RightBracket ∷ r
  prints_dimension (s.sized e) r = Token fixed.LeftBracket ∷ prints e (Token fixed.RightBracket ∷ r)

  pub prints_dimensions : DimensionTrees → List Lexeme → List Lexeme
  prints_dimensions s.no_dimensions r = r
  prints_dimensions (s.then_dimension x xs) r = prints_dimension x (prints_dimensions xs r)

  pub prints_type : TypeNameTree → List Lexeme → List Lexeme
  prints_type (s.type_name n (s.base m b) count ds) r = prints_base b (prints_stars count (prints_dimensions ds r))

  pub prints_form : ExprFormTree → List Lexeme → List Lexeme
  prints_form (s.name at) r = Leaf Word at ∷ r
  prints_form (s.number at) r = Leaf Number at ∷ r
  prints_form (s.character at) r = Leaf Character at ∷ r
  prints_form (s.text parts) r = prints_texts parts r
  prints_form (s.paren e) r = Token fixed.LeftParen ∷ prints e (Token fixed.RightParen ∷ r)
  prints_form (s.index a b) r = prints a (Token fixed.LeftBracket ∷ prints b (Token fixed.RightBracket ∷ r))
  prints_form (s.call f args) r = prints f (Token fixed.LeftParen ∷ prints_all args (Token fixed.RightParen ∷ r))
  prints_form (s.dot e at) r = prints e (Token fixed.Dot ∷ Leaf Word at ∷ r)
  prints_form (s.arrow e at) r = prints e (Token fixed.Arrow ∷ Leaf Word at ∷ r)
  prints_form (s.step IncBefore e) r = Token fixed.PlusPlus ∷ prints e r
  prints_form (s.step DecBefore e) r = Token fixed.MinusMinus ∷ prints e r
  prints_form (s.step IncAfter e) r = prints e (Token fixed.PlusPlus ∷ r)
  prints_form (s.step DecAfter e) r = prints e (Token fixed.MinusMinus ∷ r)
  prints_form (s.unary op e) r = Token (unary_punctuator op) ∷ prints e r
  prints_form (s.size_expression e) r = Token fixed.Sizeof ∷ prints e r
  prints_form (s.size_name y) r = Token fixed.Sizeof ∷ Token fixed.LeftParen ∷ prints_type y (Token fixed.RightParen ∷ r)
  prints_form (s.cast y e) r = Token fixed.LeftParen ∷ prints_type y (Token fixed.RightParen ∷ prints e r)
  prints_form (s.binary op a b) r = prints a (Token (binary_punctuator op) ∷ prints b r)
  prints_form (s.choice a b c) r = prints a (Token fixed.Question ∷ prints b (Token fixed.Colon ∷ prints c r))
  prints_form (s.assign op a b) r = prints a (Token (assign_punctuator op) ∷ prints b r)

texts-append : (ps : List Span) (r : List Lexeme) → texts ps ++ r ≡ prints_texts ps r
texts-append [] r = refl
texts-append (p ∷ ps) r = ap (λ x. Leaf Text p ∷ x) (texts-append ps r)

pub words-append : (ws : List Fixed) (r : List Lexeme) → reserved ws ++ r ≡ prints_words ws r
words-append [] r = refl
words-append (w ∷ ws) r = ap (λ x. Token w ∷ x) (words-append ws r)

pub stars-append : (n : ℕ) (r : List Lexeme) → stars n ++ r ≡ prints_stars n r
stars-append zero r = refl
stars-append (suc n) r = ap (λ x. Token fixed.Star ∷ x) (stars-append n r)

base-append : (b : BaseFormTree) (r : List Lexeme) → base_form_tokens b ++ r ≡ prints_base b r
base-append (s.words ws) r = words-append ws r
base-append (s.struct_ref tag) r = refl
base-append (s.struct_def tag ms) r = refl
base-append (s.enum_ref tag) r = refl
base-append (s.enum_def tag es comma) r = refl
base-append (s.named at) r = refl

-- an operand, a punctuator and what stands behind it
pub infix_append : (a : List Lexeme) (u : Lexeme) (b r w : List Lexeme) → b ++ r ≡ w → (a ++ u ∷ b) ++ r ≡ a ++ u ∷ w
infix_append a u b r w e = append_assoc a (u ∷ b) r ∙ ap (λ x. a ++ u ∷ x) e

mutual
  pub tokens-append : (t : ExprTree) (r : List Lexeme) → expression_tokens t ++ r ≡ prints t r
  tokens-append (s.expression n f) r = form-append f r

  all-append : (es : ExprTrees) (r : List Lexeme) → expressions_tokens es ++ r ≡ prints_all es r
  all-append s.no_expressions r = refl
  all-append (s.then_expression x xs) r = append_assoc (expression_tokens x) (more_expressions xs) r ∙ ap (λ y. expression_tokens x ++ y) (more-append xs r) ∙ tokens-append x (prints_more xs r)

  more-append : (es : ExprTrees) (r : List Lexeme) → more_expressions es ++ r ≡ prints_more es r
  more-append s.no_expressions r = refl
  more-append (s.then_expression x xs) r = ap (λ y. Token fixed.Comma ∷ y) (append_assoc (expression_tokens x) (more_expressions xs) r ∙ ap (λ y. expression_tokens x ++ y) (more-append xs r) ∙ tokens-append x (prints_more xs r))

  pub dimension-append : (d : DimensionTree) (r : List Lexeme) → dimension_tokens d ++ r ≡ prints_dimension d r
  dimension-append s.open_dimension r = refl
  dimension-append (s.sized e) r = ap (λ x. Token fixed.LeftBracket ∷ x) (append_assoc (expression_tokens e) (Token fixed.RightBracket ∷ []) r ∙ tokens-append e (Token fixed.RightBracket ∷ r))

  pub dimensions-append : (ds : DimensionTrees) (r : List Lexeme) → dimensions_tokens ds ++ r ≡ prints_dimensions ds r
  dimensions-append s.no_dimensions r = refl
  dimensions-append (s.then_dimension x xs) r = append_assoc (dimension_tokens x) (dimensions_tokens xs) r ∙ ap (λ y. dimension_tokens x ++ y) (dimensions-append xs r) ∙ dimension-append x (prints_dimensions xs r)

  type-append : (y : TypeNameTree) (r : List Lexeme) → type_name_tokens y ++ r ≡ prints_type y r
  type-append (s.type_name n (s.base m b) count ds) r =
      append_assoc (base_form_tokens b ++ stars count) (dimensions_tokens ds) r
      ∙ append_assoc (base_form_tokens b) (stars count) (dimensions_tokens ds ++ r)
      ∙ ap (λ x. base_form_tokens b ++ (stars count ++ x)) (dimensions-append ds r)
      ∙ ap (λ x. base_form_tokens b ++ x) (stars-append count (prints_dimensions ds r))
      ∙ base-append b (prints_stars count (prints_dimensions ds r))

  form-append : (f : ExprFormTree) (r : List Lexeme) → expression_form_tokens f ++ r ≡ prints_form f r
  form-append (s.name at) r = refl
  form-append (s.number at) r = refl
  form-append (s.character at) r = refl
  form-append (s.text parts) r = texts-append parts r
  form-append (s.paren e) r = ap (λ x. Token fixed.LeftParen ∷ x) (append_assoc (expression_tokens e) (Token fixed.RightParen ∷ []) r ∙ tokens-append e (Token fixed.RightParen ∷ r))
  form-append (s.index a b) r =
      append_assoc (expression_tokens a ++ Token fixed.LeftBracket ∷ expression_tokens b) (Token fixed.RightBracket ∷ []) r
      ∙ infix_append (expression_tokens a) (Token fixed.LeftBracket) (expression_tokens b) (Token fixed.RightBracket ∷ r) _ (tokens-append b (Token fixed.RightBracket ∷ r))
      ∙ tokens-append a (Token fixed.LeftBracket ∷ prints b (Token fixed.RightBracket ∷ r))
  form-append (s.call f args) r =
      append_assoc (expression_tokens f ++ Token fixed.LeftParen ∷ expressions_tokens args) (Token fixed.RightParen ∷ []) r
      ∙ infix_append (expression_tokens f) (Token fixed.LeftParen) (expressions_tokens args) (Token fixed.RightParen ∷ r) _ (all-append args (Token fixed.RightParen ∷ r))
      ∙ tokens-append f (Token fixed.LeftParen ∷ prints_all args (Token fixed.RightParen ∷ r))
  form-append (s.dot e at) r = append_assoc (expression_tokens e) (Token fixed.Dot ∷ Leaf Word at ∷ []) r ∙ tokens-append e (Token fixed.Dot ∷ Leaf Word at ∷ r)
  form-append (s.arrow e at) r = append_assoc (expression_tokens e) (Token fixed.Arrow ∷ Leaf Word at ∷ []) r ∙ tokens-append e (Token fixed.Arrow ∷ Leaf Word at ∷ r)
  form-append (s.step IncBefore e) r = ap (λ x. Token fixed.PlusPlus ∷ x) (tokens-append e r)
  form-append (s.step DecBefore e) r = ap (λ x. Token fixed.MinusMinus ∷ x) (tokens-append e r)
  form-append (s.step IncAfter e) r = append_assoc (expression_tokens e) (Token fixed.PlusPlus ∷ []) r ∙ tokens-append e (Token fixed.PlusPlus ∷ r)
  form-append (s.step DecAfter e) r = append_assoc (expression_tokens e) (Token fixed.MinusMinus ∷ []) r ∙ tokens-append e (Token fixed.MinusMinus ∷ r)
  form-append (s.unary op e) r = ap (λ x. Token (unary_punctuator op) ∷ x) (tokens-append e r)
  form-append (s.size_expression e) r = ap (λ x. Token fixed.Sizeof ∷ x) (tokens-append e r)
  form-append (s.size_name y) r = ap (λ x. Token fixed.Sizeof ∷ Token fixed.LeftParen ∷ x) (append_assoc (type_name_tokens y) (Token fixed.RightParen ∷ []) r ∙ type-append y (Token fixed.RightParen ∷ r))
  form-append (s.cast y e) r = ap (λ x. Token fixed.LeftParen ∷ x) (infix_append (type_name_tokens y) (Token fixed.RightParen) (expression_tokens e) r _ (tokens-append e r) ∙ type-append y (Token fixed.RightParen ∷ prints e r))
  form-append (s.binary op a b) r = infix_append (expression_tokens a) (Token (binary_punctuator op)) (expression_tokens b) r _ (tokens-append b r) ∙ tokens-append a (Token (binary_punctuator op) ∷ prints b r)
  form-append (s.choice a b c) r =
      append_assoc (expression_tokens a ++ Token fixed.Question ∷ expression_tokens b) (Token fixed.Colon ∷ expression_tokens c) r
      ∙ ap (λ x. (expression_tokens a ++ Token fixed.Question ∷ expression_tokens b) ++ Token fixed.Colon ∷ x) (tokens-append c r)
      ∙ infix_append (expression_tokens a) (Token fixed.Question) (expression_tokens b) (Token fixed.Colon ∷ prints c r) _ (tokens-append b (Token fixed.Colon ∷ prints c r))
      ∙ tokens-append a (Token fixed.Question ∷ prints b (Token fixed.Colon ∷ prints c r))
  form-append (s.assign op a b) r = infix_append (expression_tokens a) (Token (assign_punctuator op)) (expression_tokens b) r _ (tokens-append b r) ∙ tokens-append a (Token (assign_punctuator op) ∷ prints b r)

pub nesting_above : (t : ExprTree) → 0 < expression_nesting t
nesting_above (s.expression n f) = omega arith

texts_longer : (ps : List Span) (r : List Lexeme) → length r ≤ length (prints_texts ps r)
texts_longer [] r = omega arith
texts_longer (p ∷ ps) r = omega (arith, texts_longer ps r)

words_longer : (ws : List Fixed) (r : List Lexeme) → length r ≤ length (prints_words ws r)
words_longer [] r = omega arith
words_longer (w ∷ ws) r = omega (arith, words_longer ws r)

stars_longer : (n : ℕ) (r : List Lexeme) → length r ≤ length (prints_stars n r)
stars_longer zero r = omega arith
stars_longer (suc n) r = omega (arith, stars_longer n r)

base_longer : (b : BaseFormTree) (r : List Lexeme) → length r ≤ length (prints_base b r)
base_longer (s.words ws) r = words_longer ws r
base_longer (s.struct_ref tag) r = omega arith
base_longer (s.struct_def tag ms) r = omega (arith, length-append (base_form_tokens (s.struct_def tag ms)) r)
base_longer (s.enum_ref tag) r = omega arith
base_longer (s.enum_def tag es comma) r = omega (arith, length-append (base_form_tokens (s.enum_def tag es comma)) r)
base_longer (s.named at) r = omega arith

mutual
  pub prints_longer : (t : ExprTree) (r : List Lexeme) → length r ≤ length (prints t r)
  prints_longer (s.expression n f) r = form_longer f r

  pub all_longer : (es : ExprTrees) (r : List Lexeme) → length r ≤ length (prints_all es r)
  all_longer s.no_expressions r = omega arith
  all_longer (s.then_expression x xs) r = omega (arith, prints_longer x (prints_more xs r), more_longer xs r)

  pub more_longer : (es : ExprTrees) (r : List Lexeme) → length r ≤ length (prints_more es r)
  more_longer s.no_expressions r = omega arith
  more_longer (s.then_expression x xs) r = omega (arith, prints_longer x (prints_more xs r), more_longer xs r)

  dimension_longer : (d : DimensionTree) (r : List Lexeme) → length r < length (prints_dimension d r)
  dimension_longer s.open_dimension r = omega arith
  dimension_longer (s.sized e) r = omega (arith, prints_longer e (Token fixed.RightBracket ∷ r))

  pub dimensions_longer : (ds : DimensionTrees) (r : List Lexeme) → length r ≤ length (prints_dimensions ds r)
  dimensions_longer s.no_dimensions r = omega arith
  dimensions_longer (s.then_dimension x xs) r = omega (arith, dimension_longer x (prints_dimensions xs r), dimensions_longer xs r)

  pub type_longer : (y : TypeNameTree) (r : List Lexeme) → length r ≤ length (prints_type y r)
  type_longer (s.type_name n (s.base m b) count ds) r = omega (arith, dimensions_longer ds r, stars_longer count (prints_dimensions ds r), base_longer b (prints_stars count (prints_dimensions ds r)))

  form_longer : (f : ExprFormTree) (r : List Lexeme) → length r ≤ length (prints_form f r)
  form_longer (s.name at) r = omega arith
  form_longer (s.number at) r = omega arith
  form_longer (s.character at) r = omega arith
  form_longer (s.text parts) r = texts_longer parts r
  form_longer (s.paren e) r = omega (arith, prints_longer e (Token fixed.RightParen ∷ r))
  form_longer (s.index a b) r = omega (arith, prints_longer b (Token fixed.RightBracket ∷ r), prints_longer a (Token fixed.LeftBracket ∷ prints b (Token fixed.RightBracket ∷ r)))
  form_longer (s.call f args) r = omega (arith, all_longer args (Token fixed.RightParen ∷ r), prints_longer f (Token fixed.LeftParen ∷ prints_all args (Token fixed.RightParen ∷ r)))
  form_longer (s.dot e at) r = omega (arith, prints_longer e (Token fixed.Dot ∷ Leaf Word at ∷ r))
  form_longer (s.arrow e at) r = omega (arith, prints_longer e (Token fixed.Arrow ∷ Leaf Word at ∷ r))
  form_longer (s.step IncBefore e) r = omega (arith, prints_longer e r)
  form_longer (s.step DecBefore e) r = omega (arith, prints_longer e r)
  form_longer (s.step IncAfter e) r = omega (arith, prints_longer e (Token fixed.PlusPlus ∷ r))
  form_longer (s.step DecAfter e) r = omega (arith, prints_longer e (Token fixed.MinusMinus ∷ r))
  form_longer (s.unary op e) r = omega (arith, prints_longer e r)
  form_longer (s.size_expression e) r = omega (arith, prints_longer e r)
  form_longer (s.size_name y) r = omega (arith, type_longer y (Token fixed.RightParen ∷ r))
  form_longer (s.cast y e) r = omega (arith, prints_longer e r, type_longer y (Token fixed.RightParen ∷ prints e r))
  form_longer (s.binary op a b) r = omega (arith, prints_longer b r, prints_longer a (Token (binary_punctuator op) ∷ prints b r))
  form_longer (s.choice a b c) r = omega (arith, prints_longer c r, prints_longer b (Token fixed.Colon ∷ prints c r), prints_longer a (Token fixed.Question ∷ prints b (Token fixed.Colon ∷ prints c r)))
  form_longer (s.assign op a b) r = omega (arith, prints_longer b r, prints_longer a (Token (assign_punctuator op) ∷ prints b r))
