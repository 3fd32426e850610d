-- What is read is a well-placed tree that prints what stood there.
use Rattle.std.proofs.Common.{◌≡◌, ℕ, zero, suc, ◌+◌, ◌≤◌, Bool, true, false, cond, List, [], ◌∷◌, length, Option, Some, None, refl, sym, ap, subst, ◌∙◌, arith}
use Rattle.std.specs.Prelude.{nat_le}
use Rattle.std.proofs.lemmas.Bool.{leb-true}
use Rattle.stk_base.specs.declared.span.Span.{Span}
use Rattle.stk_base.specs.declared.token.Class.TheVariants.{Word, Number, Character, Text}
use Rattle.stk_tree.specs.declared.fixed.Fixed.{Fixed}
use Rattle.stk_tree.specs.declared.fixed.Fixed.TheVariants as fixed
use Rattle.stk_tree.specs.declared.fixed.Lexeme.{Lexeme}
use Rattle.stk_tree.specs.declared.fixed.Lexeme.TheVariants.{Leaf, Fixed as Token}
use Rattle.stk_tree.specs.declared.expression.StepOp.TheVariants.{IncBefore, DecBefore, IncAfter, DecAfter}
use Rattle.stk_tree.specs.declared.expression.UnaryOp.{UnaryOp}
use Rattle.stk_tree.specs.Syntax.{BaseTree, BaseFormTree, TypeNameTree, DimensionTree, DimensionTrees, ExprTree, ExprTrees, ExprFormTree}
use Rattle.stk_tree.specs.Syntax as s
use Rattle.stk_tree.specs.Nesting.{expression_nesting, expressions_nesting, type_name_nesting}
use Rattle.stk_tree.specs.Placed.{all_basic, binary_level, is_basic}
use Rattle.stk_tree.specs.Tokens.{assign_punctuator, binary_punctuator, unary_punctuator}
use Rattle.stk_grammar.specs.declared.tables.Opener.{Opener}
use Rattle.stk_grammar.specs.declared.tables.Opener.TheVariants as opener
use Rattle.stk_grammar.specs.declared.tables.Suffix.{Suffix}
use Rattle.stk_grammar.specs.declared.tables.Suffix.TheVariants as suffix
use Rattle.stk_grammar.specs.Reading.{Found, Sub, made, level, suffix_level, suffix_left, opener_of, behind_right_paren, behind_left_paren, behind_right_bracket, behind_left_bracket, behind_colon, behind_comma, word_at, texts_at, begins_type, words_on, words_at, tag_base, words_base, base_at, stars_at, dimension_at, dimensions_on, dimensions_at, type_at, paren_at, before_at, opens_type, size_at, operand_at, first_opener, arguments_on, more_arguments, arguments_from, arguments, tail_at, taken, climb_on, climb, expression_at}
use Rattle.stk_grammar.proofs.Prints.{prints, prints_all, prints_base, prints_dimension, prints_dimensions, prints_more, prints_stars, prints_texts, prints_type, prints_words}
use Rattle.stk_grammar.proofs.Well.{IsWell, AreWell, IsWellBase, IsWellDimension, AreWellDimensions, IsWellType}
use Rattle.stk_grammar.proofs.Operators.{bind_some, if_some, unless_some, some_is, true_both, binary_level_low, head_is, head_token, suffix_punctuator_of, taken_is}

-- ---- answers

-- a tree that a reader found at the front of these tokens, and what stands behind it
pub record Answers (named : Span → Bool) (room least : ℕ) (ts : List Lexeme) (x : ExprTree × List Lexeme) : Type 0 where
  pub text : ts ≡ prints x.0 x.1
  pub well : IsWell named x.0
  pub at : least ≤ level x.0
  pub low : expression_nesting x.0 ≤ room

abbrev pub IsSound : (Span → Bool) → ℕ → Sub → Type 0
IsSound named room sub = (least : ℕ) → least ≤ 17 → (ts : List Lexeme) (x : ExprTree × List Lexeme) → sub least ts ≡ Some x → Answers named room least ts x

-- ---- punctuators and words

pub right_paren_is : (ts rest : List Lexeme) → behind_right_paren ts ≡ Some rest → ts ≡ Token fixed.RightParen ∷ rest
right_paren_is [] rest e = absurd cc
right_paren_is (Token fixed.RightParen ∷ ts) rest e = ap (λ x. Token fixed.RightParen ∷ x) (some_is ts rest e)
right_paren_is (t ∷ ts) rest e = absurd cc

pub left_paren_is : (ts rest : List Lexeme) → behind_left_paren ts ≡ Some rest → ts ≡ Token fixed.LeftParen ∷ rest
left_paren_is [] rest e = absurd cc
left_paren_is (Token fixed.LeftParen ∷ ts) rest e = ap (λ x. Token fixed.LeftParen ∷ x) (some_is ts rest e)
left_paren_is (t ∷ ts) rest e = absurd cc

pub right_bracket_is : (ts rest : List Lexeme) → behind_right_bracket ts ≡ Some rest → ts ≡ Token fixed.RightBracket ∷ rest
right_bracket_is [] rest e = absurd cc
right_bracket_is (Token fixed.RightBracket ∷ ts) rest e = ap (λ x. Token fixed.RightBracket ∷ x) (some_is ts rest e)
right_bracket_is (t ∷ ts) rest e = absurd cc

pub left_bracket_is : (ts rest : List Lexeme) → behind_left_bracket ts ≡ Some rest → ts ≡ Token fixed.LeftBracket ∷ rest
left_bracket_is [] rest e = absurd cc
left_bracket_is (Token fixed.LeftBracket ∷ ts) rest e = ap (λ x. Token fixed.LeftBracket ∷ x) (some_is ts rest e)
left_bracket_is (t ∷ ts) rest e = absurd cc

pub colon_is : (ts rest : List Lexeme) → behind_colon ts ≡ Some rest → ts ≡ Token fixed.Colon ∷ rest
colon_is [] rest e = absurd cc
colon_is (Token fixed.Colon ∷ ts) rest e = ap (λ x. Token fixed.Colon ∷ x) (some_is ts rest e)
colon_is (t ∷ ts) rest e = absurd cc

pub comma_is : (ts rest : List Lexeme) → behind_comma ts ≡ Some rest → ts ≡ Token fixed.Comma ∷ rest
comma_is [] rest e = absurd cc
comma_is (Token fixed.Comma ∷ ts) rest e = ap (λ x. Token fixed.Comma ∷ x) (some_is ts rest e)
comma_is (t ∷ ts) rest e = absurd cc

pub word_is : (ts : List Lexeme) (x : Span × List Lexeme) → word_at ts ≡ Some x → ts ≡ Leaf Word x.0 ∷ x.1
word_is [] x e = absurd cc
word_is (Leaf Word at ∷ ts) x e = ap (λ (y : Span × List Lexeme). Leaf Word y.0 ∷ y.1) (some_is (at, ts) x e)
word_is (t ∷ ts) x e = absurd cc

texts_is : (ts : List Lexeme) → ts ≡ prints_texts (texts_at ts).0 (texts_at ts).1
unfolding texts_at
texts_is [] = refl
texts_is (Leaf Text at ∷ ts) = ap (λ x. Leaf Text at ∷ x) (texts_is ts)
texts_is (t ∷ ts) = refl

-- ---- types

abbrev pub AreWords : List Lexeme → List Fixed × List Lexeme → Type 0
AreWords ts x = (ts ≡ prints_words x.0 x.1) × (all_basic x.0 ≡ true)

words_on_is : (b : Bool) (f : Fixed) (ts : List Lexeme) (more : List Fixed × List Lexeme) → is_basic f ≡ b → AreWords ts more → AreWords (Token f ∷ ts) (words_on b f ts more)
words_on_is true f ts more e h = (ap (λ x. Token f ∷ x) h.0, true_both _ _ e h.1)
words_on_is false f ts more e h = (refl, refl)

pub words_are : (ts : List Lexeme) → AreWords ts (words_at ts)
unfolding words_at
words_are [] = (refl, refl)
words_are (Leaf class at ∷ ts) = (refl, refl)
words_are (Token f ∷ ts) = words_on_is (is_basic f) f ts (words_at ts) refl (words_are ts)

abbrev IsBaseAt : (Span → Bool) → List Lexeme → BaseFormTree × List Lexeme → Type 0
IsBaseAt named ts x = (ts ≡ prints_base x.0 x.1) × IsWellBase named x.0

tag_base_is : (named : Span → Bool) (f : Fixed) (ts : List Lexeme) (x : BaseFormTree × List Lexeme) → tag_base f ts ≡ Some x → IsBaseAt named (Token f ∷ ts) x
tag_base_is named fixed.Struct ts x e =
    let a = bind_some (word_at ts) _ x e in
    subst (IsBaseAt named (Token fixed.Struct ∷ ts)) (some_is (s.struct_ref a.0.0, a.0.1) x a.2) (ap (λ r. Token fixed.Struct ∷ r) (word_is ts a.0 a.1), tt)
tag_base_is named fixed.Enum ts x e =
    let a = bind_some (word_at ts) _ x e in
    subst (IsBaseAt named (Token fixed.Enum ∷ ts)) (some_is (s.enum_ref a.0.0, a.0.1) x a.2) (ap (λ r. Token fixed.Enum ∷ r) (word_is ts a.0 a.1), tt)
tag_base_is named f ts x e = absurd cc

token_base_is : (named : Span → Bool) (f : Fixed) (ts : List Lexeme) (x : BaseFormTree × List Lexeme) (b : Bool) → is_basic f ≡ b
    → cond b (words_base f (words_at ts)) (tag_base f ts) ≡ Some x → IsBaseAt named (Token f ∷ ts) x
token_base_is named f ts x true is e =
    let w = words_are ts in
    subst (IsBaseAt named (Token f ∷ ts)) (some_is (s.words (f ∷ (words_at ts).0), (words_at ts).1) x e) (ap (λ r. Token f ∷ r) w.0, true_both _ _ is w.1)
token_base_is named f ts x false is e = tag_base_is named f ts x e

pub base_is : (named : Span → Bool) (ts : List Lexeme) (x : BaseFormTree × List Lexeme) → base_at named ts ≡ Some x → IsBaseAt named ts x
base_is named [] x e = absurd cc
base_is named (Leaf Word at ∷ ts) x e =
    let a = if_some (named at) _ x e in
    subst (IsBaseAt named (Leaf Word at ∷ ts)) (some_is (s.named at, ts) x a.1) (refl, a.0)
base_is named (Leaf class at ∷ ts) x e = absurd cc
base_is named (Token f ∷ ts) x e = token_base_is named f ts x (is_basic f) refl e

more_stars : (n : ℕ) (ts : List Lexeme) → prints_stars n (Token fixed.Star ∷ ts) ≡ prints_stars (suc n) ts
more_stars zero ts = refl
more_stars (suc n) ts = ap (λ r. Token fixed.Star ∷ r) (more_stars n ts)

-- the stars that were counted before, and those that stand there
pub stars_is : (n : ℕ) (ts : List Lexeme) → prints_stars n ts ≡ prints_stars (stars_at n ts).0 (stars_at n ts).1
unfolding stars_at
stars_is n [] = refl
stars_is n (Token fixed.Star ∷ ts) = more_stars n ts ∙ stars_is (suc n) ts
stars_is n (t ∷ ts) = refl

module _ (named : Span → Bool) (inner : ℕ) (sub : Sub) (sound : IsSound named inner sub) where
  abbrev IsDimensionAt : List Lexeme → DimensionTree × List Lexeme → Type 0
  IsDimensionAt ts x = (Token fixed.LeftBracket ∷ ts ≡ prints_dimension x.0 x.1) × IsWellDimension named x.0

  dimension_sound : (o : Option (List Lexeme)) (ts : List Lexeme) (x : DimensionTree × List Lexeme) → behind_right_bracket ts ≡ o → dimension_at sub o ts ≡ Some x → IsDimensionAt ts x
  dimension_sound (Some rest) ts x is e =
      subst (IsDimensionAt ts) (some_is (s.open_dimension, rest) x e) (ap (λ r. Token fixed.LeftBracket ∷ r) (right_bracket_is ts rest is), tt)
  dimension_sound None ts x is e =
      let a = bind_some (sub 3 ts) _ x e in
      let b = bind_some (behind_right_bracket a.0.1) _ x a.2 in
      let p = sound 3 (omega arith) ts a.0 a.1 in
      subst (IsDimensionAt ts) (some_is (s.sized a.0.0, b.0) x b.2)
      (ap (λ r. Token fixed.LeftBracket ∷ r) (p.text ∙ ap (prints a.0.0) (right_bracket_is a.0.1 b.0 b.1)), (p.at, p.well))

  abbrev pub AreDimensionsAt : List Lexeme → DimensionTrees × List Lexeme → Type 0
  AreDimensionsAt ts x = (ts ≡ prints_dimensions x.0 x.1) × AreWellDimensions named x.0

  dimensions_on_sound : (go_on : List Lexeme → Found DimensionTrees) (o : Option (List Lexeme)) (ts : List Lexeme) (x : DimensionTrees × List Lexeme)
      → ((us : List Lexeme) (y : DimensionTrees × List Lexeme) → go_on us ≡ Some y → AreDimensionsAt us y)
      → behind_left_bracket ts ≡ o → dimensions_on go_on sub o ts ≡ Some x → AreDimensionsAt ts x
  dimensions_on_sound go_on None ts x later is e = subst (AreDimensionsAt ts) (some_is (s.no_dimensions, ts) x e) (refl, tt)
  dimensions_on_sound go_on (Some inside) ts x later is e =
      let a = bind_some (dimension_at sub (behind_right_bracket inside) inside) _ x e in
      let b = bind_some (go_on a.0.1) _ x a.2 in
      let p = dimension_sound (behind_right_bracket inside) inside a.0 refl a.1 in
      let q = later a.0.1 b.0 b.1 in
      subst (AreDimensionsAt ts) (some_is (s.then_dimension a.0.0 b.0.0, b.0.1) x b.2)
      (left_bracket_is ts inside is ∙ p.0 ∙ ap (prints_dimension a.0.0) q.0, (p.1, q.1))

  pub dimensions_sound : (f : ℕ) (ts : List Lexeme) (x : DimensionTrees × List Lexeme) → dimensions_at sub f ts ≡ Some x → AreDimensionsAt ts x
  unfolding dimensions_at
  dimensions_sound zero ts x e = absurd cc
  dimensions_sound (suc f) ts x e = dimensions_on_sound (dimensions_at sub f) (behind_left_bracket ts) ts x (λ us y d. dimensions_sound f us y d) refl e

  abbrev IsTypeAt : List Lexeme → TypeNameTree × List Lexeme → Type 0
  IsTypeAt ts y = (ts ≡ prints_type y.0 y.1) × IsWellType named y.0 × (type_name_nesting y.0 ≤ inner)

  type_sound : (ts : List Lexeme) (y : TypeNameTree × List Lexeme) → type_at named sub inner ts ≡ Some y → IsTypeAt ts y
  unfolding type_at
  type_sound ts y e =
      let a = bind_some (base_at named ts) _ y e in
      let b = base_is named ts a.0 a.1 in
      let x = stars_at 0 a.0.1 in
      let d = bind_some (dimensions_at sub (suc (length x.1)) x.1) _ y a.2 in
      let p = dimensions_sound (suc (length x.1)) x.1 d.0 d.1 in
      let l = if_some _ _ y d.2 in
      subst (IsTypeAt ts) (some_is _ y l.1)
      (b.0 ∙ ap (prints_base a.0.0) (stars_is 0 a.0.1 ∙ ap (prints_stars x.0) p.0), (b.1, p.1), leb-true _ _ l.0)

  -- ---- what begins an expression

  paren_sound : (least : ℕ) (b : Bool) (ts : List Lexeme) (x : ExprTree × List Lexeme) → least ≤ 17 → paren_at named sub inner least b ts ≡ Some x → Answers named (suc inner) least (Token fixed.LeftParen ∷ ts) x
  paren_sound least false ts x wide e =
      let a = bind_some (sub 1 ts) _ x e in
      let b = bind_some (behind_right_paren a.0.1) _ x a.2 in
      let p = sound 1 (omega arith) ts a.0 a.1 in
      subst (Answers named (suc inner) least (Token fixed.LeftParen ∷ ts)) (some_is (made (s.paren a.0.0), b.0) x b.2)
      (record {
        text = ap (λ r. Token fixed.LeftParen ∷ r) (p.text ∙ ap (prints a.0.0) (right_paren_is a.0.1 b.0 b.1));
        well = (p.at, p.well);
        at = wide;
        low = omega (arith, p.low);
      })
  paren_sound least true ts x wide e =
      let a = if_some (nat_le least 14) _ x e in
      let y = bind_some (type_at named sub inner ts) _ x a.1 in
      let b = bind_some (behind_right_paren y.0.1) _ x y.2 in
      let c = bind_some (sub 14 b.0) _ x b.2 in
      let p = sound 14 (omega arith) b.0 c.0 c.1 in
      let q = type_sound ts y.0 y.1 in
      subst (Answers named (suc inner) least (Token fixed.LeftParen ∷ ts)) (some_is (made (s.cast y.0.0 c.0.0), c.0.1) x c.2)
      (record {
        text = ap (λ r. Token fixed.LeftParen ∷ r) (q.0 ∙ ap (prints_type y.0.0) (right_paren_is y.0.1 b.0 b.1 ∙ ap (λ r. Token fixed.RightParen ∷ r) p.text));
        well = (q.1, p.at, p.well);
        at = leb-true _ _ a.0;
        low = omega (arith, p.low, q.2);
      })

  -- what an operator before an operand of a level makes
  record IsBefore (operand : ℕ) (form : ExprTree → ExprFormTree) (u : Lexeme) : Type 0 where
    text : (e : ExprTree) (r : List Lexeme) → u ∷ prints e r ≡ prints (made (form e)) r
    well : (e : ExprTree) → operand ≤ level e → IsWell named e → IsWell named (made (form e))
    at : (e : ExprTree) → level (made (form e)) ≡ 15
    low : (e : ExprTree) → expression_nesting (made (form e)) ≡ expression_nesting e + 1

  before_sound : (least operand : ℕ) (form : ExprTree → ExprFormTree) (u : Lexeme) (ts : List Lexeme) (x : ExprTree × List Lexeme) → operand ≤ 17 → IsBefore operand form u
      → before_at sub least operand form ts ≡ Some x → Answers named (suc inner) least (u ∷ ts) x
  before_sound least operand form u ts x wide is e =
      let a = if_some (nat_le least 15) _ x e in
      let c = bind_some (sub operand ts) _ x a.1 in
      let p = sound operand wide ts c.0 c.1 in
      subst (Answers named (suc inner) least (u ∷ ts)) (some_is (made (form c.0.0), c.0.1) x c.2)
      (record {
        text = ap (λ r. u ∷ r) p.text ∙ is.text c.0.0 c.0.1;
        well = is.well c.0.0 p.at p.well;
        at = omega (arith, leb-true _ _ a.0, is.at c.0.0);
        low = omega (arith, p.low, is.low c.0.0);
      })

  unary_before : (o : UnaryOp) → IsBefore 14 (s.unary o) (Token (unary_punctuator o))
  unary_before o = record { text = λ e r. refl; well = λ e h w. (h, w); at = λ e. refl; low = λ e. refl }

  increment_before : IsBefore 15 (s.step IncBefore) (Token fixed.PlusPlus)
  increment_before = record { text = λ e r. refl; well = λ e h w. (h, w); at = λ e. refl; low = λ e. refl }

  decrement_before : IsBefore 15 (s.step DecBefore) (Token fixed.MinusMinus)
  decrement_before = record { text = λ e r. refl; well = λ e h w. (h, w); at = λ e. refl; low = λ e. refl }

  size_before : IsBefore 15 s.size_expression (Token fixed.Sizeof)
  size_before = record { text = λ e r. refl; well = λ e h w. (h, w); at = λ e. refl; low = λ e. refl }

  size_sound : (least : ℕ) (b : Bool) (ts : List Lexeme) (x : ExprTree × List Lexeme) → size_at named sub inner least b ts ≡ Some x → Answers named (suc inner) least (Token fixed.Sizeof ∷ ts) x
  size_sound least false ts x e = before_sound least 15 s.size_expression (Token fixed.Sizeof) ts x (omega arith) size_before e
  size_sound least true ts x e =
      let a = if_some (nat_le least 15) _ x e in
      let l = bind_some (behind_left_paren ts) _ x a.1 in
      let y = bind_some (type_at named sub inner l.0) _ x l.2 in
      let b = bind_some (behind_right_paren y.0.1) _ x y.2 in
      let q = type_sound l.0 y.0 y.1 in
      subst (Answers named (suc inner) least (Token fixed.Sizeof ∷ ts)) (some_is (made (s.size_name y.0.0), b.0) x b.2)
      (record {
        text = ap (λ r. Token fixed.Sizeof ∷ r) (left_paren_is ts l.0 l.1 ∙ ap (λ r. Token fixed.LeftParen ∷ r) (q.0 ∙ ap (prints_type y.0.0) (right_paren_is y.0.1 b.0 b.1)));
        well = q.1;
        at = leb-true _ _ a.0;
        low = omega (arith, q.2);
      })

  head_sound : (least : ℕ) (h : Opener) (ts : List Lexeme) (x : ExprTree × List Lexeme) → least ≤ 17 → operand_at named sub inner least h ts ≡ Some x → Answers named (suc inner) least (head_token h ∷ ts) x
  unfolding operand_at
  head_sound least (opener.Name at) ts x wide e =
      let a = unless_some (named at) _ x e in
      subst (Answers named (suc inner) least (Leaf Word at ∷ ts)) (some_is (made (s.name at), ts) x a.1)
      (record { text = refl; well = a.0; at = wide; low = omega arith })
  head_sound least (opener.Number at) ts x wide e =
      subst (Answers named (suc inner) least (Leaf Number at ∷ ts)) (some_is (made (s.number at), ts) x e)
      (record { text = refl; well = tt; at = wide; low = omega arith })
  head_sound least (opener.Character at) ts x wide e =
      subst (Answers named (suc inner) least (Leaf Character at ∷ ts)) (some_is (made (s.character at), ts) x e)
      (record { text = refl; well = tt; at = wide; low = omega arith })
  head_sound least (opener.Text at) ts x wide e =
      subst (Answers named (suc inner) least (Leaf Text at ∷ ts)) (some_is (made (s.text (at ∷ (texts_at ts).0)), (texts_at ts).1) x e)
      (record { text = ap (λ r. Leaf Text at ∷ r) (texts_is ts); well = refl; at = wide; low = omega arith })
  head_sound least opener.Paren ts x wide e = paren_sound least (begins_type named ts) ts x wide e
  head_sound least (opener.Unary o) ts x wide e = before_sound least 14 (s.unary o) (Token (unary_punctuator o)) ts x (omega arith) (unary_before o) e
  head_sound least opener.Increment ts x wide e = before_sound least 15 (s.step IncBefore) (Token fixed.PlusPlus) ts x (omega arith) increment_before e
  head_sound least opener.Decrement ts x wide e = before_sound least 15 (s.step DecBefore) (Token fixed.MinusMinus) ts x (omega arith) decrement_before e
  head_sound least opener.SizeOf ts x wide e = size_sound least (opens_type named (behind_left_paren ts)) ts x e

  first_sound : (ts : List Lexeme) (h : Opener × List Lexeme) → first_opener ts ≡ Some h → ts ≡ head_token h.0 ∷ h.1
  first_sound [] h e = absurd cc
  first_sound (t ∷ ts) h e =
      let a = bind_some (opener_of t) _ h e in
      subst (λ (y : Opener × List Lexeme). t ∷ ts ≡ head_token y.0 ∷ y.1) (some_is (a.0, ts) h a.2) (ap (λ u. u ∷ ts) (head_is t a.0 a.1))

  -- ---- what stands behind an operand

  -- arguments up to the `)`: with a comma before each, and between them
  record AnswersMore (ts : List Lexeme) (x : ExprTrees × List Lexeme) : Type 0 where
    text : ts ≡ prints_more x.0 (Token fixed.RightParen ∷ x.1)
    well : AreWell named x.0
    low : expressions_nesting x.0 ≤ inner

  record AnswersAll (ts : List Lexeme) (x : ExprTrees × List Lexeme) : Type 0 where
    text : ts ≡ prints_all x.0 (Token fixed.RightParen ∷ x.1)
    well : AreWell named x.0
    low : expressions_nesting x.0 ≤ inner

  arguments_on_sound : (go_on : List Lexeme → Found ExprTrees) (o : Option (List Lexeme)) (ts : List Lexeme) (x : ExprTrees × List Lexeme)
      → ((us : List Lexeme) (y : ExprTrees × List Lexeme) → go_on us ≡ Some y → AnswersMore us y)
      → behind_comma ts ≡ o → arguments_on go_on sub o ts ≡ Some x → AnswersMore ts x
  arguments_on_sound go_on None ts x later is e =
      let a = bind_some (behind_right_paren ts) _ x e in
      subst (AnswersMore ts) (some_is (s.no_expressions, a.0) x a.2) (record { text = right_paren_is ts a.0 a.1; well = tt; low = omega arith })
  arguments_on_sound go_on (Some next) ts x later is e =
      let a = bind_some (sub 2 next) _ x e in
      let b = bind_some (go_on a.0.1) _ x a.2 in
      let p = sound 2 (omega arith) next a.0 a.1 in
      let q = later a.0.1 b.0 b.1 in
      subst (AnswersMore ts) (some_is (s.then_expression a.0.0 b.0.0, b.0.1) x b.2)
      (record {
        text = comma_is ts next is ∙ ap (λ r. Token fixed.Comma ∷ r) (p.text ∙ ap (prints a.0.0) q.text);
        well = (p.at, p.well, q.well);
        low = omega (arith, p.low, q.low);
      })

  more_sound : (f : ℕ) (ts : List Lexeme) (x : ExprTrees × List Lexeme) → more_arguments sub f ts ≡ Some x → AnswersMore ts x
  unfolding more_arguments
  more_sound zero ts x e = absurd cc
  more_sound (suc f) ts x e = arguments_on_sound (more_arguments sub f) (behind_comma ts) ts x (λ us y d. more_sound f us y d) refl e

  arguments_from_sound : (o : Option (List Lexeme)) (ts : List Lexeme) (x : ExprTrees × List Lexeme) → behind_right_paren ts ≡ o → arguments_from sub o ts ≡ Some x → AnswersAll ts x
  arguments_from_sound (Some rest) ts x is e =
      subst (AnswersAll ts) (some_is (s.no_expressions, rest) x e) (record { text = right_paren_is ts rest is; well = tt; low = omega arith })
  arguments_from_sound None ts x is e =
      let a = bind_some (sub 2 ts) _ x e in
      let b = bind_some (more_arguments sub (suc (length a.0.1)) a.0.1) _ x a.2 in
      let p = sound 2 (omega arith) ts a.0 a.1 in
      let q = more_sound (suc (length a.0.1)) a.0.1 b.0 b.1 in
      subst (AnswersAll ts) (some_is (s.then_expression a.0.0 b.0.0, b.0.1) x b.2)
      (record {
        text = p.text ∙ ap (prints a.0.0) q.text;
        well = (p.at, p.well, q.well);
        low = omega (arith, p.low, q.low);
      })

  arguments_sound : (ts : List Lexeme) (x : ExprTrees × List Lexeme) → arguments sub ts ≡ Some x → AnswersAll ts x
  unfolding arguments
  arguments_sound ts x e = arguments_from_sound (behind_right_paren ts) ts x refl e

  tail_sound : (y : Suffix) (a : ExprTree) (ts : List Lexeme) (x : ExprTree × List Lexeme) → IsWell named a → suffix_left y ≤ level a → expression_nesting a ≤ inner → tail_at sub y a ts ≡ Some x
      → Answers named (suc inner) (suffix_level y) (prints a (Token (suffix_punctuator_of y) ∷ ts)) x
  unfolding tail_at
  tail_sound (suffix.Binary o) a ts x well left low e =
      let b = bind_some (sub (binary_level o + 1) ts) _ x e in
      let p = sound (binary_level o + 1) (omega (arith, binary_level_low o)) ts b.0 b.1 in
      subst (Answers named (suc inner) (binary_level o) (prints a (Token (binary_punctuator o) ∷ ts))) (some_is (made (s.binary o a b.0.0), b.0.1) x b.2)
      (record {
        text = ap (λ r. prints a (Token (binary_punctuator o) ∷ r)) p.text;
        well = (left, well, p.at, p.well);
        at = omega arith;
        low = omega (arith, p.low);
      })
  tail_sound (suffix.Assign o) a ts x well left low e =
      let b = bind_some (sub 2 ts) _ x e in
      let p = sound 2 (omega arith) ts b.0 b.1 in
      subst (Answers named (suc inner) 2 (prints a (Token (assign_punctuator o) ∷ ts))) (some_is (made (s.assign o a b.0.0), b.0.1) x b.2)
      (record {
        text = ap (λ r. prints a (Token (assign_punctuator o) ∷ r)) p.text;
        well = (left, well, p.at, p.well);
        at = omega arith;
        low = omega (arith, p.low);
      })
  tail_sound suffix.Choice a ts x well left low e =
      let b = bind_some (sub 1 ts) _ x e in
      let r = bind_some (behind_colon b.0.1) _ x b.2 in
      let c = bind_some (sub 3 r.0) _ x r.2 in
      let p = sound 1 (omega arith) ts b.0 b.1 in
      let q = sound 3 (omega arith) r.0 c.0 c.1 in
      subst (Answers named (suc inner) 3 (prints a (Token fixed.Question ∷ ts))) (some_is (made (s.choice a b.0.0 c.0.0), c.0.1) x c.2)
      (record {
        text = ap (λ r. prints a (Token fixed.Question ∷ r)) (p.text ∙ ap (prints b.0.0) (colon_is b.0.1 r.0 r.1 ∙ ap (λ r. Token fixed.Colon ∷ r) q.text));
        well = (left, well, p.at, p.well, q.at, q.well);
        at = omega arith;
        low = omega (arith, p.low, q.low);
      })
  tail_sound suffix.Index a ts x well left low e =
      let b = bind_some (sub 1 ts) _ x e in
      let r = bind_some (behind_right_bracket b.0.1) _ x b.2 in
      let p = sound 1 (omega arith) ts b.0 b.1 in
      subst (Answers named (suc inner) 16 (prints a (Token fixed.LeftBracket ∷ ts))) (some_is (made (s.index a b.0.0), r.0) x r.2)
      (record {
        text = ap (λ r. prints a (Token fixed.LeftBracket ∷ r)) (p.text ∙ ap (prints b.0.0) (right_bracket_is b.0.1 r.0 r.1));
        well = (left, well, p.at, p.well);
        at = omega arith;
        low = omega (arith, p.low);
      })
  tail_sound suffix.Call a ts x well left low e =
      let b = bind_some (arguments sub ts) _ x e in
      let p = arguments_sound ts b.0 b.1 in
      subst (Answers named (suc inner) 16 (prints a (Token fixed.LeftParen ∷ ts))) (some_is (made (s.call a b.0.0), b.0.1) x b.2)
      (record {
        text = ap (λ r. prints a (Token fixed.LeftParen ∷ r)) p.text;
        well = (left, well, p.well);
        at = omega arith;
        low = omega (arith, p.low);
      })
  tail_sound suffix.Dot a ts x well left low e =
      let w = bind_some (word_at ts) _ x e in
      subst (Answers named (suc inner) 16 (prints a (Token fixed.Dot ∷ ts))) (some_is (made (s.dot a w.0.0), w.0.1) x w.2)
      (record { text = ap (λ r. prints a (Token fixed.Dot ∷ r)) (word_is ts w.0 w.1); well = (left, well); at = omega arith; low = omega arith })
  tail_sound suffix.Arrow a ts x well left low e =
      let w = bind_some (word_at ts) _ x e in
      subst (Answers named (suc inner) 16 (prints a (Token fixed.Arrow ∷ ts))) (some_is (made (s.arrow a w.0.0), w.0.1) x w.2)
      (record { text = ap (λ r. prints a (Token fixed.Arrow ∷ r)) (word_is ts w.0 w.1); well = (left, well); at = omega arith; low = omega arith })
  tail_sound suffix.Increment a ts x well left low e =
      subst (Answers named (suc inner) 16 (prints a (Token fixed.PlusPlus ∷ ts))) (some_is (made (s.step IncAfter a), ts) x e)
      (record { text = refl; well = (left, well); at = omega arith; low = omega arith })
  tail_sound suffix.Decrement a ts x well left low e =
      subst (Answers named (suc inner) 16 (prints a (Token fixed.MinusMinus ∷ ts))) (some_is (made (s.step DecAfter a), ts) x e)
      (record { text = refl; well = (left, well); at = omega arith; low = omega arith })

  climb_on_sound : (go_on : ExprTree → List Lexeme → Found ExprTree) (least : ℕ) (whole : List Lexeme) (a : ExprTree) (ts : List Lexeme) (o : Option (Suffix × List Lexeme)) (x : ExprTree × List Lexeme)
      → ((t : ExprTree) (rest : List Lexeme) → Answers named (suc inner) least whole (t, rest) → go_on t rest ≡ Some x → Answers named (suc inner) least whole x)
      → Answers named (suc inner) least whole (a, ts) → taken least (level a) ts ≡ o → climb_on go_on sub inner a ts o ≡ Some x
      → Answers named (suc inner) least whole x
  climb_on_sound go_on least whole a ts None x later so_far is e = subst (Answers named (suc inner) least whole) (some_is (a, ts) x e) so_far
  climb_on_sound go_on least whole a ts (Some y) x later so_far is e =
      let c = if_some (nat_le (expression_nesting a) inner) _ x e in
      let b = bind_some (tail_at sub y.0 a y.1) (λ z. go_on z.0 z.1) x c.1 in
      let k = taken_is least (level a) ts y is in
      let p = tail_sound y.0 a y.1 b.0 so_far.well k.2 (leb-true _ _ c.0) b.1 in
      later b.0.0 b.0.1 (record { text = so_far.text ∙ ap (prints a) k.0 ∙ p.text; well = p.well; at = omega (arith, k.1, p.at); low = p.low }) b.2

  climb_sound : (f least : ℕ) (whole : List Lexeme) (a : ExprTree) (ts : List Lexeme) (x : ExprTree × List Lexeme) → Answers named (suc inner) least whole (a, ts) → climb sub inner least f a ts ≡ Some x
      → Answers named (suc inner) least whole x
  unfolding climb
  climb_sound zero least whole a ts x so_far e = absurd cc
  climb_sound (suc f) least whole a ts x so_far e =
      climb_on_sound (climb sub inner least f) least whole a ts (taken least (level a) ts) x (λ t rest h k. climb_sound f least whole t rest x h k) so_far refl e

pub expression_sound : (named : Span → Bool) (room : ℕ) → IsSound named room (expression_at named room)
unfolding expression_at
expression_sound named zero least wide ts x e = absurd cc
expression_sound named (suc inner) least wide ts x e =
    let sub = expression_at named inner in
    let sound = expression_sound named inner in
    let h = bind_some (first_opener ts) _ x e in
    let a = bind_some (operand_at named sub inner least h.0.0 h.0.1) (λ a. climb sub inner least (suc (suc inner)) a.0 a.1) x h.2 in
    let p = head_sound named inner sub sound least h.0.0 h.0.1 a.0 wide a.1 in
    climb_sound named inner sub sound (suc (suc inner)) least ts a.0.0 a.0.1 x
    (subst (λ us. Answers named (suc inner) least us (a.0.0, a.0.1)) (sym (first_sound named inner sub sound ts h.0 h.1)) p) a.2
