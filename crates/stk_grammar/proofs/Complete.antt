-- What a tree prints is read as that tree, and no further.
use Rattle.std.proofs.Common.{◌≡◌, ℕ, zero, suc, ◌+◌, ◌<◌, ◌≤◌, Bool, true, false, cond, List, [], ◌∷◌, length, Option, Some, None, refl, ap, ◌∙◌, arith}
use Rattle.std.proofs.lemmas.Bool.{le-leb}
use Rattle.stk_base.specs.declared.span.Span.{Span}
use Rattle.stk_tree.specs.declared.node.Node.{Node}
use Rattle.stk_base.specs.declared.token.Class.TheVariants.{Word, Number, Character, Text}
use Rattle.stk_tree.specs.declared.fixed.Fixed.{Fixed}
use Rattle.stk_tree.specs.declared.fixed.Fixed.TheVariants as fixed
use Rattle.stk_tree.specs.declared.fixed.Lexeme.{Lexeme}
use Rattle.stk_tree.specs.declared.fixed.Lexeme.TheVariants.{Leaf, Fixed as Token}
use Rattle.stk_tree.specs.declared.expression.StepOp.TheVariants.{IncBefore, DecBefore, IncAfter, DecAfter}
use Rattle.stk_tree.specs.declared.expression.UnaryOp.{UnaryOp}
use Rattle.stk_tree.specs.declared.expression.UnaryOp.TheVariants as unary
use Rattle.stk_tree.specs.declared.expression.BinaryOp.{BinaryOp}
use Rattle.stk_tree.specs.declared.expression.AssignOp.{AssignOp}
use Rattle.stk_tree.specs.Syntax.{BaseTree, BaseFormTree, TypeNameTree, DimensionTree, DimensionTrees, ExprTree, ExprTrees, ExprFormTree}
use Rattle.stk_tree.specs.Syntax as s
use Rattle.stk_tree.specs.Nesting.{expression_nesting, expressions_nesting, dimensions_nesting, type_name_nesting}
use Rattle.stk_tree.specs.Placed.{all_basic, binary_level, is_basic, is_filled}
use Rattle.stk_tree.specs.Tokens.{assign_punctuator, binary_punctuator, unary_punctuator}
use Rattle.stk_tree.specs.Unlaid.{no_node, unlaid_base_form, unlaid_dimensions, unlaid_expression, unlaid_expression_form, unlaid_expressions, unlaid_type_name}
use Rattle.stk_grammar.specs.declared.tables.Opener.{Opener}
use Rattle.stk_grammar.specs.declared.tables.Opener.TheVariants as opener
use Rattle.stk_grammar.specs.declared.tables.Suffix.{Suffix}
use Rattle.stk_grammar.specs.declared.tables.Suffix.TheVariants as suffix
use Rattle.stk_grammar.specs.Reading.{◌>>=◌, Found, Sub, made, level, suffix_of, suffix_level, suffix_left, opener_of, behind_right_paren, behind_left_paren, behind_right_bracket, texts_at, begins_type, words_on, words_at, tag_base, words_base, base_at, stars_at, dimensions_at, low_type, behind_stars, type_at, before_at, opens_type, size_at, operand_at, first_opener, more_arguments, arguments, tail_at, climb_on, climb, expression_at}
use Rattle.stk_grammar.proofs.Prints.{prints, prints_all, prints_base, prints_dimensions, prints_form, prints_more, prints_stars, prints_texts, prints_type, prints_words, nesting_above, prints_longer}
use Rattle.stk_grammar.proofs.Well.{IsWell, AreWell, IsWellBase, AreWellDimensions, IsWellType, IsWellForm, level-unlaid}
use Rattle.stk_grammar.proofs.Operators.{both_true, right, last, Ends, is_text, taken_none, taken_some, Ends-last, Ends-suffix, suffix_of_binary, suffix_of_assign, binary_level_low, head_of_unary}

climb_end : (sub : Sub) (inner least f : ℕ) (a : ExprTree) (ts : List Lexeme) → 0 < f → Ends least ts → climb sub inner least f a ts ≡ Some (a, ts)
unfolding climb
climb_end sub inner least zero a ts h e = absurd (omega arith)
climb_end sub inner least (suc f) a ts h e = ap (climb_on (climb sub inner least f) sub inner a ts) (taken_none least (level a) ts e)

climb_on_some : (go_on : ExprTree → List Lexeme → Found ExprTree) (sub : Sub) (inner : ℕ) (a : ExprTree) (ts : List Lexeme) (x : Suffix) (body : List Lexeme) (t : ExprTree) (rest : List Lexeme)
    → expression_nesting a ≤ inner → tail_at sub x a body ≡ Some (t, rest) → climb_on go_on sub inner a ts (Some (x, body)) ≡ go_on t rest
climb_on_some go_on sub inner a ts x body t rest h e = rw (le-leb (expression_nesting a) inner h, e) refl

climb_take : (sub : Sub) (inner least f : ℕ) (a : ExprTree) (u : Lexeme) (body : List Lexeme) (x : Suffix) (t : ExprTree) (rest : List Lexeme)
    → suffix_of u ≡ Some x → least ≤ suffix_level x → suffix_left x ≤ level a → expression_nesting a ≤ inner → tail_at sub x a body ≡ Some (t, rest)
    → climb sub inner least (suc f) a (u ∷ body) ≡ climb sub inner least f t rest
unfolding climb
climb_take sub inner least f a u body x t rest is wide left low e =
    ap (climb_on (climb sub inner least f) sub inner a (u ∷ body)) (taken_some least (level a) u body x is wide left)
    ∙ climb_on_some (climb sub inner least f) sub inner a (u ∷ body) x body t rest low e

-- an expression's reader has come to the end of the tree, at what stands behind it
abbrev Comes : (Span → Bool) → ℕ → ℕ → ExprTree → List Lexeme → List Lexeme → Type 0
Comes named inner least t ts rest =
    (f : ℕ) × (suc inner < f + expression_nesting t) × (expression_at named (suc inner) least ts ≡ climb (expression_at named inner) inner least f t rest)

behind_head : (Span → Bool) → ℕ → ℕ → Opener × List Lexeme → Found ExprTree
behind_head named inner least h = operand_at named (expression_at named inner) inner least h.0 h.1
    >>= λ a. climb (expression_at named inner) inner least (suc (suc inner)) a.0 a.1

comes_by_head : (named : Span → Bool) (inner least : ℕ) (t : ExprTree) (u : Lexeme) (h : Opener) (ts rest : List Lexeme) → opener_of u ≡ Some h
    → operand_at named (expression_at named inner) inner least h ts ≡ Some (t, rest) → Comes named inner least t (u ∷ ts) rest
unfolding expression_at behind_head
comes_by_head named inner least t u h ts rest is e = (
  suc (suc inner),
  omega (arith, nesting_above t),
  ap (λ (o : Option Opener). (o >>= λ h. Some (h, ts)) >>= behind_head named inner least) is
      ∙ ap (λ (o : Found ExprTree). o >>= λ a. climb (expression_at named inner) inner least (suc (suc inner)) a.0 a.1) e,
)

comes_on : (named : Span → Bool) (inner least : ℕ) (a t : ExprTree) (ts : List Lexeme) (u : Lexeme) (body : List Lexeme) (x : Suffix) (rest : List Lexeme) (f : ℕ)
    → suc inner < f + expression_nesting a → expression_at named (suc inner) least ts ≡ climb (expression_at named inner) inner least f a (u ∷ body)
    → suffix_of u ≡ Some x → least ≤ suffix_level x → suffix_left x ≤ level a → expression_nesting a ≤ inner → expression_nesting a < expression_nesting t
    → tail_at (expression_at named inner) x a body ≡ Some (t, rest)
    → Comes named inner least t ts rest
comes_on named inner least a t ts u body x rest zero much e is wide left low higher by = absurd (omega arith)
comes_on named inner least a t ts u body x rest (suc f) much e is wide left low higher by =
    (f, omega arith, e ∙ climb_take (expression_at named inner) inner least f a u body x t rest is wide left low by)

comes_by_suffix : (named : Span → Bool) (inner least : ℕ) (a t : ExprTree) (ts : List Lexeme) (u : Lexeme) (body : List Lexeme) (x : Suffix) (rest : List Lexeme)
    → Comes named inner least (unlaid_expression a) ts (u ∷ body)
    → suffix_of u ≡ Some x → least ≤ suffix_level x → suffix_left x ≤ level a → expression_nesting t ≤ suc inner → expression_nesting (unlaid_expression a) < expression_nesting t
    → tail_at (expression_at named inner) x (unlaid_expression a) body ≡ Some (t, rest)
    → Comes named inner least t ts rest
comes_by_suffix named inner least a t ts u body x rest c is wide left low higher by =
    comes_on named inner least (unlaid_expression a) t ts u body x rest c.0 c.1 c.2 is wide (omega (arith, level-unlaid a)) (omega arith) higher by

-- at the end of a tree with nothing more for it, the tree is the answer
read_of_comes : (named : Span → Bool) (inner least : ℕ) (t : ExprTree) (ts rest : List Lexeme) → Comes named inner least t ts rest → expression_nesting t ≤ suc inner → Ends least rest
    → expression_at named (suc inner) least ts ≡ Some (t, rest)
read_of_comes named inner least t ts rest c low e = c.2 ∙ climb_end (expression_at named inner) inner least c.0 t rest (omega (arith, c.1)) e

-- a part, read with less room
part : (named : Span → Bool) (room least : ℕ) (t : ExprTree) (ts rest : List Lexeme) → ((k : ℕ) → expression_nesting t ≤ suc k → Comes named k least t ts rest) → expression_nesting t ≤ room → Ends least rest
    → expression_at named room least ts ≡ Some (t, rest)
part named zero least t ts rest c low e = absurd (omega (arith, nesting_above t))
part named (suc k) least t ts rest c low e = read_of_comes named k least t ts rest (c k low) low e

-- ---- how trees begin

-- some head begins here
abbrev pub Opens : List Lexeme → Type 0
Opens ts = (h : Opener × List Lexeme) × (first_opener ts ≡ Some h)

text_opens : (ps : List Span) (r : List Lexeme) → is_filled ps ≡ true → Opens (prints_texts ps r)
text_opens [] r h = absurd cc
text_opens (p ∷ ps) r h = ((opener.Text p, prints_texts ps r), refl)

mutual
  pub opens : (named : Span → Bool) (t : ExprTree) (r : List Lexeme) → IsWell named t → Opens (prints t r)
  opens named (s.expression n f) r w = form_opens named f r w

  form_opens : (named : Span → Bool) (f : ExprFormTree) (r : List Lexeme) → IsWellForm named f → Opens (prints_form f r)
  form_opens named (s.name at) r w = ((opener.Name at, r), refl)
  form_opens named (s.number at) r w = ((opener.Number at, r), refl)
  form_opens named (s.character at) r w = ((opener.Character at, r), refl)
  form_opens named (s.text parts) r w = text_opens parts r w
  form_opens named (s.paren e) r w = ((opener.Paren, prints e (Token fixed.RightParen ∷ r)), refl)
  form_opens named (s.index a b) r w = opens named a _ w.1
  form_opens named (s.call f args) r w = opens named f _ w.1
  form_opens named (s.dot e at) r w = opens named e _ w.1
  form_opens named (s.arrow e at) r w = opens named e _ w.1
  form_opens named (s.step IncBefore e) r w = ((opener.Increment, prints e r), refl)
  form_opens named (s.step DecBefore e) r w = ((opener.Decrement, prints e r), refl)
  form_opens named (s.step IncAfter e) r w = opens named e _ w.1
  form_opens named (s.step DecAfter e) r w = opens named e _ w.1
  form_opens named (s.unary op e) r w = ((opener.Unary op, prints e r), ap (λ (o : Option Opener). o >>= λ h. Some (h, prints e r)) (head_of_unary op))
  form_opens named (s.size_expression e) r w = ((opener.SizeOf, prints e r), refl)
  form_opens named (s.size_name y) r w = ((opener.SizeOf, Token fixed.LeftParen ∷ prints_type y (Token fixed.RightParen ∷ r)), refl)
  form_opens named (s.cast y e) r w = ((opener.Paren, prints_type y (Token fixed.RightParen ∷ prints e r)), refl)
  form_opens named (s.binary op a b) r w = opens named a _ w.1
  form_opens named (s.choice a b c) r w = opens named a _ w.1
  form_opens named (s.assign op a b) r w = opens named a _ w.1

no_right_paren : (ts : List Lexeme) → Opens ts → behind_right_paren ts ≡ None
no_right_paren [] h = refl
no_right_paren (Token fixed.RightParen ∷ ts) h = let e = h.1 in absurd cc
no_right_paren (t ∷ ts) h = refl

pub no_right_bracket : (ts : List Lexeme) → Opens ts → behind_right_bracket ts ≡ None
no_right_bracket [] h = refl
no_right_bracket (Token fixed.RightBracket ∷ ts) h = let e = h.1 in absurd cc
no_right_bracket (t ∷ ts) h = refl

unary_no_type : (named : Span → Bool) (o : UnaryOp) (r : List Lexeme) → begins_type named (Token (unary_punctuator o) ∷ r) ≡ false
unary_no_type named unary.Address r = refl
unary_no_type named unary.Deref r = refl
unary_no_type named unary.Plus r = refl
unary_no_type named unary.Minus r = refl
unary_no_type named unary.Flip r = refl
unary_no_type named unary.Not r = refl

text_no_type : (named : Span → Bool) (ps : List Span) (r : List Lexeme) → is_filled ps ≡ true → begins_type named (prints_texts ps r) ≡ false
text_no_type named [] r h = absurd cc
text_no_type named (p ∷ ps) r h = refl

mutual
  no_type : (named : Span → Bool) (t : ExprTree) (r : List Lexeme) → IsWell named t → begins_type named (prints t r) ≡ false
  no_type named (s.expression n f) r w = form_no_type named f r w

  form_no_type : (named : Span → Bool) (f : ExprFormTree) (r : List Lexeme) → IsWellForm named f → begins_type named (prints_form f r) ≡ false
  form_no_type named (s.name at) r w = w
  form_no_type named (s.number at) r w = refl
  form_no_type named (s.character at) r w = refl
  form_no_type named (s.text parts) r w = text_no_type named parts r w
  form_no_type named (s.paren e) r w = refl
  form_no_type named (s.index a b) r w = no_type named a _ w.1
  form_no_type named (s.call f args) r w = no_type named f _ w.1
  form_no_type named (s.dot e at) r w = no_type named e _ w.1
  form_no_type named (s.arrow e at) r w = no_type named e _ w.1
  form_no_type named (s.step IncBefore e) r w = refl
  form_no_type named (s.step DecBefore e) r w = refl
  form_no_type named (s.step IncAfter e) r w = no_type named e _ w.1
  form_no_type named (s.step DecAfter e) r w = no_type named e _ w.1
  form_no_type named (s.unary op e) r w = unary_no_type named op (prints e r)
  form_no_type named (s.size_expression e) r w = refl
  form_no_type named (s.size_name y) r w = refl
  form_no_type named (s.cast y e) r w = refl
  form_no_type named (s.binary op a b) r w = no_type named a _ w.1
  form_no_type named (s.choice a b c) r w = no_type named a _ w.1
  form_no_type named (s.assign op a b) r w = no_type named a _ w.1

-- no type in parentheses stands behind `sizeof`
abbrev NoTypeOpens : (Span → Bool) → List Lexeme → Type 0
NoTypeOpens named ts = opens_type named (behind_left_paren ts) ≡ false

unary_no_size : (named : Span → Bool) (o : UnaryOp) (r : List Lexeme) → NoTypeOpens named (Token (unary_punctuator o) ∷ r)
unary_no_size named unary.Address r = refl
unary_no_size named unary.Deref r = refl
unary_no_size named unary.Plus r = refl
unary_no_size named unary.Minus r = refl
unary_no_size named unary.Flip r = refl
unary_no_size named unary.Not r = refl

text_no_size : (named : Span → Bool) (ps : List Span) (r : List Lexeme) → is_filled ps ≡ true → NoTypeOpens named (prints_texts ps r)
text_no_size named [] r h = absurd cc
text_no_size named (p ∷ ps) r h = refl

mutual
  no_size : (named : Span → Bool) (t : ExprTree) (r : List Lexeme) → IsWell named t → 15 ≤ level t → NoTypeOpens named (prints t r)
  no_size named (s.expression n f) r w k = form_no_size named f r w k

  form_no_size : (named : Span → Bool) (f : ExprFormTree) (r : List Lexeme) → IsWellForm named f → 15 ≤ level (made f) → NoTypeOpens named (prints_form f r)
  form_no_size named (s.name at) r w k = refl
  form_no_size named (s.number at) r w k = refl
  form_no_size named (s.character at) r w k = refl
  form_no_size named (s.text parts) r w k = text_no_size named parts r w
  form_no_size named (s.paren e) r w k = no_type named e (Token fixed.RightParen ∷ r) w.1
  form_no_size named (s.index a b) r w k = no_size named a _ w.1 (omega (arith, w.0))
  form_no_size named (s.call f args) r w k = no_size named f _ w.1 (omega (arith, w.0))
  form_no_size named (s.dot e at) r w k = no_size named e _ w.1 (omega (arith, w.0))
  form_no_size named (s.arrow e at) r w k = no_size named e _ w.1 (omega (arith, w.0))
  form_no_size named (s.step IncBefore e) r w k = refl
  form_no_size named (s.step DecBefore e) r w k = refl
  form_no_size named (s.step IncAfter e) r w k = no_size named e _ w.1 (omega (arith, w.0))
  form_no_size named (s.step DecAfter e) r w k = no_size named e _ w.1 (omega (arith, w.0))
  form_no_size named (s.unary op e) r w k = unary_no_size named op (prints e r)
  form_no_size named (s.size_expression e) r w k = refl
  form_no_size named (s.size_name y) r w k = refl
  form_no_size named (s.cast y e) r w k = absurd (omega arith)
  form_no_size named (s.binary op a b) r w k = absurd (omega (arith, binary_level_low op))
  form_no_size named (s.choice a b c) r w k = absurd (omega arith)
  form_no_size named (s.assign op a b) r w k = absurd (omega arith)

-- ---- rows without expressions

-- what stands behind string literals, behind basic words, behind `*` and behind array parts
abbrev NoText : List Lexeme → Type 0
NoText [] = Unit {0}
NoText (t ∷ ts) = is_text t ≡ false

no_text_of : (least : ℕ) (ts : List Lexeme) → Ends least ts → NoText ts
no_text_of least [] h = tt
no_text_of least (t ∷ ts) h = h.0

no_texts : (ts : List Lexeme) → NoText ts → texts_at ts ≡ ([], ts)
unfolding texts_at
no_texts [] h = refl
no_texts (Leaf Text at ∷ ts) h = absurd cc
no_texts (t ∷ ts) h = refl

texts_read : (ps : List Span) (r : List Lexeme) → NoText r → texts_at (prints_texts ps r) ≡ (ps, r)
unfolding texts_at
texts_read [] r h = no_texts r h
texts_read (p ∷ ps) r h = ap (λ (x : List Span × List Lexeme). (p ∷ x.0, x.1)) (texts_read ps r h)

words_on_true : (b : Bool) (f : Fixed) (ts : List Lexeme) (x : List Fixed × List Lexeme) → b ≡ true → words_on b f ts x ≡ (f ∷ x.0, x.1)
words_on_true true f ts x e = refl
words_on_true false f ts x e = absurd cc

pub words_read : (ws : List Fixed) (r : List Lexeme) → words_at r ≡ ([], r) → all_basic ws ≡ true → words_at (prints_words ws r) ≡ (ws, r)
unfolding words_at
words_read [] r stays h = stays
words_read (w ∷ ws) r stays h =
    let c = both_true _ _ h in
    words_on_true (is_basic w) w (prints_words ws r) (words_at (prints_words ws r)) c.0
    ∙ ap (λ (x : List Fixed × List Lexeme). (w ∷ x.0, x.1)) (words_read ws r stays c.1)

stars_read : (k n : ℕ) (r : List Lexeme) → ((m : ℕ) → stars_at m r ≡ (m, r)) → stars_at n (prints_stars k r) ≡ (n + k, r)
unfolding stars_at
stars_read zero n r h = h n ∙ ap (λ m. (m, r)) (let e : n ≡ n + 0 = omega arith in e)
stars_read (suc k) n r h = stars_read k (suc n) r h ∙ ap (λ m. (m, r)) (let e : suc n + k ≡ n + suc k = omega arith in e)

pub stars_read_all : (k : ℕ) (r : List Lexeme) → ((m : ℕ) → stars_at m r ≡ (m, r)) → stars_at 0 (prints_stars k r) ≡ (k, r)
stars_read_all k r h = stars_read k 0 r h ∙ ap (λ m. (m, r)) (let e : 0 + k ≡ k = omega arith in e)

-- behind the `*` stands a `[` or the `)`
dimensions_no_star : (ds : DimensionTrees) (m : ℕ) (r : List Lexeme) → stars_at m (prints_dimensions ds (Token fixed.RightParen ∷ r)) ≡ (m, prints_dimensions ds (Token fixed.RightParen ∷ r))
unfolding stars_at
dimensions_no_star s.no_dimensions m r = refl
dimensions_no_star (s.then_dimension s.open_dimension xs) m r = refl
dimensions_no_star (s.then_dimension (s.sized e) xs) m r = refl

-- behind the words stands a `*`, a `[` or the `)`
dimensions_no_word : (ds : DimensionTrees) (r : List Lexeme) → words_at (prints_dimensions ds (Token fixed.RightParen ∷ r)) ≡ ([], prints_dimensions ds (Token fixed.RightParen ∷ r))
unfolding words_at
dimensions_no_word s.no_dimensions r = refl
dimensions_no_word (s.then_dimension s.open_dimension xs) r = refl
dimensions_no_word (s.then_dimension (s.sized e) xs) r = refl

stars_no_word : (k : ℕ) (ds : DimensionTrees) (r : List Lexeme) → words_at (prints_stars k (prints_dimensions ds (Token fixed.RightParen ∷ r))) ≡ ([], prints_stars k (prints_dimensions ds (Token fixed.RightParen ∷ r)))
unfolding words_at
stars_no_word zero ds r = dimensions_no_word ds r
stars_no_word (suc k) ds r = refl

pub cond_true : {A : Type 0} (b : Bool) (x y : A) → b ≡ true → cond b x y ≡ x
cond_true true x y e = refl
cond_true false x y e = absurd cc

words_base_read : (w : Fixed) (ws : List Fixed) (r : List Lexeme) → words_at r ≡ ([], r) → is_basic w ≡ true → all_basic ws ≡ true
    → cond (is_basic w) (words_base w (words_at (prints_words ws r))) (tag_base w (prints_words ws r)) ≡ Some (s.words (w ∷ ws), r)
words_base_read w ws r stays h k = cond_true (is_basic w) _ _ h ∙ ap (words_base w) (words_read ws r stays k)

pub base_read : (named : Span → Bool) (b : BaseFormTree) (r : List Lexeme) → IsWellBase named b → words_at r ≡ ([], r) → base_at named (prints_base b r) ≡ Some (unlaid_base_form b, r)
base_read named (s.words []) r h stays = absurd cc
base_read named (s.words (w ∷ ws)) r h stays = let c = both_true _ _ h in words_base_read w ws r stays c.0 c.1
base_read named (s.struct_ref tag) r h stays = refl
base_read named (s.struct_def tag ms) r h stays = absurd h
base_read named (s.enum_ref tag) r h stays = refl
base_read named (s.enum_def tag es comma) r h stays = absurd h
base_read named (s.named at) r h stays = ap (λ b. cond b (Some (s.named at, r)) None) h

word_begins_type : (named : Span → Bool) (w : Fixed) (r : List Lexeme) → is_basic w ≡ true → begins_type named (Token w ∷ r) ≡ true
word_begins_type named w r h = cond_true (is_basic w) true _ h

pub base_begins_type : (named : Span → Bool) (b : BaseFormTree) (r : List Lexeme) → IsWellBase named b → begins_type named (prints_base b r) ≡ true
base_begins_type named (s.words []) r h = absurd cc
base_begins_type named (s.words (w ∷ ws)) r h = let c = both_true _ _ h in word_begins_type named w (prints_words ws r) c.0
base_begins_type named (s.struct_ref tag) r h = refl
base_begins_type named (s.struct_def tag ms) r h = absurd h
base_begins_type named (s.enum_ref tag) r h = refl
base_begins_type named (s.enum_def tag es comma) r h = absurd h
base_begins_type named (s.named at) r h = h

-- a type name begins where one is printed
type_begins_type : (named : Span → Bool) (y : TypeNameTree) (r : List Lexeme) → IsWellType named y → begins_type named (prints_type y r) ≡ true
type_begins_type named (s.type_name n (s.base m b) count ds) r h = base_begins_type named b _ h.0

-- ---- heads

head_paren : (named : Span → Bool) (sub : Sub) (inner least : ℕ) (e : ExprTree) (ts rest : List Lexeme) → begins_type named ts ≡ false → sub 1 ts ≡ Some (e, Token fixed.RightParen ∷ rest)
    → operand_at named sub inner least opener.Paren ts ≡ Some (made (s.paren e), rest)
unfolding operand_at
head_paren named sub inner least e ts rest is by = rw (is, by) refl

head_cast : (named : Span → Bool) (sub : Sub) (inner least : ℕ) (y : TypeNameTree) (e : ExprTree) (ts inside rest : List Lexeme) → begins_type named ts ≡ true
    → type_at named sub inner ts ≡ Some (y, Token fixed.RightParen ∷ inside) → least ≤ 14 → sub 14 inside ≡ Some (e, rest)
    → operand_at named sub inner least opener.Paren ts ≡ Some (made (s.cast y e), rest)
unfolding operand_at
head_cast named sub inner least y e ts inside rest begins is h by = rw (begins, le-leb least 14 h, is, by) refl

head_size_name : (named : Span → Bool) (sub : Sub) (inner least : ℕ) (y : TypeNameTree) (ts rest : List Lexeme) → begins_type named ts ≡ true
    → type_at named sub inner ts ≡ Some (y, Token fixed.RightParen ∷ rest) → least ≤ 15
    → operand_at named sub inner least opener.SizeOf (Token fixed.LeftParen ∷ ts) ≡ Some (made (s.size_name y), rest)
unfolding operand_at
head_size_name named sub inner least y ts rest begins is h = rw (begins, le-leb least 15 h, is) refl

before_some : (sub : Sub) (least operand : ℕ) (form : ExprTree → ExprFormTree) (e : ExprTree) (ts rest : List Lexeme) → least ≤ 15 → sub operand ts ≡ Some (e, rest)
    → before_at sub least operand form ts ≡ Some (made (form e), rest)
before_some sub least operand form e ts rest h by = rw (le-leb least 15 h, by) refl

head_size : (named : Span → Bool) (sub : Sub) (inner least : ℕ) (e : ExprTree) (ts rest : List Lexeme) → NoTypeOpens named ts → least ≤ 15 → sub 15 ts ≡ Some (e, rest)
    → operand_at named sub inner least opener.SizeOf ts ≡ Some (made (s.size_expression e), rest)
unfolding operand_at
head_size named sub inner least e ts rest is h by = ap (λ b. size_at named sub inner least b ts) is ∙ before_some sub least 15 s.size_expression e ts rest h by

-- ---- the tails of suffixes

tail_binary : (sub : Sub) (o : BinaryOp) (a b : ExprTree) (ts rest : List Lexeme) → sub (binary_level o + 1) ts ≡ Some (b, rest) → tail_at sub (suffix.Binary o) a ts ≡ Some (made (s.binary o a b), rest)
unfolding tail_at
tail_binary sub o a b ts rest e = rw e refl

tail_assign : (sub : Sub) (o : AssignOp) (a b : ExprTree) (ts rest : List Lexeme) → sub 2 ts ≡ Some (b, rest) → tail_at sub (suffix.Assign o) a ts ≡ Some (made (s.assign o a b), rest)
unfolding tail_at
tail_assign sub o a b ts rest e = rw e refl

tail_choice : (sub : Sub) (a b c : ExprTree) (ts middle rest : List Lexeme) → sub 1 ts ≡ Some (b, Token fixed.Colon ∷ middle) → sub 3 middle ≡ Some (c, rest) → tail_at sub suffix.Choice a ts ≡ Some (made (s.choice a b c), rest)
unfolding tail_at
tail_choice sub a b c ts middle rest e d = rw (e, d) refl

tail_index : (sub : Sub) (a i : ExprTree) (ts rest : List Lexeme) → sub 1 ts ≡ Some (i, Token fixed.RightBracket ∷ rest) → tail_at sub suffix.Index a ts ≡ Some (made (s.index a i), rest)
unfolding tail_at
tail_index sub a i ts rest e = rw e refl

tail_call : (sub : Sub) (a : ExprTree) (es : ExprTrees) (ts rest : List Lexeme) → arguments sub ts ≡ Some (es, rest) → tail_at sub suffix.Call a ts ≡ Some (made (s.call a es), rest)
unfolding tail_at
tail_call sub a es ts rest e = rw e refl

-- ---- rows of expressions

more_next : (sub : Sub) (f : ℕ) (e : ExprTree) (es : ExprTrees) (ts next rest : List Lexeme) → sub 2 ts ≡ Some (e, next) → more_arguments sub f next ≡ Some (es, rest)
    → more_arguments sub (suc f) (Token fixed.Comma ∷ ts) ≡ Some (s.then_expression e es, rest)
unfolding more_arguments
more_next sub f e es ts next rest by later = rw (by, later) refl

all_first : (sub : Sub) (e : ExprTree) (es : ExprTrees) (ts next rest : List Lexeme) → behind_right_paren ts ≡ None → sub 2 ts ≡ Some (e, next) → more_arguments sub (suc (length next)) next ≡ Some (es, rest)
    → arguments sub ts ≡ Some (s.then_expression e es, rest)
unfolding arguments
all_first sub e es ts next rest none by later = rw (none, by, later) refl

pub dimension_open_next : (sub : Sub) (f : ℕ) (xs : DimensionTrees) (ts rest : List Lexeme) → dimensions_at sub f ts ≡ Some (xs, rest)
    → dimensions_at sub (suc f) (Token fixed.LeftBracket ∷ Token fixed.RightBracket ∷ ts) ≡ Some (s.then_dimension s.open_dimension xs, rest)
unfolding dimensions_at
dimension_open_next sub f xs ts rest later = rw later refl

pub dimension_sized_next : (sub : Sub) (f : ℕ) (e : ExprTree) (xs : DimensionTrees) (inside ts rest : List Lexeme) → behind_right_bracket inside ≡ None → sub 3 inside ≡ Some (e, Token fixed.RightBracket ∷ ts)
    → dimensions_at sub f ts ≡ Some (xs, rest) → dimensions_at sub (suc f) (Token fixed.LeftBracket ∷ inside) ≡ Some (s.then_dimension (s.sized e) xs, rest)
unfolding dimensions_at
dimension_sized_next sub f e xs inside ts rest none by later = rw (none, by, later) refl

no_arguments : (sub : Sub) (rest : List Lexeme) → arguments sub (Token fixed.RightParen ∷ rest) ≡ Some (s.no_expressions, rest)
unfolding arguments
no_arguments sub rest = refl

no_more : (sub : Sub) (f : ℕ) (rest : List Lexeme) → more_arguments sub (suc f) (Token fixed.RightParen ∷ rest) ≡ Some (s.no_expressions, rest)
unfolding more_arguments
no_more sub f rest = refl

no_dimension : (sub : Sub) (f : ℕ) (rest : List Lexeme) → dimensions_at sub (suc f) (Token fixed.RightParen ∷ rest) ≡ Some (s.no_dimensions, Token fixed.RightParen ∷ rest)
unfolding dimensions_at
no_dimension sub f rest = refl

type_read : (named : Span → Bool) (sub : Sub) (inner : ℕ) (n m : Node) (b : BaseFormTree) (count : ℕ) (ds : DimensionTrees) (r : List Lexeme) → IsWellBase named b
    → type_name_nesting (unlaid_type_name (s.type_name n (s.base m b) count ds)) ≤ inner
    → dimensions_at sub (suc (length (prints_dimensions ds (Token fixed.RightParen ∷ r)))) (prints_dimensions ds (Token fixed.RightParen ∷ r)) ≡ Some (unlaid_dimensions ds, Token fixed.RightParen ∷ r)
    → type_at named sub inner (prints_type (s.type_name n (s.base m b) count ds) (Token fixed.RightParen ∷ r)) ≡ Some (unlaid_type_name (s.type_name n (s.base m b) count ds), Token fixed.RightParen ∷ r)
unfolding type_at
type_read named sub inner n m b count ds r well low later =
    ap (λ (x : Found BaseFormTree). x >>= λ b. behind_stars sub inner b.0 (stars_at 0 b.1)) (base_read named b _ well (stars_no_word count ds r))
    ∙ ap (behind_stars sub inner (unlaid_base_form b)) (stars_read_all count _ (λ k. dimensions_no_star ds k r))
    ∙ ap (λ (x : Found DimensionTrees). x >>= λ xs. low_type inner (s.type_name no_node (s.base no_node (unlaid_base_form b)) count xs.0) xs.1) later
    ∙ rw (le-leb _ _ low) refl

-- ---- all trees

-- an argument ends before the next one's comma, and before the `)`
more_ends : (es : ExprTrees) (rest : List Lexeme) → Ends 2 (prints_more es (Token fixed.RightParen ∷ rest))
more_ends s.no_expressions rest = (refl, tt)
more_ends (s.then_expression x xs) rest = (refl, omega arith)

mutual
  unfolding operand_at tail_at

  comes : (t : ExprTree) (named : Span → Bool) (inner least : ℕ) (rest : List Lexeme) → IsWell named t → least ≤ level t → expression_nesting (unlaid_expression t) ≤ suc inner → Ends (last t) rest
      → Comes named inner least (unlaid_expression t) (prints t rest) rest
  comes (s.expression n f) named inner least rest well at low ends = form_comes f named inner least rest well at low ends

  all_come : (es : ExprTrees) (named : Span → Bool) (inner : ℕ) (rest : List Lexeme) → AreWell named es → expressions_nesting (unlaid_expressions es) ≤ inner
      → arguments (expression_at named inner) (prints_all es (Token fixed.RightParen ∷ rest)) ≡ Some (unlaid_expressions es, rest)
  all_come s.no_expressions named inner rest well low = no_arguments (expression_at named inner) rest
  all_come (s.then_expression x xs) named inner rest well low =
      all_first (expression_at named inner) (unlaid_expression x) (unlaid_expressions xs) _ (prints_more xs (Token fixed.RightParen ∷ rest)) rest
      (no_right_paren _ (opens named x _ well.1))
      (part named inner 2 (unlaid_expression x) _ _ (λ k h. comes x named k 2 _ well.1 well.0 h (Ends-last 2 x _ (more_ends xs rest) well.0)) (omega arith) (more_ends xs rest))
      (more_come xs named inner (suc (length (prints_more xs (Token fixed.RightParen ∷ rest)))) rest well.2 (omega arith) (omega arith))

  more_come : (es : ExprTrees) (named : Span → Bool) (inner f : ℕ) (rest : List Lexeme) → AreWell named es → expressions_nesting (unlaid_expressions es) ≤ inner
      → length (prints_more es (Token fixed.RightParen ∷ rest)) < f
      → more_arguments (expression_at named inner) f (prints_more es (Token fixed.RightParen ∷ rest)) ≡ Some (unlaid_expressions es, rest)
  more_come es named inner zero rest well low much = absurd (omega arith)
  more_come s.no_expressions named inner (suc f) rest well low much = no_more (expression_at named inner) f rest
  more_come (s.then_expression x xs) named inner (suc f) rest well low much =
      more_next (expression_at named inner) f (unlaid_expression x) (unlaid_expressions xs) _ (prints_more xs (Token fixed.RightParen ∷ rest)) rest
      (part named inner 2 (unlaid_expression x) _ _ (λ k h. comes x named k 2 _ well.1 well.0 h (Ends-last 2 x _ (more_ends xs rest) well.0)) (omega arith) (more_ends xs rest))
      (more_come xs named inner f rest well.2 (omega arith) (omega (arith, prints_longer x (prints_more xs (Token fixed.RightParen ∷ rest)))))

  dimensions_come : (ds : DimensionTrees) (named : Span → Bool) (inner f : ℕ) (rest : List Lexeme) → AreWellDimensions named ds → dimensions_nesting (unlaid_dimensions ds) ≤ inner
      → length (prints_dimensions ds (Token fixed.RightParen ∷ rest)) < f
      → dimensions_at (expression_at named inner) f (prints_dimensions ds (Token fixed.RightParen ∷ rest)) ≡ Some (unlaid_dimensions ds, Token fixed.RightParen ∷ rest)
  dimensions_come ds named inner zero rest well low much = absurd (omega arith)
  dimensions_come s.no_dimensions named inner (suc f) rest well low much = no_dimension (expression_at named inner) f rest
  dimensions_come (s.then_dimension s.open_dimension xs) named inner (suc f) rest well low much =
      dimension_open_next (expression_at named inner) f (unlaid_dimensions xs) _ (Token fixed.RightParen ∷ rest)
      (dimensions_come xs named inner f rest well.1 (omega arith) (omega arith))
  dimensions_come (s.then_dimension (s.sized e) xs) named inner (suc f) rest well low much =
      let behind : List Lexeme = Token fixed.RightBracket ∷ prints_dimensions xs (Token fixed.RightParen ∷ rest) in
      dimension_sized_next (expression_at named inner) f (unlaid_expression e) (unlaid_dimensions xs) (prints e behind) (prints_dimensions xs (Token fixed.RightParen ∷ rest)) (Token fixed.RightParen ∷ rest)
      (no_right_bracket _ (opens named e behind well.0.1))
      (part named inner 3 (unlaid_expression e) _ _ (λ k h. comes e named k 3 behind well.0.1 well.0.0 h (refl, tt)) (omega arith) (refl, tt))
      (dimensions_come xs named inner f rest well.1 (omega arith) (omega (arith, prints_longer e behind)))

  type_comes : (y : TypeNameTree) (named : Span → Bool) (inner : ℕ) (rest : List Lexeme) → IsWellType named y → type_name_nesting (unlaid_type_name y) ≤ inner
      → type_at named (expression_at named inner) inner (prints_type y (Token fixed.RightParen ∷ rest)) ≡ Some (unlaid_type_name y, Token fixed.RightParen ∷ rest)
  type_comes (s.type_name n (s.base m b) count ds) named inner rest well low =
      type_read named (expression_at named inner) inner n m b count ds rest well.0 low
      (dimensions_come ds named inner (suc (length (prints_dimensions ds (Token fixed.RightParen ∷ rest)))) rest well.1 (omega arith) (omega arith))

  form_comes : (f : ExprFormTree) (named : Span → Bool) (inner least : ℕ) (rest : List Lexeme) → IsWellForm named f → least ≤ level (made f) → expression_nesting (made (unlaid_expression_form f)) ≤ suc inner → Ends (right f) rest
      → Comes named inner least (made (unlaid_expression_form f)) (prints_form f rest) rest
  form_comes (s.name at) named inner least rest well at' low ends = comes_by_head named inner least (made (s.name at)) (Leaf Word at) (opener.Name at) rest rest refl (ap (λ b. cond b None (Some (made (s.name at), rest))) well)
  form_comes (s.number at) named inner least rest well at' low ends = comes_by_head named inner least (made (s.number at)) (Leaf Number at) (opener.Number at) rest rest refl refl
  form_comes (s.character at) named inner least rest well at' low ends = comes_by_head named inner least (made (s.character at)) (Leaf Character at) (opener.Character at) rest rest refl refl
  form_comes (s.text []) named inner least rest well at' low ends = absurd cc
  form_comes (s.text (p ∷ ps)) named inner least rest well at' low ends =
      comes_by_head named inner least (made (s.text (p ∷ ps))) (Leaf Text p) (opener.Text p) (prints_texts ps rest) rest refl
      (ap (λ (x : List Span × List Lexeme). Some (made (s.text (p ∷ x.0)), x.1)) (texts_read ps rest (no_text_of 17 rest ends)))
  form_comes (s.paren e) named inner least rest well at low ends =
      comes_by_head named inner least (made (s.paren (unlaid_expression e))) (Token fixed.LeftParen) opener.Paren _ rest refl
      (head_paren named (expression_at named inner) inner least (unlaid_expression e) _ rest (no_type named e (Token fixed.RightParen ∷ rest) well.1)
      (part named inner 1 (unlaid_expression e) _ _ (λ k h. comes e named k 1 (Token fixed.RightParen ∷ rest) well.1 well.0 h (refl, tt)) (omega arith) (refl, tt)))
  form_comes (s.unary o e) named inner least rest well at low ends =
      comes_by_head named inner least (made (s.unary o (unlaid_expression e))) (Token (unary_punctuator o)) (opener.Unary o) (prints e rest) rest (head_of_unary o)
      (before_some (expression_at named inner) least 14 (s.unary o) (unlaid_expression e) (prints e rest) rest at
      (part named inner 14 (unlaid_expression e) _ _ (λ k h. comes e named k 14 rest well.1 well.0 h (Ends-last 14 e rest ends well.0)) (omega arith) ends))
  form_comes (s.step IncBefore e) named inner least rest well at low ends =
      comes_by_head named inner least (made (s.step IncBefore (unlaid_expression e))) (Token fixed.PlusPlus) opener.Increment (prints e rest) rest refl
      (before_some (expression_at named inner) least 15 (s.step IncBefore) (unlaid_expression e) (prints e rest) rest at
      (part named inner 15 (unlaid_expression e) _ _ (λ k h. comes e named k 15 rest well.1 well.0 h (Ends-last 15 e rest ends well.0)) (omega arith) ends))
  form_comes (s.step DecBefore e) named inner least rest well at low ends =
      comes_by_head named inner least (made (s.step DecBefore (unlaid_expression e))) (Token fixed.MinusMinus) opener.Decrement (prints e rest) rest refl
      (before_some (expression_at named inner) least 15 (s.step DecBefore) (unlaid_expression e) (prints e rest) rest at
      (part named inner 15 (unlaid_expression e) _ _ (λ k h. comes e named k 15 rest well.1 well.0 h (Ends-last 15 e rest ends well.0)) (omega arith) ends))
  form_comes (s.step IncAfter e) named inner least rest well at low ends =
      comes_by_suffix named inner least e (made (s.step IncAfter (unlaid_expression e))) _ (Token fixed.PlusPlus) rest suffix.Increment rest
      (comes e named inner least _ well.1 (omega (arith, well.0)) (omega arith) (Ends-suffix fixed.PlusPlus suffix.Increment e rest refl well.0))
      refl at well.0 low (omega arith) refl
  form_comes (s.step DecAfter e) named inner least rest well at low ends =
      comes_by_suffix named inner least e (made (s.step DecAfter (unlaid_expression e))) _ (Token fixed.MinusMinus) rest suffix.Decrement rest
      (comes e named inner least _ well.1 (omega (arith, well.0)) (omega arith) (Ends-suffix fixed.MinusMinus suffix.Decrement e rest refl well.0))
      refl at well.0 low (omega arith) refl
  form_comes (s.size_expression e) named inner least rest well at low ends =
      comes_by_head named inner least (made (s.size_expression (unlaid_expression e))) (Token fixed.Sizeof) opener.SizeOf (prints e rest) rest refl
      (head_size named (expression_at named inner) inner least (unlaid_expression e) (prints e rest) rest (no_size named e rest well.1 well.0) at
      (part named inner 15 (unlaid_expression e) _ _ (λ k h. comes e named k 15 rest well.1 well.0 h (Ends-last 15 e rest ends well.0)) (omega arith) ends))
  form_comes (s.size_name y) named inner least rest well at low ends =
      comes_by_head named inner least (made (s.size_name (unlaid_type_name y))) (Token fixed.Sizeof) opener.SizeOf _ rest refl
      (head_size_name named (expression_at named inner) inner least (unlaid_type_name y) _ rest (type_begins_type named y _ well) (type_comes y named inner rest well (omega arith)) at)
  form_comes (s.cast y e) named inner least rest well at low ends =
      comes_by_head named inner least (made (s.cast (unlaid_type_name y) (unlaid_expression e))) (Token fixed.LeftParen) opener.Paren _ rest refl
      (head_cast named (expression_at named inner) inner least (unlaid_type_name y) (unlaid_expression e) _ (prints e rest) rest (type_begins_type named y _ well.0) (type_comes y named inner (prints e rest) well.0 (omega arith)) at
      (part named inner 14 (unlaid_expression e) _ _ (λ k h. comes e named k 14 rest well.2 well.1 h (Ends-last 14 e rest ends well.1)) (omega arith) ends))
  form_comes (s.binary o a b) named inner least rest well at low ends =
      comes_by_suffix named inner least a (made (s.binary o (unlaid_expression a) (unlaid_expression b))) _ (Token (binary_punctuator o)) (prints b rest) (suffix.Binary o) rest
      (comes a named inner least _ well.1 (omega (arith, well.0)) (omega arith) (Ends-suffix (binary_punctuator o) (suffix.Binary o) a (prints b rest) (suffix_of_binary o) well.0))
      (suffix_of_binary o) at well.0 low (omega arith)
      (tail_binary (expression_at named inner) o (unlaid_expression a) (unlaid_expression b) (prints b rest) rest
      (part named inner (binary_level o + 1) (unlaid_expression b) _ _ (λ k h. comes b named k (binary_level o + 1) rest well.3 well.2 h (Ends-last (binary_level o + 1) b rest ends well.2)) (omega arith) ends))
  form_comes (s.assign o a b) named inner least rest well at low ends =
      comes_by_suffix named inner least a (made (s.assign o (unlaid_expression a) (unlaid_expression b))) _ (Token (assign_punctuator o)) (prints b rest) (suffix.Assign o) rest
      (comes a named inner least _ well.1 (omega (arith, well.0)) (omega arith) (Ends-suffix (assign_punctuator o) (suffix.Assign o) a (prints b rest) (suffix_of_assign o) well.0))
      (suffix_of_assign o) at well.0 low (omega arith)
      (tail_assign (expression_at named inner) o (unlaid_expression a) (unlaid_expression b) (prints b rest) rest
      (part named inner 2 (unlaid_expression b) _ _ (λ k h. comes b named k 2 rest well.3 well.2 h (Ends-last 2 b rest ends well.2)) (omega arith) ends))
  form_comes (s.choice a b c) named inner least rest well at low ends =
      comes_by_suffix named inner least a (made (s.choice (unlaid_expression a) (unlaid_expression b) (unlaid_expression c))) _ (Token fixed.Question) (prints b (Token fixed.Colon ∷ prints c rest)) suffix.Choice rest
      (comes a named inner least _ well.1 (omega (arith, well.0)) (omega arith) (Ends-suffix fixed.Question suffix.Choice a rest refl well.0))
      refl at well.0 low (omega arith)
      (tail_choice (expression_at named inner) (unlaid_expression a) (unlaid_expression b) (unlaid_expression c) _ (prints c rest) rest
      (part named inner 1 (unlaid_expression b) _ _ (λ k h. comes b named k 1 (Token fixed.Colon ∷ prints c rest) well.3 well.2 h (refl, tt)) (omega arith) (refl, tt))
      (part named inner 3 (unlaid_expression c) _ _ (λ k h. comes c named k 3 rest well.5 well.4 h (Ends-last 3 c rest ends well.4)) (omega arith) ends))
  form_comes (s.index a b) named inner least rest well at low ends =
      comes_by_suffix named inner least a (made (s.index (unlaid_expression a) (unlaid_expression b))) _ (Token fixed.LeftBracket) (prints b (Token fixed.RightBracket ∷ rest)) suffix.Index rest
      (comes a named inner least _ well.1 (omega (arith, well.0)) (omega arith) (Ends-suffix fixed.LeftBracket suffix.Index a rest refl well.0))
      refl at well.0 low (omega arith)
      (tail_index (expression_at named inner) (unlaid_expression a) (unlaid_expression b) _ rest
      (part named inner 1 (unlaid_expression b) _ _ (λ k h. comes b named k 1 (Token fixed.RightBracket ∷ rest) well.3 well.2 h (refl, tt)) (omega arith) (refl, tt)))
  form_comes (s.call a es) named inner least rest well at low ends =
      comes_by_suffix named inner least a (made (s.call (unlaid_expression a) (unlaid_expressions es))) _ (Token fixed.LeftParen) (prints_all es (Token fixed.RightParen ∷ rest)) suffix.Call rest
      (comes a named inner least _ well.1 (omega (arith, well.0)) (omega arith) (Ends-suffix fixed.LeftParen suffix.Call a rest refl well.0))
      refl at well.0 low (omega arith)
      (tail_call (expression_at named inner) (unlaid_expression a) (unlaid_expressions es) _ rest (all_come es named inner rest well.2 (omega arith)))
  form_comes (s.dot a w) named inner least rest well at low ends =
      comes_by_suffix named inner least a (made (s.dot (unlaid_expression a) w)) _ (Token fixed.Dot) (Leaf Word w ∷ rest) suffix.Dot rest
      (comes a named inner least _ well.1 (omega (arith, well.0)) (omega arith) (Ends-suffix fixed.Dot suffix.Dot a rest refl well.0))
      refl at well.0 low (omega arith) refl
  form_comes (s.arrow a w) named inner least rest well at low ends =
      comes_by_suffix named inner least a (made (s.arrow (unlaid_expression a) w)) _ (Token fixed.Arrow) (Leaf Word w ∷ rest) suffix.Arrow rest
      (comes a named inner least _ well.1 (omega (arith, well.0)) (omega arith) (Ends-suffix fixed.Arrow suffix.Arrow a rest refl well.0))
      refl at well.0 low (omega arith) refl

-- what a well-placed tree prints is read as that tree
pub expression_reads : (named : Span → Bool) (room least : ℕ) (t : ExprTree) (rest : List Lexeme) → IsWell named t → least ≤ level t → expression_nesting (unlaid_expression t) ≤ room → Ends least rest
    → expression_at named room least (prints t rest) ≡ Some (unlaid_expression t, rest)
expression_reads named room least t rest well at low ends = part named room least (unlaid_expression t) _ rest (λ k h. comes t named k least rest well at h (Ends-last least t rest ends at)) low ends
