-- The turns of the readers' loops over one token at a time.
use Rattle.std.proofs.Common.{◌≡◌, ◌<◌, Bool, true, false, cond, List, [], ◌∷◌, ◌++◌, length, Option, Some, None, refl, sym, ap, subst, ◌∙◌, append_assoc, arith}
use Rattle.std.proofs.lemmas.List.{append-nil}
use Rattle.stk_base.specs.declared.span.Span.{Span}
use Rattle.stk_base.specs.declared.token.Class.TheVariants.{Text}
use Rattle.stk_tree.specs.declared.fixed.Fixed.{Fixed}
use Rattle.stk_tree.specs.declared.fixed.Lexeme.{Lexeme}
use Rattle.stk_tree.specs.declared.fixed.Lexeme.TheVariants.{Leaf, Fixed as Token}
use Rattle.stk_tree.specs.Placed.{is_basic}
use Rattle.stk_grammar.specs.Reading.{basic_at, texts_at, words_at, words_on}
use Rattle.stk_grammar.proofs.Operators.{if_some, some_is}
use Rattle.stk_expr.specs.Fronts.{text_at}

-- a row whose first element is added to what was collected
abbrev pub IsRow : {A : Type 0} → List A → List A × List Lexeme → List A × List Lexeme → Type 0
IsRow xs now whole = (xs ++ now.0 ≡ whole.0) × (now.1 ≡ whole.1)

texts_next : (ts : List Lexeme) (at : Span) (behind : List Lexeme) → Some (at, behind) ≡ text_at ts → (texts_at ts ≡ (at ∷ (texts_at behind).0, (texts_at behind).1)) × (length behind < length ts)
unfolding texts_at
texts_next [] at behind e = absurd cc
texts_next (Token f ∷ ts) at behind e = absurd cc
texts_next (Leaf Text p ∷ ts) at behind e =
    subst (λ (y : Span × List Lexeme). (texts_at (Leaf Text p ∷ ts) ≡ (y.0 ∷ (texts_at y.1).0, (texts_at y.1).1)) × (length y.1 < length (Leaf Text p ∷ ts))) (some_is (p, ts) (at, behind) (sym e)) (refl, omega arith)
texts_next (Leaf class p ∷ ts) at behind e = absurd cc

texts_end : (ts : List Lexeme) → None ≡ text_at ts → texts_at ts ≡ ([], ts)
unfolding texts_at
texts_end [] e = refl
texts_end (Token f ∷ ts) e = refl
texts_end (Leaf Text p ∷ ts) e = absurd cc
texts_end (Leaf class p ∷ ts) e = refl

words_on_true : (b : Bool) (f : Fixed) (ts : List Lexeme) (x : List Fixed × List Lexeme) → b ≡ true → words_on b f ts x ≡ (f ∷ x.0, x.1)
words_on_true true f ts x e = refl
words_on_true false f ts x e = absurd cc

words_on_none : (b : Bool) (f : Fixed) (ts : List Lexeme) (x : List Fixed × List Lexeme) → ◌≡◌ {A = Option (Fixed × List Lexeme)} None (cond b (Some (f, ts)) None) → words_on b f ts x ≡ ([], Token f ∷ ts)
words_on_none true f ts x e = absurd cc
words_on_none false f ts x e = refl

words_next : (ts : List Lexeme) (w : Fixed) (behind : List Lexeme) → Some (w, behind) ≡ basic_at ts → (words_at ts ≡ (w ∷ (words_at behind).0, (words_at behind).1)) × (length behind < length ts)
unfolding words_at
words_next [] w behind e = absurd cc
words_next (Leaf class at ∷ ts) w behind e = absurd cc
words_next (Token f ∷ ts) w behind e =
    let a = if_some (is_basic f) (Some (f, ts)) (w, behind) (sym e) in
    subst (λ (y : Fixed × List Lexeme). (words_at (Token f ∷ ts) ≡ (y.0 ∷ (words_at y.1).0, (words_at y.1).1)) × (length y.1 < length (Token f ∷ ts))) (some_is (f, ts) (w, behind) a.1)
    (words_on_true (is_basic f) f ts (words_at ts) a.0, omega arith)

words_end : (ts : List Lexeme) → None ≡ basic_at ts → words_at ts ≡ ([], ts)
unfolding words_at
words_end [] e = refl
words_end (Leaf class at ∷ ts) e = refl
words_end (Token f ∷ ts) e = words_on_none (is_basic f) f ts (words_at ts) e

row_turn : {A : Type 0} (xs : List A) (x : A) (now later whole : List A × List Lexeme) → now ≡ (x ∷ later.0, later.1) → IsRow xs now whole → IsRow (xs ++ (x ∷ [])) later whole
row_turn {A = A} xs x now later whole e h =
    (append_assoc xs (x ∷ []) later.0 ∙ ap (λ (y : List A × List Lexeme). xs ++ y.0) (sym e) ∙ h.0, ap (λ (y : List A × List Lexeme). y.1) (sym e) ∙ h.1)

row_end : {A : Type 0} (xs : List A) (now whole : List A × List Lexeme) (ts : List Lexeme) → now ≡ ([], ts) → IsRow xs now whole → (xs ≡ whole.0) × (ts ≡ whole.1)
row_end {A = A} xs now whole ts e h = (sym (append-nil xs) ∙ ap (λ (y : List A × List Lexeme). xs ++ y.0) (sym e) ∙ h.0, ap (λ (y : List A × List Lexeme). y.1) (sym e) ∙ h.1)

pub texts_turn : (xs : List Span) (ts : List Lexeme) (at : Span) (behind : List Lexeme) (whole : List Span × List Lexeme) → Some (at, behind) ≡ text_at ts → IsRow xs (texts_at ts) whole
    → IsRow (xs ++ (at ∷ [])) (texts_at behind) whole × (length behind < length ts)
texts_turn xs ts at behind whole e h = let a = texts_next ts at behind e in (row_turn xs at (texts_at ts) (texts_at behind) whole a.0 h, a.1)

pub texts_done : (xs : List Span) (ts : List Lexeme) (whole : List Span × List Lexeme) → None ≡ text_at ts → IsRow xs (texts_at ts) whole → (xs ≡ whole.0) × (ts ≡ whole.1)
texts_done xs ts whole e h = row_end xs (texts_at ts) whole ts (texts_end ts e) h

pub words_turn : (xs : List Fixed) (ts : List Lexeme) (w : Fixed) (behind : List Lexeme) (whole : List Fixed × List Lexeme) → Some (w, behind) ≡ basic_at ts → IsRow xs (words_at ts) whole
    → IsRow (xs ++ (w ∷ [])) (words_at behind) whole × (length behind < length ts)
words_turn xs ts w behind whole e h = let a = words_next ts w behind e in (row_turn xs w (words_at ts) (words_at behind) whole a.0 h, a.1)

pub words_done : (xs : List Fixed) (ts : List Lexeme) (whole : List Fixed × List Lexeme) → None ≡ basic_at ts → IsRow xs (words_at ts) whole → (xs ≡ whole.0) × (ts ≡ whole.1)
words_done xs ts whole e h = row_end xs (words_at ts) whole ts (words_end ts e) h
