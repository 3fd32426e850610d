-- What the definition says, whoever reads: one tree, one place, and what the reader's answers mean.
use Rattle.std.proofs.Common.{◌≡◌, ℕ, ◌+◌, ◌-◌, ◌≤◌, max, Bool, true, false, List, [], ◌∷◌, ◌++◌, length, take, drop, Some, None, refl, sym, ap, ◌∙◌, arith}
use Rattle.std.proofs.lemmas.Bool.{leb-true, false≢true}
use Rattle.std.proofs.lemmas.List.{take-append-drop, append-nil, length-append, length-drop, drop-drop}
use Rattle.std.proofs.Math.Seq.{drop-append_seam, take-append_seam}
use Rattle.stk_base.specs.declared.span.Span.{Span}
use Rattle.stk_tree.specs.declared.fixed.Fixed.{Fixed}
use Rattle.stk_tree.specs.declared.fixed.Fixed.TheVariants as fixed
use Rattle.stk_tree.specs.declared.fixed.Lexeme.{Lexeme}
use Rattle.stk_tree.specs.declared.fixed.Lexeme.TheVariants.{Leaf, Fixed as Token}
use Rattle.stk_tree.specs.Syntax.{ExprTree}
use Rattle.stk_tree.specs.Nesting.{expression_nesting}
use Rattle.stk_tree.specs.Tokens.{expression_tokens}
use Rattle.stk_tree.specs.Unlaid.{unlaid_expression}
use Rattle.stk_grammar.specs.Expressions.{IsExpression, OnePlace, OneText, stop_punctuator, stops}
use Rattle.stk_grammar.specs.Reading.{expression_at, level, suffix_punctuator}
use Rattle.stk_grammar.proofs.Complete.{expression_reads}
use Rattle.stk_grammar.proofs.Operators.{Ends, EndsAt, some_is}
use Rattle.stk_grammar.proofs.Prints.{prints, tokens-append}
use Rattle.stk_grammar.proofs.Sound.{expression_sound}
use Rattle.stk_grammar.proofs.Well.{IsWell, nesting-unlaid, passes_of, well_of}

punctuator_ends : (least : ℕ) (f : Fixed) → stop_punctuator least f ≡ true → EndsAt least (suffix_punctuator f)
punctuator_ends least fixed.RightParen h = tt
punctuator_ends least fixed.RightBracket h = tt
punctuator_ends least fixed.RightBrace h = tt
punctuator_ends least fixed.Semicolon h = tt
punctuator_ends least fixed.Colon h = tt
punctuator_ends least fixed.Comma h = omega (arith, leb-true _ _ h)
punctuator_ends least other h = absurd cc

-- a stop ends an expression
pub Ends-stops : (least : ℕ) (ts : List Lexeme) → stops least ts ≡ true → Ends least ts
Ends-stops least [] h = tt
Ends-stops least (Token f ∷ ts) h = (refl, punctuator_ends least f h)
Ends-stops least (Leaf class at ∷ ts) h = absurd cc

-- two trees of a level that stand at the same place are one
pub one_tree : (named : Span → Bool) (least : ℕ) (s t : ExprTree) (x y : List Lexeme) → IsWell named s → IsWell named t → least ≤ level s → least ≤ level t
    → Ends least x → Ends least y → expression_tokens s ++ x ≡ expression_tokens t ++ y → (unlaid_expression s ≡ unlaid_expression t) × (x ≡ y)
one_tree named least s t x y well_s well_t at_s at_t stop_x stop_y e =
    let room : ℕ = max (expression_nesting s) (expression_nesting t) in
    let a = expression_reads named room least s x well_s at_s (omega (arith, nesting-unlaid named s well_s)) stop_x in
    let b = expression_reads named room least t y well_t at_t (omega (arith, nesting-unlaid named t well_t)) stop_y in
    let same : prints s x ≡ prints t y = sym (tokens-append s x) ∙ e ∙ tokens-append t y in
    let both = some_is (unlaid_expression s, x) (unlaid_expression t, y) (sym a ∙ ap (expression_at named room least) same ∙ b) in
    (ap (λ p. p.0) both, ap (λ p. p.1) both)

pub one_text : OneText
one_text named s t placed_s placed_t fits_s fits_t e =
    let a = well_of named 1 s placed_s fits_s in
    let b = well_of named 1 t placed_t fits_t in
    (one_tree named 1 s t [] [] a.1 b.1 a.0 b.0 tt tt (append-nil (expression_tokens s) ∙ e ∙ sym (append-nil (expression_tokens t)))).0

-- the tokens from a place on, where an expression stands there
pub tokens_from : (named : Span → Bool) (least : ℕ) (ts : List Lexeme) (from to : ℕ) (t : ExprTree) → IsExpression named least ts from to t → drop from ts ≡ expression_tokens t ++ drop to ts
tokens_from named least ts from to t h =
    sym (take-append-drop (to - from) (drop from ts))
    ∙ ap (λ x. x ++ drop (to - from) (drop from ts)) h.tokens
    ∙ ap (λ x. expression_tokens t ++ x) (drop-drop (to - from) from ts ∙ ap (λ n. drop n ts) (let e : from + (to - from) ≡ to = omega (arith, h.within.0) in e))

same_end : (ts : List Lexeme) (to end : ℕ) → to ≤ length ts → end ≤ length ts → drop to ts ≡ drop end ts → to ≡ end
same_end ts to end a b e = omega (arith, ap length e, length-drop to ts, length-drop end ts)

pub one_place : OnePlace
one_place named least ts from to end s t h k =
    let a = well_of named least s h.placed h.fits in
    let b = well_of named least t k.placed k.fits in
    let p = one_tree named least s t (drop to ts) (drop end ts) a.1 b.1 a.0 b.0 (Ends-stops least _ h.stop) (Ends-stops least _ k.stop)
    (sym (tokens_from named least ts from to s h) ∙ tokens_from named least ts from end t k) in
    (p.0, same_end ts to end h.within.1 k.within.1 p.1)

-- an expression at a place, and what the reader finds there
pub found_of_expression : (named : Span → Bool) (least : ℕ) (ts : List Lexeme) (from to : ℕ) (t : ExprTree) → IsExpression named least ts from to t
    → expression_at named 400 least (drop from ts) ≡ Some (unlaid_expression t, drop to ts)
found_of_expression named least ts from to t h =
    let a = well_of named least t h.placed h.fits in
    let low : expression_nesting (unlaid_expression t) ≤ 400 = omega (arith, nesting-unlaid named t a.1, h.nesting) in
    ap (expression_at named 400 least) (tokens_from named least ts from to t h ∙ tokens-append t (drop to ts))
    ∙ expression_reads named 400 least t (drop to ts) a.1 a.0 low (Ends-stops least (drop to ts) h.stop)

-- what the reader finds has no record of its nodes
pub found_unlaid : (named : Span → Bool) (room least : ℕ) (ts : List Lexeme) (t : ExprTree) (rest : List Lexeme) → least ≤ 17 → expression_at named room least ts ≡ Some (t, rest) → Ends least rest
    → unlaid_expression t ≡ t
found_unlaid named room least ts t rest wide e ends =
    let p = expression_sound named room least wide ts (t, rest) e in
    let low : expression_nesting (unlaid_expression t) ≤ room = omega (arith, nesting-unlaid named t p.well, p.low) in
    let a = expression_reads named room least t rest p.well p.at low ends in
    let both = some_is (unlaid_expression t, rest) (t, rest) (sym a ∙ ap (expression_at named room least) (sym p.text) ∙ e) in
    ap (λ p. p.0) both

pub expression_of_found : (named : Span → Bool) (least : ℕ) (ts : List Lexeme) (from : ℕ) (t : ExprTree) (rest : List Lexeme) → from ≤ length ts → least ≤ 17
    → expression_at named 400 least (drop from ts) ≡ Some (t, rest) → stops least rest ≡ true → IsExpression named least ts from (length ts - length rest) t
expression_of_found named least ts from t rest within wide e s =
    let p = expression_sound named 400 least wide (drop from ts) (t, rest) e in
    let text : drop from ts ≡ expression_tokens t ++ rest = p.text ∙ sym (tokens-append t rest) in
    let len : length ts ≡ from + (length (expression_tokens t) + length rest) = omega (arith, ap length text, length-drop {A = Lexeme}, length-append (expression_tokens t) rest) in
    let size : length ts - length rest - from ≡ length (expression_tokens t) = omega arith in
    let to_is : from + length (expression_tokens t) ≡ length ts - length rest = omega arith in
    let behind : rest ≡ drop (length ts - length rest) ts =
    sym (drop-append_seam (expression_tokens t) rest) ∙ ap (drop (length (expression_tokens t))) (sym text) ∙ drop-drop (length (expression_tokens t)) from ts ∙ ap (λ n. drop n ts) to_is in
    let passes = passes_of named least t p.at p.well in
    record {
      within = (omega arith, omega arith);
      tokens = ap (λ n. take n (drop from ts)) size ∙ ap (take (length (expression_tokens t))) text ∙ take-append_seam (expression_tokens t) rest;
      placed = passes.0;
      fits = passes.1;
      nesting = p.low;
      stop = ap (stops least) (sym behind) ∙ s;
    }

-- no expression stands where the reader finds none, or one that does not end
pub none_of_none : (named : Span → Bool) (least : ℕ) (ts : List Lexeme) (from : ℕ) → expression_at named 400 least (drop from ts) ≡ None
    → (t : ExprTree) (to : ℕ) → IsExpression named least ts from to t → ⊥
none_of_none named least ts from e t to h = let k = found_of_expression named least ts from to t h in cc (sym e ∙ k)

pub none_of_more : (named : Span → Bool) (least : ℕ) (ts : List Lexeme) (from : ℕ) (u : ExprTree) (rest : List Lexeme) → expression_at named 400 least (drop from ts) ≡ Some (u, rest) → stops least rest ≡ false
    → (t : ExprTree) (to : ℕ) → IsExpression named least ts from to t → ⊥
none_of_more named least ts from u rest e s t to h =
    let k = some_is (unlaid_expression t, drop to ts) (u, rest) (sym (found_of_expression named least ts from to t h) ∙ e) in
    false≢true (sym s ∙ ap (stops least) (sym (ap (λ p. p.1) k)) ∙ h.stop)
