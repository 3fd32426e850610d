-- Tokens that hold no `;` outside of brackets, from one depth to another, and how they add up.
use Rattle.std.proofs.Common.{◌≡◌, ℕ, zero, suc, ◌+◌, ◌-◌, ◌<◌, Bool, false, cond, ◌&&◌, ◌==◌, List, [], ◌∷◌, ◌++◌, length, refl, sym, ap, ◌∙◌, append_assoc, length-append, arith}
use Rattle.std.proofs.lemmas.Bool.{ne_eqb}
use Rattle.stk_lex.specs.Gaps.{one_more}
use Rattle.stk_tree.specs.declared.fixed.Fixed.TheVariants as fixed
use Rattle.stk_tree.specs.declared.fixed.Lexeme.{Lexeme}
use Rattle.stk_tree.specs.declared.fixed.Lexeme.TheVariants.{Fixed as Token}
use Rattle.stk_text_laws.specs.Semicolons.{depth_behind, is_semicolon, up_to_semicolon}

-- so many more, where there is something
abbrev pub more : ℕ → ℕ → ℕ
more n zero = 0
more n (suc k) = n + suc k

-- tokens that lead from a depth to another one, with no `;` outside of brackets
pub record Passes (d : ℕ) (xs : List Lexeme) (e : ℕ) : Type 0 where
  pub passes : (rest : List Lexeme) → up_to_semicolon d (xs ++ rest) ≡ more (length xs) (up_to_semicolon e rest)

more_none : (k : ℕ) → k ≡ more 0 k
more_none zero = refl
more_none (suc k) = omega arith

more_one : (k : ℕ) → one_more k ≡ more 1 k
more_one zero = refl
more_one (suc k) = omega arith

more_above : (a n : ℕ) → 0 < n → more a n ≡ a + n
more_above a zero h = absurd (omega (arith, h))
more_above a (suc n) h = refl

more_both : (a b k : ℕ) → more a (more b k) ≡ more (a + b) k
more_both a b zero = refl
more_both a b (suc k) = more_above a (b + suc k) (omega arith) ∙ omega arith

pub nothing : (d : ℕ) → Passes d [] d
nothing d = record { passes = λ rest. more_none (up_to_semicolon d rest) }

-- one run of tokens after another
pub then : {d e f : ℕ} {xs ys : List Lexeme} → Passes d xs e → Passes e ys f → Passes d (xs ++ ys) f
then {d = d} {e = e} {f = f} {xs = xs} {ys = ys} p q = record {
  passes = λ rest.
      ap (up_to_semicolon d) (append_assoc xs ys rest) ∙ p.passes (ys ++ rest) ∙ ap (more (length xs)) (q.passes rest)
      ∙ more_both (length xs) (length ys) (up_to_semicolon f rest) ∙ ap (λ (n : ℕ). more n (up_to_semicolon f rest)) (sym (length-append xs ys));
}

-- a token that is no `;`, or stands in brackets
pub token : (d : ℕ) (t : Lexeme) → (is_semicolon t && d == 0) ≡ false → Passes d (t ∷ []) (depth_behind d t)
unfolding up_to_semicolon
token d t none = record {
  passes = λ rest. ap (λ (c : Bool). cond c 1 (one_more (up_to_semicolon (depth_behind d t) rest))) none ∙ more_one (up_to_semicolon (depth_behind d t) rest);
}

pub along : {d e f : ℕ} {xs : List Lexeme} → e ≡ f → Passes d xs e → Passes d xs f
along {d = d} {xs = xs} same p = rw (sym same) p

one_back : (d : ℕ) → suc d - 1 ≡ d
one_back d = omega arith

some_depth : (d : ℕ) → (suc d == 0) ≡ false
some_depth d = ne_eqb (suc d) 0 (λ e. absurd (omega (arith, e)))

-- ---- brackets

pub open_paren : (d : ℕ) → Passes d (Token fixed.LeftParen ∷ []) (suc d)
open_paren d = token d (Token fixed.LeftParen) refl

pub open_bracket : (d : ℕ) → Passes d (Token fixed.LeftBracket ∷ []) (suc d)
open_bracket d = token d (Token fixed.LeftBracket) refl

pub open_brace : (d : ℕ) → Passes d (Token fixed.LeftBrace ∷ []) (suc d)
open_brace d = token d (Token fixed.LeftBrace) refl

pub close_paren : (d : ℕ) → Passes (suc d) (Token fixed.RightParen ∷ []) d
close_paren d = along (one_back d) (token (suc d) (Token fixed.RightParen) refl)

pub close_bracket : (d : ℕ) → Passes (suc d) (Token fixed.RightBracket ∷ []) d
close_bracket d = along (one_back d) (token (suc d) (Token fixed.RightBracket) refl)

pub close_brace : (d : ℕ) → Passes (suc d) (Token fixed.RightBrace ∷ []) d
close_brace d = along (one_back d) (token (suc d) (Token fixed.RightBrace) refl)

-- a `;` in brackets
pub inner_semicolon : (d : ℕ) → Passes (suc d) (Token fixed.Semicolon ∷ []) (suc d)
inner_semicolon d = token (suc d) (Token fixed.Semicolon) (some_depth d)

-- the `;` outside of brackets behind such tokens
pub ended : (xs rest : List Lexeme) → Passes 0 xs 0 → up_to_semicolon 0 (xs ++ (Token fixed.Semicolon ∷ rest)) ≡ length xs + 1
unfolding up_to_semicolon
ended xs rest p = p.passes (Token fixed.Semicolon ∷ rest)
