-- Rows of tokens, compared by their spelling from the first on.
use Rattle.std.proofs.Common.{◌≡◌, ℕ, ◌<◌, Bool, true, false, ◌&&◌, List, [], ◌∷◌, length, map, sym, ap, ◌∙◌, arith}
use Rattle.std.specs.Cmp.Lexicographic.{pointwise}
use Rattle.stk_base.specs.Text.{same_text}
use Rattle.stk_tree.specs.declared.fixed.Lexeme.{Lexeme}
use Rattle.stk_meaning.specs.Replacements.{spelled}

abbrev pub rows : List ℕ → List Lexeme → List Lexeme → Bool
rows bytes l r = pointwise same_text (map (spelled bytes) l) (map (spelled bytes) r)

pub goes_on : (bytes : List ℕ) (l r l2 r2 : List Lexeme) (a b : Lexeme) → l ≡ a ∷ l2 → r ≡ b ∷ r2 → same_text (spelled bytes a) (spelled bytes b) ≡ true → rows bytes l2 r2 ≡ rows bytes l r
goes_on bytes l r l2 r2 a b hl hr h = sym (ap (λ x. rows bytes x r) hl ∙ ap (λ y. rows bytes (a ∷ l2) y) hr ∙ ap (λ c. c && rows bytes l2 r2) h)

pub differs : (bytes : List ℕ) (l r l2 r2 : List Lexeme) (a b : Lexeme) → l ≡ a ∷ l2 → r ≡ b ∷ r2 → same_text (spelled bytes a) (spelled bytes b) ≡ false → false ≡ rows bytes l r
differs bytes l r l2 r2 a b hl hr h = sym (ap (λ x. rows bytes x r) hl ∙ ap (λ y. rows bytes (a ∷ l2) y) hr ∙ ap (λ c. c && rows bytes l2 r2) h)

pub shorter : (bytes : List ℕ) (l r l2 : List Lexeme) (a : Lexeme) → l ≡ a ∷ l2 → r ≡ [] → false ≡ rows bytes l r
shorter bytes l r l2 a hl hr = sym (ap (λ x. rows bytes x r) hl ∙ ap (λ y. rows bytes (a ∷ l2) y) hr)

pub longer : (bytes : List ℕ) (l r r2 : List Lexeme) (b : Lexeme) → l ≡ [] → r ≡ b ∷ r2 → false ≡ rows bytes l r
longer bytes l r r2 b hl hr = sym (ap (λ x. rows bytes x r) hl ∙ ap (λ y. rows bytes [] y) hr)

pub ended : (bytes : List ℕ) (l r : List Lexeme) → l ≡ [] → r ≡ [] → true ≡ rows bytes l r
ended bytes l r hl hr = sym (ap (λ x. rows bytes x r) hl ∙ ap (λ y. rows bytes [] y) hr)

-- one token less is left
pub shrinks : (old new : List Lexeme) (t : Lexeme) → old ≡ t ∷ new → length new < length old
shrinks old new t e = omega (arith, ap length e)
