-- What a reader found: a tree that prints what stood there, and that is well placed, fits the names and isn't too high.
use Rattle.std.proofs.Common.{◌≡◌, ℕ, ◌≤◌, Bool, true, List, Option, Some}
use Rattle.stk_tree.specs.declared.fixed.Lexeme.{Lexeme}

pub record Stands {A : Type 0} (prints : A → List Lexeme → List Lexeme) (is_placed is_fit : A → Bool) (nesting : A → ℕ) (room : ℕ) (ts : List Lexeme) (x : A × List Lexeme) : Type 0 where
  pub text : ts ≡ prints x.0 x.1
  pub placed : is_placed x.0 ≡ true
  pub fits : is_fit x.0 ≡ true
  pub low : nesting x.0 ≤ room

-- a reader that finds only such trees
abbrev pub FindsOnly : {A : Type 0} → (A → List Lexeme → List Lexeme) → (A → Bool) → (A → Bool) → (A → ℕ) → ℕ → (List Lexeme → Option (A × List Lexeme)) → Type 0
FindsOnly {A = A} prints is_placed is_fit nesting room reader = (ts : List Lexeme) (x : A × List Lexeme) → reader ts ≡ Some x → Stands prints is_placed is_fit nesting room ts x
