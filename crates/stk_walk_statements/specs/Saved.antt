-- Registers with their values before a scope.
use Rattle.std.specs.Prelude.{ℕ, ◌≡◌, List, [], ◌∷◌, ℤ, set}
use Rattle.stk_ctype.specs.declared.kind.IntKind.{IntKind}
use Rattle.stk_meaning.specs.Worlds.{register}
use Rattle.stk_walk_statements.specs.declared.scopes.Saved.{Saved}

-- the values were made, each at the kind of its register
abbrev pub SavedMade : {V : Type 0} → (IntKind → V → Type 0) → (ℕ → IntKind) → List (Saved V) → Type 0
SavedMade made kinds [] = Unit {0}
SavedMade made kinds (x ∷ xs) = made (kinds x.register) x.value × SavedMade made kinds xs

-- they are those of these registers in order, with their numbers
abbrev pub SavedShow : {V : Type 0} → (IntKind → V → ℤ → Type 0) → (ℕ → IntKind) → List (Saved V) → List ℕ → List ℤ → Type 0
SavedShow shows kinds [] [] r = Unit {0}
SavedShow shows kinds [] (k ∷ ks) r = ⊥
SavedShow shows kinds (x ∷ xs) [] r = ⊥
SavedShow shows kinds (x ∷ xs) (k ∷ ks) r = (x.register ≡ k) × shows (kinds k) x.value (register k r) × SavedShow shows kinds xs ks r

-- registers with their values back, the last one first
abbrev pub given_back : {V : Type 0} → List (Saved V) → List V → List V
given_back [] r = r
given_back (x ∷ xs) r = set (given_back xs r) x.register x.value
