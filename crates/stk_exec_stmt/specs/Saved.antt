-- Registers with their numbers before a scope.
use Rattle.std.specs.Prelude.{ℕ, List, [], ◌∷◌, ℤ, set}
use Rattle.stk_meaning.specs.Worlds.{register}
use Rattle.stk_exec_stmt.specs.declared.scopes.Saved.{Saved}

-- what is kept of registers
abbrev pub saved_of : List ℕ → List ℤ → List Saved
saved_of [] r = []
saved_of (k ∷ ks) r = record { register = k; number = register k r } ∷ saved_of ks r

-- the registers with their numbers back, the last one first
abbrev pub given_back : List Saved → List ℤ → List ℤ
given_back [] r = r
given_back (x ∷ xs) r = set (given_back xs r) x.register x.number
