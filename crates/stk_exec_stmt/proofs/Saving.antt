-- Registers that are saved before a scope, and given back behind it.
use Rattle.std.proofs.Common.{◌≡◌, ℕ, List, [], ◌∷◌, ◌++◌, ℤ, set, refl, ap}
use Rattle.stk_meaning.specs.Worlds.{restored, register}
use Rattle.stk_exec_stmt.specs.declared.scopes.Saved.{Saved}
use Rattle.stk_exec_stmt.specs.Saved.{saved_of, given_back}

-- what was saved is what a scope restores
pub restores : (ks : List ℕ) (old r : List ℤ) → given_back (saved_of ks old) r ≡ restored ks old r
restores [] old r = refl
restores (k ∷ ks) old r = ap (λ z. set z k (register k old)) (restores ks old r)

-- the last one first
pub last_first : (xs : List Saved) (x : Saved) (r : List ℤ) → given_back (xs ++ x ∷ []) r ≡ given_back xs (set r x.register x.number)
last_first [] x r = refl
last_first (y ∷ xs) x r = ap (λ z. set z y.register y.number) (last_first xs x r)

pub saved-append : (js ks : List ℕ) (r : List ℤ) → saved_of (js ++ ks) r ≡ saved_of js r ++ saved_of ks r
saved-append [] ks r = refl
saved-append (j ∷ js) ks r = ap (λ z. record { register = j; number = register j r } ∷ z) (saved-append js ks r)
