-- Watched literals.
use Rattle.std.proofs.Common.{◌≢◌, ℕ, ◌%◌, Bool, true, false, cond, eqb, List, sym, inl, inr, Option, Some, None}
use Rattle.std.specs.List.{Contains}
use Rattle.stk_clauses.specs.declared.literal.Lit.{Lit}
use Rattle.stk_clauses.specs.Literals.{negated}
use Rattle.stk_clauses.specs.Propagation.{IsQuiet}
use Rattle.stk_clauses.proofs.Members.{contains_cases}
use Rattle.stk_propagate.specs.Fitting.{IsWatched, IsCalm}
use Rattle.stk_propagate.specs.Linked.{pair_of}

-- a clause whose watches are calm is quiet
pub calm_quiet : (t c : List Lit) (w : Option (Lit × Lit)) → IsWatched c w → IsCalm t t c w → IsQuiet t c
calm_quiet t c None s q = inl q
calm_quiet t c (Some w) s q =
    elim (contains_cases t (negated w.0)) [
      | inl f ↦ inl (w.1, s.1, q.0 f)
      | inr na ↦ elim (contains_cases t (negated w.1)) [
        | inl f ↦ inl (w.0, s.0, q.1 f)
        | inr nb ↦ elim (contains_cases t w.0) [
          | inl h ↦ inl (w.0, s.0, h)
          | inr ma ↦ elim (contains_cases t w.1) [
            | inl h ↦ inl (w.1, s.1, h)
            | inr mb ↦ inr (w.0, w.1, s.2, s.0, s.1, (ma, na), (mb, nb))
          ]
        ]
      ]
    ]

-- watches stay calm as literals become true
pub calm_more : (s t u c : List Lit) (w : Option (Lit × Lit)) → ((x : Lit) → Contains t x → Contains u x) → IsCalm s t c w → IsCalm s u c w
calm_more s t u c None more q = (q.0, q.1, more q.0 q.2)
calm_more s t u c (Some w) more q = (λ h. more w.1 (q.0 h), λ h. more w.0 (q.1 h))

-- a pair, whichever of the two stands first
pub watched_pair : (x : ℕ) (l o : Lit) (c : List Lit) → IsWatched c (Some (pair_of x l o)) → Contains c l × Contains c o × (l ≢ o)
watched_pair x l o c h = at (eqb (x % 2) 0) h
  where
    at : (b : Bool) → IsWatched c (Some (cond b (l, o) (o, l))) → Contains c l × Contains c o × (l ≢ o)
    at true h = h
    at false h = (h.1, h.0, λ e. h.2 (sym e))

pub pair_watched : (x : ℕ) (l o : Lit) (c : List Lit) → Contains c l → Contains c o → l ≢ o → IsWatched c (Some (pair_of x l o))
pair_watched x l o c a b ne = at (eqb (x % 2) 0)
  where
    at : (b' : Bool) → IsWatched c (Some (cond b' (l, o) (o, l)))
    at true = (a, b, ne)
    at false = (b, a, λ e. ne (sym e))

pub calm_pair : (x : ℕ) (l o : Lit) (s t c : List Lit) → IsCalm s t c (Some (pair_of x l o)) → (Contains s (negated l) → Contains t o) × (Contains s (negated o) → Contains t l)
calm_pair x l o s t c h = at (eqb (x % 2) 0) h
  where
    at : (b : Bool) → IsCalm s t c (Some (cond b (l, o) (o, l))) → (Contains s (negated l) → Contains t o) × (Contains s (negated o) → Contains t l)
    at true h = h
    at false h = (h.1, h.0)

pub pair_calm : (x : ℕ) (l o : Lit) (s t c : List Lit) → (Contains s (negated l) → Contains t o) → (Contains s (negated o) → Contains t l) → IsCalm s t c (Some (pair_of x l o))
pair_calm x l o s t c f g = at (eqb (x % 2) 0)
  where
    at : (b : Bool) → IsCalm s t c (Some (cond b (l, o) (o, l)))
    at true = (f, g)
    at false = (g, f)
