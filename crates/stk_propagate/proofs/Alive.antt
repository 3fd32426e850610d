-- A clause that may be taken in was settled at each assumption.
use Rattle.std.proofs.Common.{◌≢◌, ◌⊎◌, ℕ, List, [], ◌∷◌, take, sym, ◌∙◌, subst, inl, inr, refl, arith}
use Rattle.std.specs.List.{Contains}
use Rattle.stk_clauses.specs.declared.literal.Lit.{Lit}
use Rattle.stk_clauses.specs.Literals.{negated}
use Rattle.stk_clauses.specs.Propagation.{IsQuiet}
use Rattle.stk_clauses.proofs.Values.{lit_cases}
use Rattle.stk_clauses.proofs.Members.{contains_cases, contains_head, contains_tail, contains_split}
use Rattle.stk_propagate.specs.Assigned.{Assigned}
use Rattle.stk_propagate.specs.Trailed.{IsAssumed}
use Rattle.stk_propagate.specs.Fitting.{IsSettled, IsAlive, IsTimely}
use Rattle.stk_propagate.proofs.Lists.{in_take}

-- two literals that aren't false make a clause quiet
pub two_loose : (t c : List Lit) (a b : Lit) → a ≢ b → Contains c a → Contains c b → (Contains t (negated a) → ⊥) → (Contains t (negated b) → ⊥) → IsQuiet t c
two_loose t c a b ne ca cb na nb =
    elim (contains_cases t a) [
      | inl h ↦ inl (a, ca, h)
      | inr m ↦ elim (contains_cases t b) [ inl h ↦ inl (b, cb, h) | inr n ↦ inr (a, b, ne, ca, cb, (m, na), (n, nb)) ]
    ]

-- the literals other than u are false, or one isn't
others_cases : (t c : List Lit) (u : Lit) → ((m : Lit) → Contains c m → m ≢ u → Contains t (negated m)) ⊎ ((m : Lit) × Contains c m × (m ≢ u) × (Contains t (negated m) → ⊥))
others_cases t [] u = inl (λ m h. absurd (omega (arith, h.1)))
others_cases t (x ∷ c) u =
    elim (others_cases t c u) [
      | inr h ↦ inr (h.0, contains_tail x c h.0 h.1, h.2, h.3)
      | inl all ↦ elim (lit_cases x u) [
        | inl e ↦ inl (λ m h ne. elim (contains_split x c m h) [ inl f ↦ absurd (ne (sym f ∙ e)) | inr k ↦ all m k ne ])
        | inr n ↦ elim (contains_cases t (negated x)) [
          | inl f ↦ inl (λ m h ne. elim (contains_split x c m h) [ inl g ↦ subst (λ y. Contains t (negated y)) g f | inr k ↦ all m k ne ])
          | inr g ↦ inr (x, contains_head x c, n, g)
        ]
      ]
    ]

pub settled_before : (a : Assigned) (c : List Lit) → IsAlive a.literals c → IsTimely a c → (k : ℕ) → IsAssumed a k → IsSettled (take k a.literals) c
settled_before a c (inl e) timely k p = inr e
settled_before a c (inr (u, cu, nu)) timely k p =
    let t : List Lit = a.literals in
    let loose : Contains (take k t) (negated u) → ⊥ = λ h. nu (in_take t k (negated u) h) in
    elim (others_cases t c u) [
      | inr h ↦ inl (two_loose (take k t) c h.0 u h.2 h.1 cu (λ f. h.3 (in_take t k (negated h.0) f)) loose)
      | inl all ↦ elim (timely u cu nu all) [
        | inl none ↦ absurd (none k p)
        | inr h ↦ inl (two_loose (take k t) c h.0 u h.2 h.1 cu (h.3 k p) loose)
      ]
    ]

-- where nothing is true, nothing is false
pub alive_blank : (c : List Lit) → IsAlive [] c
alive_blank [] = inl refl
alive_blank (x ∷ c) = inr (x, contains_head x c, λ h. omega (arith, h.1))
