-- What one hint says of the hints from it on.
use Rattle.std.proofs.Common.{◌≡◌, ◌↔◌, ℕ, ◌<◌, List, [], ◌∷◌, length, get_or, set, subst, inl, inr, arith}
use Rattle.std.specs.List.{Contains}
use Rattle.stk_clauses.specs.declared.literal.Lit.{Lit}
use Rattle.stk_clauses.specs.Literals.{negated}
use Rattle.stk_clauses.specs.Hints.{IsUnit, With, Leads}
use Rattle.stk_clauses.proofs.Values.{lit_cases}
use Rattle.stk_clauses.proofs.Steps.{Leads-same}
use Rattle.stk_check.specs.Marks.{IsMarked, IsSeen}
use Rattle.stk_check.specs.declared.marks.Seen.TheVariants.{Other}
use Rattle.stk_check.proofs.Marking.{marked_set}

module _ (cs : List (List Lit)) (S : Lit → Type 0) (h : ℕ) where
  pub leads_range : (hs : List ℕ) → Leads cs S (h ∷ hs) → h < length cs
  leads_range [] r = r.0
  leads_range (g ∷ hs) r = r.0

  pub leads_early : (hs : List ℕ) → ((m : Lit) → Contains (get_or cs h []) m → S (negated m)) → 0 < length hs → Leads cs S (h ∷ hs) → ⊥
  leads_early [] f lt r = omega (arith, lt)
  leads_early (g ∷ hs) f lt (in', (l, (cl, nt, nf, others), rest)) = nf (f l cl)

  pub leads_late : (l : Lit) → IsUnit S (get_or cs h []) l → Leads cs S (h ∷ []) → ⊥
  leads_late l u r = u.2 (r.1 l u.0)

  pub leads_other : (hs : List ℕ) → IsSeen S (get_or cs h []) Other → Leads cs S (h ∷ hs) → ⊥
  leads_other [] o r = o.0 r.1
  leads_other (g ∷ hs) o (in', (l, u, rest)) = o.1 l u

  one_unit : (c : List Lit) (l k : Lit) → IsUnit S c l → IsUnit S c k → k ≡ l
  one_unit c l k u w = elim (lit_cases k l) [ inl e ↦ e | inr n ↦ absurd (w.2 (u.3 k w.0 n)) ]

  pub leads_next : (hs : List ℕ) (l : Lit) → h < length cs → IsUnit S (get_or cs h []) l → 0 < length hs → Leads cs S (h ∷ hs) ↔ Leads cs (With S l) hs
  leads_next [] l in' u lt = absurd (omega (arith, lt))
  leads_next (g ∷ hs) l in' u lt =
      (λ r. subst (λ y. Leads cs (With S y) (g ∷ hs)) (one_unit (get_or cs h []) l r.1.0 u r.1.1) r.1.2, λ r. (in', (l, u, r)))

pub leads_marked : (cs : List (List Lit)) (marks : List ℕ) (stamp h : ℕ) (hs : List ℕ) (l : Lit) → h < length cs → l.0 < length marks → IsUnit (IsMarked marks stamp) (get_or cs h []) l → 0 < length hs → Leads cs (IsMarked marks stamp) (h ∷ hs) ↔ Leads cs (IsMarked (set marks l.0 stamp) stamp) hs
leads_marked cs marks stamp h hs l in' lt u some =
    let n = leads_next cs (IsMarked marks stamp) h hs l in' u some in
    let s = marked_set marks stamp l lt in
    let W : Lit → Type 0 = With (IsMarked marks stamp) l in
    let M : Lit → Type 0 = IsMarked (set marks l.0 stamp) stamp in
    (λ r. Leads-same cs W M hs (λ m. (s m).1) (λ m. (s m).0) (n.0 r), λ r. n.1 (Leads-same cs M W hs (λ m. (s m).0) (λ m. (s m).1) r))
