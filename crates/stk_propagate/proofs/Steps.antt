-- The smallest steps over the fields of a trail.
use Rattle.std.proofs.Common.{◌≡◌, ◌≢◌, ℕ, ◌+◌, ◌*◌, ◌^◌, ◌<◌, ◌≤◌, List, [], ◌∷◌, ◌++◌, length, get_or, set, length-append, sym, ◌∙◌, ap, subst, inl, inr, arith, Option, Some, None}
use Rattle.std.specs.List.{Contains}
use Rattle.std.proofs.lemmas.List.{length-set}
use Rattle.stk_clauses.specs.declared.literal.Lit.{Lit}
use Rattle.stk_clauses.specs.Literals.{AreBelow}
use Rattle.stk_propagate.specs.Assigned.{Assigned}
use Rattle.stk_propagate.specs.WatchLists.{Chained}
use Rattle.stk_propagate.specs.declared.inner.Inner.{Inner}
use Rattle.stk_propagate.specs.Linked.{InSpare, AreLinked, IsLinked}
use Rattle.stk_propagate.proofs.Lists.{at_else}
use Rattle.stk_propagate.proofs.Links.{Watches, Spare, Links, linked_cases}
use Rattle.stk_propagate.proofs.Plain.{Plain, with_front, plain_free, plain_watch, plain_short, plain_taken, exchanged, plain_exchanged}

-- other true literals of the same variables
pub linked_vars : (f : Inner) (a : Assigned) → a.vars ≡ f.assigned.vars → IsLinked f → IsLinked (record f { assigned = a })
linked_vars f a ev s = record {
  sized = record { many = omega (arith, s.sized.many, ev); numbered = s.sized.numbered; few = s.sized.few };
  linked = λ l x lt. s.linked l x (omega (arith, lt, ev));
  spare = λ x h. s.spare x (subst (λ (n : ℕ). Contains (get_or f.chains.chains (2 * n) []) x) ev h);
}

pub linked_assigned : (f g : Inner) → g ≡ record f { assigned = g.assigned } → g.assigned.vars ≡ f.assigned.vars → IsLinked f → IsLinked g
linked_assigned f g e ev s = subst IsLinked (sym e) (linked_vars f g.assigned ev s)

pub are_linked_vars : (f : Inner) (a : Assigned) (w : Lit) → a.vars ≡ f.assigned.vars → AreLinked f w (InSpare f) → AreLinked (record f { assigned = a }) w (InSpare (record f { assigned = a }))
are_linked_vars f a w ev s l x lt =
    let o = s l x (omega (arith, lt, ev)) in (
      (λ h. elim h [ inl k ↦ o.0 (inl k) | inr k ↦ o.0 (inr (k.0, subst (λ (n : ℕ). Contains (get_or f.chains.chains (2 * n) []) x) ev k.1)) ]),
      (λ r. elim (o.1 r) [ inl k ↦ inl k | inr k ↦ inr (k.0, subst (λ (n : ℕ). Contains (get_or f.chains.chains (2 * n) []) x) (sym ev) k.1) ]),
    )

-- a clause's literal has a variable below vars
pub member_below : (vars : ℕ) (c : List Lit) (l : Lit) → AreBelow vars c → Contains c l → l.0 < 2 * vars
member_below vars c l b h = subst (λ (y : Lit). y.0 < 2 * vars) h.2 (b h.0 l h.1)

-- the facts of a trail's chains, by what they are about
pub record LinkedAs (k : Chained) (vars looked : ℕ) (ws : Watches) : Type 0 where
  pub many : length k.chains ≡ 2 * vars + 1
  pub numbered : k.numbers ≡ 2 * length ws
  pub few : length ws < 2 ^ 31
  pub plain : Plain k.chains vars looked ws
  pub spare : (x : ℕ) → Spare k.chains vars x → ⊥

pub linked_as : (f : Inner) → IsLinked f → LinkedAs f.chains f.assigned.vars f.looked f.watches.items
linked_as f s = record { many = s.sized.many; numbered = s.sized.numbered; few = s.sized.few; plain = s.linked; spare = s.spare }

pub as_linked : (f : Inner) → LinkedAs f.chains f.assigned.vars f.looked f.watches.items → IsLinked f
as_linked f s = record { sized = record { many = s.many; numbered = s.numbered; few = s.few }; linked = s.plain; spare = s.spare }

-- a clause without watches was looked at
pub linked_short : (k : Chained) (vars looked : ℕ) (ws : Watches) → get_or ws looked None ≡ None → LinkedAs k vars looked ws → LinkedAs k vars (looked + 1) ws
linked_short k vars looked ws none s = record { many = s.many; numbered = s.numbered; few = s.few; plain = plain_short k.chains vars looked ws none s.plain; spare = s.spare }

-- the next clause watches a and b
pub linked_watch : (k : Chained) (chains : List (List ℕ)) (numbers vars i : ℕ) (ws : Watches) (a b : Lit) → chains ≡ with_front (with_front k.chains a.0 (2 * i)) b.0 (2 * i + 1) → numbers ≡ k.numbers → a.0 < 2 * vars → b.0 < 2 * vars → i < length ws
    → LinkedAs k vars i ws → LinkedAs (record { chains = chains; numbers = numbers }) vars (i + 1) (set ws i (Some (a, b)))
linked_watch k chains numbers vars i ws a b ec en ha hb lt s =
    let cs : List (List ℕ) = k.chains in
    let ds : List (List ℕ) = with_front cs a.0 (2 * i) in
    let es : List (List ℕ) = with_front ds b.0 (2 * i + 1) in
    let long : length es ≡ length cs = length-set ds b.0 ((2 * i + 1) ∷ get_or ds b.0 []) ∙ length-set cs a.0 ((2 * i) ∷ get_or cs a.0 []) in
    let na : 2 * vars ≢ a.0 = λ e. omega (arith, e, ha) in
    let nb : 2 * vars ≢ b.0 = λ e. omega (arith, e, hb) in
    let spare : get_or es (2 * vars) [] ≡ get_or cs (2 * vars) [] = at_else ds b.0 (2 * vars) ((2 * i + 1) ∷ get_or ds b.0 []) nb ∙ at_else cs a.0 (2 * vars) ((2 * i) ∷ get_or cs a.0 []) na in
    let size : length (set ws i (Some (a, b))) ≡ length ws = length-set ws i (Some (a, b)) in
    record {
      many = ap length ec ∙ long ∙ s.many;
      numbered = omega (arith, en, s.numbered, size);
      few = omega (arith, s.few, size);
      plain = subst (λ xs. Plain xs vars (i + 1) (set ws i (Some (a, b)))) (sym ec) (plain_watch cs vars i ws a b s.many ha hb lt s.plain);
      spare = λ x h. s.spare x (subst (λ ys. Contains ys x) spare (subst (λ xs. Contains (get_or xs (2 * vars) []) x) ec h));
    }

-- one more clause was taken in
pub linked_taken : (k : Chained) (chains : List (List ℕ)) (numbers vars looked : ℕ) (ws : Watches) (w : Option (Lit × Lit)) → chains ≡ k.chains → numbers ≡ k.numbers + 2 → looked ≤ length ws → length ws + 1 < 2 ^ 31
    → LinkedAs k vars looked ws → LinkedAs (record { chains = chains; numbers = numbers }) vars looked (ws ++ w ∷ [])
linked_taken k chains numbers vars looked ws w ec en le few s =
    let size : length (ws ++ w ∷ []) ≡ length ws + 1 = length-append ws (w ∷ []) in
    record {
      many = ap length ec ∙ s.many;
      numbered = omega (arith, en, s.numbered, size);
      few = omega (arith, few, size);
      plain = subst (λ xs. Plain xs vars looked (ws ++ w ∷ [])) (sym ec) (plain_taken k.chains vars looked ws w le s.plain);
      spare = λ x h. s.spare x (subst (λ xs. Contains (get_or xs (2 * vars) []) x) ec h);
    }

-- the places of the next clause are in no chain
pub first_free : (k : Chained) (vars i : ℕ) (ws : Watches) → LinkedAs k vars i ws → (m : ℕ) → Contains (get_or k.chains m []) (2 * i) → ⊥
first_free k vars i ws s m h = plain_free k.chains vars i ws (2 * i) s.many s.spare s.plain (omega arith) m h

pub second_free : (k : Chained) (chains : List (List ℕ)) (vars i : ℕ) (ws : Watches) (a : Lit) → a.0 < 2 * vars → chains ≡ with_front k.chains a.0 (2 * i) → LinkedAs k vars i ws → (m : ℕ) → Contains (get_or chains m []) (2 * i + 1) → ⊥
second_free k chains vars i ws a ha ec s m h =
    elim (linked_cases k.chains a.0 (2 * i) m (2 * i + 1) (omega (arith, ha, s.many)) (subst (λ xs. Contains (get_or xs m []) (2 * i + 1)) ec h)) [
      | inl p ↦ omega (arith, p.1)
      | inr p ↦ plain_free k.chains vars i ws (2 * i + 1) s.many s.spare s.plain (omega arith) m p
    ]

-- when w's chain is empty, and the spare chain takes its place
pub linked_exchanged : (k : Chained) (chains : List (List ℕ)) (numbers vars looked : ℕ) (ws : Watches) (w : Lit) → w.0 < 2 * vars → length k.chains ≡ 2 * vars + 1 → k.numbers ≡ 2 * length ws → length ws < 2 ^ 31 → get_or k.chains w.0 [] ≡ []
    → Links k.chains vars looked ws w (Spare k.chains vars) → chains ≡ exchanged k.chains w.0 (2 * vars) → numbers ≡ k.numbers → LinkedAs (record { chains = chains; numbers = numbers }) vars looked ws
linked_exchanged k chains numbers vars looked ws w lt many numbered few empty links ec en =
    let cs : List (List ℕ) = k.chains in
    let ds : List (List ℕ) = set cs w.0 (get_or cs (2 * vars) []) in
    let p = plain_exchanged cs vars looked ws w lt many empty links in
    record {
      many = ap length ec ∙ length-set ds (2 * vars) (get_or cs w.0 []) ∙ length-set cs w.0 (get_or cs (2 * vars) []) ∙ many;
      numbered = en ∙ numbered;
      few = few;
      plain = subst (λ xs. Plain xs vars looked ws) (sym ec) p.0;
      spare = λ x h. p.1 x (subst (λ xs. Contains (get_or xs (2 * vars) []) x) ec h);
    }

pub are_linked_assigned : (f g : Inner) (w : Lit) → g ≡ record f { assigned = g.assigned } → g.assigned.vars ≡ f.assigned.vars → AreLinked f w (InSpare f) → AreLinked g w (InSpare g)
are_linked_assigned f g w e ev s = subst (λ (x : Inner). AreLinked x w (InSpare x)) (sym e) (are_linked_vars f g.assigned w ev s)

pub spare_assigned : (f g : Inner) (y : ℕ) → g ≡ record f { assigned = g.assigned } → g.assigned.vars ≡ f.assigned.vars → InSpare g y → InSpare f y
spare_assigned f g y e ev h = subst (λ (n : ℕ). Contains (get_or f.chains.chains (2 * n) []) y) ev (subst (λ (x : Inner). InSpare x y) e h)
