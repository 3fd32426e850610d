-- Fewer true literals.
use Rattle.std.proofs.Common.{◌≡◌, ℕ, ◌+◌, ◌*◌, ◌<◌, ◌≤◌, Bool, true, false, List, [], ◌∷◌, ◌++◌, length, get_or, take, set, sym, ◌∙◌, ap, subst, inl, inr, arith, cond, Option, None}
use Rattle.std.specs.List.{Contains, count_by, sum_by}
use Rattle.std.specs.Vec.{vec_capacity}
use Rattle.std.proofs.lemmas.Bool.{cases_eq, cases_order, false≢true}
use Rattle.std.proofs.lemmas.List.{get_or-set_same, get_or-set_other, length-set, length-take, get_or-take, take-take, take_more, take_all}
use Rattle.std.proofs.lemmas.List.Sums.{sum_by-set, sum_by_push}
use Rattle.std.proofs.lemmas.List.Elements.{All-take, Contains-push_cases, Contains-append_left, Contains-push}
use Rattle.stk_clauses.specs.declared.literal.Lit.{Lit}
use Rattle.stk_clauses.specs.Literals.{AreBelow}
use Rattle.stk_clauses.specs.Propagation.{IsOpen}
use Rattle.stk_clauses.proofs.Values.{same_lit}
use Rattle.stk_propagate.specs.Assigned.{Assigned, IsAssigned, AreFresh}
use Rattle.stk_propagate.specs.AssignmentInside.{seen_as, AreTruths, ArePlaces, HaveLevels, IsInside}
use Rattle.stk_propagate.specs.Trailed.{one_if_assumed}
use Rattle.stk_propagate.specs.declared.assignment.Assignment.TheInside.{Inside}
use Rattle.stk_propagate.proofs.Pushing.{itself}

truths_drop : (truth : List Bool) (t : List Lit) (l : Lit) → l.0 < length truth → IsOpen t l → AreTruths truth (t ++ l ∷ []) → AreTruths (set truth l.0 false) t
truths_drop truth t l lt o s = record {
  known = λ m h. elim (cases_eq m.0 l.0) [
    | inl e ↦ absurd (o.0 (subst (λ y. Contains t y) (same_lit m l e) h))
    | inr n ↦ get_or-set_other truth l.0 m.0 false false n ∙ s.known m (Contains-append_left t (l ∷ []) m h)
  ];
  back = λ m h. elim (cases_eq m.0 l.0) [
    | inl e ↦ absurd (false≢true (sym (get_or-set_same truth l.0 false false lt) ∙ sym (ap (λ n. get_or (set truth l.0 false) n false) e) ∙ h))
    | inr n ↦ elim (Contains-push_cases t l m (s.back m (sym (get_or-set_other truth l.0 m.0 false false n) ∙ h))) [ inl k ↦ k | inr f ↦ absurd (n (ap (λ (y : Lit). y.0) (sym f))) ]
  ];
}

count_drop : (truth : List Bool) (i : ℕ) → i < length truth → get_or truth i false ≡ true → count_by itself (set truth i false) + 1 ≡ count_by itself truth
count_drop truth i lt e =
    let f : Bool → ℕ = λ b. cond b 1 0 in
    let a : f (get_or truth i false) ≡ 1 = ap f e in
    omega (arith, sum_by-set f truth i false false lt, a)

pub fresh_take : (n : ℕ) (t : List Lit) → AreFresh t → AreFresh (take n t)
fresh_take n t s k d h =
    let lt : k < n = omega (arith, h, length-take n t) in
    let in' : k < length t = omega (arith, h, length-take n t) in
    let le : k ≤ n = omega arith in
    rw (take-take k n t le, get_or-take n t k d lt) (s k d in')

pub assigned_take : (a b : Assigned) (n : ℕ) → IsAssigned a → b.vars ≡ a.vars → b.literals ≡ take n a.literals → b.reasons ≡ take n a.reasons → IsAssigned b
assigned_take a b n s ev el er = record {
  paired = omega (arith, ap length el, ap length er, length-take n a.literals, length-take n a.reasons, s.paired);
  within = subst (λ v. AreBelow v b.literals) (sym ev) (subst (λ xs. AreBelow a.vars xs) (sym el) (All-take (λ (y : Lit). y.0 < 2 * a.vars) n a.literals s.within));
  fresh = subst AreFresh (sym el) (fresh_take n a.literals s.fresh);
}

places_take : (places : List ℕ) (n : ℕ) (t : List Lit) → ArePlaces places t → ArePlaces places (take n t)
places_take places n t s k d h =
    let lt : k < n = omega (arith, h, length-take n t) in
    let in' : k < length t = omega (arith, h, length-take n t) in
    rw (get_or-take n t k d lt) (s k d in')

levels_take : (levels : List ℕ) (n : ℕ) (t : List Lit) (rs : List (Option ℕ)) → HaveLevels levels t rs → HaveLevels levels (take n t) (take n rs)
levels_take levels n t rs s k d h =
    let lt : k < n = omega (arith, h, length-take n t) in
    let in' : k < length t = omega (arith, h, length-take n t) in
    rw (get_or-take n t k d lt) (s k d in' ∙ ap (sum_by one_if_assumed) (sym (take-take (k + 1) n rs (omega (arith, lt)))))

-- without the last one
depth_drop : (n : ℕ) (rs : List (Option ℕ)) → length rs ≡ n + 1 → sum_by one_if_assumed (take n rs) + one_if_assumed (get_or rs n None) ≡ sum_by one_if_assumed rs
depth_drop n rs len = sym (sum_by_push one_if_assumed (take n rs) (get_or rs n None)) ∙ ap (sum_by one_if_assumed) (sym (take_more rs n None (omega (arith, len))) ∙ take_all (n + 1) rs (omega (arith, len)))

pub inside_drop : (f g : Inside) (n : ℕ) (l : Lit) → IsInside f → length f.literals.items ≡ n + 1 → l ≡ get_or f.literals.items n l
    → g.vars ≡ f.vars → g.truth.items ≡ set f.truth.items l.0 false → g.places.items ≡ f.places.items → g.levels.items ≡ f.levels.items → g.depth + one_if_assumed (get_or f.reasons.items n None) ≡ f.depth → g.literals.items ≡ take n f.literals.items → g.reasons.items ≡ take n f.reasons.items
    → vec_capacity f.literals ≤ vec_capacity g.literals → vec_capacity f.reasons ≤ vec_capacity g.reasons → IsInside g
inside_drop f g n l s len at ev et ep eg eh el er cl cr =
    let t : List Lit = f.literals.items in
    let truth : List Bool = f.truth.items in
    let lt : n < length t = omega arith in
    let small : l.0 < 2 * f.vars = subst (λ (y : Lit). y.0 < 2 * f.vars) (sym at) (s.facts.within n l lt) in
    let in' : l.0 < length truth = omega (arith, s.sized, small) in
    let whole : t ≡ take n t ++ l ∷ [] = sym (take_all (n + 1) t (omega (arith, len))) ∙ take_more t n l lt ∙ ap (λ y. take n t ++ y ∷ []) (sym at) in
    let o : IsOpen (take n t) l = subst (λ y. IsOpen (take n t) y) (sym at) (s.facts.fresh n l lt) in
    let marked : get_or truth l.0 false ≡ true = s.truths.known l (subst (λ xs. Contains xs l) (sym whole) (Contains-push (take n t) l)) in
    let long : length g.literals.items ≡ n = omega (arith, ap length el, length-take n t, len) in
    record {
      facts = assigned_take (seen_as f) (seen_as g) n s.facts ev el er;
      sized = omega (arith, ap length et, length-set truth l.0 false, s.sized, ev);
      truths = subst (λ xs. AreTruths xs g.literals.items) (sym et) (subst (λ xs. AreTruths (set truth l.0 false) xs) (sym el) (truths_drop truth (take n t) l in' o (subst (λ xs. AreTruths truth xs) whole s.truths)));
      counted = omega (arith, ap (count_by itself) et, count_drop truth l.0 in' marked, s.counted, long, len);
      literal_room = omega (arith, ev, s.literal_room, cl);
      reason_room = omega (arith, ev, s.reason_room, cr);
      placed_sized = omega (arith, ap length ep, s.placed_sized, ev);
      placed = subst (λ xs. ArePlaces xs g.literals.items) (sym ep) (subst (λ xs. ArePlaces f.places.items xs) (sym el) (places_take f.places.items n t s.placed));
      leveled_sized = omega (arith, ap length eg, s.leveled_sized, ev);
      leveled = subst (λ xs. HaveLevels xs g.literals.items g.reasons.items) (sym eg) (subst (λ xs. HaveLevels f.levels.items xs g.reasons.items) (sym el) (subst (λ xs. HaveLevels f.levels.items (take n t) xs) (sym er) (levels_take f.levels.items n t f.reasons.items s.leveled)));
      deep = omega (arith, eh, s.deep, ap (sum_by one_if_assumed) er, depth_drop n f.reasons.items (omega (arith, s.facts.paired, len)));
    }

-- a literal stands at one place
pub one_place : (t : List Lit) (l : Lit) (k m : ℕ) → AreFresh t → k < length t → m < length t → get_or t k l ≡ l → get_or t m l ≡ l → k ≡ m
one_place t l k m s hk hm ek em =
    elim (cases_order k m) [
      | inl e ↦ e
      | inr r ↦ elim r [
        | inl lt ↦ absurd ((s m l hm).0 (before k m lt hm ek em))
        | inr gt ↦ absurd ((s k l hk).0 (before m k gt hk em ek))
      ]
    ]
  where
    before : (i j : ℕ) → i < j → j < length t → get_or t i l ≡ l → get_or t j l ≡ l → Contains (take j t) (get_or t j l)
    before i j lt hj ei ej = rw ej (i, omega (arith, lt, hj, length-take j t), get_or-take j t i l lt ∙ ei)
