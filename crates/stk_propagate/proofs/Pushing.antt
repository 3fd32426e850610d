-- One more true literal.
use Rattle.std.proofs.Common.{◌≡◌, ◌≢◌, ◌⊎◌, ◌↔◌, ℕ, ◌+◌, ◌-◌, ◌*◌, ◌/◌, ◌%◌, ◌<◌, ◌≤◌, Bool, true, false, IsTrue, List, [], ◌∷◌, ◌++◌, length, get_or, set, sym, ◌∙◌, ap, subst, inl, inr, arith, Option, length-append, cond}
use Rattle.std.specs.List.{Contains, count_by, sum_by}
use Rattle.std.specs.Vec.{vec_capacity}
use Rattle.std.proofs.lemmas.Bool.{cases_eq, cases_lt, cases_Bool}
use Rattle.std.proofs.lemmas.List.{get_or-set_same, get_or-set_other, length-set, take-append-le, take_all, take_at, get_or_append_left, get_or_at, get_or_read}
use Rattle.std.proofs.lemmas.List.Sums.{sum_by-set, sum_by_push, count_by-le-length}
use Rattle.std.proofs.lemmas.List.Elements.{All-push, Contains-push, Contains-append_left, Contains-push_cases, Contains-get_or}
use Rattle.stk_clauses.specs.declared.literal.Lit.{Lit}
use Rattle.stk_clauses.specs.Literals.{negated, AreBelow}
use Rattle.stk_clauses.specs.Propagation.{IsOpen}
use Rattle.stk_clauses.proofs.Values.{same_lit}
use Rattle.stk_propagate.specs.Assigned.{Assigned, IsAssigned, AreFresh}
use Rattle.stk_propagate.specs.AssignmentInside.{seen_as, AreTruths, ArePlaces, HaveLevels, IsInside}
use Rattle.stk_propagate.specs.Trailed.{one_if_assumed, level_of}
use Rattle.stk_propagate.specs.declared.assignment.Assignment.TheInside.{Inside}

-- what the table tells of a literal
pub true_where : (truth : List Bool) (t : List Lit) (l : Lit) (b : Bool) → l.0 < length truth → b ≡ get_or truth l.0 b → AreTruths truth t → IsTrue b ↔ Contains t l
true_where truth t l b lt e s =
    let r : b ≡ get_or truth l.0 false = get_or_read truth l.0 b lt e false in
    (λ h. s.back l (sym r ∙ h), λ h. r ∙ s.known l h)

-- two literals of one variable
pub same_variable : (l m : Lit) → l.0 / 2 ≡ m.0 / 2 → (m ≡ l) ⊎ (m ≡ negated l)
same_variable l m e =
    elim (cases_eq (m.0 % 2) (l.0 % 2)) [
      | inl f ↦ let n : m.0 ≡ l.0 = omega arith in inl (same_lit m l n)
      | inr f ↦ let n : m.0 ≡ l.0 + 1 - 2 * (l.0 % 2) = omega arith in inr (same_lit m (negated l) n)
    ]

truths_push : (truth : List Bool) (t : List Lit) (l : Lit) → l.0 < length truth → AreTruths truth t → AreTruths (set truth l.0 true) (t ++ l ∷ [])
truths_push truth t l lt s = record {
  known = λ m h. elim (cases_eq m.0 l.0) [
    | inl e ↦ rw e (get_or-set_same truth l.0 true false lt)
    | inr n ↦ elim (Contains-push_cases t l m h) [
      | inl k ↦ get_or-set_other truth l.0 m.0 true false n ∙ s.known m k
      | inr e ↦ absurd (n (ap (λ (y : Lit). y.0) (sym e)))
    ]
  ];
  back = λ m h. elim (cases_eq m.0 l.0) [
    | inl e ↦ subst (λ y. Contains (t ++ l ∷ []) y) (sym (same_lit m l e)) (Contains-push t l)
    | inr n ↦ Contains-append_left t (l ∷ []) m (s.back m (sym (get_or-set_other truth l.0 m.0 true false n) ∙ h))
  ];
}

places_push : (places : List ℕ) (t : List Lit) (l : Lit) → l.0 / 2 < length places → IsOpen t l → ArePlaces places t → ArePlaces (set places (l.0 / 2) (length t)) (t ++ l ∷ [])
places_push places t l lt o s k d h =
    elim (cases_lt k (length t)) [
      | inl a ↦
          let m : Lit = get_or t k d in
          let other : m.0 / 2 ≢ l.0 / 2 = λ e. elim (same_variable l m (sym e)) [
            | inl f ↦ o.0 (subst (λ y. Contains t y) f (Contains-get_or t k d a))
            | inr f ↦ o.1 (subst (λ y. Contains t y) f (Contains-get_or t k d a))
          ] in
          rw (get_or_append_left t (l ∷ []) d k a) (get_or-set_other places (l.0 / 2) (m.0 / 2) (length t) 0 other ∙ s k d a)
      | inr b ↦
          let e : length t ≡ k = omega (arith, h, b, length-append t (l ∷ [])) in
          rw (get_or_at t l [] d k e) (get_or-set_same places (l.0 / 2) (length t) 0 lt ∙ e)
    ]

levels_push : (levels : List ℕ) (t : List Lit) (rs : List (Option ℕ)) (l : Lit) (r : Option ℕ) (n : ℕ) → l.0 / 2 < length levels → length rs ≡ length t → IsOpen t l → n ≡ sum_by one_if_assumed (rs ++ r ∷ []) → HaveLevels levels t rs → HaveLevels (set levels (l.0 / 2) n) (t ++ l ∷ []) (rs ++ r ∷ [])
levels_push levels t rs l r n lt paired o en s k d h =
    elim (cases_lt k (length t)) [
      | inl a ↦
          let m : Lit = get_or t k d in
          let other : m.0 / 2 ≢ l.0 / 2 = λ e. elim (same_variable l m (sym e)) [
            | inl f ↦ o.0 (subst (λ y. Contains t y) f (Contains-get_or t k d a))
            | inr f ↦ o.1 (subst (λ y. Contains t y) f (Contains-get_or t k d a))
          ] in
          let front : level_of rs k ≡ level_of (rs ++ r ∷ []) k = ap (sum_by one_if_assumed) (sym (take-append-le (k + 1) rs (r ∷ []) (omega (arith, a, paired)))) in
          rw (get_or_append_left t (l ∷ []) d k a) (get_or-set_other levels (l.0 / 2) (m.0 / 2) n 0 other ∙ s k d a ∙ front)
      | inr b ↦
          let e : length t ≡ k = omega (arith, h, b, length-append t (l ∷ [])) in
          let whole : sum_by one_if_assumed (rs ++ r ∷ []) ≡ level_of (rs ++ r ∷ []) k = ap (sum_by one_if_assumed) (sym (take_all (k + 1) (rs ++ r ∷ []) (omega (arith, e, paired, length-append rs (r ∷ []))))) in
          rw (get_or_at t l [] d k e) (get_or-set_same levels (l.0 / 2) n 0 lt ∙ en ∙ whole)
    ]

-- an unassigned literal isn't marked
truth_open : (truth : List Bool) (t : List Lit) (l : Lit) → AreTruths truth t → IsOpen t l → get_or truth l.0 false ≡ false
truth_open truth t l s o = elim (cases_Bool (get_or truth l.0 false)) [ inl e ↦ absurd (o.0 (s.back l e)) | inr e ↦ e ]

abbrev pub itself : Bool → Bool
itself b = b

count_push : (truth : List Bool) (i : ℕ) → i < length truth → get_or truth i false ≡ false → count_by itself (set truth i true) ≡ count_by itself truth + 1
count_push truth i lt e =
    let f : Bool → ℕ = λ b. cond b 1 0 in
    let a : f (get_or truth i false) ≡ 0 = ap f e in
    omega (arith, sum_by-set f truth i true false lt, a)

-- there is room for an unassigned literal
pub room_left : (f : Inside) (l : Lit) → IsInside f → l.0 < 2 * f.vars → IsOpen f.literals.items l → length f.literals.items < 2 * f.vars
room_left f l s lt o =
    let truth : List Bool = f.truth.items in
    let in' : l.0 < length truth = omega (arith, s.sized, lt) in
    let e = count_push truth l.0 in' (truth_open truth f.literals.items l s.truths o) in
    omega (arith, e, s.counted, s.sized, count_by-le-length itself (set truth l.0 true), length-set truth l.0 true)

pub fresh_push : (t : List Lit) (l : Lit) → AreFresh t → IsOpen t l → AreFresh (t ++ l ∷ [])
fresh_push t l s o k d h =
    elim (cases_lt k (length t)) [
      | inl a ↦ let le : k ≤ length t = omega arith in rw (take-append-le k t (l ∷ []) le, get_or_append_left t (l ∷ []) d k a) (s k d a)
      | inr b ↦
          let e : length t ≡ k = omega (arith, h, b, length-append t (l ∷ [])) in
          rw (take_at t (l ∷ []) k e, get_or_at t l [] d k e) o
    ]

pub assigned_push : (a b : Assigned) (l : Lit) (r : Option ℕ) → IsAssigned a → l.0 < 2 * a.vars → IsOpen a.literals l → b.vars ≡ a.vars → b.literals ≡ a.literals ++ l ∷ [] → b.reasons ≡ a.reasons ++ r ∷ [] → IsAssigned b
assigned_push a b l r s lt o ev el er = record {
  paired = omega (arith, ap length el, ap length er, length-append a.literals (l ∷ []), length-append a.reasons (r ∷ []), s.paired);
  within = subst (λ v. AreBelow v b.literals) (sym ev) (subst (λ xs. AreBelow a.vars xs) (sym el) (All-push (λ (y : Lit). y.0 < 2 * a.vars) a.literals l s.within lt));
  fresh = subst AreFresh (sym el) (fresh_push a.literals l s.fresh o);
}

pub inside_push : (f g : Inside) (l : Lit) (r : Option ℕ) (n m : ℕ) → IsInside f → l.0 < 2 * f.vars → IsOpen f.literals.items l → n ≡ length f.literals.items → m ≡ f.depth + one_if_assumed r
    → g.vars ≡ f.vars → g.truth.items ≡ set f.truth.items l.0 true → g.places.items ≡ set f.places.items (l.0 / 2) n → g.levels.items ≡ set f.levels.items (l.0 / 2) m → g.depth ≡ m → g.literals.items ≡ f.literals.items ++ l ∷ [] → g.reasons.items ≡ f.reasons.items ++ r ∷ []
    → vec_capacity f.literals ≤ vec_capacity g.literals → vec_capacity f.reasons ≤ vec_capacity g.reasons → IsInside g
inside_push f g l r n m s lt o en em ev et ep eg eh el er cl cr =
    let t : List Lit = f.literals.items in
    let truth : List Bool = f.truth.items in
    let in' : l.0 < length truth = omega (arith, s.sized, lt) in
    let half : l.0 / 2 < length f.places.items = omega (arith, s.placed_sized, lt) in
    let part : l.0 / 2 < length f.levels.items = omega (arith, s.leveled_sized, lt) in
    let rs : List (Option ℕ) = f.reasons.items in
    let sum : m ≡ sum_by one_if_assumed (rs ++ r ∷ []) = em ∙ ap (λ k. k + one_if_assumed r) s.deep ∙ sym (sum_by_push one_if_assumed rs r) in
    let leveled' : HaveLevels g.levels.items (t ++ l ∷ []) (rs ++ r ∷ []) = subst (λ xs. HaveLevels xs (t ++ l ∷ []) (rs ++ r ∷ [])) (sym eg) (levels_push f.levels.items t rs l r m part s.facts.paired o sum s.leveled) in
    let ep' : g.places.items ≡ set f.places.items (l.0 / 2) (length t) = ep ∙ ap (λ k. set f.places.items (l.0 / 2) k) en in
    record {
      facts = assigned_push (seen_as f) (seen_as g) l r s.facts lt o ev el er;
      sized = omega (arith, ap length et, length-set truth l.0 true, s.sized, ev);
      truths = subst (λ xs. AreTruths xs g.literals.items) (sym et) (subst (λ xs. AreTruths (set truth l.0 true) xs) (sym el) (truths_push truth t l in' s.truths));
      counted = omega (arith, ap (count_by itself) et, count_push truth l.0 in' (truth_open truth t l s.truths o), s.counted, ap length el, length-append t (l ∷ []));
      literal_room = omega (arith, ev, s.literal_room, cl);
      reason_room = omega (arith, ev, s.reason_room, cr);
      placed_sized = omega (arith, ap length ep, length-set f.places.items (l.0 / 2) n, s.placed_sized, ev);
      placed = subst (λ xs. ArePlaces xs g.literals.items) (sym ep') (subst (λ xs. ArePlaces (set f.places.items (l.0 / 2) (length t)) xs) (sym el) (places_push f.places.items t l half o s.placed));
      leveled_sized = omega (arith, ap length eg, length-set f.levels.items (l.0 / 2) m, s.leveled_sized, ev);
      leveled = subst (λ xs. HaveLevels g.levels.items xs g.reasons.items) (sym el) (subst (λ xs. HaveLevels g.levels.items (t ++ l ∷ []) xs) (sym er) leveled');
      deep = eh ∙ sum ∙ ap (sum_by one_if_assumed) (sym er);
    }
