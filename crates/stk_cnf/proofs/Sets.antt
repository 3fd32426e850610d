-- What grows by clauses, put together.
use Rattle.std.proofs.Common.{◌≡◌, ℕ, ◌+◌, ◌-◌, ◌*◌, ◌/◌, ◌%◌, ◌<◌, ◌≤◌, Bool, false, ◌&&◌, List, [], ◌∷◌, ◌++◌, length, refl, sym, ap, ◌∙◌, subst, arith, length-append}
use Rattle.std.specs.List.{All}
use Rattle.std.proofs.lemmas.List.Elements.{All-push, All-cons}
use Rattle.stk_clauses.specs.declared.literal.Lit.{Lit}
use Rattle.stk_clauses.specs.Literals.{AreBelow, negated, literal_value}
use Rattle.stk_clauses.proofs.Values.{value-negated}
use Rattle.stk_cnf.specs.Clauses.{clause_value, cnf_value, ties, IsGrown}
use Rattle.stk_cnf.proofs.Growing.{cnf_push, ties_of}

-- one clause more
pub grown_push : (vars : ℕ) (old new : List (List Lit)) (c : List Lit) (says : (ℕ → Bool) → Bool) → new ≡ old ++ c ∷ [] → ((v : ℕ → Bool) → clause_value v c ≡ says v) → length c ≤ 3 → AreBelow vars c → IsGrown vars 1 old new says
grown_push vars old new c says is value short below = record {
  value = λ v. ap (cnf_value v) is ∙ (cnf_push v old c ∙ ap (λ b. cnf_value v old && b) (value v));
  few = omega (arith, ap length is, length-append old (c ∷ []));
  short = λ h. subst (All (λ (l : List Lit). length l ≤ 3)) (sym is) (All-push (λ (l : List Lit). length l ≤ 3) old c h short);
  below = λ h. subst (All (AreBelow vars)) (sym is) (All-push (AreBelow vars) old c h below);
}

none_below : (vars : ℕ) → AreBelow vars []
none_below vars = λ k d lt. absurd (omega (arith, lt))

below_pair : (vars : ℕ) (a b : Lit) → a.0 < 2 * vars → b.0 < 2 * vars → AreBelow vars (a ∷ b ∷ [])
below_pair vars a b la lb = All-cons (λ (l : Lit). l.0 < 2 * vars) a (b ∷ []) la (All-cons (λ (l : Lit). l.0 < 2 * vars) b [] lb (none_below vars))

-- the empty clause, and that of one literal
pub grown_empty : (vars : ℕ) (old new : List (List Lit)) (says : (ℕ → Bool) → Bool) → new ≡ old ++ [] ∷ [] → ((v : ℕ → Bool) → says v ≡ false) → IsGrown vars 1 old new says
grown_empty vars old new says is never = grown_push vars old new [] says is (λ v. sym (never v)) (omega arith) (none_below vars)

pub grown_one : (vars : ℕ) (old new : List (List Lit)) (l : Lit) (says : (ℕ → Bool) → Bool) → new ≡ old ++ (l ∷ []) ∷ [] → l.0 < 2 * vars → ((v : ℕ → Bool) → literal_value v l ≡ says v) → IsGrown vars 1 old new says
grown_one vars old new l says is below value = grown_push vars old new (l ∷ []) says is value (omega arith) (All-cons (λ (m : Lit). m.0 < 2 * vars) l [] below (none_below vars))

-- the three clauses of a gate, over its literal, those of its edges, and their negations
pub grown_gate : (vars : ℕ) (a b c d : List (List Lit)) (g x y n nx ny : Lit) → n ≡ negated g → nx ≡ negated x → ny ≡ negated y → x.0 / 2 < y.0 / 2 → y.0 / 2 < g.0 / 2 → g.0 < 2 * vars → b ≡ a ++ (n ∷ x ∷ []) ∷ [] → c ≡ b ++ (n ∷ y ∷ []) ∷ [] → d ≡ c ++ (g ∷ nx ∷ ny ∷ []) ∷ [] → IsGrown vars 3 a d (λ v. ties (literal_value v g) (literal_value v x) (literal_value v y))
grown_gate vars a b c d g x y n nx ny en ex ey xy yg below is1 is2 is3 =
    let vn : n.0 ≡ g.0 + 1 - 2 * (g.0 % 2) = ap (λ (l : Lit). l.0) en in
    let vx : nx.0 ≡ x.0 + 1 - 2 * (x.0 % 2) = ap (λ (l : Lit). l.0) ex in
    let vy : ny.0 ≡ y.0 + 1 - 2 * (y.0 % 2) = ap (λ (l : Lit). l.0) ey in
    let bn : n.0 < 2 * vars = omega (arith, vn, below) in
    let bx : x.0 < 2 * vars = omega (arith, xy, yg, below) in
    let by' : y.0 < 2 * vars = omega (arith, yg, below) in
    let bnx : nx.0 < 2 * vars = omega (arith, vx, bx) in
    let bny : ny.0 < 2 * vars = omega (arith, vy, by') in
    let whole : AreBelow vars (g ∷ nx ∷ ny ∷ []) = All-cons (λ (l : Lit). l.0 < 2 * vars) g (nx ∷ ny ∷ []) below (below_pair vars nx ny bnx bny) in
    let first = grown_push vars a b (n ∷ x ∷ []) (λ v. clause_value v (n ∷ x ∷ [])) is1 (λ v. refl) (omega arith) (below_pair vars n x bn bx) in
    let second = grown_push vars b c (n ∷ y ∷ []) (λ v. clause_value v (n ∷ y ∷ [])) is2 (λ v. refl) (omega arith) (below_pair vars n y bn by') in
    let third = grown_push vars c d (g ∷ nx ∷ ny ∷ []) (λ v. clause_value v (g ∷ nx ∷ ny ∷ [])) is3 (λ v. refl) (omega arith) whole in
    record {
      value = λ v. ties_of (cnf_value v a) (literal_value v g) (literal_value v x) (literal_value v y) (literal_value v n) (literal_value v nx) (literal_value v ny) (cnf_value v b) (cnf_value v c) (cnf_value v d)
          (ap (literal_value v) en ∙ value-negated v g) (ap (literal_value v) ex ∙ value-negated v x) (ap (literal_value v) ey ∙ value-negated v y) (first.value v) (second.value v) (third.value v);
      few = omega (arith, first.few, second.few, third.few);
      short = λ h. third.short (second.short (first.short h));
      below = λ h. third.below (second.below (first.below h));
    }

-- the same clauses say what is the same
pub grown_same : (vars n : ℕ) (old new : List (List Lit)) (p q : (ℕ → Bool) → Bool) → ((v : ℕ → Bool) → p v ≡ q v) → IsGrown vars n old new p → IsGrown vars n old new q
grown_same vars n old new p q same g = record {
  value = λ v. g.value v ∙ ap (λ b. cnf_value v old && b) (same v);
  few = g.few;
  short = g.short;
  below = g.below;
}
