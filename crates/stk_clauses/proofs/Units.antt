-- What a quiet partial assignment says of unit propagation.
use Rattle.std.proofs.Common.{◌≢◌, List, sym, ◌∙◌, ap, subst, inl, inr}
use Rattle.std.specs.List.{Contains}
use Rattle.std.proofs.lemmas.List.Elements.{All-contains}
use Rattle.stk_clauses.specs.declared.literal.Lit.{Lit}
use Rattle.stk_clauses.specs.Literals.{negated}
use Rattle.stk_clauses.specs.Propagation.{Forced, assumed, unit, Falsifies, Leaves, OthersFalse, IsNew, IsOpen, IsQuiet, AreQuiet, HasNoPair}
use Rattle.stk_clauses.proofs.Values.{lit_cases, negated-negated}
use Rattle.stk_clauses.proofs.Members.{contains_cases}

-- unit propagation stays within a quiet assignment that has what is assumed
pub forced_in : (cs : List (List Lit)) (A : Lit → Type 0) (t : List Lit) → ((m : Lit) → A m → Contains t m) → HasNoPair t → AreQuiet t cs → (l : Lit) → Forced cs A l → Contains t l
forced_in cs A t has ok quiet l (assumed h) = has l h
forced_in cs A t has ok quiet l (unit {c} fc cl others) =
    let rest : (m : Lit) → Contains c m → m ≢ l → Contains t (negated m) = λ m cm ne. forced_in cs A t has ok quiet (negated m) (others m cm ne) in
    quiet_unit t c l ok (All-contains (IsQuiet t) cs c quiet fc) rest
  where
    quiet_unit : (t c : List Lit) (l : Lit) → HasNoPair t → IsQuiet t c → ((m : Lit) → Contains c m → m ≢ l → Contains t (negated m)) → Contains t l
    quiet_unit t c l ok (inl (k, ck, tk)) rest =
        elim (lit_cases k l) [ inl e ↦ subst (λ x. Contains t x) e tk | inr ne ↦ absurd (ok k tk (rest k ck ne)) ]
    quiet_unit t c l ok (inr (a, b, ne, ca, cb, oa, ob)) rest =
        elim (lit_cases a l) [ inl e ↦ absurd (ob.1 (rest b cb (λ f. ne (e ∙ sym f)))) | inr n ↦ absurd (oa.1 (rest a ca n)) ]

-- it falsifies no clause
pub no_falsified : (cs : List (List Lit)) (A : Lit → Type 0) (t : List Lit) → ((m : Lit) → A m → Contains t m) → HasNoPair t → AreQuiet t cs → Falsifies cs A → ⊥
no_falsified cs A t has ok quiet f =
    let rest : (m : Lit) → Contains f.0 m → Contains t (negated m) = λ m cm. forced_in cs A t has ok quiet (negated m) (f.2 m cm) in
    elim (All-contains (IsQuiet t) cs f.0 quiet f.1) [ inl q ↦ ok q.0 q.2 (rest q.0 q.1) | inr q ↦ q.5.1 (rest q.0 q.3) ]

-- it leaves what the quiet assignment leaves
pub leaves : (cs : List (List Lit)) (A : Lit → Type 0) (t : List Lit) → ((m : Lit) → A m → Contains t m) → HasNoPair t → AreQuiet t cs → (l : Lit) → IsOpen t l → Leaves cs A l
leaves cs A t has ok quiet l open' = (λ f. open'.0 (forced_in cs A t has ok quiet l f), λ f. open'.1 (forced_in cs A t has ok quiet (negated l) f))

pub new_by_quiet : (cs : List (List Lit)) (c t : List Lit) (l : Lit) → HasNoPair t → AreQuiet t cs → Contains c l → IsOpen t l → ((m : Lit) → Contains c m → m ≢ l → Contains t (negated m)) → IsNew cs c
new_by_quiet cs c t l ok quiet cl open' others =
    let has : (m : Lit) → OthersFalse c l m → Contains t m = λ m h. subst (λ x. Contains t x) (negated-negated m) (others (negated m) h.0 (λ e. h.1 (sym (negated-negated m) ∙ ap negated e))) in
    (l, cl, no_falsified cs (OthersFalse c l) t has ok quiet, leaves cs (OthersFalse c l) t has ok quiet l open')

-- where each literal of a part of c but l is assumed false, the part is falsified, or makes l true
pub new_no_superset : (cs : List (List Lit)) (c part : List Lit) → IsNew cs c → Contains cs part → ((m : Lit) → Contains part m → Contains c m) → ⊥
new_no_superset cs c part (l, cl, none, left) has within =
    let A : Lit → Type 0 = OthersFalse c l in
    let others : (m : Lit) → Contains part m → m ≢ l → Forced cs A (negated m) = λ m pm ne.
    assumed {l = negated m} (subst (λ x. Contains c x) (sym (negated-negated m)) (within m pm), λ e. ne (sym (negated-negated m) ∙ ap negated e ∙ negated-negated l)) in
    elim (contains_cases part l) [
      | inl p ↦ left.0 (unit {c = part} {l = l} has p others)
      | inr n ↦ none (part, has, λ m pm. others m pm (λ e. n (subst (λ x. Contains part x) e pm)))
    ]
