-- What is by its hints follows; a refutation is sound.
use Rattle.std.proofs.Common.{◌≡◌, ℕ, zero, suc, ◌+◌, ◌-◌, ◌<◌, ◌≤◌, Bool, true, List, [], ◌∷◌, ◌++◌, length, get_or, take, sym, ◌∙◌, ap, subst, inl, inr, arith, append_assoc}
use Rattle.std.specs.List.{Contains}
use Rattle.std.proofs.lemmas.List.{append-nil, map-append, take_more}
use Rattle.std.proofs.lemmas.List.Elements.{All-push, All-get_or}
use Rattle.stk_clauses.specs.declared.literal.Lit.{Lit}
use Rattle.stk_clauses.specs.declared.derivation.Derived.{Derived}
use Rattle.stk_clauses.specs.Literals.{negated, literal_value, IsTrueClause, Satisfies, IsUnsatisfiable}
use Rattle.stk_clauses.specs.Hints.{With, Leads, IsByHints}
use Rattle.stk_clauses.specs.Derivations.{clauses_of_steps, AreSteps, IsRefutation}
use Rattle.stk_clauses.proofs.Values.{lit_cases, negated-negated, not_both, clause_cases}

-- the set may be replaced by one with the same literals
pub Leads-same : (cs : List (List Lit)) (S U : Lit → Type 0) (hs : List ℕ) → ((m : Lit) → S m → U m) → ((m : Lit) → U m → S m) → Leads cs S hs → Leads cs U hs
Leads-same cs S U [] f g r = r
Leads-same cs S U (h ∷ []) f g r = (r.0, λ m cm. f (negated m) (r.1 m cm))
Leads-same cs S U (h ∷ k ∷ hs) f g (lt, (l, (cl, nt, nf, others), rest)) = (
  lt,
  (
    l,
    (cl, (λ u. nt (g l u)), (λ u. nf (g (negated l) u)), λ m cm ne. f (negated m) (others m cm ne)),
    Leads-same cs (With S l) (With U l) (k ∷ hs)
        (λ m w. elim w [ inl s ↦ inl (f m s) | inr e ↦ inr e ])
        (λ m w. elim w [ inl s ↦ inl (g m s) | inr e ↦ inr e ]) rest,
  ),
)

-- hints don't lead from true clauses and true literals to a falsified clause
pub leads_sound : (v : ℕ → Bool) (cs : List (List Lit)) (S : Lit → Type 0) (hs : List ℕ) → Satisfies v cs → ((m : Lit) → S m → literal_value v m ≡ true) → Leads cs S hs → ⊥
leads_sound v cs S [] sat holds r = r
leads_sound v cs S (h ∷ []) sat holds r =
    let t : IsTrueClause v (get_or cs h []) = All-get_or (IsTrueClause v) cs h [] r.0 sat in
    not_both v t.0 t.2 (holds (negated t.0) (r.1 t.0 t.1))
leads_sound v cs S (h ∷ k ∷ hs) sat holds (lt, (l, (cl, nt, nf, others), rest)) =
    let t : IsTrueClause v (get_or cs h []) = All-get_or (IsTrueClause v) cs h [] lt sat in
    let here : literal_value v l ≡ true = elim (lit_cases t.0 l) [ inl e ↦ subst (λ x. literal_value v x ≡ true) e t.2 | inr ne ↦ absurd (not_both v t.0 t.2 (holds (negated t.0) (others t.0 t.1 ne))) ] in
    leads_sound v cs (With S l) (k ∷ hs) sat (λ m w. elim w [ inl s ↦ holds m s | inr e ↦ subst (λ x. literal_value v x ≡ true) (sym e) here ]) rest

-- a clause that is by its hints is true where the earlier ones are
pub step_true : (v : ℕ → Bool) (vars : ℕ) (cs : List (List Lit)) (c : List Lit) (hs : List ℕ) → Satisfies v cs → IsByHints vars cs c hs → IsTrueClause v c
step_true v vars cs c hs sat by' =
    elim (clause_cases v c) [
      | inl t ↦ t
      | inr f ↦ absurd (leads_sound v cs (λ m. Contains c (negated m)) hs sat
          (λ m k. subst (λ x. literal_value v x ≡ true) (negated-negated m) (subst (λ x. literal_value v (negated x) ≡ true) k.2 (f k.0 (negated m) k.1))) by'.2)
    ]

-- the clauses before a step, with its own
pub clauses_more : (given : List (List Lit)) (steps : List Derived) (k : ℕ) (d : Derived) → k < length steps → given ++ clauses_of_steps (take (k + 1) steps) ≡ (given ++ clauses_of_steps (take k steps)) ++ (get_or steps k d).clause ∷ []
clauses_more given steps k d lt =
    ap (λ xs. given ++ clauses_of_steps xs) (take_more steps k d lt)
    ∙ ap (λ xs. given ++ xs) (map-append (λ (s : Derived). s.clause) (take k steps) (get_or steps k d ∷ []))
    ∙ sym (append_assoc given (clauses_of_steps (take k steps)) ((get_or steps k d).clause ∷ []))

all_true : (v : ℕ → Bool) (vars : ℕ) (given : List (List Lit)) (steps : List Derived) (d : Derived) → Satisfies v given → AreSteps vars given steps → (k : ℕ) → k ≤ length steps → Satisfies v (given ++ clauses_of_steps (take k steps))
all_true v vars given steps d sat hold zero le = subst (λ xs. Satisfies v xs) (sym (append-nil given)) sat
all_true v vars given steps d sat hold (suc k) le =
    let lt : k < length steps = omega (arith, le) in
    let before = all_true v vars given steps d sat hold k (omega (arith, le)) in
    let s = get_or steps k d in
    let now = step_true v vars (given ++ clauses_of_steps (take k steps)) s.clause s.hints before (hold k d lt) in
    let e : k + 1 ≡ suc k = omega arith in
    subst (λ n. Satisfies v (given ++ clauses_of_steps (take n steps))) e
    (rw (clauses_more given steps k d lt) (All-push (IsTrueClause v) (given ++ clauses_of_steps (take k steps)) s.clause before now))

pub refutation_sound : (vars : ℕ) (given : List (List Lit)) (steps : List Derived) → IsRefutation vars given steps → IsUnsatisfiable given
refutation_sound vars given [] r v sat = absurd (omega (arith, r.some))
refutation_sound vars given (d ∷ ds) r v sat =
    let steps : List Derived = d ∷ ds in
    let k : ℕ = length steps - 1 in
    let lt : k < length steps = omega arith in
    let before = all_true v vars given steps d sat r.each k (omega arith) in
    let s = get_or steps k d in
    let t : IsTrueClause v s.clause = step_true v vars (given ++ clauses_of_steps (take k steps)) s.clause s.hints before (r.each k d lt) in
    let t' : IsTrueClause v [] = subst (λ c. IsTrueClause v c) (r.empty d) t in
    omega (arith, t'.1.1)
