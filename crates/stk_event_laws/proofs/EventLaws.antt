-- The laws of events.
use Rattle.std.proofs.Common.{◌≡◌, ℕ, ◌≤◌, false, List, [], ◌∷◌, ◌++◌, refl, sym, ◌∙◌, subst, inl, inr, arith}
use Rattle.std.specs.Prelude.{map}
use Rattle.stk_tree.specs.Syntax.{FunctionTree}
use Rattle.stk_numbers.specs.declared.conditions.Candidate.{Candidate}
use Rattle.stk_numbers.specs.declared.conditions.Condition.{Condition}
use Rattle.stk_numbers.specs.declared.conditions.Kinds.{Kinds}
use Rattle.stk_meaning.specs.Typings.{Typing}
use Rattle.stk_meaning.specs.Keys.{setting_of, body_of, function_visits}
use Rattle.stk_meaning.specs.Lists.{conditions, candidates}
use Rattle.stk_run_laws.specs.Visits.{IsIn}
use Rattle.stk_run_laws.specs.TypedOperands.{HasScalarOperands}
use Rattle.stk_run_laws.specs.Listed.{ConditionBefore, CandidateBefore}
use Rattle.stk_run_laws.proofs.Nodes.{in_either}
use Rattle.stk_run_laws.proofs.Lists.{conditions_in_order, candidates_in_order}
use Rattle.stk_walking.specs.declared.state.Event.{Event}
use Rattle.stk_walking.specs.declared.state.Event.TheVariants.{Broken, Hit}
use Rattle.stk_event_laws.specs.Listed.{body_events, IsListedEvent, EventsAreListed, StandOnce, EventsStandOnce}
use Rattle.stk_event_laws.proofs.Totals.{total, total_append, collected_total}
use Rattle.stk_event_laws.proofs.StatementTotals.{statement}
use Rattle.stk_event_laws.proofs.Alike.{mark, in_total, out_total, once_total, total_once, once_of, once_append}

-- all that is listed of a function
abbrev listed_of : Typing → Kinds → FunctionTree → List Event
listed_of ty without f = map (λ c. Broken c) (conditions ty without f) ++ map (λ c. Hit c) (candidates ty f)

counted : (ty : Typing) (without : Kinds) (f : FunctionTree) → HasScalarOperands ty f → (w : Event → ℕ) → total w (body_events ty without f) ≤ total w (listed_of ty without f)
counted ty without f h w =
    let g = setting_of ty without f in
    let p = statement g w false (body_of f) h.1 in
    let q = collected_total g w (function_visits ty f) in
    let r = total_append w (map (λ c. Broken c) (conditions ty without f)) (map (λ c. Hit c) (candidates ty f)) in
    omega (arith, p, q, r)

-- ---- each is listed

in_conditions : (x : Event) (cs : List Condition) → IsIn x (map (λ c. Broken c) cs) → (k : Condition) × (x ≡ Broken k) × IsIn k cs
in_conditions x [] h = absurd h
in_conditions x (c ∷ cs) (inl e) = (c, e, inl refl)
in_conditions x (c ∷ cs) (inr h) = let r = in_conditions x cs h in (r.0, r.1, inr r.2)

in_candidates : (x : Event) (cs : List Candidate) → IsIn x (map (λ c. Hit c) cs) → (k : Candidate) × (x ≡ Hit k) × IsIn k cs
in_candidates x [] h = absurd h
in_candidates x (c ∷ cs) (inl e) = (c, e, inl refl)
in_candidates x (c ∷ cs) (inr h) = let r = in_candidates x cs h in (r.0, r.1, inr r.2)

pub events_listed : EventsAreListed
events_listed ty without f h x i =
    let m = counted ty without f h (mark x) in
    let n = in_total x (body_events ty without f) i in
    let there = out_total x (listed_of ty without f) (omega (arith, m, n)) in
    elim (in_either x (map (λ c. Broken c) (conditions ty without f)) (map (λ c. Hit c) (candidates ty f)) there) [
      | inl j ↦ let r = in_conditions x (conditions ty without f) j in subst (IsListedEvent ty without f) (sym r.1) r.2
      | inr j ↦ let r = in_candidates x (candidates ty f) j in subst (IsListedEvent ty without f) (sym r.1) r.2
    ]

-- ---- none stands twice

condition_apart : (x : Condition) → ConditionBefore x x → ⊥
condition_apart x (inl h) = omega arith
condition_apart x (inr h) = omega (arith, h.1)

pub candidate_apart : (x : Candidate) → CandidateBefore x x → ⊥
candidate_apart x (inl h) = omega arith
candidate_apart x (inr h) = omega (arith, h.1)

conditions_once : (cs : List Condition) → StandOnce cs → StandOnce (map (λ c. Broken c) cs)
conditions_once [] h = tt
conditions_once (c ∷ cs) h = (
  λ i. (let r = in_conditions (Broken c) cs i in let same : c ≡ r.0 = cc (r.1) in h.0 (subst (λ k. IsIn k cs) (sym same) r.2)),
  conditions_once cs h.1,
)

candidates_once : (cs : List Candidate) → StandOnce cs → StandOnce (map (λ c. Hit c) cs)
candidates_once [] h = tt
candidates_once (c ∷ cs) h = (
  λ i. (let r = in_candidates (Hit c) cs i in let same : c ≡ r.0 = cc (r.1) in h.0 (subst (λ k. IsIn k cs) (sym same) r.2)),
  candidates_once cs h.1,
)

apart : (ks : List Condition) (cs : List Candidate) (x : Event) → IsIn x (map (λ c. Broken c) ks) → IsIn x (map (λ c. Hit c) cs) → ⊥
apart ks cs x i j =
    let r = in_conditions x ks i in
    let t = in_candidates x cs j in
    let e : Broken r.0 ≡ Hit t.0 = sym r.1 ∙ t.1 in
    absurd cc

pub events_once : EventsStandOnce
events_once ty without f numbered h =
    let ks = conditions ty without f in
    let cs = candidates ty f in
    let once : StandOnce (listed_of ty without f) =
    once_append (map (λ c. Broken c) ks) (map (λ c. Hit c) cs)
    (conditions_once ks (once_of ConditionBefore condition_apart ks (conditions_in_order ty without f numbered)))
    (candidates_once cs (once_of CandidateBefore candidate_apart cs (candidates_in_order ty f numbered)))
    (apart ks cs) in
    total_once (body_events ty without f) (λ x. let m = counted ty without f h (mark x) in let n = once_total x (listed_of ty without f) once in omega (arith, m, n))
