-- What the calls that look among candidates and conditions tell of those of a function.
use Rattle.std.proofs.Common.{◌≡◌, ℕ, List, Option, Some, None, sym, subst}
use Rattle.std.specs.Prelude.{MatchOption}
use Rattle.std.specs.List.{Contains}
use Rattle.stk_numbers.specs.declared.conditions.Candidate.{Candidate}
use Rattle.stk_numbers.specs.declared.conditions.Condition.{Condition}
use Rattle.stk_numbers.specs.Taken.{number_of}
use Rattle.stk_bundle.specs.Claims.{candidate_number}
use Rattle.stk_audit_rules.specs.Worlds.{AuditedFunction}
use Rattle.stk_audit.specs.Hands.{IsNamedCandidate, IsNamedCondition}

module _ (a : AuditedFunction) (node kind : ℕ) where
  pub named_candidate : (cs : List Candidate) → cs ≡ a.candidates → (r : Option Candidate) → MatchOption r ((c : Candidate) → Contains cs c → c.node ≡ node → candidate_number c.kind ≡ kind → ⊥) (λ c. Contains cs c × (c.node ≡ node) × (candidate_number c.kind ≡ kind))
      → MatchOption r ((c : Candidate) → IsNamedCandidate a node kind c → ⊥) (IsNamedCandidate a node kind)
  named_candidate cs e None h = λ c n. h c (subst (λ (xs : List Candidate). Contains xs c) (sym e) n.exists) n.same_node n.same_kind
  named_candidate cs e (Some c) h = record { exists = subst (λ (xs : List Candidate). Contains xs c) e h.0; same_node = h.1; same_kind = h.2 }

  pub named_condition : (ks : List Condition) → ks ≡ a.subject.conditions → (r : Option Condition) → MatchOption r ((k : Condition) → Contains ks k → k.node ≡ node → number_of k.kind ≡ kind → ⊥) (λ k. Contains ks k × (k.node ≡ node) × (number_of k.kind ≡ kind))
      → MatchOption r ((k : Condition) → IsNamedCondition a node kind k → ⊥) (IsNamedCondition a node kind)
  named_condition ks e None h = λ k n. h k (subst (λ (xs : List Condition). Contains xs k) (sym e) n.exists) n.same_node n.same_kind
  named_condition ks e (Some k) h = record { exists = subst (λ (xs : List Condition). Contains xs k) e h.0; same_node = h.1; same_kind = h.2 }
