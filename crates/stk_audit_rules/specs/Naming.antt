-- What the lines of a bundle name, in which order.
use Rattle.std.specs.Prelude.{◌≡◌, ℕ, Bool, true, nat_eq, nat_lt, ◌&&◌, ◌||◌, Option, Some, None}
use Rattle.std.specs.List.{Contains}
use Rattle.stk_numbers.specs.declared.conditions.Candidate.{Candidate}
use Rattle.stk_numbers.specs.declared.conditions.Condition.{Condition}
use Rattle.stk_numbers.specs.Taken.{number_of}
use Rattle.stk_bundle.specs.Claims.{candidate_number}
use Rattle.stk_audit_rules.specs.Worlds.{World}
use Rattle.stk_audit_rules.specs.Knowing.{Known, last_of}

-- candidates and conditions are ordered by their nodes, and at one node by the numbers of their kinds
abbrev pub comes_before : ℕ → ℕ → ℕ → ℕ → Bool
comes_before node kind other_node other_kind = nat_lt node other_node || (nat_eq node other_node && nat_lt kind other_kind)

-- a candidate comes behind the last one, if there is one
abbrev pub is_next_candidate : Option Candidate → Candidate → Bool
is_next_candidate None c = true
is_next_candidate (Some last) c = comes_before last.node (candidate_number last.kind) c.node (candidate_number c.kind)

-- so does a condition
abbrev pub is_next_condition : Option Condition → Condition → Bool
is_next_condition None k = true
is_next_condition (Some last) k = comes_before last.node (number_of last.kind) k.node (number_of k.kind)

-- and so does a function, by where it begins
abbrev pub is_next_function : Option ℕ → ℕ → Bool
is_next_function None at = true
is_next_function (Some last) at = nat_lt last at

module _ (w : World) (s : Known) where
  -- a line names a candidate of the function at hand by the numbers of its node and kind, behind the last one
  pub record NamesCandidate (node kind : ℕ) (c : Candidate) : Type 0 where
    pub at : ℕ
    pub here : s.at ≡ Some at
    pub same_node : c.node ≡ node
    pub same_kind : candidate_number c.kind ≡ kind
    pub exists : Contains (w.function s.without at).candidates c
    pub next : is_next_candidate s.last c ≡ true

  -- a line names a condition of the function at hand, behind the last one of the claim
  pub record NamesCondition (node kind : ℕ) (k : Condition) : Type 0 where
    pub at : ℕ
    pub here : s.at ≡ Some at
    pub same_node : k.node ≡ node
    pub same_kind : number_of k.kind ≡ kind
    pub exists : Contains (w.function s.without at).subject.conditions k
    pub next : is_next_condition (last_of s.members) k ≡ true

  -- a line names a function of the source, behind the last one
  pub record NamesFunction (at : ℕ) : Type 0 where
    pub exists : w.is_function s.without at ≡ true
    pub next : is_next_function s.at at ≡ true
