-- The function at hand of who answers for a source, and what may be asked of it.
use Rattle.std.specs.Prelude.{◌≡◌, ℕ, Bool, true, false, List, ℤ, Option, Some, None}
use Rattle.std.specs.List.{Contains, AllByRecursion}
use Rattle.stk_numbers.specs.declared.conditions.Kinds.{Kinds}
use Rattle.stk_numbers.specs.declared.conditions.Candidate.{Candidate}
use Rattle.stk_numbers.specs.declared.conditions.Condition.{Condition}
use Rattle.stk_numbers.specs.Taken.{number_of}
use Rattle.stk_meaning.specs.Findings.{Subject, Answers, NoAnswer}
use Rattle.stk_bundle.specs.Claims.{candidate_number}
use Rattle.stk_audit_rules.specs.Worlds.{World, AuditedFunction}
use Rattle.stk_audit_rules.specs.Knowing.{Known}

-- which kinds are taken out, and where the function begins
pub record Hand : Type 0 where
  pub without : Kinds
  pub at : ℕ

abbrev pub hand_at : Kinds → ℕ → Hand
hand_at without at = record { without = without; at = at }

-- where it begins, if there is one
abbrev pub begins : Option Hand → Option ℕ
begins None = None
begins (Some h) = Some h.at

-- the function at hand, by what is known between two lines
abbrev pub hand_by : Kinds → Option ℕ → Option Hand
hand_by without None = None
hand_by without (Some at) = Some (hand_at without at)

abbrev pub hand_of : Known → Option Hand
hand_of s = hand_by s.without s.at

-- the function of a source
abbrev pub function_at : World → Hand → AuditedFunction
function_at w h = w.function h.without h.at

-- the numbers of a node and a kind name this candidate of a function
pub record IsNamedCandidate (f : AuditedFunction) (node kind : ℕ) (c : Candidate) : Type 0 where
  pub exists : Contains f.candidates c
  pub same_node : c.node ≡ node
  pub same_kind : candidate_number c.kind ≡ kind

-- and this condition
pub record IsNamedCondition (f : AuditedFunction) (node kind : ℕ) (k : Condition) : Type 0 where
  pub exists : Contains f.subject.conditions k
  pub same_node : k.node ≡ node
  pub same_kind : number_of k.kind ≡ kind

-- a candidate of the function at hand, and a set of its conditions
pub record IsAsked (w : World) (hand : Option Hand) (c : Candidate) (set : List Condition) : Type 0 where
  pub at : Hand
  pub here : hand ≡ Some at
  pub exists : Contains (function_at w at).candidates c
  pub members : AllByRecursion (Contains (function_at w at).subject.conditions) set

-- whether no map answers a query: none does, or one does
abbrev pub TellsNone : Subject → Candidate → List Condition → Bool → Type 0
TellsNone q c set true = NoAnswer q c set
TellsNone q c set false = (map : List ℤ) × Answers q c set map
