-- What the claims of an audit say of a source, and which sources an audit may be trusted about.
use Rattle.std.specs.Prelude.{◌≡◌, ℕ, true, List, ◌∷◌, ◌++◌}
use Rattle.std.specs.List.{Contains, AllByRecursion}
use Rattle.stk_numbers.specs.declared.conditions.Kinds.{Kinds}
use Rattle.stk_numbers.specs.declared.conditions.UbKind.{UbKind}
use Rattle.stk_numbers.specs.declared.conditions.Candidate.{Candidate}
use Rattle.stk_numbers.specs.declared.conditions.Condition.{Condition}
use Rattle.stk_meaning.specs.Findings.{NoAnswer, IsUnstable}
use Rattle.stk_clauses.specs.declared.store.Cnf.{Cnf}
use Rattle.stk_clauses.specs.Literals.{IsUnsatisfiable}
use Rattle.stk_bundle.specs.declared.line.BundleLine.TheVariants.{Head, Source, Without}
use Rattle.stk_bundle.specs.Lines.{line_text}
use Rattle.stk_audit_rules.specs.declared.audit.Claim.{Claim}
use Rattle.stk_audit_rules.specs.declared.audit.Audit.{Audit}
use Rattle.stk_audit_rules.specs.declared.audit.Audit.TheVariants.{Yes, No}
use Rattle.stk_audit_rules.specs.Worlds.{World}
use Rattle.stk_audit_rules.specs.Knowing.{kinds_taken}
use Rattle.stk_audit_rules.specs.Starts.{AllShow}

-- A claim is true, with these kinds taken out: the definition of an accepted function begins there, the candidate is
-- one of its, it is unstable, the set has conditions of the function alone and suffices, in path runs and in every
-- execution, and each start shows what its line says: its residues are those of a valid map whose path run hits the
-- candidate; where it shows that a condition is needed, free of the others of the set.
pub record IsTrueClaim (w : World) (without : Kinds) (claim : Claim) : Type 0 where
  pub function : w.is_function without claim.at ≡ true
  pub candidate : Contains (w.function without claim.at).candidates claim.candidate
  pub unstable : IsUnstable (w.function without claim.at).subject claim.candidate
  pub members : AllByRecursion (Contains (w.function without claim.at).subject.conditions) claim.set
  pub path_sufficient : NoAnswer (w.function without claim.at).subject claim.candidate claim.set
  pub sufficient : (w.function without claim.at).subject.Suffices claim.candidate claim.set
  pub starts : AllShow (w.function without claim.at) claim.candidate claim.set claim.starts

-- a bundle opens with its first line, the length of its source, and the kinds that it takes out
abbrev pub OpensWith : List ℕ → ℕ → List UbKind → Type 0
OpensWith bundle length kinds = (behind : List ℕ) × (bundle ≡ line_text Head ++ 10 ∷ line_text (Source length) ++ 10 ∷ line_text (Without kinds) ++ 10 ∷ behind)

-- the claims of a bundle are true of a source, with the kinds taken out that the bundle says
pub record AreTrue (w : World) (bundle : List ℕ) (claims : List Claim) : Type 0 where
  pub kinds : List UbKind
  pub opens : OpensWith bundle w.length kinds
  pub each : AllByRecursion (IsTrueClaim w (kinds_taken kinds)) claims

-- so are those of an answer
abbrev pub HasTrueClaims : World → List ℕ → Audit → Type 0
HasTrueClaims w bundle (Yes claims) = AreTrue w bundle claims
HasTrueClaims w bundle (No line reason) = Unit {0}

-- A source whose clauses mean what they should: where clauses stand for a query and nothing satisfies them, no map
-- answers it; and a set of conditions that no path run of a map escapes suffices in executions too.
pub record IsSound (w : World) : Type 0 where
  pub never : (without : Kinds) (at : ℕ) (c : Candidate) (set : List Condition) (own : Cnf) → w.is_function without at ≡ true → (w.function without at).Stands c set own → IsUnsatisfiable own.store
      → NoAnswer (w.function without at).subject c set
  pub gathered : (without : Kinds) (at : ℕ) (c : Candidate) (set : List Condition) → w.is_function without at ≡ true → Contains (w.function without at).candidates c → NoAnswer (w.function without at).subject c set
      → (w.function without at).subject.Suffices c set
