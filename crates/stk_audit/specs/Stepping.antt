-- What a line does to what an audit knows.
use Rattle.std.specs.Prelude.{◌≡◌, ◌≢◌, ℕ, List, length, Option, Some, None}
use Rattle.std.specs.List.{All, Contains, AllByRecursion}
use Rattle.stk_numbers.specs.declared.conditions.Candidate.{Candidate}
use Rattle.stk_numbers.specs.declared.conditions.Condition.{Condition}
use Rattle.stk_clauses.specs.declared.store.Cnf.{Cnf}
use Rattle.stk_clauses.specs.declared.derivation.Derivation.{Derivation}
use Rattle.stk_clauses.specs.Literals.{AreBelow}
use Rattle.stk_clauses.specs.Derivations.{IsRefutation}
use Rattle.stk_proofs.specs.Dimacs.{dimacs_in}
use Rattle.stk_proofs.specs.Lrat.{IsLrat}
use Rattle.stk_bundle.specs.declared.line.BundleLine.{BundleLine}
use Rattle.stk_bundle.specs.declared.line.BundleLine.TheVariants as line
use Rattle.stk_bundle.specs.declared.stage.Stage.{Stage}
use Rattle.stk_audit.specs.declared.proving.Compared.{Compared}
use Rattle.stk_audit.specs.declared.proving.Compared.TheVariants as compared
use Rattle.stk_audit.specs.declared.progress.Progress.{Progress}
use Rattle.stk_audit.specs.declared.progress.Step.{Step}
use Rattle.stk_audit.specs.declared.progress.Step.TheVariants as step
use Rattle.stk_audit.specs.Progressing.{known_in}
use Rattle.stk_audit_rules.specs.declared.audit.Start.{Start}
use Rattle.stk_audit_rules.specs.declared.audit.Audit.TheVariants.{Yes, No}
use Rattle.stk_audit_rules.specs.declared.audit.Why.{Why}
use Rattle.stk_audit_rules.specs.declared.audit.Why.TheVariants as why
use Rattle.stk_audit_rules.specs.Worlds.{World, AuditedFunction}
use Rattle.stk_audit_rules.specs.Knowing.{Known, with_claim}
use Rattle.stk_audit_rules.specs.Starts.{IsClaimOf, AllShow, FirstFailing, IsShown, FailsToShow}
use Rattle.stk_audit_rules.specs.Reasons.{Holds, Fails}
use Rattle.stk_audit_rules.specs.Audits.{IsAuditFrom, IsAudit}

-- the line holds, and the next line is that behind it; or it fails
abbrev pub Stepped : World → Progress → BundleLine → List ℕ → Step → Progress → Type 0
Stepped w p line block step.Holds q = Holds w (known_in p) p.number line block (known_in q) × (q.number ≡ p.number)
Stepped w p line block (step.Fails m why) q = Fails w (known_in p) p.number line block m why

-- a claim is being read, of a candidate of the function at hand, with conditions of this function
pub record IsOpenClaim (w : World) (s : Known) : Type 0 where
  pub at : ℕ
  pub c : Candidate
  pub claim : IsClaimOf s at c
  pub exists : Contains (w.function s.without at).candidates c
  pub members : AllByRecursion (Contains (w.function s.without at).subject.conditions) s.members

-- all starts of the claim of a candidate show what they should, or the first that doesn't stands on this line
abbrev pub TellsStarts : World → Known → Candidate → Option ℕ → Type 0
TellsStarts w s c None = (at : ℕ) × IsShown w s at c
TellsStarts w s c (Some m) = FailsToShow w s m

-- so of starts of a claim of a function
abbrev pub TellsFirst : AuditedFunction → Candidate → List Condition → List Start → Option ℕ → Type 0
TellsFirst f c set xs None = AllShow f c set xs
TellsFirst f c set xs (Some m) = FirstFailing f c set xs m

-- the clauses that have come have variables below their number
abbrev pub AreWithin : Option Cnf → Type 0
AreWithin None = Unit {0}
AreWithin (Some own) = All (AreBelow own.vars) own.store

-- what a line asks of what is known
abbrev pub IsReady : World → Known → BundleLine → Type 0
IsReady w s (line.Without kinds) = s.at ≡ None
IsReady w s line.Tried = IsOpenClaim w s
IsReady w s (line.Clauses lines) = IsOpenClaim w s
IsReady w s (line.Steps lines) = IsOpenClaim w s × ((own : Cnf) × (s.clauses ≡ Some own)) × AreWithin s.clauses
IsReady w s l = Unit {0}

-- clauses aren't refuted: no derivation is read, or what is read doesn't refute them
abbrev pub FailsToRefute : Cnf → List ℕ → Why → Type 0
FailsToRefute own block why.Form = (d : Derivation) → IsLrat (length own.store) block d → ⊥
FailsToRefute own block why.Derivation = (d : Derivation) × IsLrat (length own.store) block d × (IsRefutation own.vars own.store d.steps → ⊥)
FailsToRefute own block reason = ⊥

-- they are, and the claim is added
pub record IsRefuted (p : Progress) (block : List ℕ) (q : Progress) : Type 0 where
  pub at : ℕ
  pub c : Candidate
  pub claim : IsClaimOf (known_in p) at c
  pub own : Cnf
  pub is : p.clauses ≡ Some own
  pub d : Derivation
  pub read : IsLrat (length own.store) block d
  pub refutes : IsRefutation own.vars own.store d.steps
  pub known : known_in q ≡ with_claim (known_in p) at c
  pub number : q.number ≡ p.number

-- what the line of a derivation does
abbrev pub Derived : Progress → List ℕ → Step → Progress → Type 0
Derived p block step.Holds q = IsRefuted p block q
Derived p block (step.Fails m reason) q = (m ≡ p.number) × ((own : Cnf) × (p.clauses ≡ Some own) × FailsToRefute own block reason)

-- how the clauses of a block stand to others
abbrev pub IsCompared : List ℕ → Cnf → Compared → Type 0
IsCompared block own compared.Unread = dimacs_in block ≡ None
IsCompared block own compared.Same = dimacs_in block ≡ Some own
IsCompared block own compared.Other = (list : Cnf) × (dimacs_in block ≡ Some list) × (list ≢ own)

-- how an audit of a whole bundle ends: each line holds, with these claims, or one fails
abbrev pub IsEnd : World → List ℕ → Progress → Step → Type 0
IsEnd w bundle p step.Holds = IsAudit w bundle (Yes p.claims.items)
IsEnd w bundle p (step.Fails m reason) = IsAudit w bundle (No m reason)

-- how one ends that has come to a line
abbrev pub IsEndFrom : World → Stage → Progress → List ℕ → Step → Type 0
IsEndFrom w at p rest step.Holds = ⊥
IsEndFrom w at p rest (step.Fails m reason) = IsAuditFrom w at (known_in p) p.number rest (No m reason)
