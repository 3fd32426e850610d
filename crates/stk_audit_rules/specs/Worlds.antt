-- What stands for a source where a bundle is audited.
use Rattle.std.specs.Prelude.{◌≡◌, ℕ, Bool, List, ℤ}
use Rattle.stk_ctype.specs.declared.kind.IntKind.{IntKind}
use Rattle.stk_numbers.specs.declared.conditions.Kinds.{Kinds}
use Rattle.stk_numbers.specs.declared.conditions.Candidate.{Candidate}
use Rattle.stk_numbers.specs.declared.conditions.Condition.{Condition}
use Rattle.stk_meaning.specs.Findings.{Subject, Answers}
use Rattle.stk_clauses.specs.declared.store.Cnf.{Cnf}
use Rattle.stk_bundle.specs.Claims.{residues}

-- A function of a source: the kinds of its input keys and its candidates, both in order; what its findings speak of;
-- and which clauses stand for the query of a candidate and a set, within their bound on variables.
pub record AuditedFunction : Type 1 where
  pub keys : List IntKind
  pub candidates : List Candidate
  pub subject : Subject
  pub Stands : Candidate → List Condition → Cnf → Type 0

-- A source: how many bytes it has; at which of them the definition of an accepted function begins, with these kinds
-- taken out; and that function.
pub record World : Type 1 where
  pub length : ℕ
  pub is_function : Kinds → ℕ → Bool
  pub function : Kinds → ℕ → AuditedFunction

-- the residues of a line are those of an input map that answers the query of a candidate and a set: there is one for
-- each key, and the map is valid and its path run hits the candidate free of the set
pub record IsAnsweredBy (f : AuditedFunction) (c : Candidate) (set : List Condition) (start : List ℕ) : Type 0 where
  pub map : List ℤ
  pub same : residues f.keys map ≡ start
  pub answers : Answers f.subject c set map
