-- What is known between two lines of a bundle.
use Rattle.std.specs.Prelude.{ℕ, ◌-◌, List, [], ◌∷◌, ◌++◌, length, slice_get, Option, Some, None}
use Rattle.stk_numbers.specs.declared.conditions.Kinds.{Kinds}
use Rattle.stk_numbers.specs.declared.conditions.UbKind.{UbKind}
use Rattle.stk_numbers.specs.declared.conditions.UbKind.TheVariants as ub
use Rattle.stk_numbers.specs.declared.conditions.Candidate.{Candidate}
use Rattle.stk_numbers.specs.declared.conditions.Condition.{Condition}
use Rattle.stk_clauses.specs.declared.store.Cnf.{Cnf}
use Rattle.stk_bundle.specs.Kinds.{is_listed}
use Rattle.stk_audit_rules.specs.declared.audit.Claim.{Claim}
use Rattle.stk_audit_rules.specs.declared.audit.Start.{Start}

-- the kinds that a line `without` takes out
abbrev pub kinds_taken : List UbKind → Kinds
kinds_taken ks = record {
  overflow = is_listed ks ub.Overflow;
  zero = is_listed ks ub.Zero;
  shift = is_listed ks ub.Shift;
  null = is_listed ks ub.Null;
  pointer = is_listed ks ub.Pointer;
  bounds = is_listed ks ub.Bounds;
  abs = is_listed ks ub.AbsValue;
  copy = is_listed ks ub.Overlap;
}

-- The kinds taken out; where the function at hand begins; the last candidate that was named of it; of the claim that is
-- being read its conditions, its starts and its clauses, once they have come; and the claims that hold.
pub record Known : Type 0 where
  pub without : Kinds
  pub at : Option ℕ
  pub last : Option Candidate
  pub members : List Condition
  pub starts : List Start
  pub clauses : Option Cnf
  pub claims : List Claim

-- before the first line
abbrev pub nothing_known : Known
nothing_known = record { without = kinds_taken []; at = None; last = None; members = []; starts = []; clauses = None; claims = [] }

-- the last condition of some
abbrev pub last_of : List Condition → Option Condition
last_of ks = slice_get ks (length ks - 1)

-- the claim that was read, of the candidate c of the function that begins at a byte
abbrev pub claim_of : Known → ℕ → Candidate → Claim
claim_of s at c = record { at = at; candidate = c; set = s.members; starts = s.starts }

-- a function is at hand
abbrev pub with_function : Known → ℕ → Known
with_function s at = record s { at = Some at; last = None; members = []; starts = [] }

-- a candidate of it is named
abbrev pub with_candidate : Known → Candidate → Known
with_candidate s c = record s { last = Some c; members = []; starts = [] }

-- the claim that is being read has a condition more
abbrev pub with_member : Known → Condition → Known
with_member s k = record s { members = s.members ++ k ∷ [] }

-- it has a start more, on this line
abbrev pub with_start : Known → ℕ → List ℕ → Option Condition → Known
with_start s line residues shows = record s { starts = s.starts ++ record { line = line; residues = residues; shows = shows } ∷ [] }

-- its clauses have come
abbrev pub with_clauses : Known → Cnf → Known
with_clauses s own = record s { clauses = Some own }

-- a claim more holds, which has the starts that were read
abbrev pub with_claim : Known → ℕ → Candidate → Known
with_claim s at c = record s { starts = []; claims = s.claims ++ claim_of s at c ∷ [] }
