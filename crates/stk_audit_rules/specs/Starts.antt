-- Whether the starts of a claim show what they should, once its set is known.
use Rattle.std.specs.Prelude.{◌≡◌, ℕ, Bool, true, false, if◌then◌else◌, List, [], ◌∷◌, ◌++◌, Option, Some, None}
use Rattle.stk_numbers.specs.declared.conditions.Candidate.{Candidate}
use Rattle.stk_numbers.specs.declared.conditions.Condition.{Condition}
use Rattle.stk_meaning.specs.Hits.{same_condition}
use Rattle.stk_bundle.specs.declared.line.BundleLine.{BundleLine}
use Rattle.stk_bundle.specs.declared.line.BundleLine.TheVariants.{Tried, Clauses}
use Rattle.stk_audit_rules.specs.declared.audit.Start.{Start}
use Rattle.stk_audit_rules.specs.Worlds.{World, AuditedFunction, IsAnsweredBy}
use Rattle.stk_audit_rules.specs.Knowing.{Known}

-- the other conditions of a set
abbrev pub other_than : Condition → Condition → List Condition
other_than k j = if same_condition j k then [] else j ∷ []

abbrev pub others : Condition → List Condition → List Condition
others k [] = []
others k (j ∷ js) = other_than k j ++ others k js

-- the conditions of which the run of a start violates none before it hits the candidate: where it shows that one is
-- needed, the others of the set
abbrev pub kept_free : Option Condition → List Condition → List Condition
kept_free None set = []
kept_free (Some k) set = others k set

-- whether a claim's set is known behind this line
abbrev pub closes : BundleLine → Bool
closes Tried = true
closes (Clauses lines) = true
closes line = false

-- the claim that is being read is of this candidate of the function that begins at this byte
pub record IsClaimOf (s : Known) (at : ℕ) (c : Candidate) : Type 0 where
  pub here : s.at ≡ Some at
  pub this : s.last ≡ Some c

module _ (f : AuditedFunction) (c : Candidate) (set : List Condition) where
  -- a start shows what it should
  abbrev pub Shows : Start → Type 0
  Shows x = IsAnsweredBy f c (kept_free x.shows set) x.residues

  -- each start does
  pub data AllShow : List Start → Type 0 where
    no_more : AllShow []
    one_more : {x : Start} {xs : List Start} → Shows x → AllShow xs → AllShow (x ∷ xs)

  -- the first start that doesn't stands on this line
  pub data FirstFailing : List Start → ℕ → Type 0 where
    this : {x : Start} {xs : List Start} → (Shows x → ⊥) → FirstFailing (x ∷ xs) x.line
    later : {x : Start} {xs : List Start} {line : ℕ} → Shows x → FirstFailing xs line → FirstFailing (x ∷ xs) line

-- the starts of the claim that is being read show what they should
pub record IsShown (w : World) (s : Known) (at : ℕ) (c : Candidate) : Type 0 where
  pub claim : IsClaimOf s at c
  pub all : AllShow (w.function s.without at) c s.members s.starts

-- the first of them that doesn't stands on this line
pub record FailsToShow (w : World) (s : Known) (line : ℕ) : Type 0 where
  pub at : ℕ
  pub c : Candidate
  pub claim : IsClaimOf s at c
  pub first : FirstFailing (w.function s.without at) c s.members s.starts line
