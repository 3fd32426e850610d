-- Which answer an audit of a bundle has.
use Rattle.std.specs.Prelude.{◌≡◌, ◌≢◌, ℕ, ◌+◌, List, []}
use Rattle.stk_numbers.specs.declared.conditions.Candidate.{Candidate}
use Rattle.stk_bundle.specs.declared.line.BundleLine.{BundleLine}
use Rattle.stk_bundle.specs.declared.stage.Stage.{Stage}
use Rattle.stk_bundle.specs.declared.stage.Stage.TheVariants as stage
use Rattle.stk_bundle.specs.Blocks.{line_count}
use Rattle.stk_bundle.specs.Bundles.{IsNextPart, NoLineStands, IsBlockShort}
use Rattle.stk_audit_rules.specs.declared.audit.Why.{Why}
use Rattle.stk_audit_rules.specs.declared.audit.Why.TheVariants as why
use Rattle.stk_audit_rules.specs.declared.audit.Audit.{Audit}
use Rattle.stk_audit_rules.specs.declared.audit.Audit.TheVariants.{Yes, No}
use Rattle.stk_audit_rules.specs.Worlds.{World}
use Rattle.stk_audit_rules.specs.Knowing.{Known, nothing_known}
use Rattle.stk_audit_rules.specs.Starts.{IsShown, FailsToShow}
use Rattle.stk_audit_rules.specs.Reasons.{Holds, Fails}

-- the starts of a claim are tested at a line that closes its set, also where the block of that line is short
abbrev pub HasPassed : World → Stage → Known → Type 0
HasPassed w at s = at ≡ stage.Set → (begin : ℕ) × (c : Candidate) × IsShown w s begin c

module _ (w : World) where
  -- The answer for what is left of a bundle, whose first line has the number n: all claims, where each line holds up to
  -- `end` and nothing comes behind it; else the line that the first failing one names, and why. No line may stand
  -- behind `end`. Where a block isn't all there, the line behind the last one is named.
  pub data IsAuditFrom : Stage → Known → ℕ → List ℕ → Audit → Type 0 where
    all_hold : {s : Known} {n : ℕ} → IsAuditFrom stage.Ended s n [] (Yes s.claims)
    goes_on : {at next : Stage} {s t : Known} {n : ℕ} {text block behind : List ℕ} {line : BundleLine} {a : Audit} → IsNextPart at text (record { line = line; block = block }) next behind → Holds w s n line block t
        → IsAuditFrom next t (n + 1 + line_count block) behind a → IsAuditFrom at s n text a
    fails : {at next : Stage} {s : Known} {n m : ℕ} {text block behind : List ℕ} {line : BundleLine} {reason : Why} → IsNextPart at text (record { line = line; block = block }) next behind → Fails w s n line block m reason
        → IsAuditFrom at s n text (No m reason)
    no_line : {at : Stage} {s : Known} {n : ℕ} {text : List ℕ} → (at ≡ stage.Ended → text ≢ []) → NoLineStands at text → IsAuditFrom at s n text (No n why.Form)
    short_start : {s : Known} {n m : ℕ} {text : List ℕ} → IsBlockShort stage.Set text → FailsToShow w s m → IsAuditFrom stage.Set s n text (No m why.Start)
    short_block : {at : Stage} {s : Known} {n : ℕ} {text : List ℕ} → IsBlockShort at text → HasPassed w at s → IsAuditFrom at s n text (No (n + line_count text) why.Form)

  -- the answer of an audit of a bundle
  abbrev pub IsAudit : List ℕ → Audit → Type 0
  IsAudit bundle a = IsAuditFrom stage.Start nothing_known 1 bundle a
