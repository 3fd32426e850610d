-- What an audit of a source writes.
use Rattle.std.specs.Prelude.{ℕ, List, [], ◌++◌, length, codes, decimal}
use Rattle.stk_base.specs.declared.status.Status.{Status}
use Rattle.stk_base.specs.declared.status.Status.TheVariants as status
use Rattle.stk_lex.specs.declared.token.Token.{Token}
use Rattle.stk_lex.specs.Cut.{IsCut}
use Rattle.stk_lex.specs.Skimming.{kept_tokens, notes_of}
use Rattle.stk_lex.specs.Units.{units_of}
use Rattle.stk_audit_rules.specs.declared.audit.Why.{Why}
use Rattle.stk_audit_rules.specs.declared.audit.Why.TheVariants as why
use Rattle.stk_audit_rules.specs.declared.audit.Audit.{Audit}
use Rattle.stk_audit_rules.specs.declared.audit.Audit.TheVariants.{Yes, No}
use Rattle.stk_audit_rules.specs.Audits.{IsAudit}
use Rattle.stk_audit_rules.specs.Truths.{HasTrueClaims}
use Rattle.stk_source_audit.specs.Reading.{ReadUnit, AreRead}
use Rattle.stk_source_audit.specs.Sources.{world_of}

-- A source is cut into its longest tokens; those that skimming keeps are cut into units by brackets; and these are read
-- so, one after the other, where no names are in force before the first.
pub record AreUnitsOf (source : List ℕ) (units : List ReadUnit) : Type 0 where
  pub tokens : List Token
  pub cut : IsCut source tokens
  pub read : AreRead source (kept_tokens source tokens) [] (units_of source (kept_tokens source tokens) (notes_of source tokens)) units

-- what an audit of a bundle by its source answers; where it answers yes, the claims are true of the source
pub record IsAuditOf (bundle source : List ℕ) (answer : Audit) : Type 0 where
  pub units : List ReadUnit
  pub are : AreUnitsOf source units
  pub audited : IsAudit (world_of source units) bundle answer
  pub claims : HasTrueClaims (world_of source units) bundle answer

-- the word of a reason
abbrev pub why_text : Why → List ℕ
why_text why.Form = codes "form"
why_text why.Name = codes "name"
why_text why.Start = codes "start"
why_text why.Tried = codes "tried"
why_text (why.Formula own) = codes "formula"
why_text why.Derivation = codes "derivation"

-- the line of an answer: how many claims hold; or which line fails, and why
abbrev pub answer_text : Audit → List ℕ
answer_text (Yes claims) = decimal (length claims) ++ codes " claims hold\n"
answer_text (No line reason) = codes "line " ++ decimal line ++ codes ": " ++ why_text reason ++ codes "\n"

-- its status
abbrev pub answer_status : Audit → Status
answer_status (Yes claims) = status.Stable
answer_status (No line reason) = status.Found
