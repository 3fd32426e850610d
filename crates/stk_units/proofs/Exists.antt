-- Something becomes of each unit.
use Rattle.std.proofs.Common.{◌≡◌, ℕ, Bool, List, Option, Some, None, refl}
use Rattle.stk_lex.specs.declared.token.Token.{Token}
use Rattle.stk_ctype.specs.declared.symbol.NameEntry.{NameEntry}
use Rattle.stk_tree.specs.Syntax.{UnitTree}
use Rattle.stk_tree.specs.Syntax as s
use Rattle.stk_numbers.specs.declared.conditions.Kinds.{Kinds}
use Rattle.stk_accept.specs.Accepting.{Accepts}
use Rattle.stk_accept.proofs.Exists.{settled, is_accepted, is_refused}
use Rattle.stk_records.specs.declared.line.Cause.{Cause}
use Rattle.stk_units.specs.Causes.{cause_of, body_cause}
use Rattle.stk_units.specs.Outcomes.{UnitOutcome, no_function, left_out, is_judged, IsOutcome, declaring, refusing, leaving, judging}

pub record HasOutcome (bytes : List ℕ) (without : Kinds) (mark : Bool) (es : List NameEntry) (body : Option ℕ) (tokens : List Token) : Type 0 where
  pub outcome : UnitOutcome
  pub now : List NameEntry
  pub is : IsOutcome bytes without mark es body tokens outcome now

module _ (bytes : List ℕ) (without : Kinds) (mark : Bool) (es : List NameEntry) (body : Option ℕ) (tokens : List Token) where
  of_tree : (u : UnitTree) (now : List NameEntry) → Accepts bytes mark es tokens u now → HasOutcome bytes without mark es body tokens
  of_tree (s.empty_unit n) now h = record { outcome = no_function; now = now; is = declaring (s.empty_unit n) h refl }
  of_tree (s.declares n d) now h = record { outcome = no_function; now = now; is = declaring (s.declares n d) h refl }
  of_tree (s.defines n f) now h = on (body_cause bytes without now (s.defines n f)) refl where
    on : (o : Option Cause) → body_cause bytes without now (s.defines n f) ≡ o → HasOutcome bytes without mark es body tokens
    on (Some cause) e = record { outcome = left_out cause; now = now; is = leaving n f cause h e }
    on None e = record { outcome = is_judged n f; now = now; is = judging n f h e }

  pub outcome_exists : HasOutcome bytes without mark es body tokens
  outcome_exists =
      elim (settled bytes mark es tokens body) [
        | is_accepted u now h ↦ of_tree u now h
        | is_refused cause now h ↦ record { outcome = left_out (cause_of bytes cause); now = now; is = refusing cause h }
      ]
