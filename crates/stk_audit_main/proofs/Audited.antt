-- The audit by the units of a source.
use Rattle.std.proofs.Common.{◌≡◌, ℕ, ◌≤◌, List, [], length, sym, subst}
use Rattle.stk_base.specs.Limits.{most_bytes}
use Rattle.stk_lex.specs.declared.token.Token.{Token}
use Rattle.stk_lex.specs.declared.cutting.Piece.{Piece}
use Rattle.stk_lex.specs.Cut.{AreSpans}
use Rattle.stk_lex.specs.Skimming.{notes_of}
use Rattle.stk_lex.specs.Units.{units_of, AreJoined}
use Rattle.stk_units.specs.Pieces as cuts
use Rattle.stk_audit_rules.specs.declared.audit.Audit.{Audit}
use Rattle.stk_audit_rules.specs.Audits.{IsAudit}
use Rattle.stk_audit_rules.specs.Truths.{HasTrueClaims}
use Rattle.stk_source_audit.specs.Reading.{ReadUnit, AreRead}
use Rattle.stk_source_audit.specs.Reader.{units_read}
use Rattle.stk_source_audit.specs.Sources.{world_of}
use Rattle.stk_source_audit.specs.Keeping.{IsCutWell}
use Rattle.stk_source_audit.proofs.ReadUnits.{are_read}
use Rattle.stk_audit_main.specs.Answering.{AreUnitsOf, IsAuditOf}

module _ (source : List ℕ) (kept : List Token) (pieces : List Piece) (cut : cuts.AreUnitsOf source kept pieces) where
  abbrev units : List ReadUnit
  units = units_read source kept [] pieces

  -- the units that are read of these pieces are those of the source
  are_units : AreUnitsOf source units
  are_units =
      let here = subst (λ (ps : List Piece). AreRead source kept [] ps units) cut.same_pieces (are_read source kept [] pieces) in
      record {
        tokens = cut.tokens;
        cut = cut.cut;
        read = subst (λ (ts : List Token). AreRead source ts [] (units_of source ts (notes_of source cut.tokens)) units) cut.same_tokens here;
      }

  audit_by_units : (bundle : List ℕ) (answer : Audit) → ((xs : List ReadUnit) → AreRead source kept [] pieces xs → IsAudit (world_of source xs) bundle answer) → ((xs : List ReadUnit) → AreRead source kept [] pieces xs → HasTrueClaims (world_of source xs) bundle answer) → IsAuditOf bundle source answer
  audit_by_units bundle answer audited claims = record {
    units = units;
    are = are_units;
    audited = audited units (are_read source kept [] pieces);
    claims = claims units (are_read source kept [] pieces);
  }

-- tokens and pieces that stand well, as slices
pub cut_well : (source : List ℕ) (kept given : List Token) (pieces those : List Piece) → given ≡ kept → those ≡ pieces → AreSpans (length source) 0 kept → length kept ≤ most_bytes → AreJoined 0 (length kept) pieces
    → IsCutWell (record { bytes = source; tokens = given; pieces = those })
cut_well source kept given pieces those tokens-are pieces-are spans few joined =
    subst (λ (ps : List Piece). IsCutWell (record { bytes = source; tokens = given; pieces = ps })) (sym pieces-are)
    (subst (λ (ts : List Token). IsCutWell (record { bytes = source; tokens = ts; pieces = pieces })) (sym tokens-are) (record { spans = spans; few = few; joined = joined }))

-- and the audit by them
pub audit_by : (bundle source : List ℕ) (kept given : List Token) (pieces those : List Piece) (answer : Audit) → given ≡ kept → those ≡ pieces → cuts.AreUnitsOf source kept pieces
    → ((xs : List ReadUnit) → AreRead source given [] those xs → IsAudit (world_of source xs) bundle answer) → ((xs : List ReadUnit) → AreRead source given [] those xs → HasTrueClaims (world_of source xs) bundle answer) → IsAuditOf bundle source answer
audit_by bundle source kept given pieces those answer tokens-are pieces-are cut audited claims =
    let a = subst (λ (ts : List Token). cuts.AreUnitsOf source ts pieces) (sym tokens-are) cut in
    let b = subst (λ (ps : List Piece). cuts.AreUnitsOf source given ps) (sym pieces-are) a in
    audit_by_units source given those b bundle answer audited claims
