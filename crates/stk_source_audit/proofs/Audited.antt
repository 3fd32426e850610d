-- The audit by a source's own answers is one by its world.
use Rattle.std.proofs.Common.{◌≡◌, ℕ, List, [], None, sym, subst}
use Rattle.stk_lex.specs.declared.token.Token.{Token}
use Rattle.stk_lex.specs.declared.cutting.Piece.{Piece}
use Rattle.stk_audit_rules.specs.Worlds.{World}
use Rattle.stk_audit_rules.specs.Truths.{IsSound}
use Rattle.stk_source_audit.specs.Reading.{ReadUnit, AreRead}
use Rattle.stk_source_audit.specs.Reader.{units_read}
use Rattle.stk_source_audit.specs.Sources.{world_of, source_world, SourceAtHand}
use Rattle.stk_source_audit.proofs.ReadUnits.{are_read, one_reading}
use Rattle.stk_source_audit.proofs.Soundness.{source_is_sound}

module _ (bytes : List ℕ) (tokens : List Token) (pieces : List Piece) (self : SourceAtHand) (fresh : ◌≡◌ {A = SourceAtHand} self (record { source = record { bytes = bytes; tokens = tokens; pieces = pieces }; hand = None })) where
  -- what holds of its world holds of the world of any reading
  pub of_reading : (P : World → Type 0) → P (source_world self.source) → (units : List ReadUnit) → AreRead bytes tokens [] pieces units → P (world_of bytes units)
  of_reading P p units read = subst (λ (xs : List ReadUnit). P (world_of bytes xs)) (one_reading bytes tokens [] pieces units read) (subst (λ (y : SourceAtHand). P (source_world y.source)) fresh p)

  pub sound_there : IsSound (source_world self.source)
  sound_there = subst (λ (y : SourceAtHand). IsSound (source_world y.source)) (sym fresh) (source_is_sound bytes tokens pieces (units_read bytes tokens [] pieces) (are_read bytes tokens [] pieces))
