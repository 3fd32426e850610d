-- What is known where units were read up to one that begins at a byte.
use Rattle.std.specs.Prelude.{◌≡◌, ◌<◌, ◌^◌, ℕ, List, length, Option, IfSome}
use Rattle.stk_lex.specs.declared.token.Token.{Token}
use Rattle.stk_lex.specs.declared.cutting.Piece.{Piece}
use Rattle.stk_lex.specs.Units.{AreJoined}
use Rattle.stk_ctype.specs.declared.symbol.NameEntry.{NameEntry}
use Rattle.stk_tree.specs.Syntax.{UnitTree}
use Rattle.stk_type_laws.specs.Orderly.{AreOrderly}
use Rattle.stk_units.specs.Known.{WasAccepted, IsReadWell}
use Rattle.stk_source_audit.specs.Reader.{units_read}
use Rattle.stk_source_audit.specs.Definitions.{definition_in, definition_at}

-- a unit was accepted under names as units leave them, and leaves these; its nodes are laid out
pub record IsKnownUnit (bytes : List ℕ) (u : UnitTree) (now : List NameEntry) : Type 0 where
  pub tokens : List Token
  pub accepted : WasAccepted bytes tokens u now
  pub read : IsReadWell u

-- Of these pieces, where these names are in force before them, units were read up to the one that begins at a byte, if
-- one does: its tree, if it is accepted, the names that are in force then, and the pieces that are left. The definition
-- that begins there is that of the tree, and those that begin behind it are those of the pieces that are left.
pub record HasFound (bytes : List ℕ) (tokens : List Token) (es : List NameEntry) (pieces : List Piece) (at : ℕ) (tree : Option UnitTree) (now : List NameEntry) (rest : List Piece) : Type 0 where
  pub found : definition_at (units_read bytes tokens es pieces) at ≡ definition_in now tree
  pub ahead : (later : ℕ) → at < later → definition_at (units_read bytes tokens es pieces) later ≡ definition_at (units_read bytes tokens now rest) later
  pub joined : (from : ℕ) × AreJoined from (length tokens) rest
  pub orderly : AreOrderly now
  pub known : IfSome tree (λ u. IsKnownUnit bytes u now)
  pub near : IfSome tree (λ u. at < 2 ^ 32)
