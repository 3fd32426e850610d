use Rattle.std.proofs.Common.{ℕ, List, length, Option}
use Rattle.stk_lex.specs.declared.cutting.Piece.{Piece}
use Rattle.stk_lex.specs.Units.{AreJoined}
use Rattle.stk_ctype.specs.declared.symbol.NameEntry.{NameEntry}
use Rattle.stk_tree.specs.Syntax.{UnitTree}
use Rattle.stk_type_laws.specs.Orderly.{AreOrderly}
use Rattle.stk_source_audit.specs.Finding.{HasFound}
use Rattle.stk_source_audit.proofs.units.find_unit.Given as goal

-- whatever is found among the pieces that are left is found among all
abbrev pub invariant-loop-piece : goal.invariant-loop-piece
invariant-loop-piece l = record {
  joined : (from : ℕ) × AreJoined from (length l.text.tokens.now) l.rest;
  orderly : AreOrderly l.names;
  goes_on : (tree : Option UnitTree) (now : List NameEntry) (behind : List Piece) → HasFound l.text.bytes.now l.text.tokens.now l.names l.rest l.at tree now behind → HasFound l.text.bytes.now l.text.tokens.now l.initial.names l.pieces l.at tree now behind;
}

abbrev pub decreases-loop-piece : goal.decreases-loop-piece
decreases-loop-piece l = length l.rest
