-- The lines of units, one after the other: each unit has lines.
use Rattle.std.proofs.Common.{ℕ, List, [], ◌∷◌, ◌++◌, length, arith}
use Rattle.stk_ctype.specs.declared.symbol.NameEntry.{NameEntry}
use Rattle.stk_lex.specs.declared.token.Token.{Token}
use Rattle.stk_lex.specs.declared.cutting.Piece.{Piece}
use Rattle.stk_lex.specs.Units.{AreJoined}
use Rattle.stk_records.specs.declared.options.Options.{Options}
use Rattle.stk_records.specs.declared.counts.Counts.{Counts}
use Rattle.stk_records.specs.Counts.{nothing_counted, counts_sum}
use Rattle.stk_type_laws.specs.Orderly.{AreOrderly}
use Rattle.stk_units.specs.Pieces.{body_of_piece, tokens_of_piece}
use Rattle.stk_units.specs.Said.{no_unit, then_unit}
use Rattle.stk_units.proofs.Going.{joined_up, piece_some}
use Rattle.stk_unit_lines.proofs.Exists.{lines_of_unit, left_orderly}
use Rattle.stk_records.specs.declared.line.Line.{Line}
use Rattle.stk_lint.specs.LawfulText.{AreUnitsLines}

pub record HaveLines (bytes : List ℕ) (o : Options) (tokens : List Token) (es : List NameEntry) (ps : List Piece) : Type 0 where
  pub lines : List Line
  pub counts : Counts
  pub are : AreUnitsLines bytes o tokens es ps lines counts

pub lines_of_units : (bytes : List ℕ) (o : Options) (tokens : List Token) (es : List NameEntry) (from : ℕ) (ps : List Piece) → AreOrderly es → AreJoined from (length tokens) ps → HaveLines bytes o tokens es ps
lines_of_units bytes o tokens es from [] orderly h = record { lines = []; counts = nothing_counted; are = no_unit }
lines_of_units bytes o tokens es from (p ∷ ps) orderly h =
    let unit = lines_of_unit bytes o.without o.budget p.no_return es (body_of_piece p) orderly (tokens_of_piece tokens p) (piece_some tokens p (omega (arith, h.0, h.1)) (joined_up p.to (length tokens) ps h.3)) in
    let others = lines_of_units bytes o tokens unit.now p.to ps (left_orderly orderly unit) h.3 in
    record { lines = unit.lines ++ others.lines; counts = counts_sum unit.counts others.counts; are = then_unit unit.is others.are }
