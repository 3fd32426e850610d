-- The units of a source are read in one way.
use Rattle.std.proofs.Common.{◌≡◌, ℕ, List, [], ◌∷◌, refl, sym, ap, ◌∙◌}
use Rattle.stk_lex.specs.declared.token.Token.{Token}
use Rattle.stk_lex.specs.declared.cutting.Piece.{Piece}
use Rattle.stk_ctype.specs.declared.symbol.NameEntry.{NameEntry}
use Rattle.stk_units.specs.Pieces.{tokens_of_piece, body_of_piece}
use Rattle.stk_source_audit.specs.Reading.{ReadUnit, AreRead, no_unit, then_unit}
use Rattle.stk_source_audit.specs.Reader.{unit_of_piece, units_read}
use Rattle.stk_source_audit.proofs.ReadOne.{read_is, is_read}

module _ (bytes : List ℕ) (tokens : List Token) where
  pub are_read : (es : List NameEntry) (ps : List Piece) → AreRead bytes tokens es ps (units_read bytes tokens es ps)
  unfolding units_read
  are_read es [] = no_unit
  are_read es (p ∷ ps) =
      let one = is_read bytes p.no_return es (body_of_piece p) (tokens_of_piece tokens p) in
      then_unit one.at one.is (are_read (unit_of_piece bytes tokens es p).now ps)

  pub one_reading : (es : List NameEntry) (ps : List Piece) (xs : List ReadUnit) → AreRead bytes tokens es ps xs → units_read bytes tokens es ps ≡ xs
  unfolding units_read
  one_reading es [] [] no_unit = refl
  one_reading es [] (x ∷ xs) h = elim h [ ]
  one_reading es (p ∷ ps) [] h = elim h [ ]
  one_reading es (p ∷ ps) (x ∷ xs) (then_unit at is others) =
      let one : unit_of_piece bytes tokens es p ≡ x = read_is bytes p.no_return es (body_of_piece p) (tokens_of_piece tokens p) x.tree x.now is ∙ ap (λ (n : ℕ). record { at = n; tree = x.tree; now = x.now }) (sym at) in
      ap (λ (y : ReadUnit). y ∷ units_read bytes tokens y.now ps) one ∙ ap (λ (ys : List ReadUnit). x ∷ ys) (one_reading x.now ps xs others)
