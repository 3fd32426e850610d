-- How what is said of units is written, one unit after the other.
use Rattle.std.proofs.Common.{◌≡◌, ℕ, ◌+◌, ◌<◌, ◌≤◌, inl, inr, List, length, get_or, Option, subst}
use Rattle.stk_lex.specs.declared.token.Token.{Token}
use Rattle.stk_lex.specs.declared.cutting.Piece.{Piece}
use Rattle.stk_ctype.specs.declared.symbol.NameEntry.{NameEntry}
use Rattle.stk_numbers.specs.declared.conditions.Kinds.{Kinds}
use Rattle.stk_records.specs.declared.counts.Counts.{Counts}
use Rattle.stk_records.specs.Counts.{counts_sum, AreBelow}
use Rattle.stk_units.specs.Pieces.{tokens_of_piece, body_of_piece}
use Rattle.stk_units.specs.Said.{AreToldFirst}
use Rattle.stk_units.proofs.Going.{AreSoFar, stops_between, stops_inside, one_more_told, unit_few}
use Rattle.stk_bundles.specs.Units.{said_text, said_marks, IsUnitPart, IsUnitBegun, WroteUnit, HasStoppedInUnit}
use Rattle.stk_bundles.proofs.Told.{units_are_told}

module _ (bytes : List ℕ) (without : Kinds) (budget : ℕ) (tokens : List Token) (pieces : List Piece) (before : Option (List ℕ)) (first i : ℕ) (middle : Option (List ℕ)) (last : ℕ) (counts : Counts) (now : List NameEntry) (d : Piece) (within : i < length pieces) (body : Option ℕ) (unit : List Token)
    (same_body : body ≡ body_of_piece (get_or pieces i d)) (same_unit : unit ≡ tokens_of_piece tokens (get_or pieces i d))
    (h : AreSoFar (IsUnitPart bytes without budget) (IsUnitBegun bytes without budget) said_text said_marks tokens pieces i before middle first last counts now) where
  -- a unit is written
  pub unit_told : (after : Option (List ℕ)) (later : ℕ) (left : List NameEntry) (more : Counts) → last ≤ later → let q = get_or pieces i d in
      WroteUnit bytes without budget q.no_return now body unit middle after last later more left
      → AreSoFar (IsUnitPart bytes without budget) (IsUnitBegun bytes without budget) said_text said_marks tokens pieces (i + 1) before after first later (counts_sum counts more) left
  unit_told after later left more up w =
      let q : Piece = get_or pieces i d in
      let are = subst (λ (o : Option ℕ). IsUnitPart bytes without budget q.no_return now o (tokens_of_piece tokens q) w.said more left) same_body
      (subst (λ (ts : List Token). IsUnitPart bytes without budget q.no_return now body ts w.said more left) same_unit w.are) in
      one_more_told (IsUnitPart bytes without budget) (IsUnitBegun bytes without budget) said_text said_marks (units_are_told bytes without budget) tokens pieces before first i middle last counts now h d within after later left w.said more up are w.written w.counted

  -- what it counts for is few
  pub told_few : (after : Option (List ℕ)) (later : ℕ) (left : List NameEntry) (more : Counts) → length tokens ≤ 16777216 → let q = get_or pieces i d in
      WroteUnit bytes without budget q.no_return now body unit middle after last later more left → AreBelow more
  told_few after later left more few w =
      let q : Piece = get_or pieces i d in
      unit_few (IsUnitPart bytes without budget) (IsUnitBegun bytes without budget) said_text said_marks (units_are_told bytes without budget) tokens pieces before first i middle last counts now h d within q.no_return now left body unit w.said more few same_unit w.are

  -- the writing of a unit stopped
  pub unit_stops : (after : Option (List ℕ)) → let q = get_or pieces i d in
      HasStoppedInUnit bytes without budget q.no_return now body unit middle after → AreToldFirst (IsUnitPart bytes without budget) (IsUnitBegun bytes without budget) said_text tokens pieces before after
  unit_stops after (inl same) = stops_between (IsUnitPart bytes without budget) (IsUnitBegun bytes without budget) said_text said_marks (units_are_told bytes without budget) tokens pieces before first i middle last counts now h after same
  unit_stops after (inr w) =
      let q : Piece = get_or pieces i d in
      let begun = subst (λ (o : Option ℕ). IsUnitBegun bytes without budget q.no_return now o (tokens_of_piece tokens q) w.said) same_body
      (subst (λ (ts : List Token). IsUnitBegun bytes without budget q.no_return now body ts w.said) same_unit w.begun) in
      stops_inside (IsUnitPart bytes without budget) (IsUnitBegun bytes without budget) said_text said_marks (units_are_told bytes without budget) tokens pieces before first i middle last counts now h d within after w.said begun w.written
