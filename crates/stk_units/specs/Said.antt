-- What is said of the units of an input, one after the other: the lines of records, or the parts of a bundle. What is
-- said of one unit is a parameter; that each stands under the names that those before it leave, and that their counts
-- are added up, is said here once.
use Rattle.std.specs.Prelude.{ℕ, Bool, List, [], ◌∷◌, ◌++◌, Option}
use Rattle.stk_base.specs.Streams.{Appended, AppendedPrefix}
use Rattle.stk_lex.specs.declared.token.Token.{Token}
use Rattle.stk_lex.specs.declared.cutting.Piece.{Piece}
use Rattle.stk_lex.specs.Cut.{IsCut}
use Rattle.stk_lex.specs.Skimming.{kept_tokens, notes_of}
use Rattle.stk_lex.specs.Units.{units_of}
use Rattle.stk_ctype.specs.declared.symbol.NameEntry.{NameEntry}
use Rattle.stk_records.specs.declared.counts.Counts.{Counts}
use Rattle.stk_records.specs.Counts.{nothing_counted, counts_sum}
use Rattle.stk_spent_queries.specs.Marks.{AreCounted}
use Rattle.stk_units.specs.Pieces.{tokens_of_piece, body_of_piece}

-- What is said of a unit of these tokens, which may be marked as one of functions that don't return, and of whose
-- tokens so many may stand before a body: what is said in order, what it counts for, and the names that it leaves in
-- force, where these are in force before it.
abbrev pub UnitSaying : Type 0 → Type 1
UnitSaying A = Bool → List NameEntry → Option ℕ → List Token → List A → Counts → List NameEntry → Type 0

-- what may be said first of a unit, before all of it is known
abbrev pub UnitBeginning : Type 0 → Type 1
UnitBeginning A = Bool → List NameEntry → Option ℕ → List Token → List A → Type 0

-- what is said of units, one after the other, each under the names that those before it leave, and their counts
-- together
pub data AreSaid {A : Type 0} (Says : UnitSaying A) (tokens : List Token) : List NameEntry → List Piece → List A → Counts → Type 0 where
  no_unit : {es : List NameEntry} → AreSaid Says tokens es [] [] nothing_counted
  then_unit : {es now : List NameEntry} {p : Piece} {ps : List Piece} {said others : List A} {counts more : Counts} → Says p.no_return es (body_of_piece p) (tokens_of_piece tokens p) said counts now
      → AreSaid Says tokens now ps others more → AreSaid Says tokens es (p ∷ ps) (said ++ others) (counts_sum counts more)

-- what is said of the first of them, and then what may be said first of the next one
pub data AreSaidFirst {A : Type 0} (Says : UnitSaying A) (Begins : UnitBeginning A) (tokens : List Token) : List NameEntry → List Piece → List A → Type 0 where
  no_further : {es : List NameEntry} {ps : List Piece} → AreSaidFirst Says Begins tokens es ps []
  next_begun : {es : List NameEntry} {p : Piece} {ps : List Piece} {said : List A} → Begins p.no_return es (body_of_piece p) (tokens_of_piece tokens p) said → AreSaidFirst Says Begins tokens es (p ∷ ps) said
  unit_before : {es now : List NameEntry} {p : Piece} {ps : List Piece} {said others : List A} {counts : Counts} → Says p.no_return es (body_of_piece p) (tokens_of_piece tokens p) said counts now
      → AreSaidFirst Says Begins tokens now ps others → AreSaidFirst Says Begins tokens es (p ∷ ps) (said ++ others)

-- What is said of an input: it is cut into tokens, of these skimming keeps some, and those are cut into units. No names
-- are in force before the first.
pub record IsSaidOf {A : Type 0} (Says : UnitSaying A) (bytes : List ℕ) (said : List A) (counts : Counts) : Type 0 where
  pub tokens : List Token
  pub cut : IsCut bytes tokens
  pub units : AreSaid Says (kept_tokens bytes tokens) [] (units_of bytes (kept_tokens bytes tokens) (notes_of bytes tokens)) said counts

-- what is said of its first units, and then what may be said first of the next one
pub record IsSaidFirstOf {A : Type 0} (Says : UnitSaying A) (Begins : UnitBeginning A) (bytes : List ℕ) (said : List A) : Type 0 where
  pub tokens : List Token
  pub cut : IsCut bytes tokens
  pub units : AreSaidFirst Says Begins (kept_tokens bytes tokens) [] (units_of bytes (kept_tokens bytes tokens) (notes_of bytes tokens)) said

-- ---- what a sink took, where what is said has a text and marks

-- a sink took all that is said of units, and a count of what was given up tells of the marks
pub record AreAllTold {A : Type 0} (Says : UnitSaying A) (text : List A → List ℕ) (marks : List A → ℕ) (tokens : List Token) (pieces : List Piece) (before after : Option (List ℕ)) (first last : ℕ) (counts : Counts) : Type 0 where
  pub said : List A
  pub are : AreSaid Says tokens [] pieces said counts
  pub written : Appended before after (text said)
  pub counted : AreCounted first last (marks said)

-- a sink took some prefix of what is said of the first of them, and then of what may be said first of the next one
pub record AreToldFirst {A : Type 0} (Says : UnitSaying A) (Begins : UnitBeginning A) (text : List A → List ℕ) (tokens : List Token) (pieces : List Piece) (before after : Option (List ℕ)) : Type 0 where
  pub said : List A
  pub are : AreSaidFirst Says Begins tokens [] pieces said
  pub written : AppendedPrefix before after (text said)
