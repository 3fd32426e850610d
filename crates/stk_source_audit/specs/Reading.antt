-- What the units of a source are read as, one after the other (C11 6.9).
use Rattle.std.specs.Prelude.{◌≡◌, ℕ, Bool, List, [], ◌∷◌, Option, Some, None}
use Rattle.stk_lex.specs.declared.token.Token.{Token}
use Rattle.stk_lex.specs.declared.cutting.Piece.{Piece}
use Rattle.stk_ctype.specs.declared.symbol.NameEntry.{NameEntry}
use Rattle.stk_tree.specs.Syntax.{UnitTree}
use Rattle.stk_accept.specs.declared.accepting.Refusal.{Refusal}
use Rattle.stk_accept.specs.Accepting.{Accepts, Refuses}
use Rattle.stk_units.specs.Pieces.{tokens_of_piece, body_of_piece}

-- a unit that was read: the byte at which it begins; its tree, if it is accepted; and the names that it leaves in force
pub record ReadUnit : Type 0 where
  pub at : ℕ
  pub tree : Option UnitTree
  pub now : List NameEntry

-- the byte at which tokens begin; 0 of none
abbrev pub first_byte : List Token → ℕ
first_byte [] = 0
first_byte (t ∷ ts) = t.span.from

-- where these names are in force, tokens are accepted as this tree, or aren't accepted; and they leave these names
abbrev pub IsReadAs : List ℕ → Bool → List NameEntry → Option ℕ → List Token → Option UnitTree → List NameEntry → Type 0
IsReadAs bytes mark es body tokens (Some u) now = Accepts bytes mark es tokens u now
IsReadAs bytes mark es body tokens None now = (cause : Refusal) × Refuses bytes mark es tokens body cause now

-- the units of these tokens are so read, one after the other, where these names are in force before them
pub data AreRead (bytes : List ℕ) (tokens : List Token) : List NameEntry → List Piece → List ReadUnit → Type 0 where
  no_unit : {es : List NameEntry} → AreRead bytes tokens es [] []
  then_unit : {es : List NameEntry} {p : Piece} {ps : List Piece} {x : ReadUnit} {xs : List ReadUnit} → x.at ≡ first_byte (tokens_of_piece tokens p)
      → IsReadAs bytes p.no_return es (body_of_piece p) (tokens_of_piece tokens p) x.tree x.now → AreRead bytes tokens x.now ps xs → AreRead bytes tokens es (p ∷ ps) (x ∷ xs)
