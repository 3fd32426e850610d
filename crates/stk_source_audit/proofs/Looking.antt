-- Units are read up to one that begins at a byte.
use Rattle.std.proofs.Common.{◌≡◌, ◌≢◌, ℕ, ◌-◌, ◌<◌, ◌≤◌, ◌^◌, ◌==◌, Bool, true, false, List, [], ◌∷◌, length, Option, Some, None, refl, sym, ap, subst, ◌∙◌, arith, eqb-true}
use Rattle.std.specs.Prelude.{if◌then◌else◌, IfSome}
use Rattle.std.proofs.lemmas.Bool.{eqb-false}
use Rattle.stk_lex.specs.declared.token.Token.{Token}
use Rattle.stk_lex.specs.declared.cutting.Piece.{Piece}
use Rattle.stk_lex.specs.Cut.{AreSpans}
use Rattle.stk_lex.specs.Units.{AreJoined}
use Rattle.stk_ctype.specs.declared.symbol.NameEntry.{NameEntry}
use Rattle.stk_tree.specs.Syntax.{UnitTree}
use Rattle.stk_type_laws.specs.Orderly.{AreOrderly}
use Rattle.stk_units.specs.Pieces.{tokens_of_piece, body_of_piece}
use Rattle.stk_source_audit.specs.Reading.{ReadUnit, first_byte, IsReadAs}
use Rattle.stk_source_audit.specs.Reader.{unit_of_piece, units_read}
use Rattle.stk_source_audit.specs.Definitions.{definition_in, definition_at}
use Rattle.stk_source_audit.specs.Finding.{IsKnownUnit, HasFound}
use Rattle.stk_source_audit.proofs.Ascending.{BeginsAt, ascends, begins}
use Rattle.stk_source_audit.proofs.ReadOne.{read_is, is_read}
use Rattle.stk_source_audit.proofs.Known.{few_of_piece, orderly_read, known_read}

-- ---- pieces

where_some : {A P : Type 0} (o : Option A) → P → IfSome o (λ x. P)
where_some None h = tt
where_some (Some x) h = h

joined_up : (from to : ℕ) (ps : List Piece) → AreJoined from to ps → from ≤ to
joined_up from to [] h = omega (arith, h)
joined_up from to (p ∷ ps) h = omega (arith, h.1, joined_up p.to to ps h.3)

-- the first of some pieces lies among the tokens
pub record IsAmong (tokens : List Token) (p : Piece) : Type 0 where
  pub some : p.from < p.to
  pub within : p.to ≤ length tokens

pub first_piece : (tokens : List Token) (from : ℕ) (p : Piece) (ps : List Piece) → AreJoined from (length tokens) (p ∷ ps) → IsAmong tokens p
first_piece tokens from p ps h = record { some = omega (arith, h.0, h.1); within = joined_up p.to (length tokens) ps h.3 }

-- ---- definitions

-- a test of numbers
when_same : {X : Type 0} (m n : ℕ) (x y : X) → m ≡ n → (if m == n then x else y) ≡ x
when_same {X} m n x y e = on (m == n) refl where
  on : (b : Bool) → (m == n) ≡ b → (if b then x else y) ≡ x
  on true f = refl
  on false f = absurd (eqb-false m n f e)

when_apart : {X : Type 0} (m n : ℕ) (x y : X) → m ≢ n → (if m == n then x else y) ≡ y
when_apart {X} m n x y e = on (m == n) refl where
  on : (b : Bool) → (m == n) ≡ b → (if b then x else y) ≡ y
  on true f = absurd (e (eqb-true m n f))
  on false f = refl

begins_here : (x : ReadUnit) (xs : List ReadUnit) (at : ℕ) → x.at ≡ at → definition_at (x ∷ xs) at ≡ definition_in x.now x.tree
unfolding definition_at
begins_here x xs at e = when_same x.at at (definition_in x.now x.tree) (definition_at xs at) e

begins_apart : (x : ReadUnit) (xs : List ReadUnit) (at : ℕ) → x.at ≢ at → definition_at (x ∷ xs) at ≡ definition_at xs at
unfolding definition_at
begins_apart x xs at e = when_apart x.at at (definition_in x.now x.tree) (definition_at xs at) e

none_begins : (at : ℕ) → definition_at [] at ≡ None
unfolding definition_at
none_begins at = refl

module _ (bytes : List ℕ) (tokens : List Token) where
  read_none : (es : List NameEntry) → units_read bytes tokens es [] ≡ []
  unfolding units_read
  read_none es = refl

  read_more : (es : List NameEntry) (p : Piece) (ps : List Piece) → units_read bytes tokens es (p ∷ ps) ≡ unit_of_piece bytes tokens es p ∷ units_read bytes tokens (unit_of_piece bytes tokens es p).now ps
  unfolding units_read
  read_more es p ps = refl

  -- the byte at which the unit of a piece begins
  abbrev byte_of : Piece → ℕ
  byte_of p = first_byte (tokens_of_piece tokens p)

  -- no unit begins before the first of them
  none_from : (at : ℕ) (es : List NameEntry) (from : ℕ) (ps : List Piece) → AreJoined from (length tokens) ps → ((n place : ℕ) → from ≤ n → BeginsAt tokens n place → at < place)
      → definition_at (units_read bytes tokens es ps) at ≡ None
  none_from at es from [] h later = ap (λ xs. definition_at xs at) (read_none es) ∙ none_begins at
  none_from at es from (p ∷ ps) h later =
      let among = first_piece tokens from p ps h in
      let x = unit_of_piece bytes tokens es p in
      let b = begins tokens p.from (p.to - p.from) (omega (arith, among.some, among.within)) (omega (arith, among.some)) in
      let behind = later p.from (byte_of p) (omega (arith, h.0)) b in
      ap (λ xs. definition_at xs at) (read_more es p ps)
      ∙ begins_apart x (units_read bytes tokens x.now ps) at (λ e. omega (arith, e, (is_read bytes p.no_return es (body_of_piece p) (tokens_of_piece tokens p)).at, behind))
      ∙ none_from at x.now p.to ps h.3 (λ n k l c. later n k (omega (arith, l, h.1, h.0)) c)

  -- ---- a unit that was read

  module _ (es : List NameEntry) (p : Piece) (ps : List Piece) (tree : Option UnitTree) (now : List NameEntry) (is : IsReadAs bytes p.no_return es (body_of_piece p) (tokens_of_piece tokens p) tree now) where
    unit_is : unit_of_piece bytes tokens es p ≡ record { at = byte_of p; tree = tree; now = now }
    unit_is = read_is bytes p.no_return es (body_of_piece p) (tokens_of_piece tokens p) tree now is

    units_are : units_read bytes tokens es (p ∷ ps) ≡ record { at = byte_of p; tree = tree; now = now } ∷ units_read bytes tokens now ps
    units_are = read_more es p ps ∙ ap (λ (x : ReadUnit). x ∷ units_read bytes tokens x.now ps) unit_is

    -- what begins elsewhere is among the others
    pub elsewhere : (at : ℕ) → byte_of p ≢ at → definition_at (units_read bytes tokens es (p ∷ ps)) at ≡ definition_at (units_read bytes tokens now ps) at
    elsewhere at e = ap (λ xs. definition_at xs at) units_are ∙ begins_apart (record { at = byte_of p; tree = tree; now = now }) (units_read bytes tokens now ps) at e

    pub right_here : (at : ℕ) → byte_of p ≡ at → definition_at (units_read bytes tokens es (p ∷ ps)) at ≡ definition_in now tree
    right_here at e = ap (λ xs. definition_at xs at) units_are ∙ begins_here (record { at = byte_of p; tree = tree; now = now }) (units_read bytes tokens now ps) at e

    -- it begins before the byte: what is found behind it is found
    pub passed_by : (at : ℕ) (found : Option UnitTree) (after : List NameEntry) (rest : List Piece) → byte_of p < at → HasFound bytes tokens now ps at found after rest → HasFound bytes tokens es (p ∷ ps) at found after rest
    passed_by at found after rest before h = record {
      found = elsewhere at (λ e. omega (arith, before, e)) ∙ h.found;
      ahead = λ later l. elsewhere later (λ e. omega (arith, before, e, l)) ∙ h.ahead later l;
      joined = h.joined;
      orderly = h.orderly;
      known = h.known;
      near = h.near;
    }

    -- it begins there
    pub came_to : (at : ℕ) → byte_of p ≡ at → ((from : ℕ) × AreJoined from (length tokens) ps) → AreOrderly now → IfSome tree (λ u. IsKnownUnit bytes u now) → at < 2 ^ 32 → HasFound bytes tokens es (p ∷ ps) at tree now ps
    came_to at e joined orderly known near = record {
      found = right_here at e;
      ahead = λ later l. elsewhere later (λ f. omega (arith, e, f, l));
      joined = joined;
      orderly = orderly;
      known = known;
      near = where_some tree near;
    }

  nothing_left : (es : List NameEntry) (at : ℕ) → AreOrderly es → HasFound bytes tokens es [] at None es []
  nothing_left es at orderly = record {
    found = ap (λ xs. definition_at xs at) (read_none es) ∙ none_begins at;
    ahead = λ later l. refl;
    joined = (length tokens, refl);
    orderly = orderly;
    known = tt;
    near = tt;
  }

  -- no unit is left
  pub none_left : (es : List NameEntry) (rest : List Piece) (at : ℕ) → length rest ≡ 0 → AreOrderly es → HasFound bytes tokens es rest at None es rest
  none_left es [] at none orderly = nothing_left es at orderly
  none_left es (p ∷ ps) at none orderly = absurd (omega (arith, none))

  -- the next unit begins behind the byte, and so do all behind it
  pub too_far : (size : ℕ) (es : List NameEntry) (at from : ℕ) (p : Piece) (ps : List Piece) → AreSpans size 0 tokens → AreJoined from (length tokens) (p ∷ ps) → AreOrderly es → at < byte_of p → HasFound bytes tokens es (p ∷ ps) at None es (p ∷ ps)
  too_far size es at from p ps spans joined orderly before =
      let among = first_piece tokens from p ps joined in
      let b = begins tokens p.from (p.to - p.from) (omega (arith, among.some, among.within)) (omega (arith, among.some)) in
      record {
        found = none_from at es from (p ∷ ps) joined (λ n place l c. omega (arith, before, ascends size 0 tokens p.from n (byte_of p) place spans b c (omega (arith, l, joined.0))));
        ahead = λ later l. refl;
        joined = (from, joined);
        orderly = orderly;
        known = tt;
        near = tt;
      }

-- ---- one turn: what is left is a piece and others

module _ (bytes : List ℕ) (tokens : List Token) (es : List NameEntry) (rest : List Piece) (p : Piece) (behind : List Piece) (is : rest ≡ p ∷ behind) (joined : (from : ℕ) × AreJoined from (length tokens) rest) where
  joined_here : AreJoined joined.0 (length tokens) (p ∷ behind)
  joined_here = subst (λ (ps : List Piece). AreJoined joined.0 (length tokens) ps) is joined.1

  pub piece_among : IsAmong tokens p
  piece_among = first_piece tokens joined.0 p behind joined_here

  pub joined_behind : (from : ℕ) × AreJoined from (length tokens) behind
  joined_behind = (p.to, joined_here.3)

  pub stops_here : (size at : ℕ) → AreSpans size 0 tokens → AreOrderly es → at < first_byte (tokens_of_piece tokens p) → HasFound bytes tokens es rest at None es rest
  stops_here size at spans orderly before = subst (λ (ps : List Piece). HasFound bytes tokens es ps at None es ps) (sym is) (too_far bytes tokens size es at joined.0 p behind spans joined_here orderly before)

  module _ (tree : Option UnitTree) (now : List NameEntry) (read : IsReadAs bytes p.no_return es (body_of_piece p) (tokens_of_piece tokens p) tree now) (few : length tokens ≤ 16777216) (orderly : AreOrderly es) where
    pub orderly_behind : AreOrderly now
    orderly_behind = orderly_read bytes p.no_return es (body_of_piece p) (tokens_of_piece tokens p) tree now orderly read

    pub finds_here : (at : ℕ) → first_byte (tokens_of_piece tokens p) ≡ at → at < 2 ^ 32 → HasFound bytes tokens es rest at tree now behind
    finds_here at e near =
        subst (λ (ps : List Piece). HasFound bytes tokens es ps at tree now behind) (sym is)
        (came_to bytes tokens es p behind tree now read at e joined_behind orderly_behind (known_read bytes p.no_return es (body_of_piece p) (tokens_of_piece tokens p) tree now (few_of_piece tokens p few) orderly read) near)

    pub passes_by : (at : ℕ) → first_byte (tokens_of_piece tokens p) < at → (found : Option UnitTree) (after : List NameEntry) (left : List Piece) → HasFound bytes tokens now behind at found after left → HasFound bytes tokens es rest at found after left
    passes_by at before found after left h = subst (λ (ps : List Piece). HasFound bytes tokens es ps at found after left) (sym is) (passed_by bytes tokens es p behind tree now read at found after left before h)
