-- How the search for the definition that a script names goes on over units, one after the other.
use Rattle.std.proofs.Common.{◌≡◌, ℕ, ◌+◌, ◌<◌, inl, inr, ◌↔◌, Bool, true, false, List, [], ◌∷◌, length, drop, get_or, Option, Some, None, Result, Ok, Err, refl, sym, ap, subst, ◌∙◌, arith}
use Rattle.std.specs.Prelude.{is_some, OnOk}
use Rattle.std.specs.Global.{Vec}
use Rattle.stk_lex.specs.declared.token.Token.{Token}
use Rattle.stk_lex.specs.declared.cutting.Piece.{Piece}
use Rattle.stk_lex.specs.Skimming.{kept_tokens, notes_of}
use Rattle.stk_lex.specs.Units.{AreJoined, units_of}
use Rattle.stk_lex.proofs.OneCut.{one_cut}
use Rattle.stk_ctype.specs.declared.symbol.NameEntry.{NameEntry}
use Rattle.stk_type_laws.specs.Orderly.{AreOrderly}
use Rattle.stk_type_laws.proofs.Kept.{units_keep_order}
use Rattle.stk_records.specs.Kinds.{no_kinds}
use Rattle.stk_records.specs.declared.writing.Stop.{Stop}
use Rattle.stk_records.specs.declared.writing.Stop.TheVariants as stops
use Rattle.stk_units.specs.Outcomes.{UnitOutcome, no_function, left_out, is_judged, IsOutcome}
use Rattle.stk_units.specs.Pieces.{body_of_piece, tokens_of_piece, AreUnitsOf}
use Rattle.stk_units.specs.Visiting.{HasDone, HasVisitedUnit}
use Rattle.stk_units.proofs.Going.{piece_behind, joined_up, IsNextUnit}
use Rattle.stk_replay_script.specs.declared.script.Script.{Script}
use Rattle.stk_replay_input.specs.declared.definitions.FunctionSearch.{FunctionSearch}
use Rattle.stk_replay_input.specs.declared.unreplayed.Unreplayed.{Unreplayed}
use Rattle.stk_replay_input.specs.Named.{AnswersScript}
use Rattle.stk_replay_input.specs.Definitions.{Definition, at_hand, HasOtherName, IsFirstOf, found, behind, IsDefinitionIn}
use Rattle.stk_replay_input.specs.Searches.{SearchAnswer, answer_in, KnowsUnit, LeavesSearch, JudgesSearch, HasSearchedUnit, AnswersUnits, answered, undefined, AnswersSource, defined, not_defined, no_memory, out_of_memory}
use Rattle.stk_replay_input.proofs.OneDefinition.{first_behind}

-- ---- one unit

well_is_no_want : {x : Unit {0}} {r : Result (Unit {0}) Stop} → r ≡ Ok x → r ≡ Err stops.NoMemory → ⊥
well_is_no_want well want = cc

ok_then : {x : Unit {0}} (r : Result (Unit {0}) Stop) (P : Type 0) → r ≡ Ok x → OnOk r P → P
ok_then r P e h = subst (λ r. OnOk r P) e h

-- what was done with a unit, where the search had nothing yet
pub searched_unit : {x : Unit {0}} (bytes : List ℕ) (mark : Bool) (es now : List NameEntry) (body : Option ℕ) (tokens : List Token) (r : Result (Unit {0}) Stop) (search later : FunctionSearch) (o p a b : Unit {0}) → r ≡ Ok x → search.answer ≡ None
    → HasVisitedUnit LeavesSearch JudgesSearch bytes no_kinds mark es body tokens now r search later o p a b → HasSearchedUnit bytes mark es body tokens now search later
searched_unit bytes mark es now body tokens r search later o p a b well none (inl before) = absurd (well_is_no_want well before.answer)
searched_unit bytes mark es now body tokens r search later o p a b well none (inr visited) = by visited.outcome visited.is visited.done where
  untouched : (outcome : UnitOutcome) → IsOutcome bytes no_kinds mark es body tokens outcome now → ((answer : SearchAnswer) → answer ≡ None → KnowsUnit bytes now outcome search.script.now answer) → later ≡ search → HasSearchedUnit bytes mark es body tokens now search later
  untouched outcome is knows same = record { outcome = outcome; is = is; script = ap (λ (s : FunctionSearch). s.script.now) same; knows = knows later.answer (ap (λ (s : FunctionSearch). s.answer) same ∙ none) }

  by : (outcome : UnitOutcome) → IsOutcome bytes no_kinds mark es body tokens outcome now → HasDone LeavesSearch JudgesSearch bytes no_kinds now tokens outcome r search later o p a b → HasSearchedUnit bytes mark es body tokens now search later
  by no_function is done = untouched no_function is (λ answer e. e) done.1.visitor
  by (left_out cause) is done = untouched (left_out cause) is (λ answer e. e) done.1.visitor
  by (is_judged node f) is done = let h = ok_then r _ well done in record { outcome = is_judged node f; is = is; script = h.script; knows = h.knows }

-- ---- units

-- the answer to the script of a definition among units
pub record IsAnswered (bytes : List ℕ) (tokens : List Token) (pieces : List Piece) (script : Script) (answer : Result (Vec ℕ) Unreplayed) : Type 0 where
  pub definition : Definition
  pub first : IsFirstOf bytes script.function tokens [] pieces definition
  pub answers : AnswersScript (at_hand bytes definition) script answer

-- the first definition among the last units, under these names, is that among all
abbrev pub IsStillBehind : List ℕ → List Token → List Piece → Script → List NameEntry → List Piece → Type 0
IsStillBehind bytes tokens pieces script now rest = (d : Definition) → IsFirstOf bytes script.function tokens now rest d ↔ IsFirstOf bytes script.function tokens [] pieces d

-- Behind the first of some units: the answer to the script of the definition, where it was found; or else it is still
-- to come.
abbrev pub AreKnown : List ℕ → List Token → List Piece → Script → List NameEntry → List Piece → SearchAnswer → Type 0
AreKnown bytes tokens pieces script now rest None = IsStillBehind bytes tokens pieces script now rest
AreKnown bytes tokens pieces script now rest (Some answer) = IsAnswered bytes tokens pieces script answer

-- the units before the i-th were searched and leave these names in force
pub record IsSearchedTo (bytes : List ℕ) (tokens : List Token) (pieces : List Piece) (script : Script) (i : ℕ) (now : List NameEntry) (search : FunctionSearch) : Type 0 where
  pub at : ℕ
  pub joined : AreJoined at (length tokens) (drop i pieces)
  pub orderly : AreOrderly now
  pub same : search.script.now ≡ script
  pub known : AreKnown bytes tokens pieces script now (drop i pieces) search.answer

-- there is no definition among no units
no_definition : {bytes name : List ℕ} {tokens : List Token} {es : List NameEntry} (ps : List Piece) (d : Definition) → ps ≡ [] → IsFirstOf bytes name tokens es ps d → ⊥
no_definition [] d e h = elim h [ ]
no_definition (p ∷ ps) d e h = cc

module _ (bytes : List ℕ) (tokens : List Token) (pieces : List Piece) (script : Script) where
  pub none_searched : (search : FunctionSearch) → AreJoined 0 (length tokens) pieces → search.script.now ≡ script → search.answer ≡ None → IsSearchedTo bytes tokens pieces script 0 [] search
  none_searched search joined same none = record { at = 0; joined = joined; orderly = units_keep_order.first; same = same; known = subst (AreKnown bytes tokens pieces script [] pieces) (sym none) (λ d. (λ h. h, λ h. h)) }

  pub next_unit : (i : ℕ) (d : Piece) (now : List NameEntry) (search : FunctionSearch) → i < length pieces → (h : IsSearchedTo bytes tokens pieces script i now search) → IsNextUnit (length tokens) h.at (get_or pieces i d) (drop (i + 1) pieces)
  next_unit i d now search within h =
      let p : Piece = get_or pieces i d in
      let k : AreJoined h.at (length tokens) (p ∷ drop (i + 1) pieces) = subst (AreJoined h.at (length tokens)) (piece_behind pieces i d within) h.joined in
      record { from = k.0; some = omega (arith, k.0, k.1); within = joined_up p.to (length tokens) (drop (i + 1) pieces) k.3; rest = k.3 }

  -- one more unit in which the name isn't defined
  passed : (p : Piece) (ps : List Piece) (now left : List NameEntry) (outcome : UnitOutcome) → IsOutcome bytes no_kinds p.no_return now (body_of_piece p) (tokens_of_piece tokens p) outcome left → HasOtherName bytes script.function outcome
      → IsStillBehind bytes tokens pieces script now (p ∷ ps) → IsStillBehind bytes tokens pieces script left ps
  passed p ps now left outcome is other known = λ d. (λ h. (known d).0 (behind outcome is other h), λ h. first_behind outcome is other ((known d).1 h))

  -- what is known behind one more unit
  known_more : (p : Piece) (ps : List Piece) (now left : List NameEntry) (outcome : UnitOutcome) (answer : SearchAnswer) → IsOutcome bytes no_kinds p.no_return now (body_of_piece p) (tokens_of_piece tokens p) outcome left → KnowsUnit bytes left outcome script answer
      → IsStillBehind bytes tokens pieces script now (p ∷ ps) → AreKnown bytes tokens pieces script left ps answer
  known_more p ps now left no_function answer is knows known = subst (AreKnown bytes tokens pieces script left ps) (sym knows) (passed p ps now left no_function is tt known)
  known_more p ps now left (left_out cause) answer is knows known = subst (AreKnown bytes tokens pieces script left ps) (sym knows) (passed p ps now left (left_out cause) is tt known)
  known_more p ps now left (is_judged node f) None is knows known = passed p ps now left (is_judged node f) is knows known
  known_more p ps now left (is_judged node f) (Some answer) is knows known =
      let d : Definition = record { names = left; node = node; function = f } in
      record { definition = d; first = (known d).0 (found node f is knows.0); answers = knows.1 }

  pub one_more_searched : (i : ℕ) (d : Piece) (now left : List NameEntry) (search later : FunctionSearch) → i < length pieces → search.answer ≡ None → IsSearchedTo bytes tokens pieces script i now search → let p = get_or pieces i d in
      HasSearchedUnit bytes p.no_return now (body_of_piece p) (tokens_of_piece tokens p) left search later → AreOrderly left → IsSearchedTo bytes tokens pieces script (i + 1) left later
  one_more_searched i d now left search later within none h x orderly =
      let p : Piece = get_or pieces i d in
      let known : IsStillBehind bytes tokens pieces script now (p ∷ drop (i + 1) pieces) =
      subst (λ (answer : SearchAnswer). AreKnown bytes tokens pieces script now (p ∷ drop (i + 1) pieces) answer) none
      (subst (λ (ps : List Piece). AreKnown bytes tokens pieces script now ps search.answer) (piece_behind pieces i d within) h.known) in
      record {
        at = p.to;
        joined = (next_unit i d now search within h).rest;
        orderly = orderly;
        same = x.script ∙ h.same;
        known = known_more p (drop (i + 1) pieces) now left x.outcome later.answer x.is (subst (λ (s : Script). KnowsUnit bytes left x.outcome s later.answer) h.same x.knows) known;
      }

  -- the definition was found, and the search stops
  pub found_early : (rest : List Piece) (now : List NameEntry) (answer : SearchAnswer) → is_some answer ≡ true → AreKnown bytes tokens pieces script now rest answer → AnswersUnits bytes tokens pieces script (answer_in answer)
  found_early rest now None some h = cc
  found_early rest now (Some answer) some h = answered h.definition h.first h.answers

  -- all units were searched
  pub found_late : (rest : List Piece) (now : List NameEntry) (answer : SearchAnswer) → rest ≡ [] → AreKnown bytes tokens pieces script now rest answer → AnswersUnits bytes tokens pieces script (answer_in answer)
  found_late rest now None none h = undefined (λ d first. no_definition rest d none ((h d).1 first))
  found_late rest now (Some answer) none h = answered h.definition h.first h.answers

-- ---- the units of a source

pub none_is : (answer : SearchAnswer) → is_some answer ≡ false → answer ≡ None
none_is None e = refl
none_is (Some answer) e = cc

module _ (source : List ℕ) (kept : List Token) (pieces : List Piece) (script : Script) (units : AreUnitsOf source kept pieces) where
  -- the first definition among them is that in the source
  as_first : (d : Definition) → IsFirstOf source script.function kept [] pieces d → IsDefinitionIn source script.function d
  as_first d h = record {
    tokens = units.tokens;
    cut = units.cut;
    first = subst (λ (ts : List Token). IsFirstOf source script.function ts [] (units_of source ts (notes_of source units.tokens)) d) units.same_tokens (subst (λ (ps : List Piece). IsFirstOf source script.function kept [] ps d) units.same_pieces h);
  }

  from_source : (d : Definition) → IsDefinitionIn source script.function d → IsFirstOf source script.function kept [] pieces d
  from_source d h =
      let cut : h.tokens ≡ units.tokens = one_cut source h.tokens units.tokens h.cut units.cut in
      let there = subst (λ (ts : List Token). IsFirstOf source script.function (kept_tokens source ts) [] (units_of source (kept_tokens source ts) (notes_of source ts)) d) cut h.first in
      subst (λ (ps : List Piece). IsFirstOf source script.function kept [] ps d) (sym units.same_pieces)
      (subst (λ (ts : List Token). IsFirstOf source script.function ts [] (units_of source ts (notes_of source units.tokens)) d) (sym units.same_tokens) there)

  pub source_answered : (r : Result (Vec ℕ) Unreplayed) → AnswersUnits source kept pieces script r → AnswersSource source script r
  source_answered r (answered d first h) = defined d (as_first d first) h
  source_answered r (undefined none) = not_defined (λ d is. none d (from_source d is))
  source_answered r out_of_memory = no_memory
