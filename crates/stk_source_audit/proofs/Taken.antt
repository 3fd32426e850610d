-- A function is taken up where it is judged.
use Rattle.std.proofs.Common.{◌≡◌, ℕ, false, not, List, Option, Some, None, refl, ap, ◌∙◌}
use Rattle.std.specs.Option.{is_some}
use Rattle.stk_lex.specs.declared.token.Token.{Token}
use Rattle.stk_lex.specs.declared.cutting.Piece.{Piece}
use Rattle.stk_ctype.specs.declared.symbol.NameEntry.{NameEntry}
use Rattle.stk_tree.specs.Syntax.{FunctionTree, UnitTree}
use Rattle.stk_tree.specs.Syntax as s
use Rattle.stk_tree.specs.View.{view_unit}
use Rattle.stk_numbers.specs.declared.conditions.Kinds.{Kinds}
use Rattle.stk_meaning.specs.Typings.{Typing}
use Rattle.stk_meaning.specs.Keys.{keys_of}
use Rattle.stk_records.specs.declared.line.Cause.{Cause}
use Rattle.stk_units.specs.Functions.{unit_typing}
use Rattle.stk_units.specs.Causes.{body_cause}
use Rattle.stk_source_audit.specs.declared.lists.FunctionLists.{FunctionLists}
use Rattle.stk_source_audit.specs.declared.answering.FunctionAtHand.{FunctionAtHand}
use Rattle.stk_source_audit.specs.Definitions.{definition_in}
use Rattle.stk_source_audit.specs.Sources.{is_judged_one}
use Rattle.stk_source_audit.specs.Finding.{HasFound}
use Rattle.stk_source_audit.specs.Judged.{AreListsBy, AreListsOf, AreUnitLists}
use Rattle.stk_source_audit.specs.Taking.{IsTaken, HasTaken}
use Rattle.stk_source_audit.proofs.Known.{judged_unit}

-- where there are lists there is no cause
record HasNoCause (ty : Typing) (without : Kinds) (f : FunctionTree) (cause : Option Cause) (l : FunctionLists) : Type 0 where
  none : cause ≡ None
  lists : AreListsBy ty without f (keys_of ty without f) l

no_cause : (ty : Typing) (without : Kinds) (f : FunctionTree) (cause : Option Cause) (l : FunctionLists) → AreListsOf ty without f cause (Some l) → HasNoCause ty without f cause l
no_cause ty without f None l h = record { none = refl; lists = h }
no_cause ty without f (Some x) l h = absurd h

-- and where there are none there is one
some_cause : (ty : Typing) (without : Kinds) (f : FunctionTree) (cause : Option Cause) → AreListsOf ty without f cause None → not (is_some cause) ≡ false
some_cause ty without f None h = absurd h
some_cause ty without f (Some x) h = refl

module _ (bytes : List ℕ) (tokens : List Token) (es : List NameEntry) (pieces : List Piece) (without : Kinds) (at : ℕ) (now : List NameEntry) (rest : List Piece) where
  -- no unit begins there that is accepted
  pub no_unit : HasFound bytes tokens es pieces at None now rest → HasTaken bytes tokens es pieces without at None now rest
  no_unit h = record { taken = ap (is_judged_one bytes without) h.found; ahead = h.ahead; joined = h.joined; orderly = h.orderly }

  none_judged : (u : UnitTree) → AreUnitLists bytes without now u None → is_judged_one bytes without (definition_in now (Some u)) ≡ false
  none_judged (s.empty_unit n) h = refl
  none_judged (s.declares n d) h = refl
  none_judged (s.defines n f) h = some_cause (unit_typing bytes now (s.defines n f)) without f (body_cause bytes without now (s.defines n f)) h

  -- it defines no function that is judged
  pub not_judged : (u : UnitTree) → HasFound bytes tokens es pieces at (Some u) now rest → AreUnitLists bytes without now u None → HasTaken bytes tokens es pieces without at None now rest
  not_judged u h none = record { taken = ap (is_judged_one bytes without) h.found ∙ none_judged u none; ahead = h.ahead; joined = h.joined; orderly = h.orderly }

  is_taken : (h : FunctionAtHand) (u : UnitTree) → view_unit h.unit ≡ u → HasFound bytes tokens es pieces at (Some u) now rest → AreUnitLists bytes without now u (Some h.lists) → h.at ≡ at → h.without ≡ without → IsTaken bytes tokens es pieces without at now h
  is_taken h (s.empty_unit n) e found lists place kinds = absurd cc
  is_taken h (s.declares n d) e found lists place kinds = absurd cc
  is_taken h (s.defines n f) e found lists place kinds =
      let k = no_cause (unit_typing bytes now (s.defines n f)) without f (body_cause bytes without now (s.defines n f)) h.lists lists in
      record {
        definition = record { now = now; node = n; function = f };
        here = found.found;
        same_names = refl;
        same_unit = e;
        same_place = place;
        near = found.near;
        same_kinds = kinds;
        judged = judged_unit bytes without now (s.defines n f) f found.known (n, refl) k.none;
        lists = k.lists;
      }

  -- it does
  pub taken_up : (h : FunctionAtHand) → HasFound bytes tokens es pieces at (Some (view_unit h.unit)) now rest → AreUnitLists bytes without now (view_unit h.unit) (Some h.lists) → h.at ≡ at → h.without ≡ without
      → HasTaken bytes tokens es pieces without at (Some h) now rest
  taken_up h found lists place kinds = record { taken = is_taken h (view_unit h.unit) refl found lists place kinds; ahead = found.ahead; joined = found.joined; orderly = found.orderly }
