-- The function at hand, as what is asked of it takes it.
use Rattle.std.proofs.Common.{◌≡◌, ℕ, ◌≤◌, ◌^◌, true, List, map, Option, Some, sym, ap, subst, ◌∙◌}
use Rattle.std.specs.Prelude.{nat_le}
use Rattle.std.proofs.lemmas.Bool.{leb-true}
use Rattle.stk_lex.specs.declared.cutting.Piece.{Piece}
use Rattle.stk_ctype.specs.declared.kind.IntKind.{IntKind}
use Rattle.stk_ctype.specs.declared.symbol.NameEntry.{NameEntry}
use Rattle.stk_tree.specs.Syntax.{FunctionTree, UnitTree}
use Rattle.stk_tree.specs.Syntax as s
use Rattle.stk_tree.specs.View.{view_function, view_unit}
use Rattle.stk_numbers.specs.declared.conditions.Kinds.{Kinds}
use Rattle.stk_meaning.specs.Typings.{Typing}
use Rattle.stk_meaning.specs.Keys.{KeyInfo, keys_of, input_bits}
use Rattle.stk_meaning.specs.Lists.{candidates}
use Rattle.stk_meaning.specs.PathFindings.{most_bits}
use Rattle.stk_hits.specs.InputMaps.{bits_in}
use Rattle.stk_hits.specs.PathSubjects.{kinds_of}
use Rattle.stk_hits.specs.Tables.{Table}
use Rattle.stk_hits.specs.PathTables.{IsTableOf}
use Rattle.stk_hits.proofs.KeyKinds.{bits}
use Rattle.stk_units.specs.Functions.{unit_typing, IsDefinition}
use Rattle.stk_source_audit.specs.declared.judged.JudgedFunction.{JudgedFunction}
use Rattle.stk_source_audit.specs.declared.answering.FunctionAtHand.{FunctionAtHand}
use Rattle.stk_source_audit.specs.Definitions.{Definition, definition_unit, definition_typing}
use Rattle.stk_source_audit.specs.Sources.{CutSource}
use Rattle.stk_source_audit.specs.Judged.{IsJudgedUnit}
use Rattle.stk_source_audit.specs.Asked.{judged_typing, judged_tree, judged_kinds, IsJudged}
use Rattle.stk_source_audit.specs.Keeping.{IsHand, IsKept}

one_function : (u : UnitTree) (d : Definition) (f : FunctionTree) → u ≡ definition_unit d → IsDefinition u f → f ≡ d.function
one_function u d f e h = let both : definition_unit d ≡ s.defines h.0 f = sym e ∙ h.1 in cc

module _ (s : CutSource) (names : List NameEntry) (hits : Option Table) (h : FunctionAtHand) (k : IsHand s names hits h) where
  abbrev d : Definition
  d = k.definition

  abbrev ty : Typing
  ty = definition_typing s.bytes d

  -- its unit defines a function
  pub defined : (f : FunctionTree) × IsDefinition (view_unit h.unit) f
  defined = (d.function, (d.node, k.same_unit))

  -- a map's bits are those of the kinds
  pub few_bits : nat_le (input_bits (keys_of ty h.without d.function)) most_bits ≡ true → bits_in h.lists.kinds.items ≤ 16
  few_bits e = subst (λ (n : ℕ). n ≤ 16) (sym (ap bits_in k.lists.kinds ∙ bits (keys_of ty h.without d.function))) (leb-true (input_bits (keys_of ty h.without d.function)) 16 e)

  pub few_input_bits : nat_le (input_bits (keys_of ty h.without d.function)) most_bits ≡ true → input_bits (keys_of ty h.without d.function) ≤ 16
  few_input_bits e = leb-true (input_bits (keys_of ty h.without d.function)) 16 e

  -- a table of as many runs as the kinds have maps
  pub table_there : (t : Table) → IsTableOf ty h.without d.function (2 ^ bits_in h.lists.kinds.items) t → IsTableOf ty h.without d.function (2 ^ bits_in (kinds_of (keys_of ty h.without d.function))) t
  table_there t is = subst (λ (ks : List IntKind). IsTableOf ty h.without d.function (2 ^ bits_in ks) t) k.lists.kinds is

  module _ (j : JudgedFunction) (bytes_are : j.bytes.now ≡ s.bytes) (unit_is : j.unit.now ≡ h.unit) (function_is : IsDefinition (view_unit h.unit) (view_function j.function.now)) (names_are : j.names.now ≡ names) (without_is : j.without ≡ h.without) where
    same_function : judged_tree j ≡ d.function
    same_function = one_function (view_unit h.unit) d (view_function j.function.now) k.same_unit function_is

    same_unit : view_unit j.unit.now ≡ definition_unit d
    same_unit = ap view_unit unit_is ∙ k.same_unit

    same_names : j.names.now ≡ d.now
    same_names = names_are ∙ sym k.same_names

    same_typing : judged_typing j ≡ ty
    same_typing = ap (λ (bs : List ℕ). unit_typing bs j.names.now (view_unit j.unit.now)) bytes_are ∙ ap (λ (es : List NameEntry). unit_typing s.bytes es (view_unit j.unit.now)) same_names ∙ ap (unit_typing s.bytes d.now) same_unit

    pub of_judged : (P : Typing → Kinds → FunctionTree → Type 0) → P (judged_typing j) j.without (judged_tree j) → P ty h.without d.function
    of_judged P p = subst (P ty h.without) same_function (subst (λ (w : Kinds). P ty w (judged_tree j)) without_is (subst (λ (x : Typing). P x j.without (judged_tree j)) same_typing p))

    pub to_judged : (P : Typing → Kinds → FunctionTree → Type 0) → P ty h.without d.function → P (judged_typing j) j.without (judged_tree j)
    to_judged P p = subst (λ (x : Typing). P x j.without (judged_tree j)) (sym same_typing) (subst (λ (w : Kinds). P ty w (judged_tree j)) (sym without_is) (subst (P ty h.without) (sym same_function) p))

    pub is_judged_there : IsJudged j
    is_judged_there =
        let a = subst (λ (f : FunctionTree). IsJudgedUnit s.bytes h.without d.now (definition_unit d) f) (sym same_function) k.judged in
        let b = subst (λ (u : UnitTree). IsJudgedUnit s.bytes h.without d.now u (judged_tree j)) (sym same_unit) a in
        let c = subst (λ (es : List NameEntry). IsJudgedUnit s.bytes h.without es (view_unit j.unit.now) (judged_tree j)) (sym same_names) b in
        let e = subst (λ (w : Kinds). IsJudgedUnit s.bytes w j.names.now (view_unit j.unit.now) (judged_tree j)) (sym without_is) c in
        subst (λ (bs : List ℕ). IsJudgedUnit bs j.without j.names.now (view_unit j.unit.now) (judged_tree j)) (sym bytes_are) e

    pub kinds_there : h.lists.kinds.items ≡ judged_kinds j
    kinds_there = to_judged (λ x w f. h.lists.kinds.items ≡ map (λ (y : KeyInfo). y.kind) (keys_of x w f)) k.lists.kinds

    pub candidates_there : h.lists.candidates.items ≡ candidates (judged_typing j) (judged_tree j)
    candidates_there = to_judged (λ x w f. h.lists.candidates.items ≡ candidates x f) k.lists.candidates_are

    pub table_of_judged : (t : Table) → IsTableOf (judged_typing j) j.without (judged_tree j) (2 ^ bits_in h.lists.kinds.items) t → IsTableOf ty h.without d.function (2 ^ bits_in h.lists.kinds.items) t
    table_of_judged t is = of_judged (λ x w f. IsTableOf x w f (2 ^ bits_in h.lists.kinds.items) t) is

-- a table of the function at hand may be kept
pub with_table : (s : CutSource) (rest : List Piece) (names : List NameEntry) (h : FunctionAtHand) (hits : Option Table) (k : IsKept s rest names (Some h) hits) (t : Table)
    → IsTableOf (definition_typing s.bytes k.at_hand.definition) h.without k.at_hand.definition.function (2 ^ bits_in h.lists.kinds.items) t → IsKept s rest names (Some h) (Some t)
with_table s rest names h hits k t is = record {
  cut = k.cut;
  joined = k.joined;
  orderly = k.orderly;
  ahead = k.ahead;
  at_hand = record {
    definition = k.at_hand.definition;
    here = k.at_hand.here;
    same_names = k.at_hand.same_names;
    same_unit = k.at_hand.same_unit;
    judged = k.at_hand.judged;
    lists = k.at_hand.lists;
    table = is;
  };
}
