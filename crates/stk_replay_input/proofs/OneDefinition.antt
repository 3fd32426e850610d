-- A source has one first accepted definition of a name.
use Rattle.std.proofs.Common.{◌≡◌, ℕ, Bool, Option, List, [], ◌∷◌, refl, sym, ap, subst, ◌∙◌}
use Rattle.stk_lex.specs.declared.token.Token.{Token}
use Rattle.stk_lex.specs.declared.cutting.Piece.{Piece}
use Rattle.stk_lex.specs.Skimming.{kept_tokens, notes_of}
use Rattle.stk_lex.specs.Units.{units_of}
use Rattle.stk_lex.proofs.OneCut.{one_cut}
use Rattle.stk_ctype.specs.declared.symbol.NameEntry.{NameEntry}
use Rattle.stk_tree.specs.declared.node.Node.{Node}
use Rattle.stk_tree.specs.Syntax.{FunctionTree}
use Rattle.stk_meaning.specs.Keys.{head_of}
use Rattle.stk_records.specs.Kinds.{no_kinds}
use Rattle.stk_units.specs.Outcomes.{UnitOutcome, no_function, left_out, is_judged, IsOutcome}
use Rattle.stk_units.specs.Pieces.{tokens_of_piece, body_of_piece}
use Rattle.stk_spelling.specs.Claims.{declarator_name}
use Rattle.stk_replay_input.specs.Definitions.{Definition, HasOtherName, IsFirstOf, found, behind, IsDefinitionIn}
use Rattle.stk_replay_input.proofs.OneOutcome.{one_outcome}

-- the definition that an outcome is, or another one
definition_in : Definition → List NameEntry → UnitOutcome → Definition
definition_in other now no_function = other
definition_in other now (left_out cause) = other
definition_in other now (is_judged node f) = record { names = now; node = node; function = f }

-- what becomes of a unit, under names that are the same
there : {bytes : List ℕ} {mark : Bool} {body : Option ℕ} {unit : List Token} {es fs now : List NameEntry} {x : UnitOutcome} → es ≡ fs → IsOutcome bytes no_kinds mark fs body unit x now → IsOutcome bytes no_kinds mark es body unit x now
there {bytes = bytes} {mark = mark} {body = body} {unit = unit} {now = now} {x = x} same h = subst (λ (z : List NameEntry). IsOutcome bytes no_kinds mark z body unit x now) (sym same) h

-- a function of a name has no other one
not_other : (bytes name : List ℕ) (x : UnitOutcome) (node : Node) (f : FunctionTree) → is_judged node f ≡ x → declarator_name bytes (head_of f) ≡ name → HasOtherName bytes name x → ⊥
not_other bytes name x node f same named other = subst (HasOtherName bytes name) (sym same) other named

module _ {bytes name : List ℕ} {tokens : List Token} where
  pub one_first : {es fs : List NameEntry} {ps : List Piece} {d e : Definition} → es ≡ fs → IsFirstOf bytes name tokens es ps d → IsFirstOf bytes name tokens fs ps e → d ≡ e
  unfolding definition_in
  one_first same (found {now = now} {p = p} node f h named) (found {now = later} node' f' k named') =
      let one = one_outcome h (there same k) in
      let d : Definition = record { names = now; node = node; function = f } in
      ap (λ x. definition_in d now x) one.0 ∙ ap (λ z. definition_in d z (is_judged node' f')) one.1
  one_first same (found {p = p} node f h named) (behind x k other rest) = absurd (not_other bytes name x node f (one_outcome h (there same k)).0 named other)
  one_first same (behind {p = p} x h other rest) (found node f k named) = absurd (not_other bytes name x node f (sym (one_outcome h (there same k)).0) named other)
  one_first same (behind {p = p} x h other rest) (behind y k other' rest') = one_first (one_outcome h (there same k)).1 rest rest'

  -- Behind a unit in which the name isn't defined, the first definition is that of the units behind it.
  pub first_behind : {es now : List NameEntry} {p : Piece} {ps : List Piece} {d : Definition} (x : UnitOutcome) → IsOutcome bytes no_kinds p.no_return es (body_of_piece p) (tokens_of_piece tokens p) x now → HasOtherName bytes name x
      → IsFirstOf bytes name tokens es (p ∷ ps) d → IsFirstOf bytes name tokens now ps d
  first_behind x h other (found node f k named) = absurd (not_other bytes name x node f (one_outcome k h).0 named other)
  first_behind {ps = ps} {d = d} x h other (behind y k other' rest) = subst (λ (z : List NameEntry). IsFirstOf bytes name tokens z ps d) (one_outcome k h).1 rest

pub one_definition : (source name : List ℕ) (d e : Definition) → IsDefinitionIn source name d → IsDefinitionIn source name e → d ≡ e
one_definition source name d e h k =
    let cut : h.tokens ≡ k.tokens = one_cut source h.tokens k.tokens h.cut k.cut in
    one_first refl h.first (subst (λ (ts : List Token). IsFirstOf source name (kept_tokens source ts) [] (units_of source (kept_tokens source ts) (notes_of source ts)) e) (sym cut) k.first)
