-- A source is one of which audits may be trusted: its clauses mean what they should, and what no path run of a map
-- escapes suffices in executions.
use Rattle.std.proofs.Common.{◌≡◌, ℕ, ◌==◌, Bool, true, false, not, List, [], ◌∷◌, map, Option, Some, None, refl, subst}
use Rattle.std.specs.Prelude.{if◌then◌else◌}
use Rattle.std.specs.Option.{is_some}
use Rattle.std.proofs.lemmas.Bool.{false≢true}
use Rattle.stk_lex.specs.declared.token.Token.{Token}
use Rattle.stk_lex.specs.declared.cutting.Piece.{Piece}
use Rattle.stk_ctype.specs.declared.kind.IntKind.{IntKind}
use Rattle.stk_ctype.specs.declared.symbol.NameEntry.{NameEntry}
use Rattle.stk_tree.specs.Syntax.{FunctionTree, UnitTree}
use Rattle.stk_tree.specs.Syntax as s
use Rattle.stk_numbers.specs.Kinds.{width_of}
use Rattle.stk_numbers.specs.declared.conditions.Candidate.{Candidate}
use Rattle.stk_numbers.specs.declared.conditions.Condition.{Condition}
use Rattle.stk_numbers.specs.declared.conditions.Kinds.{Kinds}
use Rattle.stk_meaning.specs.Typings.{Typing}
use Rattle.stk_meaning.specs.Keys.{keys_of}
use Rattle.stk_meaning.specs.Findings.{NoAnswer}
use Rattle.stk_run_laws.proofs.GatheredLaws.{what_suffices_in_paths_suffices}
use Rattle.stk_type_laws.specs.Orderly.{AreOrderly}
use Rattle.stk_type_laws.proofs.Kept.{units_keep_order}
use Rattle.stk_clauses.specs.declared.store.Cnf.{Cnf}
use Rattle.stk_clauses.specs.Literals.{IsUnsatisfiable}
use Rattle.stk_terms.specs.Fitting.{AreResidues}
use Rattle.stk_symbols.specs.Symbolic.{residues_of}
use Rattle.stk_symbols.proofs.Mapped.{one_for_one}
use Rattle.stk_spent_queries.specs.Spent.{AnswersByResidues}
use Rattle.stk_goals.specs.Queries.{key_kinds}
use Rattle.stk_goals.proofs.Answered.{widths_are}
use Rattle.stk_units.specs.Pieces.{tokens_of_piece, body_of_piece}
use Rattle.stk_units.specs.Known.{WasAccepted, IsTypedFunction}
use Rattle.stk_units.specs.Causes.{body_cause}
use Rattle.stk_units.proofs.Measures.{small}
use Rattle.stk_units.proofs.Typed.{typed_well_of}
use Rattle.stk_records.specs.declared.line.Cause.{Cause}
use Rattle.stk_audit_rules.specs.Truths.{IsSound}
use Rattle.stk_source_audit.specs.Reading.{ReadUnit, AreRead, no_unit, then_unit, IsReadAs}
use Rattle.stk_source_audit.specs.Definitions.{Definition, definition_unit, definition_in, definition_at, definition_typing, is_judged}
use Rattle.stk_source_audit.specs.Functions.{IsFormulaOf, audited_subject}
use Rattle.stk_source_audit.specs.Sources.{is_judged_one, judged_one, world_of}
use Rattle.stk_source_audit.proofs.Answered.{covers}
use Rattle.stk_source_audit.proofs.Clauses.{nothing_passes}
use Rattle.stk_source_audit.proofs.Known.{orderly_read}

-- ---- definitions are accepted

-- the definition was accepted under names as units leave them
pub record IsAcceptedThere (bytes : List ℕ) (d : Definition) : Type 0 where
  pub tokens : List Token
  pub accepted : WasAccepted bytes tokens (definition_unit d) d.now

-- the definition of a unit
unit_accepted : (bytes : List ℕ) (mark : Bool) (es : List NameEntry) (body : Option ℕ) (tokens : List Token) (tree : Option UnitTree) (now : List NameEntry) (d : Definition) → AreOrderly es → IsReadAs bytes mark es body tokens tree now → definition_in now tree ≡ Some d → IsAcceptedThere bytes d
unit_accepted bytes mark es body tokens None now d orderly h e = absurd cc
unit_accepted bytes mark es body tokens (Some (s.empty_unit n)) now d orderly h e = absurd cc
unit_accepted bytes mark es body tokens (Some (s.declares n g)) now d orderly h e = absurd cc
unit_accepted bytes mark es body tokens (Some (s.defines n f)) now d orderly h e =
    let same : ◌≡◌ {A = Definition} (record { now = now; node = n; function = f }) d = cc in
    subst (IsAcceptedThere bytes) same (record { tokens = tokens; accepted = record { mark = mark; before = es; orderly = orderly; accepts = h } })

-- the first of some units begins at the byte, or another one does
by_place : (bytes : List ℕ) (x : ReadUnit) (others : Option Definition) (at : ℕ) (d : Definition) → (definition_in x.now x.tree ≡ Some d → IsAcceptedThere bytes d) → (others ≡ Some d → IsAcceptedThere bytes d)
    → (if x.at == at then definition_in x.now x.tree else others) ≡ Some d → IsAcceptedThere bytes d
by_place bytes x others at d first later e = on (x.at == at) e where
  on : (b : Bool) → (if b then definition_in x.now x.tree else others) ≡ Some d → IsAcceptedThere bytes d
  on true h = first h
  on false h = later h

-- a definition of a source that was read is accepted
pub accepted_at : (bytes : List ℕ) (tokens : List Token) (es : List NameEntry) (ps : List Piece) (xs : List ReadUnit) → AreOrderly es → AreRead bytes tokens es ps xs → (at : ℕ) (d : Definition) → definition_at xs at ≡ Some d → IsAcceptedThere bytes d
unfolding definition_at
accepted_at bytes tokens es [] [] orderly no_unit at d e = absurd cc
accepted_at bytes tokens es [] (x ∷ xs) orderly h at d e = elim h [ ]
accepted_at bytes tokens es (p ∷ ps) [] orderly h at d e = elim h [ ]
accepted_at bytes tokens es (p ∷ ps) (x ∷ xs) orderly (then_unit begin is others) at d e =
    by_place bytes x (definition_at xs at) at d
    (unit_accepted bytes p.no_return es (body_of_piece p) (tokens_of_piece tokens p) x.tree x.now d orderly is)
    (accepted_at bytes tokens x.now ps xs (orderly_read bytes p.no_return es (body_of_piece p) (tokens_of_piece tokens p) x.tree x.now orderly is) others at d)
    e

-- ---- a definition that is judged

no_cause : (o : Option Cause) → not (is_some o) ≡ true → o ≡ None
no_cause None e = refl
no_cause (Some x) e = absurd (false≢true e)

pub judged_none : (bytes : List ℕ) (without : Kinds) (d : Definition) → is_judged bytes without d ≡ true → body_cause bytes without d.now (definition_unit d) ≡ None
judged_none bytes without d e = no_cause (body_cause bytes without d.now (definition_unit d)) e

typed_there : (bytes : List ℕ) (without : Kinds) (d : Definition) → IsAcceptedThere bytes d → is_judged bytes without d ≡ true → IsTypedFunction (definition_typing bytes d) without d.function
typed_there bytes without d h e =
    let n = small bytes without d.now (definition_unit d) (judged_none bytes without d e) in
    typed_well_of bytes without h.tokens (definition_unit d) d.now d.function (d.node, refl) h.accepted n.result n.facts n.typed

module _ (ty : Typing) (without : Kinds) (f : FunctionTree) (c : Candidate) (set : List Condition) where
  never_there : (own : Cnf) → IsFormulaOf ty without f c set own → IsUnsatisfiable own.store → NoAnswer (audited_subject ty without f) c set
  never_there own h unsat m a =
      let ks : List IntKind = key_kinds ty without f in
      let fit = (one_for_one ks).in_range m (covers (keys_of ty without f) m a.valid.covers) in
      nothing_passes (map (λ k. width_of k.kind) (keys_of ty without f)) (AnswersByResidues ty without f c set) own h.stands unsat (residues_of ks m) (subst (λ ws. AreResidues ws (residues_of ks m)) (widths_are (keys_of ty without f)) fit)
      (record { numbers = m; same = refl; valid = a.valid; hits = a.hits })

-- ---- sources

module _ (bytes : List ℕ) (tokens : List Token) (ps : List Piece) (units : List ReadUnit) (read : AreRead bytes tokens [] ps units) (without : Kinds) (at : ℕ) (c : Candidate) (set : List Condition) where
  never_by : (own : Cnf) (o : Option Definition) → is_judged_one bytes without o ≡ true → (judged_one bytes without o).Stands c set own → IsUnsatisfiable own.store → NoAnswer (judged_one bytes without o).subject c set
  never_by own None e h unsat = absurd (false≢true e)
  never_by own (Some d) e h unsat = never_there (definition_typing bytes d) without d.function c set own h unsat

  gathered_by : (o : Option Definition) → definition_at units at ≡ o → is_judged_one bytes without o ≡ true → NoAnswer (judged_one bytes without o).subject c set → (judged_one bytes without o).subject.Suffices c set
  gathered_by None is e none = absurd (false≢true e)
  gathered_by (Some d) is e none =
      let typed = typed_there bytes without d (accepted_at bytes tokens [] ps units units_keep_order.first read at d is) e in
      what_suffices_in_paths_suffices (definition_typing bytes d) without d.function typed.typed c set (record { by = λ m valid hits. none m (record { valid = valid; hits = hits }) })

pub source_is_sound : (bytes : List ℕ) (tokens : List Token) (ps : List Piece) (units : List ReadUnit) → AreRead bytes tokens [] ps units → IsSound (world_of bytes units)
source_is_sound bytes tokens ps units read = record {
  never = λ without at c set own e h unsat. never_by bytes tokens ps units read without at c set own (definition_at units at) e h unsat;
  gathered = λ without at c set e inside none. gathered_by bytes tokens ps units read without at c set (definition_at units at) refl e none;
}
