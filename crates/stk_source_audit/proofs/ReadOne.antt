-- What a unit is read as is what its tokens say, and nothing else.
use Rattle.std.proofs.Common.{◌≡◌, ℕ, Bool, true, false, List, take, Option, Some, None, refl, sym, ap, subst, ◌∙◌}
use Rattle.std.specs.Prelude.{if◌then◌else◌}
use Rattle.std.specs.Option.{option_map}
use Rattle.stk_lex.specs.declared.token.Token.{Token}
use Rattle.stk_ctype.specs.declared.symbol.NameEntry.{NameEntry}
use Rattle.stk_ctype.specs.Named.{named}
use Rattle.stk_tree.specs.Syntax.{UnitTree}
use Rattle.stk_tree.specs.Layout.{unit_laid_out}
use Rattle.stk_type_rules.specs.Outcome.{Refused}
use Rattle.stk_grammar.specs.Lexemes.{lexemes_of, spans_of}
use Rattle.stk_grammar.specs.StatementReading.{unit_at}
use Rattle.stk_grammar.specs.Units.{IsUnit}
use Rattle.stk_grammar.proofs.LaidUnits.{laid_is_unit}
use Rattle.stk_grammar.proofs.StatementLaws.{found_of_unit, unit_of_found}
use Rattle.stk_stmt.specs.Heads.{IsHead, ended_lexemes, ended_spans, is_declaration}
use Rattle.stk_declare.specs.Declaring.{unit_declared}
use Rattle.stk_accept.specs.declared.accepting.Refusal.{Refusal}
use Rattle.stk_accept.specs.declared.accepting.Refusal.TheVariants as refusal
use Rattle.stk_accept.specs.Accepting.{IsTree, IsHeadTree, Accepts, Refuses, Leaves, LeavesHead, no_head, refused_head, declared_head}
use Rattle.stk_accept.proofs.Exists.{settled, is_accepted, is_refused}
use Rattle.stk_source_audit.specs.Reading.{ReadUnit, first_byte, IsReadAs}
use Rattle.stk_source_audit.specs.Reader.{tree_of, ended_tree_of, names_declared, head_names, names_left, declared_unit, unit_by, unit_of_tokens}

module _ (bytes : List ℕ) (mark : Bool) (es : List NameEntry) where
  -- ---- trees

  tree_is : (tokens : List Token) (u : UnitTree) → IsTree bytes es tokens u → tree_of bytes es tokens ≡ Some u
  tree_is tokens u h = ap (option_map (unit_laid_out (spans_of tokens))) (found_of_unit (named bytes es) (lexemes_of bytes tokens) u h.is) ∙ ap Some (sym h.laid_out)

  head_is : (tokens : List Token) (u : UnitTree) → IsHeadTree bytes es tokens u → ended_tree_of bytes es tokens ≡ Some u
  head_is tokens u h = ap (option_map (unit_laid_out (ended_spans (spans_of tokens)))) (found_of_unit (named bytes es) (ended_lexemes (lexemes_of bytes tokens)) u h.is.is) ∙ ap Some (sym h.laid_out)

  no_tree : (tokens : List Token) → ((u : UnitTree) → IsUnit (named bytes es) (lexemes_of bytes tokens) u → ⊥) → tree_of bytes es tokens ≡ None
  no_tree tokens none = on (unit_at (named bytes es) (lexemes_of bytes tokens)) refl where
    on : (o : Option UnitTree) → unit_at (named bytes es) (lexemes_of bytes tokens) ≡ o → option_map (unit_laid_out (spans_of tokens)) o ≡ None
    on (Some u) e = absurd (none u (unit_of_found (named bytes es) (lexemes_of bytes tokens) u e))
    on None e = refl

  -- ---- names

  head_declares : (tokens : List Token) (u : UnitTree) → IsHeadTree bytes es tokens u → head_names bytes mark es (ended_tree_of bytes es tokens) ≡ names_declared es (unit_declared bytes mark es u)
  head_declares tokens u h =
      ap (head_names bytes mark es) (head_is tokens u h)
      ∙ ap (λ (b : Bool). if b then names_declared es (unit_declared bytes mark es u) else es) h.is.declaration

  no_head_tree : (tokens : List Token) → ((u : UnitTree) → IsHead (named bytes es) (lexemes_of bytes tokens) u → ⊥) → head_names bytes mark es (ended_tree_of bytes es tokens) ≡ es
  no_head_tree tokens none = on (unit_at (named bytes es) (ended_lexemes (lexemes_of bytes tokens))) refl where
    no_declaration : (u : UnitTree) → IsUnit (named bytes es) (ended_lexemes (lexemes_of bytes tokens)) u → (b : Bool) → is_declaration u ≡ b → (if b then names_declared es (unit_declared bytes mark es u) else es) ≡ es
    no_declaration u is true e = absurd (none u (record { is = is; declaration = e }))
    no_declaration u is false e = refl

    on : (o : Option UnitTree) → unit_at (named bytes es) (ended_lexemes (lexemes_of bytes tokens)) ≡ o → head_names bytes mark es (option_map (unit_laid_out (ended_spans (spans_of tokens))) o) ≡ es
    on (Some u) e =
        let laid : UnitTree = unit_laid_out (ended_spans (spans_of tokens)) u in
        no_declaration laid (laid_is_unit (named bytes es) (ended_lexemes (lexemes_of bytes tokens)) (ended_spans (spans_of tokens)) u (unit_of_found (named bytes es) (ended_lexemes (lexemes_of bytes tokens)) u e)) (is_declaration laid) refl
    on None e = refl

  head_left : (tokens : List Token) (now : List NameEntry) → LeavesHead bytes mark es tokens now → head_names bytes mark es (ended_tree_of bytes es tokens) ≡ now
  head_left tokens now (no_head none) = no_head_tree tokens none
  head_left tokens now (refused_head u n r h e) = head_declares tokens u h ∙ ap (names_declared es) e
  head_left tokens now (declared_head u after facts h e) = head_declares tokens u h ∙ ap (names_declared es) e

  left_is : (body : Option ℕ) (tokens : List Token) (now : List NameEntry) → Leaves bytes mark es tokens body now → names_left bytes mark es body tokens ≡ now
  left_is None tokens now h = sym h
  left_is (Some k) tokens now h = head_left (take k tokens) now h

  -- ---- units

  accepted_is : (body : Option ℕ) (tokens : List Token) (u : UnitTree) (now : List NameEntry) → Accepts bytes mark es tokens u now → unit_of_tokens bytes mark es body tokens ≡ record { at = first_byte tokens; tree = Some u; now = now }
  accepted_is body tokens u now h =
      let at = first_byte tokens in
      let left = names_left bytes mark es body tokens in
      ap (unit_by bytes mark es at left) (tree_is tokens u h.tree) ∙ ap (declared_unit at left u) h.declared

  refused_is : (body : Option ℕ) (tokens : List Token) (cause : Refusal) (now : List NameEntry) → Refuses bytes mark es tokens body cause now → unit_of_tokens bytes mark es body tokens ≡ record { at = first_byte tokens; tree = None; now = now }
  refused_is body tokens refusal.NoTree now h =
      let at = first_byte tokens in
      ap (unit_by bytes mark es at (names_left bytes mark es body tokens)) (no_tree tokens h.because)
      ∙ ap (λ (left : List NameEntry). unit_by bytes mark es at left None) (left_is body tokens now h.leaves)
  refused_is body tokens (refusal.Rule place rule) now h =
      let at = first_byte tokens in
      let left = names_left bytes mark es body tokens in
      let b = h.because in
      ap (unit_by bytes mark es at left) (tree_is tokens b.unit b.tree)
      ∙ ap (declared_unit at left b.unit) b.refused
      ∙ ap (λ (after : List NameEntry). declared_unit at after b.unit (Refused b.node rule)) (left_is body tokens now h.leaves)

  -- a unit that is read so is what its tokens say
  pub read_is : (body : Option ℕ) (tokens : List Token) (tree : Option UnitTree) (now : List NameEntry) → IsReadAs bytes mark es body tokens tree now → unit_of_tokens bytes mark es body tokens ≡ record { at = first_byte tokens; tree = tree; now = now }
  read_is body tokens (Some u) now h = accepted_is body tokens u now h
  read_is body tokens None now h = refused_is body tokens h.0 now h.1

  -- what tokens say is read so
  pub record IsReadOne (body : Option ℕ) (tokens : List Token) (x : ReadUnit) : Type 0 where
    pub at : x.at ≡ first_byte tokens
    pub is : IsReadAs bytes mark es body tokens x.tree x.now

  read_one : (body : Option ℕ) (tokens : List Token) (tree : Option UnitTree) (now : List NameEntry) → IsReadAs bytes mark es body tokens tree now → IsReadOne body tokens (unit_of_tokens bytes mark es body tokens)
  read_one body tokens tree now h = subst (IsReadOne body tokens) (sym (read_is body tokens tree now h)) (record { at = refl; is = h })

  pub is_read : (body : Option ℕ) (tokens : List Token) → IsReadOne body tokens (unit_of_tokens bytes mark es body tokens)
  is_read body tokens =
      elim (settled bytes mark es tokens body) [
        | is_accepted u now h ↦ read_one body tokens (Some u) now h
        | is_refused cause now h ↦ read_one body tokens None now (cause, h)
      ]
