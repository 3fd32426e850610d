-- Each unit is accepted or refused, and leaves names in force.
use Rattle.std.proofs.Common.{◌≡◌, ◌∙◌, ◌⊎◌, inl, inr, ℕ, Bool, true, false, List, take, Option, Some, None, refl, sym, ap}
use Rattle.std.proofs.lemmas.Bool.{false≢true}
use Rattle.stk_base.specs.declared.span.Span.{Span}
use Rattle.stk_ctype.specs.declared.symbol.NameEntry.{NameEntry}
use Rattle.stk_ctype.specs.Named.{named}
use Rattle.stk_type_rules.specs.Outcome.{Outcome, Good, Refused}
use Rattle.stk_lex.specs.declared.token.Token.{Token}
use Rattle.stk_grammar.specs.Lexemes.{lexemes_of, spans_of}
use Rattle.stk_tree.specs.declared.fixed.Lexeme.{Lexeme}
use Rattle.stk_tree.specs.Syntax.{UnitTree}
use Rattle.stk_tree.specs.Syntax as s
use Rattle.stk_tree.specs.Layout.{unit_laid_out}
use Rattle.stk_tree.specs.Unlaid.{unlaid_unit}
use Rattle.stk_nodes.specs.Rows.{unit_row}
use Rattle.stk_grammar.specs.StatementReading.{unit_at}
use Rattle.stk_grammar.specs.Units.{IsUnit}
use Rattle.stk_grammar.proofs.LaidUnits.{laid_unlaid_unit, laid_is_unit}
use Rattle.stk_grammar.proofs.StatementLaws.{found_unlaid, none_of_none, unit_of_found, one_unit}
use Rattle.stk_stmt.specs.Heads.{ended_lexemes, ended_spans, is_declaration}
use Rattle.stk_declare.specs.Declaring.{unit_declared}
use Rattle.stk_accept.specs.declared.accepting.Refusal.{Refusal}
use Rattle.stk_accept.specs.declared.accepting.Refusal.TheVariants as refusal
use Rattle.stk_accept.specs.Accepting.{IsTree, IsHeadTree, beginning, Accepts, Refuses, Leaves, LeavesHead, no_head, refused_head, declared_head}

-- tokens with these spans are a unit, laid out, or there is none
read_or_not : (words : Span → Bool) (ts : List Lexeme) (spans : List Span) → ((u : UnitTree) × (IsUnit words ts u × (u ≡ unit_laid_out spans (unlaid_unit u)))) ⊎ ((u : UnitTree) → IsUnit words ts u → ⊥)
read_or_not words ts spans = on (unit_at words ts) refl where
  on : (o : Option UnitTree) → unit_at words ts ≡ o → ((u : UnitTree) × (IsUnit words ts u × (u ≡ unit_laid_out spans (unlaid_unit u)))) ⊎ ((u : UnitTree) → IsUnit words ts u → ⊥)
  on (Some u) e =
      inl (unit_laid_out spans u, (laid_is_unit words ts spans u (unit_of_found words ts u e), laid_unlaid_unit spans u (unit_laid_out spans u) (found_unlaid words ts u e) refl))
  on None e = inr (none_of_none words ts e)

declaration_unlaid : (u : UnitTree) → is_declaration (unlaid_unit u) ≡ is_declaration u
declaration_unlaid (s.empty_unit n) = refl
declaration_unlaid (s.declares n d) = refl
declaration_unlaid (s.defines n f) = refl

-- the names that tokens before a body leave
pub record AreLeft (bytes : List ℕ) (mark : Bool) (es : List NameEntry) (tokens : List Token) : Type 0 where
  pub now : List NameEntry
  pub leaves : LeavesHead bytes mark es tokens now

module _ (bytes : List ℕ) (mark : Bool) (es : List NameEntry) where
  by_head : (tokens : List Token) (u : UnitTree) → IsHeadTree bytes es tokens u → AreLeft bytes mark es tokens
  by_head tokens u h = on (unit_declared bytes mark es u) refl where
    on : (o : Outcome (List NameEntry)) → unit_declared bytes mark es u ≡ o → AreLeft bytes mark es tokens
    on (Good now facts) e = record { now = now; leaves = declared_head u now facts h e }
    on (Refused n r) e = record { now = es; leaves = refused_head u n r h e }

  by_declaration : (tokens : List Token) (u : UnitTree) → IsUnit (named bytes es) (ended_lexemes (lexemes_of bytes tokens)) u → u ≡ unit_laid_out (ended_spans (spans_of tokens)) (unlaid_unit u) → (b : Bool) → is_declaration u ≡ b
      → AreLeft bytes mark es tokens
  by_declaration tokens u is laid true e = by_head tokens u (record { is = record { is = is; declaration = e }; laid_out = laid })
  by_declaration tokens u is laid false e = record {
    now = es;
    leaves = no_head (λ v h. false≢true (sym e ∙ sym (declaration_unlaid u) ∙ ap is_declaration (one_unit (named bytes es) (ended_lexemes (lexemes_of bytes tokens)) u v is h.is) ∙ declaration_unlaid v ∙ h.declaration));
  }

  left_by : (tokens : List Token) → AreLeft bytes mark es tokens
  left_by tokens = elim (read_or_not (named bytes es) (ended_lexemes (lexemes_of bytes tokens)) (ended_spans (spans_of tokens))) [
    | inl (u, (is, laid)) ↦ by_declaration tokens u is laid (is_declaration u) refl
    | inr none ↦ record { now = es; leaves = no_head (λ u h. none u h.is) }
  ]

  left_in : (tokens : List Token) (body : Option ℕ) → (now : List NameEntry) × Leaves bytes mark es tokens body now
  left_in tokens None = (es, refl)
  left_in tokens (Some k) = let left = left_by (take k tokens) in (left.now, left.leaves)

  -- a unit is accepted, or refused
  pub data IsSettled (tokens : List Token) (body : Option ℕ) : Type 0 where
    is_accepted : (u : UnitTree) (now : List NameEntry) → Accepts bytes mark es tokens u now → IsSettled tokens body
    is_refused : (cause : Refusal) (now : List NameEntry) → Refuses bytes mark es tokens body cause now → IsSettled tokens body

  by_tree : (tokens : List Token) (body : Option ℕ) (u : UnitTree) → IsTree bytes es tokens u → IsSettled tokens body
  by_tree tokens body u tree = on (unit_declared bytes mark es u) refl where
    on : (o : Outcome (List NameEntry)) → unit_declared bytes mark es u ≡ o → IsSettled tokens body
    on (Good now facts) e = is_accepted u now (record { tree = tree; facts = facts; declared = e })
    on (Refused n r) e =
        let left = left_in tokens body in
        is_refused (refusal.Rule (beginning (unit_row u) n) r) left.0 (record { because = record { unit = u; tree = tree; node = n; refused = e; place = refl }; leaves = left.1 })

  pub settled : (tokens : List Token) (body : Option ℕ) → IsSettled tokens body
  settled tokens body = elim (read_or_not (named bytes es) (lexemes_of bytes tokens) (spans_of tokens)) [
    | inl (u, (is, laid)) ↦ by_tree tokens body u (record { is = is; laid_out = laid })
    | inr none ↦ (let left = left_in tokens body in is_refused refusal.NoTree left.0 (record { because = none; leaves = left.1 }))
  ]
