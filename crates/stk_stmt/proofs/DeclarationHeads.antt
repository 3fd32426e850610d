-- Reading a declaration whose `;` is left away, both ways.
use Rattle.std.proofs.Common.{◌≡◌, ◌≤◌, ◌<◌, ◌+◌, ◌*◌, ◌^◌, ℕ, Bool, true, false, cond, List, [], ◌∷◌, ◌++◌, ◌-◌, length, map, get_or, Some, None, refl, sym, ap, subst, ◌∙◌, arith}
use Rattle.std.proofs.lemmas.List.{append-nil, length-append, length-map}
use Rattle.stk_base.specs.declared.span.Span.{Span}
use Rattle.stk_lex.specs.declared.token.Token.{Token}
use Rattle.stk_tree.specs.declared.fixed.Lexeme.{Lexeme}
use Rattle.stk_tree.specs.Syntax.{DeclarationTree, UnitTree}
use Rattle.stk_tree.specs.Syntax as s
use Rattle.stk_tree.specs.Layout.{unit_laid_out}
use Rattle.stk_tree.specs.Nodes.{unit_nodes}
use Rattle.stk_tree.specs.Tokens.{declaration_tokens, unit_tokens}
use Rattle.stk_nodes.proofs.Few.{unit_tokens-few}
use Rattle.stk_tree.specs.Unlaid.{no_node, unlaid_declaration, unlaid_unit}
use Rattle.stk_grammar.specs.Reading.{◌>>=◌, Found}
use Rattle.stk_grammar.proofs.Operators.{bind_some, if_some, some_is}
use Rattle.stk_grammar.specs.DeclarationReading.{declaration_at}
use Rattle.stk_grammar.proofs.Declarations.{declaration_reads, declaration_sound}
use Rattle.stk_grammar.specs.Lexemes.{lexeme_of, lexemes_of, spans_of}
use Rattle.stk_grammar.specs.StatementReading.{declared_on, is_end}
use Rattle.stk_grammar.specs.Units.{IsUnit}
use Rattle.stk_grammar.proofs.Found.{end_is}
use Rattle.stk_grammar.proofs.LaidUnits.{laid_unlaid_unit, laid_is_unit}
use Rattle.stk_stmt.specs.Heads.{IsHead, ended_lexemes, ended_spans, is_declaration, last_end}
use Rattle.stk_stmt.specs.Units.{declaration_unit_at}

-- a declaration that was read, without the records of its nodes
pub record IsLoneDeclaration (named : Span → Bool) (ts : List Lexeme) (u : UnitTree) : Type 0 where
  pub is : IsUnit named ts u
  pub declaration : is_declaration u ≡ true
  pub unlaid : unlaid_unit u ≡ u

pub head_sound : (named : Span → Bool) (ts : List Lexeme) (u : UnitTree) → declaration_unit_at named 399 ts ≡ Some u → IsLoneDeclaration named ts u
head_sound named ts u e =
    let a = bind_some (declaration_at named true 399 ts) declared_on u e in
    let b = if_some (is_end a.0.1) (Some (s.declares no_node a.0.0)) u a.2 in
    let q = declaration_sound named true 399 ts a.0.0 a.0.1 a.1 in
    let p = q.0 in
    subst (IsLoneDeclaration named ts) (some_is (s.declares no_node a.0.0) u b.1) (record {
      is = record {
        tokens = p.tokens ∙ ap (λ r. declaration_tokens a.0.0 ++ r) (end_is a.0.1 b.0) ∙ append-nil (declaration_tokens a.0.0);
        placed = p.placed;
        fits = p.fits;
        nesting = omega (arith, p.nesting);
      };
      declaration = refl;
      unlaid = ap (s.declares no_node) q.1;
    })

pub head_reads : (named : Span → Bool) (ts : List Lexeme) (u : UnitTree) → IsUnit named ts u → is_declaration u ≡ true → declaration_unit_at named 399 ts ≡ Some (unlaid_unit u)
head_reads named ts (s.empty_unit n) h d = absurd cc
head_reads named ts (s.defines n f) h d = absurd cc
head_reads named ts (s.declares n t) h d =
    ap (λ (x : List Lexeme). declaration_at named true 399 x >>= declared_on) (h.tokens ∙ sym (append-nil (declaration_tokens t)))
    ∙ ap (λ (o : Found DeclarationTree). o >>= declared_on) (declaration_reads named true 399 t [] h.placed h.fits (omega (arith, h.nesting)))

pub no_head : (named : Span → Bool) (ts : List Lexeme) → declaration_unit_at named 399 (ended_lexemes ts) ≡ None → (u : UnitTree) → IsHead named ts u → ⊥
no_head named ts e u h = let k = head_reads named (ended_lexemes ts) u h.is h.declaration in cc (sym e ∙ k)

-- ---- tokens and spans with one more

-- the last token ends where its span does
end_at : (t : Token) (ts : List Token) (none : Token) → (get_or (t ∷ ts) (length ts) none).span.to ≡ last_end (spans_of (t ∷ ts))
end_at t [] none = refl
end_at t (u ∷ us) none = end_at u us none

pub end_of_last : (tokens : List Token) (none : Token) → (length tokens ≡ 0 → ⊥) → (get_or tokens (length tokens - 1) none).span.to ≡ last_end (spans_of tokens)
end_of_last [] none some = absurd (some refl)
end_of_last (t ∷ ts) none some =
    let size : length (t ∷ ts) - 1 ≡ length ts = omega arith in
    rw size (end_at t ts none)

pub one_span_more : (named : Span → Bool) (bytes : List ℕ) (tokens : List Token) (u : UnitTree) → declaration_unit_at named 399 (ended_lexemes (lexemes_of bytes tokens)) ≡ Some u
    → length (ended_spans (spans_of tokens)) ≡ length (unit_tokens u)
one_span_more named bytes tokens u e =
    let is = (head_sound named (ended_lexemes (lexemes_of bytes tokens)) u e).is in
    length-append (spans_of tokens) _ ∙ ap (λ n. n + 1) (length-map tokens (λ t. t.span) ∙ sym (length-map tokens (lexeme_of bytes))) ∙ sym (length-append (lexemes_of bytes tokens) _) ∙ ap length is.tokens

pub few_head_nodes : (named : Span → Bool) (bytes : List ℕ) (tokens : List Token) (u : UnitTree) → length tokens ≤ 16777216 → declaration_unit_at named 399 (ended_lexemes (lexemes_of bytes tokens)) ≡ Some u
    → unit_nodes u < 2 ^ 32
few_head_nodes named bytes tokens u few e =
    let is = (head_sound named (ended_lexemes (lexemes_of bytes tokens)) u e).is in
    let size : length (ended_lexemes (lexemes_of bytes tokens)) ≡ length tokens + 1 = length-append (lexemes_of bytes tokens) _ ∙ ap (λ n. n + 1) (length-map tokens (lexeme_of bytes)) in
    omega (arith, few, unit_tokens-few u is.placed, size, ap length is.tokens)

declared_laid : (spans : List Span) (u : UnitTree) → is_declaration (unit_laid_out spans u) ≡ is_declaration u
declared_laid spans (s.empty_unit n) = refl
declared_laid spans (s.declares n d) = refl
declared_laid spans (s.defines n f) = refl

pub head_found : (named : Span → Bool) (ts : List Lexeme) (spans : List Span) (u x : UnitTree) → declaration_unit_at named 399 (ended_lexemes ts) ≡ Some u → x ≡ unit_laid_out spans u → IsHead named ts x
head_found named ts spans u x e q =
    let k = head_sound named (ended_lexemes ts) u e in
    record { is = rw q (laid_is_unit named (ended_lexemes ts) spans u k.is); declaration = ap is_declaration q ∙ declared_laid spans u ∙ k.declaration }

pub head_places : (named : Span → Bool) (ts : List Lexeme) (spans : List Span) (u x : UnitTree) → declaration_unit_at named 399 (ended_lexemes ts) ≡ Some u → x ≡ unit_laid_out spans u → x ≡ unit_laid_out spans (unlaid_unit x)
head_places named ts spans u x e q = laid_unlaid_unit spans u x (head_sound named (ended_lexemes ts) u e).unlaid q
