-- Units: what one prints is read as that unit, and what is read is one.
use Rattle.std.proofs.Common.{◌≡◌, ℕ, zero, suc, ◌≤◌, Bool, true, false, List, [], ◌∷◌, ◌++◌, Option, Some, None, refl, sym, ap, subst, ◌∙◌, arith}
use Rattle.std.proofs.lemmas.List.{append-nil}
use Rattle.stk_base.specs.declared.span.Span.{Span}
use Rattle.stk_tree.specs.declared.declaration.Storage.{Storage}
use Rattle.stk_tree.specs.declared.fixed.Fixed.TheVariants as fixed
use Rattle.stk_tree.specs.declared.fixed.Lexeme.{Lexeme}
use Rattle.stk_tree.specs.declared.fixed.Lexeme.TheVariants.{Fixed as Token}
use Rattle.stk_tree.specs.Nesting.{statement_nesting, unit_nesting}
use Rattle.stk_tree.specs.Placed.{is_block, statement_placed, unit_placed}
use Rattle.stk_tree.specs.Syntax.{BaseTree, DeclarationTree, DeclrTree, FunctionTree, PartTrees, StmtTree, UnitTree}
use Rattle.stk_tree.specs.Syntax as s
use Rattle.stk_tree.specs.Tokens.{base_tokens, declaration_tokens, declarator_tokens, function_tokens, statement_tokens, storage_tokens, unit_tokens}
use Rattle.stk_tree.specs.Unlaid.{no_node, unlaid_declaration, unlaid_statement, unlaid_unit}
use Rattle.stk_tree.specs.Fits.{base_fits, declarator_fits, declarators_fits, declaration_fits, statement_fits, unit_fits}
use Rattle.stk_grammar.specs.Reading.{Found}
use Rattle.stk_grammar.proofs.Operators.{bind_some, both_true, if_some, some_is, true_both}
use Rattle.stk_grammar.specs.Declarations.{FrontLeads, front_tokens, opens_body}
use Rattle.stk_grammar.specs.DeclarationReading.{declaration_at, front_at}
use Rattle.stk_grammar.specs.StatementReading.{block_at, declared_on, defined_on, function_of, is_end, is_semicolon, made_statement, parts_at, statement_at, unit_behind, unit_on, unit_within}
use Rattle.stk_grammar.proofs.StatementComplete.{statement_reads}
use Rattle.stk_grammar.proofs.Declarations.{declaration_reads, declaration_sound, front_reads, front_sound}
use Rattle.stk_grammar.proofs.Apart.{front_apart}
use Rattle.stk_grammar.proofs.StatementDeclarations.{declaration_no_semicolon, front_no_semicolon}
use Rattle.stk_grammar.proofs.Found.{end_is, lone_is}
use Rattle.stk_grammar.proofs.StatementPrints.{tokens-append}
use Rattle.stk_grammar.proofs.StatementSound.{statement_sound}

-- ---- one step of the reader

lone_unit : (named : Span → Bool) (n : ℕ) → unit_within named (suc n) (Token fixed.Semicolon ∷ []) ≡ Some (s.empty_unit no_node)
unfolding unit_within
lone_unit named n = refl

declared_unit : (named : Span → Bool) (n : ℕ) (d : DeclarationTree) (ts : List Lexeme) → is_semicolon ts ≡ false → front_at named n ts ≡ None → declaration_at named true n ts ≡ Some (d, [])
    → unit_within named (suc n) ts ≡ Some (s.declares no_node d)
unfolding unit_within
declared_unit named n d ts is none e = rw (is, none, e) refl

defined_unit : (named : Span → Bool) (n : ℕ) (word : Option Storage) (b : BaseTree) (d : DeclrTree) (x : StmtTree) (ts body : List Lexeme) → is_semicolon ts ≡ false
    → front_at named n ts ≡ Some (s.declaration word b (s.then_declarator d s.no_declarators), body) → statement_at named n body ≡ Some (x, []) → unit_within named (suc n) ts ≡ Some (s.defines no_node (s.function word b d x))
unfolding unit_within
defined_unit named n word b d x ts body is front e = rw (is, front, e) refl

-- ---- functions

-- what stands before the body of a function
abbrev front_of : Option Storage → BaseTree → DeclrTree → DeclarationTree
front_of word b d = s.declaration word b (s.then_declarator d s.no_declarators)

function_text : (word : Option Storage) (b : BaseTree) (d : DeclrTree) (x : StmtTree) → function_tokens (s.function word b d x) ≡ front_tokens (front_of word b d) ++ statement_tokens x
function_text word b d x = ap (λ y. ((storage_tokens word ++ base_tokens b) ++ y) ++ statement_tokens x) (sym (append-nil (declarator_tokens d)))

block_opens : (x : StmtTree) → is_block x ≡ true → opens_body (statement_tokens x) ≡ true
block_opens (s.statement n (s.block ps)) h = refl
block_opens (s.statement n other) h = absurd cc

block_of_found : (named : Span → Bool) (inner : ℕ) (ts : List Lexeme) (x : StmtTree × List Lexeme) → block_at named inner (statement_at named inner) ts ≡ Some x → is_block x.0 ≡ true
unfolding block_at
block_of_found named inner ts x e =
    let a = bind_some (parts_at named inner (statement_at named inner) _ ts) _ x e in
    subst (λ (y : StmtTree × List Lexeme). is_block y.0 ≡ true) (some_is (made_statement (s.block a.0.0), a.0.1) x a.2) refl

-- what begins with `{` is a block
block_of_body : (named : Span → Bool) (room : ℕ) (ts : List Lexeme) (x : StmtTree × List Lexeme) → opens_body ts ≡ true → statement_at named room ts ≡ Some x → is_block x.0 ≡ true
unfolding statement_at
block_of_body named zero ts x h e = absurd cc
block_of_body named (suc inner) [] x h e = absurd cc
block_of_body named (suc inner) (Token fixed.LeftBrace ∷ ts) x h e = block_of_found named inner ts x e
block_of_body named (suc inner) (t ∷ ts) x h e = absurd cc

pub unit_reads : (u : UnitTree) (named : Span → Bool) (room : ℕ) → unit_placed u ≡ true → unit_fits named u ≡ true → unit_nesting u ≤ room → unit_within named room (unit_tokens u) ≡ Some (unlaid_unit u)
unit_reads (s.empty_unit n) named zero p q low = absurd (omega arith)
unit_reads (s.empty_unit n) named (suc inner) p q low = lone_unit named inner
unit_reads (s.declares n d) named zero p q low = absurd (omega arith)
unit_reads (s.declares n d) named (suc inner) p q low =
    declared_unit named inner (unlaid_declaration d) (declaration_tokens d) (declaration_no_semicolon named d p q) (front_apart named inner d p q (omega arith))
    (ap (declaration_at named true inner) (sym (append-nil (declaration_tokens d))) ∙ declaration_reads named true inner d [] p q (omega arith))
unit_reads (s.defines n (s.function word b d x)) named zero p q low = absurd (omega arith)
unit_reads (s.defines n (s.function word b d x)) named (suc inner) p q low =
    let a = both_true _ _ p in
    let c = both_true _ _ a.0 in
    let k = both_true _ _ q in
    let front : DeclarationTree = front_of word b d in
    let fits : declaration_fits named front ≡ true = (let h = both_true _ _ k.0 in true_both _ _ h.0 (true_both _ _ h.1 refl)) in
    let text = function_text word b d x in
    defined_unit named inner _ _ _ (unlaid_statement x) (function_tokens (s.function word b d x)) (statement_tokens x) (ap is_semicolon text ∙ front_no_semicolon named front (statement_tokens x) c.0 fits)
    (ap (front_at named inner) text ∙ front_reads named inner front (statement_tokens x) c.0 fits (omega arith) (block_opens x c.1))
    (ap (statement_at named inner) (sym (append-nil (statement_tokens x)) ∙ tokens-append x []) ∙ statement_reads x named inner [] a.1 k.1 (omega arith) (λ _. refl))

-- ---- what is read

-- a unit that all of these tokens are
pub record UnitAnswers (named : Span → Bool) (room : ℕ) (ts : List Lexeme) (u : UnitTree) : Type 0 where
  pub text : ts ≡ unit_tokens u
  pub placed : unit_placed u ≡ true
  pub fits : unit_fits named u ≡ true
  pub low : unit_nesting u ≤ room

-- a front and a body are a function
function_sound : (named : Span → Bool) (inner : ℕ) (ts body : List Lexeme) (d : DeclarationTree) (x : StmtTree) (u : UnitTree) → FrontLeads named inner ts d body → body ≡ statement_tokens x → is_block x ≡ true
    → statement_placed x ≡ true → statement_fits named x ≡ true → statement_nesting x ≤ inner → function_of d x ≡ Some u → UnitAnswers named (suc inner) ts u
function_sound named inner ts body (s.declaration word b (s.then_declarator d s.no_declarators)) x u h is block p q low e =
    let c = both_true (base_fits named b) (declarators_fits named (s.then_declarator d s.no_declarators)) h.fits in
    let k = both_true (declarator_fits named d) true c.1 in
    subst (UnitAnswers named (suc inner) ts) (some_is (s.defines no_node (s.function word b d x)) u e) (record {
      text = h.tokens ∙ ap (λ r. front_tokens (front_of word b d) ++ r) is ∙ sym (function_text word b d x);
      placed = true_both _ _ (true_both _ _ h.placed block) p;
      fits = true_both _ _ (true_both _ _ c.0 k.0) q;
      low = omega (arith, h.nesting, low);
    })
function_sound named inner ts body (s.declaration word b other) x u h is block p q low e = absurd cc

unit_behind_sound : (named : Span → Bool) (inner : ℕ) (ts : List Lexeme) (o : Found DeclarationTree) (u : UnitTree) → front_at named inner ts ≡ o → unit_behind named inner o ts ≡ Some u → UnitAnswers named (suc inner) ts u
unit_behind_sound named inner ts None u is e =
    let a = bind_some (declaration_at named true inner ts) declared_on u e in
    let b = if_some (is_end a.0.1) (Some (s.declares no_node a.0.0)) u a.2 in
    let p = (declaration_sound named true inner ts a.0.0 a.0.1 a.1).0 in
    subst (UnitAnswers named (suc inner) ts) (some_is (s.declares no_node a.0.0) u b.1) (record {
      text = p.tokens ∙ ap (λ r. declaration_tokens a.0.0 ++ r) (end_is a.0.1 b.0) ∙ append-nil (declaration_tokens a.0.0);
      placed = p.placed;
      fits = p.fits;
      low = omega (arith, p.nesting);
    })
unit_behind_sound named inner ts (Some front) u is e =
    let a = bind_some (statement_at named inner front.1) (defined_on front.0) u e in
    let b = if_some (is_end a.0.1) (function_of front.0 a.0.0) u a.2 in
    let h = (front_sound named inner ts front.0 front.1 is).0 in
    let p = statement_sound named inner front.1 a.0 a.1 in
    function_sound named inner ts front.1 front.0 a.0.0 u h (p.text ∙ sym (tokens-append a.0.0 a.0.1) ∙ ap (λ r. statement_tokens a.0.0 ++ r) (end_is a.0.1 b.0) ∙ append-nil (statement_tokens a.0.0))
    (block_of_body named inner front.1 a.0 h.body a.1) p.placed p.fits p.low b.1

unit_on_sound : (named : Span → Bool) (inner : ℕ) (ts : List Lexeme) (b : Bool) (u : UnitTree) → is_semicolon ts ≡ b → unit_on named inner b ts ≡ Some u → UnitAnswers named (suc inner) ts u
unit_on_sound named inner ts true u is e =
    subst (UnitAnswers named (suc inner) ts) (some_is (s.empty_unit no_node) u e) (record { text = lone_is ts is; placed = refl; fits = refl; low = omega arith })
unit_on_sound named inner ts false u is e = unit_behind_sound named inner ts (front_at named inner ts) u refl e

pub unit_sound : (named : Span → Bool) (room : ℕ) (ts : List Lexeme) (u : UnitTree) → unit_within named room ts ≡ Some u → UnitAnswers named room ts u
unfolding unit_within
unit_sound named zero ts u e = absurd cc
unit_sound named (suc inner) ts u e = unit_on_sound named inner ts (is_semicolon ts) u refl e
