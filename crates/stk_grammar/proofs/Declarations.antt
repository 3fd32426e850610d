-- Declarations and fronts of functions are read both ways: what one prints is read as that one, and what is read stands
-- there.
use Rattle.std.proofs.Common.{◌≡◌, ℕ, zero, suc, ◌≤◌, Bool, true, false, not, ◌&&◌, List, [], ◌∷◌, ◌++◌, Option, Some, None, refl, sym, ap, subst, ◌∙◌, arith}
use Rattle.stk_base.specs.declared.span.Span.{Span}
use Rattle.stk_tree.specs.declared.node.Node.{Node}
use Rattle.stk_tree.specs.declared.fixed.Fixed.{Fixed}
use Rattle.stk_tree.specs.declared.fixed.Fixed.TheVariants as fixed
use Rattle.stk_tree.specs.declared.fixed.Lexeme.{Lexeme}
use Rattle.stk_tree.specs.declared.fixed.Lexeme.TheVariants.{Fixed as Token}
use Rattle.stk_tree.specs.declared.declaration.Storage.{Storage}
use Rattle.stk_tree.specs.declared.declaration.Storage.TheVariants.{Typedef, Extern, Static}
use Rattle.stk_tree.specs.Syntax.{BaseFormTree, BaseTree, DeclarationTree, DeclrTree, DeclrTrees}
use Rattle.stk_tree.specs.Syntax as s
use Rattle.stk_tree.specs.Nesting.{declaration_nesting, declarators_nesting}
use Rattle.stk_tree.specs.Placed.{all_basic, base_form_placed, base_placed, declarator_placed, declarators_placed, file_declarators, function_declarator, has_arrays, has_initialiser, has_name, is_unbraced, is_basic, local_declarators, local_storage, some_declarators}
use Rattle.stk_tree.specs.Tokens.{declaration_tokens}
use Rattle.stk_tree.specs.Unlaid.{no_node, unlaid_base_form, unlaid_declarator, unlaid_declarators, unlaid_declaration}
use Rattle.stk_tree.specs.Fits.{base_form_fits, declarator_fits, declarators_fits, declaration_fits}
use Rattle.stk_grammar.specs.Reading.{◌>>=◌, Found, base_at, behind_left_brace, behind_semicolon}
use Rattle.stk_grammar.proofs.Complete.{cond_true}
use Rattle.stk_grammar.proofs.Operators.{bind_some, both_true, if_some, some_is, true_both}
use Rattle.stk_grammar.proofs.Prints.{prints_words}
use Rattle.stk_grammar.specs.Declarations.{DeclarationLeads, FrontLeads, declaration_placed, front_placed, front_tokens, opens_body}
use Rattle.stk_grammar.specs.DeclarationReading.{Reader, declaration_at, declarator_at, declarators_at, file_behind, file_declarators_at, file_declarators_on, front_at, front_behind, full_base_at, function_declarator_at, if_body, local_behind, local_on, storage_at}
use Rattle.stk_grammar.proofs.Arrays.{named_declarator_no_words}
use Rattle.stk_grammar.proofs.Bases.{form_found, form_read}
use Rattle.stk_grammar.proofs.Declarators.{declarator_found, declarator_read, declares, function_declarator_found, function_declarator_read}
use Rattle.stk_grammar.proofs.Lists.{all_declarators, declarators_found, declarators_read, files_of, list_no_left_brace, list_no_semicolon, list_no_words, locals_of, named_files, named_locals, of_files, of_locals, prints_declarator_list}
use Rattle.stk_grammar.proofs.DeclarationPunctuators.{semicolon_is}
use Rattle.stk_grammar.proofs.Parameters.{declarator_above, specifier_found, specifier_read}
use Rattle.stk_grammar.proofs.DeclarationPrints.{declaration-append, front-append, prints_declaration, prints_declarator, prints_front, prints_specifier_form, prints_storage}
use Rattle.stk_grammar.proofs.Stands.{Stands}

-- ---- storage words

basic_no_storage : (w : Fixed) (ts : List Lexeme) → is_basic w ≡ true → storage_at (Token w ∷ ts) ≡ (None, Token w ∷ ts)
basic_no_storage fixed.Typedef ts h = absurd cc
basic_no_storage fixed.Extern ts h = absurd cc
basic_no_storage fixed.Static ts h = absurd cc
basic_no_storage other ts h = refl

form_no_storage : (f : BaseFormTree) (r : List Lexeme) → base_form_placed f ≡ true → storage_at (prints_specifier_form f r) ≡ (None, prints_specifier_form f r)
form_no_storage (s.words []) r p = absurd cc
form_no_storage (s.words (w ∷ ws)) r p = basic_no_storage w (prints_words ws r) (both_true (is_basic w) (all_basic ws) p).0
form_no_storage (s.struct_ref tag) r p = refl
form_no_storage (s.struct_def tag ms) r p = refl
form_no_storage (s.enum_ref tag) r p = refl
form_no_storage (s.enum_def tag es comma) r p = refl
form_no_storage (s.named at) r p = refl

storage_read : (w : Option Storage) (f : BaseFormTree) (r : List Lexeme) → base_form_placed f ≡ true → storage_at (prints_storage w (prints_specifier_form f r)) ≡ (w, prints_specifier_form f r)
storage_read None f r p = form_no_storage f r p
storage_read (Some Typedef) f r p = refl
storage_read (Some Extern) f r p = refl
storage_read (Some Static) f r p = refl

storage_is : (ts : List Lexeme) → ts ≡ prints_storage (storage_at ts).0 (storage_at ts).1
storage_is [] = refl
storage_is (Token fixed.Typedef ∷ ts) = refl
storage_is (Token fixed.Extern ∷ ts) = refl
storage_is (Token fixed.Static ∷ ts) = refl
storage_is (t ∷ ts) = refl

-- ---- at file scope

file_list_some : (one : Reader DeclrTree) (ts : List Lexeme) (ds : DeclrTrees) (rest : List Lexeme) → behind_semicolon ts ≡ None → declarators_at one ts ≡ Some (ds, rest) → file_declarators_at one ts ≡ Some (ds, rest)
file_list_some one ts ds rest none e = ap (λ o. file_declarators_on one o ts) none ∙ e

file_list_read : (ds : DeclrTrees) (named : Span → Bool) (room : ℕ) (r : List Lexeme) → all_declarators (declares true) ds ≡ true → declarators_fits named ds ≡ true → declarators_nesting ds ≤ room
    → file_declarators_at (declarator_at named room true) (prints_declarator_list ds r) ≡ Some (unlaid_declarators ds, r)
file_list_read s.no_declarators named room r p q low = refl
file_list_read (s.then_declarator x xs) named room r p q low =
    file_list_some (declarator_at named room true) (prints_declarator_list (s.then_declarator x xs) r) (unlaid_declarators (s.then_declarator x xs)) r (list_no_semicolon x xs r (named_files (s.then_declarator x xs) p))
    (declarators_read (s.then_declarator x xs) named (declares true) room (declarator_at named room true) r (λ d r h q low ends. declarator_read d named room true r h q low ends) p q low)

file_some : (named : Span → Bool) (room : ℕ) (w : Option Storage) (b : BaseFormTree) (ds : DeclrTrees) (ts middle rest : List Lexeme) → full_base_at named room ts ≡ Some (b, middle) → file_declarators_at (declarator_at named room true) middle ≡ Some (ds, rest)
    → file_behind named room (w, ts) ≡ Some (s.declaration w (s.base no_node b) ds, rest)
file_some named room w b ds ts middle rest by later =
    ap (λ (o : Found BaseFormTree). o >>= λ b. file_declarators_at (declarator_at named room true) b.1 >>= λ ds. let y : Found DeclarationTree = Some (s.declaration w (s.base no_node b.0) ds.0, ds.1) in y) by
    ∙ ap (λ (o : Found DeclrTrees). o >>= λ ds. let y : Found DeclarationTree = Some (s.declaration w (s.base no_node b) ds.0, ds.1) in y) later

file_read : (w : Option Storage) (n : Node) (f : BaseFormTree) (ds : DeclrTrees) (named : Span → Bool) (room : ℕ) (r : List Lexeme) → declaration_placed true (s.declaration w (s.base n f) ds) ≡ true → declaration_fits named (s.declaration w (s.base n f) ds) ≡ true
    → declaration_nesting (s.declaration w (s.base n f) ds) ≤ room → declaration_at named true room (prints_declaration (s.declaration w (s.base n f) ds) r) ≡ Some (unlaid_declaration (s.declaration w (s.base n f) ds), r)
unfolding declaration_at
file_read w n f ds named room r p q low =
    let a = both_true (base_form_placed f && file_declarators ds) (declarators_placed ds) p in
    let c = both_true (base_form_placed f) (file_declarators ds) a.0 in
    let b = both_true (base_form_fits named f) (declarators_fits named ds) q in
    let all = files_of ds c.1 a.1 in
    let behind : List Lexeme = prints_declarator_list ds r in
    ap (file_behind named room) (storage_read w f behind c.0)
    ∙ file_some named room w (unlaid_base_form f) (unlaid_declarators ds) (prints_specifier_form f behind) behind r
    (form_read f named room behind c.0 b.0 (omega arith) (list_no_words ds r (named_files ds all)) (list_no_left_brace ds r (named_files ds all)))
    (file_list_read ds named room r all b.1 (omega arith))

-- ---- in a block

local_some : (named : Span → Bool) (room : ℕ) (w : Option Storage) (b : BaseFormTree) (ds : DeclrTrees) (ts middle rest : List Lexeme) → local_storage w ≡ true → base_at named ts ≡ Some (b, middle)
    → declarators_at (declarator_at named room false) middle ≡ Some (ds, rest) → local_on named room (w, ts) ≡ Some (s.declaration w (s.base no_node b) ds, rest)
local_some named room w b ds ts middle rest h by later =
    cond_true (local_storage w) (local_behind named room (w, ts)) None h
    ∙ ap (λ (o : Found BaseFormTree). o >>= λ b. declarators_at (declarator_at named room false) b.1 >>= λ ds. let y : Found DeclarationTree = Some (s.declaration w (s.base no_node b.0) ds.0, ds.1) in y) by
    ∙ ap (λ (o : Found DeclrTrees). o >>= λ ds. let y : Found DeclarationTree = Some (s.declaration w (s.base no_node b) ds.0, ds.1) in y) later

-- the six tests of a declaration in a block
local_tests : (w : Option Storage) (b : BaseTree) (ds : DeclrTrees) → declaration_placed false (s.declaration w b ds) ≡ true
    → (local_storage w ≡ true) × (is_unbraced b ≡ true) × (base_placed b ≡ true) × (some_declarators ds ≡ true) × (local_declarators ds ≡ true) × (declarators_placed ds ≡ true)
local_tests w b ds p =
    let a = both_true (local_storage w && is_unbraced b && base_placed b && some_declarators ds && local_declarators ds) (declarators_placed ds) p in
    let c = both_true (local_storage w && is_unbraced b && base_placed b && some_declarators ds) (local_declarators ds) a.0 in
    let d = both_true (local_storage w && is_unbraced b && base_placed b) (some_declarators ds) c.0 in
    let e = both_true (local_storage w && is_unbraced b) (base_placed b) d.0 in
    let f = both_true (local_storage w) (is_unbraced b) e.0 in
    (f.0, f.1, e.1, d.1, c.1, a.1)

local_read : (w : Option Storage) (n : Node) (f : BaseFormTree) (ds : DeclrTrees) (named : Span → Bool) (room : ℕ) (r : List Lexeme) → declaration_placed false (s.declaration w (s.base n f) ds) ≡ true → declaration_fits named (s.declaration w (s.base n f) ds) ≡ true
    → declaration_nesting (s.declaration w (s.base n f) ds) ≤ room → declaration_at named false room (prints_declaration (s.declaration w (s.base n f) ds) r) ≡ Some (unlaid_declaration (s.declaration w (s.base n f) ds), r)
unfolding declaration_at
local_read w n f ds named zero r p q low = absurd (omega arith)
local_read w n f ds named (suc inner) r p q low =
    let a = local_tests w (s.base n f) ds p in
    let b = both_true (base_form_fits named f) (declarators_fits named ds) q in
    let all = locals_of ds a.4 a.5 in
    let behind : List Lexeme = prints_declarator_list ds r in
    ap (local_on named (suc inner)) (storage_read w f behind a.2)
    ∙ local_some named (suc inner) w (unlaid_base_form f) (unlaid_declarators ds) (prints_specifier_form f behind) behind r a.0
    (specifier_read named n f behind a.1 a.2 b.0 (list_no_words ds r (named_locals ds all)))
    (declarators_read ds named (declares false) (suc inner) (declarator_at named (suc inner) false) r (λ d r h q low ends. declarator_read d named (suc inner) false r h q low ends) (true_both _ _ a.3 all) b.1 (omega arith))

-- ---- what a declaration prints is read as that declaration

declaration_read : (d : DeclarationTree) (named : Span → Bool) (file : Bool) (room : ℕ) (r : List Lexeme) → declaration_placed file d ≡ true → declaration_fits named d ≡ true → declaration_nesting d ≤ room
    → declaration_at named file room (prints_declaration d r) ≡ Some (unlaid_declaration d, r)
declaration_read (s.declaration w (s.base n f) ds) named true room r p q low = file_read w n f ds named room r p q low
declaration_read (s.declaration w (s.base n f) ds) named false room r p q low = local_read w n f ds named room r p q low

pub declaration_reads : (named : Span → Bool) (file : Bool) (room : ℕ) (d : DeclarationTree) (rest : List Lexeme) → declaration_placed file d ≡ true → declaration_fits named d ≡ true → declaration_nesting d ≤ room
    → declaration_at named file room (declaration_tokens d ++ rest) ≡ Some (unlaid_declaration d, rest)
declaration_reads named file room d rest p q low = ap (declaration_at named file room) (declaration-append d rest) ∙ declaration_read d named file room rest p q low

-- ---- what is read stands there

-- what was found of a declaration
record DeclarationStands (named : Span → Bool) (file : Bool) (room : ℕ) (ts : List Lexeme) (x : DeclarationTree × List Lexeme) : Type 0 where
  text : ts ≡ prints_declaration x.0 x.1
  placed : declaration_placed file x.0 ≡ true
  fits : declaration_fits named x.0 ≡ true
  low : declaration_nesting x.0 ≤ room

file_list_found : (named : Span → Bool) (room : ℕ) (o : Option (List Lexeme)) (ts : List Lexeme) (x : DeclrTrees × List Lexeme) → behind_semicolon ts ≡ o → file_declarators_on (declarator_at named room true) o ts ≡ Some x
    → Stands prints_declarator_list (all_declarators (declares true)) (declarators_fits named) declarators_nesting room ts x
file_list_found named room (Some rest) ts x is e =
    subst (Stands prints_declarator_list (all_declarators (declares true)) (declarators_fits named) declarators_nesting room ts) (some_is (s.no_declarators, rest) x e)
    (record { text = semicolon_is ts rest is; placed = refl; fits = refl; low = omega arith })
file_list_found named room None ts x is e =
    let p = declarators_found named (declares true) room (declarator_at named room true) (declarator_found named room true) ts x e in
    record { text = p.text; placed = (both_true (some_declarators x.0) (all_declarators (declares true) x.0) p.placed).1; fits = p.fits; low = p.low }

file_found : (named : Span → Bool) (room : ℕ) (ts : List Lexeme) (x : DeclarationTree × List Lexeme) → declaration_at named true room ts ≡ Some x → DeclarationStands named true room ts x
unfolding declaration_at
file_found named room ts x e =
    let w = storage_at ts in
    let a = bind_some (full_base_at named room w.1) _ x e in
    let b = bind_some (file_declarators_at (declarator_at named room true) a.0.1) _ x a.2 in
    let p = form_found named room w.1 a.0 a.1 in
    let q = file_list_found named room (behind_semicolon a.0.1) a.0.1 b.0 refl b.1 in
    let c = of_files b.0.0 q.placed in
    subst (DeclarationStands named true room ts) (some_is (s.declaration w.0 (s.base no_node a.0.0) b.0.0, b.0.1) x b.2)
    (record {
      text = storage_is ts ∙ ap (prints_storage w.0) (p.text ∙ ap (prints_specifier_form a.0.0) q.text);
      placed = true_both _ _ (true_both _ _ p.placed c.0) c.1;
      fits = true_both _ _ p.fits q.fits;
      low = omega (arith, p.low, q.low);
    })

local_found : (named : Span → Bool) (room : ℕ) (ts : List Lexeme) (x : DeclarationTree × List Lexeme) → declaration_at named false room ts ≡ Some x → DeclarationStands named false room ts x
unfolding declaration_at
local_found named zero ts x e = absurd cc
local_found named (suc inner) ts x e =
    let w = storage_at ts in
    let k = if_some (local_storage w.0) _ x e in
    let a = bind_some (base_at named w.1) _ x k.1 in
    let b = bind_some (declarators_at (declarator_at named (suc inner) false) a.0.1) _ x a.2 in
    let p = specifier_found named w.1 a.0 a.1 in
    let q = declarators_found named (declares false) (suc inner) (declarator_at named (suc inner) false) (declarator_found named (suc inner) false) a.0.1 b.0 b.1 in
    let c = both_true (some_declarators b.0.0) (all_declarators (declares false) b.0.0) q.placed in
    let d = of_locals b.0.0 c.1 in
    subst (DeclarationStands named false (suc inner) ts) (some_is (s.declaration w.0 (s.base no_node a.0.0) b.0.0, b.0.1) x b.2)
    (record {
      text = storage_is ts ∙ ap (prints_storage w.0) (p.text ∙ ap (prints_specifier_form a.0.0) q.text);
      placed = true_both _ _ (true_both _ _ (true_both _ _ (true_both _ _ (true_both _ _ k.0 p.unlaid) p.placed) c.0) d.0) d.1;
      fits = true_both _ _ p.fits q.fits;
      low = omega (arith, p.low, q.low);
    })

declaration_found : (named : Span → Bool) (file : Bool) (room : ℕ) (ts : List Lexeme) (x : DeclarationTree × List Lexeme) → declaration_at named file room ts ≡ Some x → DeclarationStands named file room ts x
declaration_found named true room ts x e = file_found named room ts x e
declaration_found named false room ts x e = local_found named room ts x e

-- no record of its nodes is set
pub declaration_sound : (named : Span → Bool) (file : Bool) (room : ℕ) (ts : List Lexeme) (d : DeclarationTree) (rest : List Lexeme) → declaration_at named file room ts ≡ Some (d, rest)
    → DeclarationLeads named file room ts d rest × (unlaid_declaration d ≡ d)
declaration_sound named file room ts d rest e =
    let p = declaration_found named file room ts (d, rest) e in
    let same = some_is (unlaid_declaration d, rest) (d, rest) (sym (declaration_read d named file room rest p.placed p.fits p.low) ∙ ap (declaration_at named file room) (sym p.text) ∙ e) in
    (record { tokens = p.text ∙ sym (declaration-append d rest); placed = p.placed; fits = p.fits; nesting = p.low }, ap (λ p. p.0) same)

-- ---- the front of a function

front_some : (named : Span → Bool) (room : ℕ) (w : Option Storage) (b : BaseFormTree) (d : DeclrTree) (ts middle rest : List Lexeme) → base_at named ts ≡ Some (b, middle) → function_declarator_at named room middle ≡ Some (d, rest)
    → front_behind named room (w, ts) ≡ Some (s.declaration w (s.base no_node b) (s.then_declarator d s.no_declarators), rest)
front_some named room w b d ts middle rest by later =
    ap (λ (o : Found BaseFormTree). o >>= λ b. function_declarator_at named room b.1 >>= λ d. let y : Found DeclarationTree = Some (s.declaration w (s.base no_node b.0) (s.then_declarator d.0 s.no_declarators), d.1) in y) by
    ∙ ap (λ (o : Found DeclrTree). o >>= λ d. let y : Found DeclarationTree = Some (s.declaration w (s.base no_node b) (s.then_declarator d.0 s.no_declarators), d.1) in y) later

body_some : (d : DeclarationTree) (r : List Lexeme) → opens_body r ≡ true → if_body (d, r) ≡ Some (d, r)
body_some d (Token fixed.LeftBrace ∷ ts) h = refl
body_some d other h = absurd cc

body_opens : (r inside : List Lexeme) → behind_left_brace r ≡ Some inside → opens_body r ≡ true
body_opens [] inside e = absurd cc
body_opens (Token fixed.LeftBrace ∷ ts) inside e = refl
body_opens (t ∷ ts) inside e = absurd cc

-- the four tests of a front
front_tests : (b : BaseTree) (d : DeclrTree) → (is_unbraced b && base_placed b && function_declarator d && declarator_placed d) ≡ true → (is_unbraced b ≡ true) × (base_placed b ≡ true) × (function_declarator d ≡ true) × (declarator_placed d ≡ true)
front_tests b d p =
    let a = both_true (is_unbraced b && base_placed b && function_declarator d) (declarator_placed d) p in
    let c = both_true (is_unbraced b && base_placed b) (function_declarator d) a.0 in
    let e = both_true (is_unbraced b) (base_placed b) c.0 in
    (e.0, e.1, c.1, a.1)

function_named : (d : DeclrTree) → function_declarator d ≡ true → has_name d ≡ true
function_named d p = let a = both_true (has_name d && not (has_arrays d)) (not (has_initialiser d)) p in (both_true (has_name d) (not (has_arrays d)) a.0).0

front_read : (d : DeclarationTree) (named : Span → Bool) (room : ℕ) (r : List Lexeme) → front_placed d ≡ true → declaration_fits named d ≡ true → declaration_nesting d ≤ room → opens_body r ≡ true
    → front_at named room (prints_front d r) ≡ Some (unlaid_declaration d, r)
unfolding front_at
front_read (s.declaration w (s.base n f) (s.then_declarator x s.no_declarators)) named room r p q low body =
    let a = front_tests (s.base n f) x p in
    let b = both_true (base_form_fits named f) (declarators_fits named (s.then_declarator x s.no_declarators)) q in
    let c = both_true (declarator_fits named x) true b.1 in
    let behind : List Lexeme = prints_declarator x r in
    let tree : DeclarationTree = s.declaration w (s.base no_node (unlaid_base_form f)) (s.then_declarator (unlaid_declarator x) s.no_declarators) in
    ap (λ (y : Option Storage × List Lexeme). front_behind named room y >>= if_body) (storage_read w f behind a.1)
    ∙ ap (λ (o : Found DeclarationTree). o >>= if_body) (front_some named room w (unlaid_base_form f) (unlaid_declarator x) (prints_specifier_form f behind) behind r
    (specifier_read named n f behind a.0 a.1 b.0 (named_declarator_no_words x r (function_named x a.2)))
    (function_declarator_read x named room r (true_both _ _ a.2 a.3) c.0 (omega arith)))
    ∙ body_some tree r body
front_read (s.declaration w b s.no_declarators) named room r p q low body = absurd cc
front_read (s.declaration w b (s.then_declarator x (s.then_declarator y ys))) named room r p q low body = absurd cc

-- what stands before a body is read as that
pub front_reads : (named : Span → Bool) (room : ℕ) (d : DeclarationTree) (rest : List Lexeme) → front_placed d ≡ true → declaration_fits named d ≡ true → declaration_nesting d ≤ room → opens_body rest ≡ true
    → front_at named room (front_tokens d ++ rest) ≡ Some (unlaid_declaration d, rest)
front_reads named room d rest p q low body = ap (front_at named room) (front-append d rest) ∙ front_read d named room rest p q low body

record FrontStands (named : Span → Bool) (room : ℕ) (ts : List Lexeme) (x : DeclarationTree × List Lexeme) : Type 0 where
  text : ts ≡ prints_front x.0 x.1
  placed : front_placed x.0 ≡ true
  fits : declaration_fits named x.0 ≡ true
  low : declaration_nesting x.0 ≤ room
  body : opens_body x.1 ≡ true

front_found : (named : Span → Bool) (room : ℕ) (ts : List Lexeme) (x : DeclarationTree × List Lexeme) → front_at named room ts ≡ Some x → FrontStands named room ts x
unfolding front_at
front_found named room ts x e =
    let w = storage_at ts in
    let k = bind_some (front_behind named room w) _ x e in
    let l = bind_some (behind_left_brace k.0.1) _ x k.2 in
    let a = bind_some (base_at named w.1) _ k.0 k.1 in
    let b = bind_some (function_declarator_at named room a.0.1) _ k.0 a.2 in
    let p = specifier_found named w.1 a.0 a.1 in
    let q = function_declarator_found named room a.0.1 b.0 b.1 in
    let c = both_true (function_declarator b.0.0) (declarator_placed b.0.0) q.placed in
    let tree : DeclarationTree = s.declaration w.0 (s.base no_node a.0.0) (s.then_declarator b.0.0 s.no_declarators) in
    let same = some_is (tree, b.0.1) k.0 b.2 in
    let behind = ap (λ (y : DeclarationTree × List Lexeme). y.1) same in
    subst (FrontStands named room ts) (same ∙ some_is k.0 x l.2)
    (record {
      text = storage_is ts ∙ ap (prints_storage w.0) (p.text ∙ ap (prints_specifier_form a.0.0) q.text);
      placed = true_both _ _ (true_both _ _ (true_both _ _ p.unlaid p.placed) c.0) c.1;
      fits = true_both _ _ p.fits (true_both _ _ q.fits refl);
      low = omega (arith, p.low, q.low, declarator_above b.0.0);
      body = ap opens_body behind ∙ body_opens k.0.1 l.0 l.1;
    })

pub front_sound : (named : Span → Bool) (room : ℕ) (ts : List Lexeme) (d : DeclarationTree) (rest : List Lexeme) → front_at named room ts ≡ Some (d, rest) → FrontLeads named room ts d rest × (unlaid_declaration d ≡ d)
front_sound named room ts d rest e =
    let p = front_found named room ts (d, rest) e in
    let same = some_is (unlaid_declaration d, rest) (d, rest) (sym (front_read d named room rest p.placed p.fits p.low p.body) ∙ ap (front_at named room) (sym p.text) ∙ e) in
    (record { tokens = p.text ∙ sym (front-append d rest); placed = p.placed; fits = p.fits; nesting = p.low; body = p.body }, ap (λ p. p.0) same)
