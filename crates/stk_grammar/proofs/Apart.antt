-- What a declaration prints is no front of a function: no body begins behind its first declarator.
use Rattle.std.proofs.Common.{◌≡◌, ℕ, zero, suc, ◌≤◌, Bool, true, not, List, [], ◌∷◌, Option, Some, None, refl, sym, ap, subst, ◌∙◌, arith}
use Rattle.std.proofs.lemmas.List.{append-nil}
use Rattle.stk_base.specs.declared.span.Span.{Span}
use Rattle.stk_base.specs.declared.token.Class.TheVariants.{Word}
use Rattle.stk_tree.specs.declared.declaration.Storage.{Storage}
use Rattle.stk_tree.specs.declared.declaration.Storage.TheVariants.{Typedef, Extern, Static}
use Rattle.stk_tree.specs.declared.fixed.Fixed.{Fixed}
use Rattle.stk_tree.specs.declared.fixed.Fixed.TheVariants as fixed
use Rattle.stk_tree.specs.declared.fixed.Lexeme.{Lexeme}
use Rattle.stk_tree.specs.declared.fixed.Lexeme.TheVariants.{Leaf, Fixed as Token}
use Rattle.stk_tree.specs.declared.node.Node.{Node}
use Rattle.stk_tree.specs.Nesting.{declaration_nesting, declarators_nesting, tail_nesting}
use Rattle.stk_tree.specs.Placed.{base_form_placed, declarators_placed, file_declarators, file_placed, is_unbraced, is_basic, tail_placed}
use Rattle.stk_tree.specs.Syntax.{BaseFormTree, DeclarationTree, DeclrTree, DeclrTrees, DimensionTrees, MaybeInitTree, TailTree}
use Rattle.stk_tree.specs.Syntax as s
use Rattle.stk_tree.specs.Tokens.{declaration_tokens}
use Rattle.stk_tree.specs.Unlaid.{no_node, unlaid_base_form, unlaid_tail}
use Rattle.stk_tree.specs.Fits.{base_form_fits, declarators_fits, tail_fits, declaration_fits}
use Rattle.stk_grammar.specs.Reading.{◌>>=◌, Found, base_at, behind_left_brace, behind_left_paren, stars_at, words_at}
use Rattle.stk_grammar.proofs.Complete.{stars_read_all}
use Rattle.stk_grammar.proofs.Operators.{both_true, if_some, some_is}
use Rattle.stk_grammar.proofs.Prints.{prints_dimensions, prints_stars}
use Rattle.stk_grammar.specs.DeclarationReading.{front_at, front_behind, function_declarator_at, function_name_behind, function_tail, if_body, low_declarator, storage_at}
use Rattle.stk_grammar.proofs.Arrays.{name_read, named_declarator_no_words}
use Rattle.stk_grammar.proofs.Parameters.{parameter_tail_read, specifier_read}
use Rattle.stk_grammar.proofs.DeclarationPrints.{declaration-append, prints_comma, prints_declarators, prints_enumerators, prints_initial, prints_members, prints_more_declarators, prints_specifier_form, prints_storage, prints_tail}

-- no body begins behind what was found
abbrev NoBody : Found DeclrTree → Type 0
NoBody o = (x : DeclrTree × List Lexeme) → o ≡ Some x → behind_left_brace x.1 ≡ None

no_body_of_none : (o : Found DeclrTree) → o ≡ None → NoBody o
no_body_of_none o e x h = absurd (cc (e, h))

no_body_of_low : (room : ℕ) (d : DeclrTree) (r : List Lexeme) (o : Found DeclrTree) → behind_left_brace r ≡ None → o ≡ low_declarator room d r → NoBody o
no_body_of_low room d r o none e x h =
    let a = if_some _ (Some (d, r)) x (sym e ∙ h) in
    ap (λ (y : DeclrTree × List Lexeme). behind_left_brace y.1) (sym (some_is (d, r) x a.1)) ∙ none

-- then no front is found
no_front : (o : Found DeclrTree) (made : DeclrTree → DeclarationTree) → NoBody o → (o >>= λ d. let x : Found DeclarationTree = Some (made d.0, d.1) in x) >>= if_body ≡ None
no_front None made h = refl
no_front (Some x) made h = rw (h x refl) refl

-- ---- a declarator

-- what stands behind the first declarator
abbrev behind_tail : MaybeInitTree → DeclrTrees → List Lexeme
behind_tail i xs = prints_initial i (prints_more_declarators xs (Token fixed.Semicolon ∷ []))

tail_no_brace : (i : MaybeInitTree) (xs : DeclrTrees) → behind_left_brace (behind_tail i xs) ≡ None
tail_no_brace s.no_initialiser s.no_declarators = refl
tail_no_brace s.no_initialiser (s.then_declarator x xs) = refl
tail_no_brace (s.some_initialiser i) xs = refl

arrays_no_paren : (ds : DimensionTrees) (i : MaybeInitTree) (xs : DeclrTrees) → behind_left_paren (prints_dimensions ds (behind_tail i xs)) ≡ None
arrays_no_paren s.no_dimensions s.no_initialiser s.no_declarators = refl
arrays_no_paren s.no_dimensions s.no_initialiser (s.then_declarator x xs) = refl
arrays_no_paren s.no_dimensions (s.some_initialiser i) xs = refl
arrays_no_paren (s.then_dimension s.open_dimension ds) i xs = refl
arrays_no_paren (s.then_dimension (s.sized e) ds) i xs = refl

-- behind a name
tail_no_body : (named : Span → Bool) (inner count : ℕ) (at : Span) (t : TailTree) (i : MaybeInitTree) (xs : DeclrTrees) → tail_placed t ≡ true → tail_fits named t ≡ true → tail_nesting t ≤ inner
    → NoBody (function_tail named inner count (at, prints_tail t (behind_tail i xs)))
tail_no_body named inner count at (s.arrays ds) i xs p q low = no_body_of_none _ (rw (arrays_no_paren ds i xs) refl)
tail_no_body named inner count at s.unspecified i xs p q low = no_body_of_low (suc inner) (s.declarator no_node count (Some at) s.unspecified s.no_initialiser) (behind_tail i xs) _ (tail_no_brace i xs) (rw (parameter_tail_read s.unspecified named inner (behind_tail i xs) refl p q low) refl)
tail_no_body named inner count at s.void_parameters i xs p q low = no_body_of_low (suc inner) (s.declarator no_node count (Some at) s.void_parameters s.no_initialiser) (behind_tail i xs) _ (tail_no_brace i xs) (rw (parameter_tail_read s.void_parameters named inner (behind_tail i xs) refl p q low) refl)
tail_no_body named inner count at (s.with_parameters ps more) i xs p q low =
    no_body_of_low (suc inner) (s.declarator no_node count (Some at) (unlaid_tail (s.with_parameters ps more)) s.no_initialiser) (behind_tail i xs) _ (tail_no_brace i xs) (rw (parameter_tail_read (s.with_parameters ps more) named inner (behind_tail i xs) refl p q low) refl)

word_no_star : (at : Span) (r : List Lexeme) (m : ℕ) → stars_at m (Leaf Word at ∷ r) ≡ (m, Leaf Word at ∷ r)
unfolding stars_at
word_no_star at r m = refl

declarator_step : (named : Span → Bool) (inner count : ℕ) (at : Span) (r : List Lexeme) → not (named at) ≡ true
    → function_declarator_at named (suc inner) (prints_stars count (Leaf Word at ∷ r)) ≡ function_tail named inner count (at, r)
unfolding function_declarator_at
declarator_step named inner count at r h =
    ap (function_name_behind named inner) (stars_read_all count (Leaf Word at ∷ r) (word_no_star at r))
    ∙ ap (λ (w : Found Span). w >>= function_tail named inner count) (name_read named at r h)

-- where no name stands, no declarator does
punctuator_step : (named : Span → Bool) (room : ℕ) (f : Fixed) (r : List Lexeme) → ((m : ℕ) → stars_at m (Token f ∷ r) ≡ (m, Token f ∷ r)) → function_declarator_at named room (Token f ∷ r) ≡ None
unfolding function_declarator_at
punctuator_step named zero f r h = refl
punctuator_step named (suc inner) f r h = ap (function_name_behind named inner) (h 0)

brace_no_star : (r : List Lexeme) (m : ℕ) → stars_at m (Token fixed.LeftBrace ∷ r) ≡ (m, Token fixed.LeftBrace ∷ r)
unfolding stars_at
brace_no_star r m = refl

semicolon_no_star : (r : List Lexeme) (m : ℕ) → stars_at m (Token fixed.Semicolon ∷ r) ≡ (m, Token fixed.Semicolon ∷ r)
unfolding stars_at
semicolon_no_star r m = refl

declarators_no_body : (ds : DeclrTrees) (named : Span → Bool) (room : ℕ) → file_declarators ds ≡ true → declarators_placed ds ≡ true → declarators_fits named ds ≡ true → declarators_nesting ds ≤ room
    → NoBody (function_declarator_at named room (prints_declarators ds (Token fixed.Semicolon ∷ [])))
declarators_no_body s.no_declarators named room a p q low = no_body_of_none _ (punctuator_step named room fixed.Semicolon [] (semicolon_no_star []))
declarators_no_body (s.then_declarator (s.declarator n count None t i) xs) named room a p q low = absurd cc
declarators_no_body (s.then_declarator (s.declarator n count (Some at) t i) xs) named zero a p q low = absurd (omega arith)
declarators_no_body (s.then_declarator (s.declarator n count (Some at) t i) xs) named (suc inner) a p q low =
    let c = both_true _ _ (both_true _ _ p).0 in
    let k = both_true _ _ (both_true _ _ (both_true _ _ q).0).0 in
    subst NoBody (sym (declarator_step named inner count at (prints_tail t (behind_tail i xs)) k.0)) (tail_no_body named inner count at t i xs c.0 k.1 (omega arith))

-- ---- bases

basic_no_storage : (w : Fixed) (r : List Lexeme) → is_basic w ≡ true → storage_at (Token w ∷ r) ≡ (None, Token w ∷ r)
basic_no_storage fixed.Typedef r h = absurd cc
basic_no_storage fixed.Extern r h = absurd cc
basic_no_storage fixed.Static r h = absurd cc
basic_no_storage w r h = refl

base_no_storage : (f : BaseFormTree) (r : List Lexeme) → base_form_placed f ≡ true → storage_at (prints_specifier_form f r) ≡ (None, prints_specifier_form f r)
base_no_storage (s.words []) r p = absurd cc
base_no_storage (s.words (w ∷ ws)) r p = basic_no_storage w _ (both_true _ _ p).0
base_no_storage (s.struct_ref tag) r p = refl
base_no_storage (s.struct_def tag ms) r p = refl
base_no_storage (s.enum_ref tag) r p = refl
base_no_storage (s.enum_def tag es comma) r p = refl
base_no_storage (s.named at) r p = refl

storage_read : (word : Option Storage) (f : BaseFormTree) (r : List Lexeme) → base_form_placed f ≡ true → storage_at (prints_storage word (prints_specifier_form f r)) ≡ (word, prints_specifier_form f r)
storage_read None f r p = base_no_storage f r p
storage_read (Some Typedef) f r p = refl
storage_read (Some Extern) f r p = refl
storage_read (Some Static) f r p = refl

declarators_no_words : (ds : DeclrTrees) → file_declarators ds ≡ true → words_at (prints_declarators ds (Token fixed.Semicolon ∷ [])) ≡ ([], prints_declarators ds (Token fixed.Semicolon ∷ []))
unfolding words_at
declarators_no_words s.no_declarators a = refl
declarators_no_words (s.then_declarator x xs) a = named_declarator_no_words x _ (both_true _ _ a).0

-- behind a base that was read
base_no_front : (named : Span → Bool) (room : ℕ) (word : Option Storage) (ts r : List Lexeme) (f : BaseFormTree) → base_at named ts ≡ Some (f, r) → NoBody (function_declarator_at named room r)
    → front_behind named room (word, ts) >>= if_body ≡ None
base_no_front named room word ts r f e h =
    ap (λ (o : Found BaseFormTree). (o >>= λ b. function_declarator_at named room b.1 >>= λ d. Some (s.declaration word (s.base no_node b.0) (s.then_declarator d.0 s.no_declarators), d.1)) >>= if_body) e
    ∙ no_front (function_declarator_at named room r) (λ d. s.declaration word (s.base no_node f) (s.then_declarator d s.no_declarators)) h

unbraced_no_front : (named : Span → Bool) (room : ℕ) (word : Option Storage) (n : Node) (f : BaseFormTree) (ds : DeclrTrees) → is_unbraced (s.base n f) ≡ true → base_form_placed f ≡ true → base_form_fits named f ≡ true
    → file_declarators ds ≡ true → declarators_placed ds ≡ true → declarators_fits named ds ≡ true → declarators_nesting ds ≤ room
    → front_behind named room (word, prints_specifier_form f (prints_declarators ds (Token fixed.Semicolon ∷ []))) >>= if_body ≡ None
unbraced_no_front named room word n f ds unlaid p q a b c low =
    base_no_front named room word _ (prints_declarators ds (Token fixed.Semicolon ∷ [])) (unlaid_base_form f) (specifier_read named n f _ unlaid p q (declarators_no_words ds a)) (declarators_no_body ds named room a b c low)

-- behind a tag with braces
braces_no_body : (named : Span → Bool) (room : ℕ) (r : List Lexeme) → NoBody (function_declarator_at named room (Token fixed.LeftBrace ∷ r))
braces_no_body named room r = no_body_of_none _ (punctuator_step named room fixed.LeftBrace r (brace_no_star r))

struct_no_front : (named : Span → Bool) (room : ℕ) (word : Option Storage) (tag : Span) (r : List Lexeme) → front_behind named room (word, Token fixed.Struct ∷ Leaf Word tag ∷ Token fixed.LeftBrace ∷ r) >>= if_body ≡ None
struct_no_front named room word tag r = base_no_front named room word (Token fixed.Struct ∷ Leaf Word tag ∷ Token fixed.LeftBrace ∷ r) (Token fixed.LeftBrace ∷ r) (s.struct_ref tag) refl (braces_no_body named room r)

enum_no_front : (named : Span → Bool) (room : ℕ) (word : Option Storage) (tag : Span) (r : List Lexeme) → front_behind named room (word, Token fixed.Enum ∷ Leaf Word tag ∷ Token fixed.LeftBrace ∷ r) >>= if_body ≡ None
enum_no_front named room word tag r = base_no_front named room word (Token fixed.Enum ∷ Leaf Word tag ∷ Token fixed.LeftBrace ∷ r) (Token fixed.LeftBrace ∷ r) (s.enum_ref tag) refl (braces_no_body named room r)

base_apart : (named : Span → Bool) (room : ℕ) (word : Option Storage) (n : Node) (f : BaseFormTree) (ds : DeclrTrees) → base_form_placed f ≡ true → base_form_fits named f ≡ true
    → file_declarators ds ≡ true → declarators_placed ds ≡ true → declarators_fits named ds ≡ true → declarators_nesting ds ≤ room
    → front_behind named room (word, prints_specifier_form f (prints_declarators ds (Token fixed.Semicolon ∷ []))) >>= if_body ≡ None
base_apart named room word n (s.struct_def None ms) ds p q a b c low = refl
base_apart named room word n (s.struct_def (Some tag) ms) ds p q a b c low = struct_no_front named room word tag (prints_members ms (Token fixed.RightBrace ∷ prints_declarators ds (Token fixed.Semicolon ∷ [])))
base_apart named room word n (s.enum_def None es comma) ds p q a b c low = refl
base_apart named room word n (s.enum_def (Some tag) es comma) ds p q a b c low =
    enum_no_front named room word tag (prints_enumerators es (prints_comma comma (Token fixed.RightBrace ∷ prints_declarators ds (Token fixed.Semicolon ∷ []))))
base_apart named room word n (s.words ws) ds p q a b c low = unbraced_no_front named room word n (s.words ws) ds refl p q a b c low
base_apart named room word n (s.struct_ref tag) ds p q a b c low = unbraced_no_front named room word n (s.struct_ref tag) ds refl p q a b c low
base_apart named room word n (s.enum_ref tag) ds p q a b c low = unbraced_no_front named room word n (s.enum_ref tag) ds refl p q a b c low
base_apart named room word n (s.named at) ds p q a b c low = unbraced_no_front named room word n (s.named at) ds refl p q a b c low

-- ---- declarations

pub front_apart : (named : Span → Bool) (room : ℕ) (d : DeclarationTree) → file_placed d ≡ true → declaration_fits named d ≡ true → declaration_nesting d ≤ room → front_at named room (declaration_tokens d) ≡ None
unfolding front_at
front_apart named room (s.declaration word (s.base n f) ds) p q low =
    let a = both_true _ _ p in
    let b = both_true _ _ a.0 in
    let c = both_true _ _ q in
    let behind : List Lexeme = prints_declarators ds (Token fixed.Semicolon ∷ []) in
    ap (front_at named room) (sym (append-nil (declaration_tokens (s.declaration word (s.base n f) ds))) ∙ declaration-append (s.declaration word (s.base n f) ds) [])
    ∙ ap (λ w. front_behind named room w >>= if_body) (storage_read word f behind b.0)
    ∙ base_apart named room word n f ds b.0 c.0 b.1 a.1 c.1 (omega (arith, low))
