-- What declarations begin with.
use Rattle.std.proofs.Common.{◌≡◌, Bool, true, false, ◌||◌, List, [], ◌∷◌, ◌++◌, Option, Some, None, refl, ap, ◌∙◌, append_assoc}
use Rattle.stk_base.specs.declared.span.Span.{Span}
use Rattle.stk_tree.specs.declared.declaration.Storage.{Storage}
use Rattle.stk_tree.specs.declared.declaration.Storage.TheVariants.{Typedef, Extern, Static}
use Rattle.stk_tree.specs.declared.node.Node.{Node}
use Rattle.stk_tree.specs.declared.fixed.Fixed.TheVariants as fixed
use Rattle.stk_tree.specs.declared.fixed.Lexeme.{Lexeme}
use Rattle.stk_tree.specs.declared.fixed.Lexeme.TheVariants.{Fixed as Token}
use Rattle.stk_tree.specs.Placed.{base_form_placed, file_placed, is_basic, local_placed}
use Rattle.stk_tree.specs.Syntax.{BaseFormTree, DeclarationTree}
use Rattle.stk_tree.specs.Syntax as s
use Rattle.stk_tree.specs.Tokens.{base_form_tokens, declaration_tokens, declarators_tokens, storage_tokens}
use Rattle.stk_tree.specs.Fits.{base_form_fits, declaration_fits}
use Rattle.stk_grammar.specs.Reading.{begins_type, behind_right_brace, is_tag_word}
use Rattle.stk_grammar.proofs.Complete.{cond_true}
use Rattle.stk_grammar.proofs.Operators.{both_true}
use Rattle.stk_grammar.specs.Declarations.{front_placed, front_tokens}
use Rattle.stk_grammar.specs.StatementReading.{begins_local, begins_static, behind_else, is_semicolon}

-- ---- what a base begins with

base_begins : (named : Span → Bool) (f : BaseFormTree) (r : List Lexeme) → base_form_placed f ≡ true → base_form_fits named f ≡ true → begins_type named (base_form_tokens f ++ r) ≡ true
base_begins named (s.words []) r p q = absurd cc
base_begins named (s.words (w ∷ ws)) r p q = cond_true (is_basic w) true (is_tag_word w) (both_true _ _ p).0
base_begins named (s.struct_ref tag) r p q = refl
base_begins named (s.struct_def tag ms) r p q = refl
base_begins named (s.enum_ref tag) r p q = refl
base_begins named (s.enum_def tag es comma) r p q = refl
base_begins named (s.named at) r p q = q

type_no_brace : (named : Span → Bool) (ts : List Lexeme) → begins_type named ts ≡ true → behind_right_brace ts ≡ None
type_no_brace named [] h = refl
type_no_brace named (Token fixed.RightBrace ∷ ts) h = absurd cc
type_no_brace named (t ∷ ts) h = refl

type_no_else : (named : Span → Bool) (ts : List Lexeme) → begins_type named ts ≡ true → behind_else ts ≡ None
type_no_else named [] h = refl
type_no_else named (Token fixed.Else ∷ ts) h = absurd cc
type_no_else named (t ∷ ts) h = refl

type_no_semicolon : (named : Span → Bool) (ts : List Lexeme) → begins_type named ts ≡ true → is_semicolon ts ≡ false
type_no_semicolon named [] h = refl
type_no_semicolon named (Token fixed.Semicolon ∷ []) h = absurd cc
type_no_semicolon named (t ∷ ts) h = refl

-- ---- declarations

-- a base, what is declared and the `;`, in front of other tokens
declared_text : (base declared r : List Lexeme) → ((base ++ declared) ++ Token fixed.Semicolon ∷ []) ++ r ≡ base ++ (declared ++ Token fixed.Semicolon ∷ r)
declared_text base declared r = append_assoc (base ++ declared) (Token fixed.Semicolon ∷ []) r ∙ append_assoc base declared (Token fixed.Semicolon ∷ r)

-- where a declaration of a block begins, no block ends and no `else` begins
pub record IsLocalStart (named : Span → Bool) (ts : List Lexeme) : Type 0 where
  pub no_brace : behind_right_brace ts ≡ None
  pub no_else : behind_else ts ≡ None
  pub is_local : begins_local named ts ≡ true

or_right : (a b : Bool) → b ≡ true → (a || b) ≡ true
or_right true b h = refl
or_right false b h = h

start_of_type : (named : Span → Bool) (ts : List Lexeme) → begins_type named ts ≡ true → IsLocalStart named ts
start_of_type named ts h = record { no_brace = type_no_brace named ts h; no_else = type_no_else named ts h; is_local = or_right (begins_static ts) (begins_type named ts) h }

pub local_start : (named : Span → Bool) (d : DeclarationTree) (r : List Lexeme) → local_placed d ≡ true → declaration_fits named d ≡ true → IsLocalStart named (declaration_tokens d ++ r)
local_start named (s.declaration None (s.base n f) ds) r p q =
    let a = (both_true _ _ (both_true _ _ (both_true _ _ (both_true _ _ p).0).0).0).1 in
    let b = (both_true _ _ q).0 in
    start_of_type named _ (ap (begins_type named) (declared_text (base_form_tokens f) (declarators_tokens ds) r) ∙ base_begins named f _ a b)
local_start named (s.declaration (Some Typedef) (s.base n f) ds) r p q = absurd cc
local_start named (s.declaration (Some Extern) (s.base n f) ds) r p q = absurd cc
local_start named (s.declaration (Some Static) (s.base n f) ds) r p q = record { no_brace = refl; no_else = refl; is_local = refl }

-- neither a declaration nor a function is a lone `;`
file_no_semicolon : (named : Span → Bool) (word : Option Storage) (n : Node) (f : BaseFormTree) (declared r : List Lexeme) → base_form_placed f ≡ true → base_form_fits named f ≡ true
    → is_semicolon (((storage_tokens word ++ base_form_tokens f) ++ declared) ++ r) ≡ false
file_no_semicolon named None n f declared r p q =
    type_no_semicolon named _ (ap (begins_type named) (append_assoc (base_form_tokens f) declared r) ∙ ap (begins_type named) refl ∙ base_begins named f (declared ++ r) p q)
file_no_semicolon named (Some Typedef) n f declared r p q = refl
file_no_semicolon named (Some Extern) n f declared r p q = refl
file_no_semicolon named (Some Static) n f declared r p q = refl

pub declaration_no_semicolon : (named : Span → Bool) (d : DeclarationTree) → file_placed d ≡ true → declaration_fits named d ≡ true → is_semicolon (declaration_tokens d) ≡ false
declaration_no_semicolon named (s.declaration word (s.base n f) ds) p q =
    file_no_semicolon named word n f (declarators_tokens ds) (Token fixed.Semicolon ∷ []) (both_true _ _ (both_true _ _ p).0).0 (both_true _ _ q).0

pub front_no_semicolon : (named : Span → Bool) (d : DeclarationTree) (r : List Lexeme) → front_placed d ≡ true → declaration_fits named d ≡ true → is_semicolon (front_tokens d ++ r) ≡ false
front_no_semicolon named (s.declaration word (s.base n f) (s.then_declarator d s.no_declarators)) r p q =
    file_no_semicolon named word n f (declarators_tokens (s.then_declarator d s.no_declarators)) r (both_true _ _ (both_true _ _ (both_true _ _ p).0).0).1 (both_true _ _ q).0
front_no_semicolon named (s.declaration word (s.base n f) other) r p q = absurd cc
