-- The kinds of the parameters and of the result of a library call (C11 7.22.6.1, 7.24.2.1).
use Rattle.std.proofs.Common.{◌≡◌, ℕ, Bool, true, false, not, ◌&&◌, List, [], ◌∷◌, Option, Some, None, refl, subst}
use Rattle.std.specs.Prelude.{if◌then◌else◌}
use Rattle.stk_base.specs.declared.span.Span.{Span}
use Rattle.stk_base.specs.Text.{text_of, same_text}
use Rattle.stk_ctype.specs.declared.kind.IntKind.{IntKind}
use Rattle.stk_ctype.specs.declared.kind.IntKind.TheVariants as kind
use Rattle.stk_ctype.specs.Types.{TypeTree, void_type, integer_type, pointer_type, array_type, struct_type, function_type, TypeTrees, no_types, then_type, SignatureTree, signature}
use Rattle.stk_tree.specs.Syntax.{ExprTree}
use Rattle.stk_meaning.specs.Typings.{Typing, number_kind}
use Rattle.stk_meaning.specs.Libraries.{absolute_in, copy_bytes, is_of_kind, is_void_pointer, takes_number, takes_copy, is_absolute, is_copy, library_named, library_at, called_name, called_signature, called_library, result_in, parameters_in}

-- ---- types of a kind

int_kind : (j : IntKind) → is_of_kind kind.Int (integer_type j) ≡ true → j ≡ kind.Int
int_kind kind.Bool e = absurd cc
int_kind kind.Char e = absurd cc
int_kind kind.SChar e = absurd cc
int_kind kind.UChar e = absurd cc
int_kind kind.Short e = absurd cc
int_kind kind.UShort e = absurd cc
int_kind kind.Int e = refl
int_kind kind.UInt e = absurd cc
int_kind kind.Long e = absurd cc
int_kind kind.ULong e = absurd cc
int_kind kind.LLong e = absurd cc
int_kind kind.ULLong e = absurd cc

long_kind : (j : IntKind) → is_of_kind kind.Long (integer_type j) ≡ true → j ≡ kind.Long
long_kind kind.Bool e = absurd cc
long_kind kind.Char e = absurd cc
long_kind kind.SChar e = absurd cc
long_kind kind.UChar e = absurd cc
long_kind kind.Short e = absurd cc
long_kind kind.UShort e = absurd cc
long_kind kind.Int e = absurd cc
long_kind kind.UInt e = absurd cc
long_kind kind.Long e = refl
long_kind kind.ULong e = absurd cc
long_kind kind.LLong e = absurd cc
long_kind kind.ULLong e = absurd cc

longest_kind : (j : IntKind) → is_of_kind kind.LLong (integer_type j) ≡ true → j ≡ kind.LLong
longest_kind kind.Bool e = absurd cc
longest_kind kind.Char e = absurd cc
longest_kind kind.SChar e = absurd cc
longest_kind kind.UChar e = absurd cc
longest_kind kind.Short e = absurd cc
longest_kind kind.UShort e = absurd cc
longest_kind kind.Int e = absurd cc
longest_kind kind.UInt e = absurd cc
longest_kind kind.Long e = absurd cc
longest_kind kind.ULong e = absurd cc
longest_kind kind.LLong e = refl
longest_kind kind.ULLong e = absurd cc

-- the kinds that have an absolute value in the library
data HasAbsolute : IntKind → Type 0 where
  of_int : HasAbsolute kind.Int
  of_long : HasAbsolute kind.Long
  of_longest : HasAbsolute kind.LLong

number_of : {k : IntKind} → HasAbsolute k → (j : IntKind) → is_of_kind k (integer_type j) ≡ true → j ≡ k
number_of of_int j e = int_kind j e
number_of of_long j e = long_kind j e
number_of of_longest j e = longest_kind j e

of_kind : (k : IntKind) (t : TypeTree) → HasAbsolute k → is_of_kind k t ≡ true → number_kind t ≡ k
of_kind k void_type h e = absurd cc
of_kind k (integer_type j) h e = number_of h j e
of_kind k (pointer_type t) h e = absurd cc
of_kind k (array_type t count) h e = absurd cc
of_kind k (struct_type id) h e = absurd cc
of_kind k (function_type f) h e = absurd cc

void_pointer : (t : TypeTree) → is_void_pointer t ≡ true → number_kind t ≡ kind.ULong
void_pointer void_type e = absurd cc
void_pointer (integer_type j) e = absurd cc
void_pointer (pointer_type t) e = refl
void_pointer (array_type t count) e = absurd cc
void_pointer (struct_type id) e = absurd cc
void_pointer (function_type f) e = absurd cc

both : (a b : Bool) → (a && b) ≡ true → (a ≡ true) × (b ≡ true)
both true true e = (refl, refl)
both true false e = absurd cc
both false b e = absurd cc

-- ---- absolute values

-- the kind of the first of some types
abbrev pub FirstHasKind : TypeTrees → IntKind → Type 0
FirstHasKind no_types k = ⊥
FirstHasKind (then_type t ts) k = number_kind t ≡ k

-- the parameter and the result have a kind
pub record IsAbsoluteIn (f : Option SignatureTree) (k : IntKind) : Type 0 where
  pub parameter : FirstHasKind (parameters_in f) k
  pub result : number_kind (result_in f) ≡ k

first_of : (k : IntKind) (ts : TypeTrees) → HasAbsolute k → takes_number k ts ≡ true → FirstHasKind ts k
first_of k no_types h e = absurd cc
first_of k (then_type t no_types) h e = of_kind k t h e
first_of k (then_type t (then_type u ts)) h e = absurd cc

absolute_signature : (k : IntKind) (f : SignatureTree) → HasAbsolute k → is_absolute k f ≡ true → IsAbsoluteIn (Some f) k
absolute_signature k (signature result params more no_return) h e =
    let a = both (not more) (takes_number k params && is_of_kind k result) e in
    let b = both (takes_number k params) (is_of_kind k result) a.1 in
    record { parameter = first_of k params h b.0; result = of_kind k result h b.1 }

-- the test that a library call passed
library_is : (f : SignatureTree) (k : IntKind) (a b c d : Bool) → (a ≡ true → is_absolute kind.Int f ≡ true) → (b ≡ true → is_absolute kind.Long f ≡ true) → (c ≡ true → is_absolute kind.LLong f ≡ true)
    → (if a then Some (absolute_in kind.Int) else (if b then Some (absolute_in kind.Long) else (if c then Some (absolute_in kind.LLong) else (if d then Some copy_bytes else None)))) ≡ Some (absolute_in k) → IsAbsoluteIn (Some f) k
library_is f k true b c d p q r e = let is : kind.Int ≡ k = cc in subst (IsAbsoluteIn (Some f)) is (absolute_signature kind.Int f of_int (p refl))
library_is f k false true c d p q r e = let is : kind.Long ≡ k = cc in subst (IsAbsoluteIn (Some f)) is (absolute_signature kind.Long f of_long (q refl))
library_is f k false false true d p q r e = let is : kind.LLong ≡ k = cc in subst (IsAbsoluteIn (Some f)) is (absolute_signature kind.LLong f of_longest (r refl))
library_is f k false false false true p q r e = absurd cc
library_is f k false false false false p q r e = absurd cc

absolute_named : (name : List ℕ) (f : SignatureTree) (k : IntKind) → library_named name f ≡ Some (absolute_in k) → IsAbsoluteIn (Some f) k
absolute_named name f k e =
    let a = same_text name (97 ∷ 98 ∷ 115 ∷ []) in
    let b = same_text name (108 ∷ 97 ∷ 98 ∷ 115 ∷ []) in
    let c = same_text name (108 ∷ 108 ∷ 97 ∷ 98 ∷ 115 ∷ []) in
    let d = same_text name (109 ∷ 101 ∷ 109 ∷ 99 ∷ 112 ∷ 121 ∷ []) in
    library_is f k (a && is_absolute kind.Int f) (b && is_absolute kind.Long f) (c && is_absolute kind.LLong f) (d && is_copy f)
    (λ h. (both a (is_absolute kind.Int f) h).1) (λ h. (both b (is_absolute kind.Long f) h).1) (λ h. (both c (is_absolute kind.LLong f) h).1) e

absolute_at : (ty : Typing) (at : Option Span) (f : Option SignatureTree) (k : IntKind) → library_at ty at f ≡ Some (absolute_in k) → IsAbsoluteIn f k
absolute_at ty (Some at) (Some f) k e = absolute_named (text_of ty.bytes at) f k e
absolute_at ty (Some at) None k e = absurd cc
absolute_at ty None f k e = absurd cc

-- a call of the absolute value of a kind has a parameter and a result of the kind
pub absolute_kinds : (ty : Typing) (e : ExprTree) (k : IntKind) → called_library ty e ≡ Some (absolute_in k) → IsAbsoluteIn (called_signature ty e) k
absolute_kinds ty e k h = absolute_at ty (called_name e) (called_signature ty e) k h

-- ---- copies

-- the result of a copy is an address
copy_signature : (f : SignatureTree) → is_copy f ≡ true → number_kind (result_in (Some f)) ≡ kind.ULong
copy_signature (signature result params more no_return) e = void_pointer result (both (takes_copy params) (is_void_pointer result) (both (not more) (takes_copy params && is_void_pointer result) e).1).1

copy_is : (f : SignatureTree) (a b c d : Bool) → (d ≡ true → is_copy f ≡ true)
    → (if a then Some (absolute_in kind.Int) else (if b then Some (absolute_in kind.Long) else (if c then Some (absolute_in kind.LLong) else (if d then Some copy_bytes else None)))) ≡ Some copy_bytes → number_kind (result_in (Some f)) ≡ kind.ULong
copy_is f true b c d p e = absurd cc
copy_is f false true c d p e = absurd cc
copy_is f false false true d p e = absurd cc
copy_is f false false false true p e = copy_signature f (p refl)
copy_is f false false false false p e = absurd cc

copy_at : (ty : Typing) (at : Option Span) (f : Option SignatureTree) → library_at ty at f ≡ Some copy_bytes → number_kind (result_in f) ≡ kind.ULong
copy_at ty (Some at) (Some f) e =
    let name = text_of ty.bytes at in
    let a = same_text name (97 ∷ 98 ∷ 115 ∷ []) in
    let b = same_text name (108 ∷ 97 ∷ 98 ∷ 115 ∷ []) in
    let c = same_text name (108 ∷ 108 ∷ 97 ∷ 98 ∷ 115 ∷ []) in
    let d = same_text name (109 ∷ 101 ∷ 109 ∷ 99 ∷ 112 ∷ 121 ∷ []) in
    copy_is f (a && is_absolute kind.Int f) (b && is_absolute kind.Long f) (c && is_absolute kind.LLong f) (d && is_copy f) (λ h. (both d (is_copy f) h).1) e
copy_at ty (Some at) None e = absurd cc
copy_at ty None f e = absurd cc

pub copy_kind : (ty : Typing) (e : ExprTree) → called_library ty e ≡ Some copy_bytes → number_kind (result_in (called_signature ty e)) ≡ kind.ULong
copy_kind ty e h = copy_at ty (called_name e) (called_signature ty e) h
