-- The kinds of the parameters and of the result of a function of the library.
use Rattle.std.proofs.Common.{◌≡◌, ℕ, zero, suc, Bool, true, false, ◌&&◌, List, [], ◌∷◌, Option, Some, None, refl, sym, ap, ◌==◌}
use Rattle.std.specs.Prelude.{if◌then◌else◌, not}
use Rattle.stk_base.specs.declared.span.Span.{Span}
use Rattle.stk_base.specs.Text.{text_of, same_text}
use Rattle.stk_ctype.specs.declared.kind.IntKind.{IntKind}
use Rattle.stk_ctype.specs.declared.kind.IntKind.TheVariants as kind
use Rattle.stk_ctype.specs.Types.{TypeTree, void_type, integer_type, pointer_type, array_type, struct_type, function_type, TypeTrees, no_types, then_type, SignatureTree, signature}
use Rattle.stk_tree.specs.Syntax.{ExprTree}
use Rattle.stk_numbers.specs.Kinds.{wrap, rank, is_signed}
use Rattle.stk_meaning.specs.Typings.{Typing, number_kind}
use Rattle.stk_meaning.specs.Libraries.{Library, absolute_in, copy_bytes, is_of_kind, is_void_pointer, takes_number, takes_copy, is_absolute, is_copy, library_named, library_at, called_name, called_signature, called_library, parameters_in, result_in}
use Rattle.stk_meaning.specs.Expressions.{passed, later_parameters}
use Rattle.stk_walk_values.specs.Arguments.{parameters_behind, Takes, IsFirstKind}

right : (a b : Bool) → (a && b) ≡ true → b ≡ true
right true b e = e
right false b e = absurd cc

left : (a b : Bool) → (a && b) ≡ true → a ≡ true
left true b e = refl
left false b e = absurd cc

-- ---- kinds by ranks and signs

is_int : (j : IntKind) → (rank kind.Int == rank j && (if is_signed kind.Int then is_signed j else not (is_signed j))) ≡ true → j ≡ kind.Int
is_int kind.Bool e = absurd cc
is_int kind.Char e = absurd cc
is_int kind.SChar e = absurd cc
is_int kind.UChar e = absurd cc
is_int kind.Short e = absurd cc
is_int kind.UShort e = absurd cc
is_int kind.Int e = refl
is_int kind.UInt e = absurd cc
is_int kind.Long e = absurd cc
is_int kind.ULong e = absurd cc
is_int kind.LLong e = absurd cc
is_int kind.ULLong e = absurd cc

is_long : (j : IntKind) → (rank kind.Long == rank j && (if is_signed kind.Long then is_signed j else not (is_signed j))) ≡ true → j ≡ kind.Long
is_long kind.Bool e = absurd cc
is_long kind.Char e = absurd cc
is_long kind.SChar e = absurd cc
is_long kind.UChar e = absurd cc
is_long kind.Short e = absurd cc
is_long kind.UShort e = absurd cc
is_long kind.Int e = absurd cc
is_long kind.UInt e = absurd cc
is_long kind.Long e = refl
is_long kind.ULong e = absurd cc
is_long kind.LLong e = absurd cc
is_long kind.ULLong e = absurd cc

is_llong : (j : IntKind) → (rank kind.LLong == rank j && (if is_signed kind.LLong then is_signed j else not (is_signed j))) ≡ true → j ≡ kind.LLong
is_llong kind.Bool e = absurd cc
is_llong kind.Char e = absurd cc
is_llong kind.SChar e = absurd cc
is_llong kind.UChar e = absurd cc
is_llong kind.Short e = absurd cc
is_llong kind.UShort e = absurd cc
is_llong kind.Int e = absurd cc
is_llong kind.UInt e = absurd cc
is_llong kind.Long e = absurd cc
is_llong kind.ULong e = absurd cc
is_llong kind.LLong e = refl
is_llong kind.ULLong e = absurd cc

is_ulong : (j : IntKind) → (rank kind.ULong == rank j && (if is_signed kind.ULong then is_signed j else not (is_signed j))) ≡ true → j ≡ kind.ULong
is_ulong kind.Bool e = absurd cc
is_ulong kind.Char e = absurd cc
is_ulong kind.SChar e = absurd cc
is_ulong kind.UChar e = absurd cc
is_ulong kind.Short e = absurd cc
is_ulong kind.UShort e = absurd cc
is_ulong kind.Int e = absurd cc
is_ulong kind.UInt e = absurd cc
is_ulong kind.Long e = absurd cc
is_ulong kind.ULong e = refl
is_ulong kind.LLong e = absurd cc
is_ulong kind.ULLong e = absurd cc

-- that a kind is told by its rank and its sign
abbrev IsTold : IntKind → Type 0
IsTold k = (j : IntKind) → (rank k == rank j && (if is_signed k then is_signed j else not (is_signed j))) ≡ true → j ≡ k

of_kind : (k : IntKind) → IsTold k → (t : TypeTree) → is_of_kind k t ≡ true → number_kind t ≡ k
of_kind k told void_type e = absurd cc
of_kind k told (integer_type j) e = told j e
of_kind k told (pointer_type t) e = absurd cc
of_kind k told (array_type t n) e = absurd cc
of_kind k told (struct_type id) e = absurd cc
of_kind k told (function_type f) e = absurd cc

of_pointer : (t : TypeTree) → is_void_pointer t ≡ true → number_kind t ≡ kind.ULong
of_pointer void_type e = absurd cc
of_pointer (integer_type j) e = absurd cc
of_pointer (pointer_type t) e = refl
of_pointer (array_type t n) e = absurd cc
of_pointer (struct_type id) e = absurd cc
of_pointer (function_type f) e = absurd cc

-- ---- parameters

behind_one : (t : TypeTree) (n : ℕ) → parameters_behind (suc n) (then_type t no_types) ≡ no_types
behind_one t zero = refl
behind_one t (suc n) = ap later_parameters (behind_one t n)

behind_three : (t u v : TypeTree) (n : ℕ) → parameters_behind (suc (suc (suc n))) (then_type t (then_type u (then_type v no_types))) ≡ no_types
behind_three t u v zero = refl
behind_three t u v (suc n) = ap later_parameters (behind_three t u v n)

takes_one : (k : IntKind) → IsTold k → (ts : TypeTrees) → takes_number k ts ≡ true → Takes (Some (absolute_in k)) ts
takes_one k told no_types e i x = absurd cc
takes_one k told (then_type t no_types) e zero x = ap (λ j. wrap j x) (of_kind k told t e)
takes_one k told (then_type t no_types) e (suc i) x = ap (λ (us : TypeTrees). passed us x) (behind_one t i)
takes_one k told (then_type t (then_type u ts)) e i x = absurd cc

takes_three : (ts : TypeTrees) → takes_copy ts ≡ true → Takes (Some copy_bytes) ts
takes_three no_types e i x = absurd cc
takes_three (then_type t no_types) e i x = absurd cc
takes_three (then_type t (then_type u no_types)) e i x = absurd cc
takes_three (then_type t (then_type u (then_type v no_types))) e zero x =
    ap (λ j. wrap j x) (of_pointer t (left (is_void_pointer t) (is_void_pointer u && is_of_kind kind.ULong v) e))
takes_three (then_type t (then_type u (then_type v no_types))) e (suc zero) x =
    let behind = right (is_void_pointer t) (is_void_pointer u && is_of_kind kind.ULong v) e in
    ap (λ j. wrap j x) (of_pointer u (left (is_void_pointer u) (is_of_kind kind.ULong v) behind))
takes_three (then_type t (then_type u (then_type v no_types))) e (suc (suc zero)) x =
    let behind = right (is_void_pointer t) (is_void_pointer u && is_of_kind kind.ULong v) e in
    ap (λ j. wrap j x) (of_kind kind.ULong is_ulong v (right (is_void_pointer u) (is_of_kind kind.ULong v) behind))
takes_three (then_type t (then_type u (then_type v no_types))) e (suc (suc (suc i))) x = ap (λ (us : TypeTrees). passed us x) (behind_three t u v i)
takes_three (then_type t (then_type u (then_type v (then_type y ts)))) e i x = absurd cc

-- ---- what a name and a signature are in the library

-- parameters and a result of a function of the library
record Fits (l : Option Library) (ts : TypeTrees) (t : TypeTree) : Type 0 where
  takes : Takes l ts
  gives : IsFirstKind l (number_kind t)

absolute_fits : (k : IntKind) → IsTold k → (result : TypeTree) (params : TypeTrees) (more no_return : Bool) → is_absolute k (signature result params more no_return) ≡ true → Fits (Some (absolute_in k)) params result
absolute_fits k told result params more no_return e =
    let behind = right (not more) (takes_number k params && is_of_kind k result) e in
    record {
      takes = takes_one k told params (left (takes_number k params) (is_of_kind k result) behind);
      gives = ap Some (sym (of_kind k told result (right (takes_number k params) (is_of_kind k result) behind)));
    }

copy_fits : (result : TypeTree) (params : TypeTrees) (more no_return : Bool) → is_copy (signature result params more no_return) ≡ true → Fits (Some copy_bytes) params result
copy_fits result params more no_return e =
    let behind = right (not more) (takes_copy params && is_void_pointer result) e in
    record {
      takes = takes_three params (left (takes_copy params) (is_void_pointer result) behind);
      gives = ap Some (sym (of_pointer result (right (takes_copy params) (is_void_pointer result) behind)));
    }

chosen : (b : Bool) (l : Library) (other : Option Library) (ts : TypeTrees) (t : TypeTree) → (b ≡ true → Fits (Some l) ts t) → Fits other ts t → Fits (if b then Some l else other) ts t
chosen true l other ts t a c = a refl
chosen false l other ts t a c = c

none_fits : (ts : TypeTrees) (t : TypeTree) → Fits None ts t
none_fits ts t = record { takes = tt; gives = tt }

abbrev copied : Bool → SignatureTree → Option Library
copied d f = if d && is_copy f then Some copy_bytes else None

abbrev third : Bool → Bool → SignatureTree → Option Library
third c d f = if c && is_absolute kind.LLong f then Some (absolute_in kind.LLong) else copied d f

abbrev second : Bool → Bool → Bool → SignatureTree → Option Library
second b c d f = if b && is_absolute kind.Long f then Some (absolute_in kind.Long) else third c d f

abbrev first : Bool → Bool → Bool → Bool → SignatureTree → Option Library
first a b c d f = if a && is_absolute kind.Int f then Some (absolute_in kind.Int) else second b c d f

copied_fits : (d : Bool) (result : TypeTree) (params : TypeTrees) (more no_return : Bool) → Fits (copied d (signature result params more no_return)) params result
copied_fits d result params more no_return =
    let f = signature result params more no_return in
    chosen (d && is_copy f) copy_bytes None params result (λ e. copy_fits result params more no_return (right d (is_copy f) e)) (none_fits params result)

third_fits : (c d : Bool) (result : TypeTree) (params : TypeTrees) (more no_return : Bool) → Fits (third c d (signature result params more no_return)) params result
third_fits c d result params more no_return =
    let f = signature result params more no_return in
    chosen (c && is_absolute kind.LLong f) (absolute_in kind.LLong) (copied d f) params result (λ e. absolute_fits kind.LLong is_llong result params more no_return (right c (is_absolute kind.LLong f) e)) (copied_fits d result params more no_return)

second_fits : (b c d : Bool) (result : TypeTree) (params : TypeTrees) (more no_return : Bool) → Fits (second b c d (signature result params more no_return)) params result
second_fits b c d result params more no_return =
    let f = signature result params more no_return in
    chosen (b && is_absolute kind.Long f) (absolute_in kind.Long) (third c d f) params result (λ e. absolute_fits kind.Long is_long result params more no_return (right b (is_absolute kind.Long f) e)) (third_fits c d result params more no_return)

first_fits : (a b c d : Bool) (result : TypeTree) (params : TypeTrees) (more no_return : Bool) → Fits (first a b c d (signature result params more no_return)) params result
first_fits a b c d result params more no_return =
    let f = signature result params more no_return in
    chosen (a && is_absolute kind.Int f) (absolute_in kind.Int) (second b c d f) params result (λ e. absolute_fits kind.Int is_int result params more no_return (right a (is_absolute kind.Int f) e)) (second_fits b c d result params more no_return)

named_fits : (name : List ℕ) (f : SignatureTree) → Fits (library_named name f) (parameters_in (Some f)) (result_in (Some f))
named_fits name (signature result params more no_return) =
    first_fits (same_text name (97 ∷ 98 ∷ 115 ∷ [])) (same_text name (108 ∷ 97 ∷ 98 ∷ 115 ∷ [])) (same_text name (108 ∷ 108 ∷ 97 ∷ 98 ∷ 115 ∷ [])) (same_text name (109 ∷ 101 ∷ 109 ∷ 99 ∷ 112 ∷ 121 ∷ [])) result params more no_return

fits_at : (ty : Typing) (at : Option Span) (f : Option SignatureTree) → Fits (library_at ty at f) (parameters_in f) (result_in f)
fits_at ty (Some at) (Some f) = named_fits (text_of ty.bytes at) f
fits_at ty (Some at) None = none_fits no_types void_type
fits_at ty None f = none_fits (parameters_in f) (result_in f)

-- what a call calls in the library takes its arguments in the kinds of its parameters, and its result has the kind of
-- the first
pub takes_called : (ty : Typing) (e : ExprTree) → Takes (called_library ty e) (parameters_in (called_signature ty e))
takes_called ty e = (fits_at ty (called_name e) (called_signature ty e)).takes

pub gives_called : (ty : Typing) (e : ExprTree) → IsFirstKind (called_library ty e) (number_kind (result_in (called_signature ty e)))
gives_called ty e = (fits_at ty (called_name e) (called_signature ty e)).gives
