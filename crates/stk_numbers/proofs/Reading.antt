-- The number and the kind of a constant in a base.
use Rattle.std.proofs.Common.{◌≡◌, ℕ, zero, suc, ◌^◌, ◌≤◌, Bool, true, false, List, [], ◌∷◌, take, length, Option, Some, None, pos, nat_lt, refl, sym, ap, ◌∙◌, arith, if◌then◌else◌}
use Rattle.std.proofs.lemmas.Int.{ints}
use Rattle.std.specs.Option.{option_map}
use Rattle.stk_ctype.specs.declared.kind.IntKind.{IntKind}
use Rattle.stk_numbers.specs.declared.suffixes.Suffix.{Suffix}
use Rattle.stk_numbers.specs.Kinds.{fits}
use Rattle.stk_numbers.specs.Suffixes.{kinds_of, first_holding, constant_kind}
use Rattle.stk_numbers.proofs.Bounds.{kind_bounds}
use Rattle.stk_numbers.specs.Digits.{capped, leading, behind, written}
use Rattle.stk_numbers.specs.Integers.{is_nothing, suffix_of, kind_on, in_base}

holds_not : (k : IntKind) (n : ℕ) → 2 ^ 64 ≤ n → (b : Bool) → fits k (pos n) ≡ b → fits k (pos n) ≡ false
holds_not k n large false e = e
holds_not k n large true e = let high = (kind_bounds k (pos n) e).1 in absurd (omega (arith, ints))

none_holds : (ks : List IntKind) (n : ℕ) → 2 ^ 64 ≤ n → first_holding ks (pos n) ≡ None
none_holds [] n large = refl
none_holds (k ∷ ks) n large = ap (λ b. if b then Some k else first_holding ks (pos n)) (holds_not k n large (fits k (pos n)) refl) ∙ none_holds ks n large

is_large : (n : ℕ) (b : Bool) → nat_lt n (2 ^ 64) ≡ b → (if b then Some n else None) ≡ None → 2 ^ 64 ≤ n
is_large n true e none = cc
is_large n false e none = grind arith

is_same : (n m : ℕ) (b : Bool) → (if b then Some n else None) ≡ Some m → n ≡ m
is_same n m true e = cc
is_same n m false e = cc

too_large : (decimal : Bool) (n : ℕ) (s : Option Suffix) → 2 ^ 64 ≤ n → kind_on decimal n s ≡ None
too_large decimal n None large = refl
too_large decimal n (Some s) large = ap (option_map (λ k. (k, n))) (none_holds (kinds_of decimal s) n large)

either : {A : Type 0} (b : Bool) (x : Option A) → x ≡ None → None ≡ (if b then None else x)
either true x e = refl
either false x e = sym e

-- digits whose number is too large are no constant
pub is_refused : (decimal : Bool) (base : ℕ) (text : List ℕ) → capped (written base (leading base text)) ≡ None → None ≡ in_base decimal base text
is_refused decimal base text none =
    let n : ℕ = written base (leading base text) in
    let large : 2 ^ 64 ≤ written base (leading base text) = is_large (written base (leading base text)) (nat_lt (written base (leading base text)) (2 ^ 64)) refl none in
    either (is_nothing (leading base text)) (kind_on decimal (written base (leading base text)) (suffix_of (behind base text))) (too_large decimal (written base (leading base text)) (suffix_of (behind base text)) large)

some_digits : (count : ℕ) (text digits : List ℕ) → take count text ≡ digits → count ≤ length text → (count ≡ 0 → ⊥) → is_nothing digits ≡ false
some_digits zero text digits e within some = absurd (some refl)
some_digits (suc count) [] digits e within some = absurd (omega arith)
some_digits (suc count) (a ∷ text) digits e within some = ap is_nothing (sym e)

-- digits with a suffix and a kind that holds their number are a constant
pub is_constant : (decimal : Bool) (base count n : ℕ) (text : List ℕ) (s : Suffix) (k : IntKind) → take count text ≡ leading base text → count ≤ length text → (count ≡ 0 → ⊥) → capped (written base (leading base text)) ≡ Some n → suffix_of (behind base text) ≡ Some s → constant_kind decimal s n ≡ Some k → Some (k, n) ≡ in_base decimal base text
is_constant decimal base count n text s k digits within some number suffix found =
    let is : written base (leading base text) ≡ n = is_same (written base (leading base text)) n (nat_lt (written base (leading base text)) (2 ^ 64)) number in
    sym (ap (λ b. if b then None else kind_on decimal (written base (leading base text)) (suffix_of (behind base text))) (some_digits count text (leading base text) digits within some)
    ∙ ap (λ m. kind_on decimal m (suffix_of (behind base text))) is
    ∙ ap (kind_on decimal n) suffix
    ∙ ap (option_map (λ j. (j, n))) found)
