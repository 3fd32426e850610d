-- Widths, conversions and charges of single steps, each beside what it pays with.
use Rattle.std.proofs.Common.{◌≡◌, ℕ, ◌+◌, ◌*◌, ◌≤◌, Bool, true, false, Some, refl, sym, subst, arith}
use Rattle.std.specs.Prelude.{if◌then◌else◌, max, nat_lt}
use Rattle.std.proofs.Math.Nat.{le-max_right}
use Rattle.stk_ctype.specs.declared.kind.IntKind.{IntKind}
use Rattle.stk_ctype.specs.declared.kind.IntKind.TheVariants as kind
use Rattle.stk_ctype.specs.Types.{TypeTree, void_type, integer_type, pointer_type, array_type, struct_type, function_type}
use Rattle.stk_numbers.specs.Kinds.{width_of, is_bool, promote, common}
use Rattle.stk_type_rules.specs.Types.{kind_of, is_scalar}
use Rattle.stk_meaning.specs.Typings.{Typing, number_kind}
use Rattle.stk_meaning.specs.Places.{Target, in_register, in_kept, in_object, unnamed, member_target}
use Rattle.stk_meaning.specs.Visits.{Use, read}
use Rattle.stk_meaning.specs.Weights.{bits_in, read_weight, store_weight}
use Rattle.stk_values.specs.Charges.{wider, convert_charge}
use Rattle.stk_type_laws.proofs.Widths.{kinds_are_wide}
use Rattle.stk_spending.specs.Charges.{read_charge, store_charge}
use Rattle.stk_type_laws.specs.Bits.{HasBits}
use Rattle.stk_type_laws.proofs.KeyWeights.{width_least, width_most}

-- ---- widths

pub bool_width : (k : IntKind) → is_bool k ≡ true → width_of k ≡ 1
bool_width kind.Bool e = refl
bool_width kind.Char e = absurd cc
bool_width kind.SChar e = absurd cc
bool_width kind.UChar e = absurd cc
bool_width kind.Short e = absurd cc
bool_width kind.UShort e = absurd cc
bool_width kind.Int e = absurd cc
bool_width kind.UInt e = absurd cc
bool_width kind.Long e = absurd cc
bool_width kind.ULong e = absurd cc
bool_width kind.LLong e = absurd cc
bool_width kind.ULLong e = absurd cc

wider_by : (b : Bool) (x y n : ℕ) → x ≤ n → y ≤ n → (if b then y else x) ≤ n
wider_by true x y n h k = k
wider_by false x y n h k = h

-- the wider of two kinds is within what both are
pub wider_most : (a b : IntKind) (n : ℕ) → width_of a ≤ n → width_of b ≤ n → wider a b ≤ n
wider_most a b n h k = wider_by (nat_lt (width_of a) (width_of b)) (width_of a) (width_of b) n h k

-- ---- conversions

none_by : (b : Bool) (n : ℕ) → b ≡ false → (if b then n else 0) ≡ 0
none_by true n e = absurd cc
none_by false n e = refl

pub convert_none : (a k : IntKind) → is_bool k ≡ false → convert_charge a k ≡ 0
convert_none a k e = none_by (is_bool k) (4 * wider a k) e

most_by : (b : Bool) (n m : ℕ) → (b ≡ true → n ≤ m) → (if b then n else 0) ≤ m
most_by true n m h = h refl
most_by false n m h = omega arith

-- a conversion is one to `_Bool`, or costs nothing
pub convert_most : (a k : IntKind) → convert_charge a k ≤ 4 * width_of a
convert_most a k =
    most_by (is_bool k) (4 * wider a k) (4 * width_of a) (λ e.
    let small : width_of k ≤ width_of a = omega (arith, bool_width k e, width_least a) in
    let same : width_of a ≤ width_of a = omega arith in
    let w = wider_most a k (width_of a) same small in
    omega (arith, w))

pub promoted_free : (a k : IntKind) → convert_charge a (promote k) ≡ 0
promoted_free a k = convert_none a (promote k) (kinds_are_wide.promoted_number k)

pub common_free : (a j k : IntKind) → convert_charge a (common j k) ≡ 0
common_free a j k = convert_none a (common j k) (kinds_are_wide.common_number j k)

-- a promoted kind has at least 32 bits
pub promoted_least : (k : IntKind) → 32 ≤ width_of (promote k)
promoted_least k = omega (arith, kinds_are_wide.promoted_width k, le-max_right (width_of k) 32)

pub common_least : (j k : IntKind) → 32 ≤ width_of (common j k)
common_least j k = omega (arith, kinds_are_wide.common_width j k, le-max_right (max (width_of j) (width_of k)) 32)

-- ---- types

pub integer_width : (t : TypeTree) (k : IntKind) → kind_of t ≡ Some k → number_kind t ≡ k
integer_width void_type k e = absurd cc
integer_width (integer_type j) k e = cc
integer_width (pointer_type t) k e = absurd cc
integer_width (array_type t count) k e = absurd cc
integer_width (struct_type id) k e = absurd cc
integer_width (function_type f) k e = absurd cc

-- what is no scalar has the kind of an address
pub no_scalar : (t : TypeTree) → is_scalar t ≡ false → is_bool (number_kind t) ≡ false
no_scalar void_type e = refl
no_scalar (integer_type j) e = absurd cc
no_scalar (pointer_type t) e = refl
no_scalar (array_type t count) e = refl
no_scalar (struct_type id) e = refl
no_scalar (function_type f) e = refl

-- a scalar has the bits of its kind
pub scalar_bits : (t : TypeTree) → is_scalar t ≡ true → width_of (number_kind t) ≡ bits_in t
scalar_bits void_type e = absurd cc
scalar_bits (integer_type j) e = refl
scalar_bits (pointer_type t) e = refl
scalar_bits (array_type t count) e = absurd cc
scalar_bits (struct_type id) e = absurd cc
scalar_bits (function_type f) e = absurd cc

-- ---- places by name

pub read_most : (t : Target) (k : IntKind) → read_charge t k ≤ 195
read_most (in_register i) k = omega arith
read_most (in_kept q) k = omega (arith, width_most k)
read_most (in_object o) k = omega arith
read_most unnamed k = omega arith

pub store_most : (kept w : ℕ) (t : Target) (k : IntKind) → store_charge kept t k ≤ 195 + store_weight kept w t
store_most kept w (in_register i) k = omega (arith, width_most k)
store_most kept w (in_kept q) k = omega (arith, width_most k)
store_most kept w (in_object o) k = omega arith
store_most kept w unnamed k = omega arith

-- a member is no place that is read for anything
pub member_free : (t : Target) (k : IntKind) → read_charge (member_target t) k ≡ 0
member_free (in_register i) k = refl
member_free (in_kept q) k = refl
member_free (in_object o) k = refl
member_free unnamed k = refl

read_fits : (ty : Typing) (k : ℕ) (t : Target) → HasBits (ty.type_at k) → read_charge t (number_kind (ty.type_at k)) ≤ read_weight ty k read t
read_fits ty k (in_register i) h = omega arith
read_fits ty k (in_kept q) h = omega (arith, h, width_least (number_kind (ty.type_at k)))
read_fits ty k (in_object o) h = omega arith
read_fits ty k unnamed h = omega arith

-- a place that is read pays for that
pub read_within : (ty : Typing) (k : ℕ) (u : Use) (t : Target) → u ≡ read → HasBits (ty.type_at k) → read_charge t (number_kind (ty.type_at k)) ≤ read_weight ty k u t
read_within ty k u t e h = subst (λ (v : Use). read_charge t (number_kind (ty.type_at k)) ≤ read_weight ty k v t) (sym e) (read_fits ty k t h)
