-- Operators in `_Bool`, by their four cases.
use Rattle.std.proofs.Common.{◌≡◌, ℕ, zero, suc, ◌-◌, ◌^◌, ◌<◌, false, bit_and, bit_or, bit_xor, refl, arith}
use Rattle.stk_ctype.specs.declared.kind.IntKind.{IntKind}
use Rattle.stk_ctype.specs.declared.kind.IntKind.TheVariants as kind
use Rattle.stk_numbers.specs.declared.operators.ArithOp.TheVariants.{Add, Sub, Mul, Div, Rem, And, Xor, Or}
use Rattle.stk_numbers.specs.Kinds.{is_bool}
use Rattle.stk_numbers.specs.Values.{arith as arith_of, bits_of}
use Rattle.stk_values.specs.Standing.{stands}

by_cases : (P : ℕ → ℕ → Type 0) → P 0 0 → P 0 1 → P 1 0 → P 1 1 → (n m : ℕ) → n < 2 → m < 2 → P n m
by_cases P a b c d zero zero h l = a
by_cases P a b c d zero (suc zero) h l = b
by_cases P a b c d (suc zero) zero h l = c
by_cases P a b c d (suc zero) (suc zero) h l = d
by_cases P a b c d zero (suc (suc m)) h l = absurd (omega arith)
by_cases P a b c d (suc zero) (suc (suc m)) h l = absurd (omega arith)
by_cases P a b c d (suc (suc n)) m h l = absurd (omega arith)

pub or_sum : (n m : ℕ) → n < 2 → m < 2 → bit_or n m ≡ bits_of kind.Bool (arith_of Add kind.Bool (stands kind.Bool n) (stands kind.Bool m))
or_sum = by_cases (λ n m. bit_or n m ≡ bits_of kind.Bool (arith_of Add kind.Bool (stands kind.Bool n) (stands kind.Bool m))) refl refl refl refl

pub or_or : (n m : ℕ) → n < 2 → m < 2 → bit_or n m ≡ bits_of kind.Bool (arith_of Or kind.Bool (stands kind.Bool n) (stands kind.Bool m))
or_or = by_cases (λ n m. bit_or n m ≡ bits_of kind.Bool (arith_of Or kind.Bool (stands kind.Bool n) (stands kind.Bool m))) refl refl refl refl

pub xor_difference : (n m : ℕ) → n < 2 → m < 2 → bit_xor n m ≡ bits_of kind.Bool (arith_of Sub kind.Bool (stands kind.Bool n) (stands kind.Bool m))
xor_difference = by_cases (λ n m. bit_xor n m ≡ bits_of kind.Bool (arith_of Sub kind.Bool (stands kind.Bool n) (stands kind.Bool m))) refl refl refl refl

pub xor_xor : (n m : ℕ) → n < 2 → m < 2 → bit_xor n m ≡ bits_of kind.Bool (arith_of Xor kind.Bool (stands kind.Bool n) (stands kind.Bool m))
xor_xor = by_cases (λ n m. bit_xor n m ≡ bits_of kind.Bool (arith_of Xor kind.Bool (stands kind.Bool n) (stands kind.Bool m))) refl refl refl refl

pub and_product : (n m : ℕ) → n < 2 → m < 2 → bit_and n m ≡ bits_of kind.Bool (arith_of Mul kind.Bool (stands kind.Bool n) (stands kind.Bool m))
and_product = by_cases (λ n m. bit_and n m ≡ bits_of kind.Bool (arith_of Mul kind.Bool (stands kind.Bool n) (stands kind.Bool m))) refl refl refl refl

pub and_quotient : (n m : ℕ) → n < 2 → m < 2 → bit_and n m ≡ bits_of kind.Bool (arith_of Div kind.Bool (stands kind.Bool n) (stands kind.Bool m))
and_quotient = by_cases (λ n m. bit_and n m ≡ bits_of kind.Bool (arith_of Div kind.Bool (stands kind.Bool n) (stands kind.Bool m))) refl refl refl refl

pub and_and : (n m : ℕ) → n < 2 → m < 2 → bit_and n m ≡ bits_of kind.Bool (arith_of And kind.Bool (stands kind.Bool n) (stands kind.Bool m))
and_and = by_cases (λ n m. bit_and n m ≡ bits_of kind.Bool (arith_of And kind.Bool (stands kind.Bool n) (stands kind.Bool m))) refl refl refl refl

pub and_remainder : (n m : ℕ) → n < 2 → m < 2 → bit_and n (2 ^ 1 - 1 - m) ≡ bits_of kind.Bool (arith_of Rem kind.Bool (stands kind.Bool n) (stands kind.Bool m))
and_remainder = by_cases (λ n m. bit_and n (2 ^ 1 - 1 - m) ≡ bits_of kind.Bool (arith_of Rem kind.Bool (stands kind.Bool n) (stands kind.Bool m))) refl refl refl refl

pub other_kind : (k : IntKind) → (k ≡ kind.Bool → ⊥) → is_bool k ≡ false
other_kind kind.Bool h = absurd (h refl)
other_kind kind.Char h = refl
other_kind kind.SChar h = refl
other_kind kind.UChar h = refl
other_kind kind.Short h = refl
other_kind kind.UShort h = refl
other_kind kind.Int h = refl
other_kind kind.UInt h = refl
other_kind kind.Long h = refl
other_kind kind.ULong h = refl
other_kind kind.LLong h = refl
other_kind kind.ULLong h = refl
