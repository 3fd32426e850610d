-- Bits as truths.
use Rattle.std.proofs.Common.{◌≡◌, ℕ, ◌-◌, ◌/◌, ◌%◌, ◌^◌, Bool, true, false, not, ◌&&◌, ◌||◌, bit_and, bit_or, bit_xor, nat_eq, if◌then◌else◌, refl, ap, ◌∙◌}
use Rattle.stk_terms.specs.Values.{bit}
use Rattle.stk_symbols.specs.Valued.{differ}

low : (b : Bool) → bit b / 2 ^ 0 % 2 ^ 1 ≡ bit b
low true = refl
low false = refl

pub low_bit : (n : ℕ) (b : Bool) → n ≡ bit b → n / 2 ^ 0 % 2 ^ 1 ≡ bit b
low_bit n b e = ap (λ m. m / 2 ^ 0 % 2 ^ 1) e ∙ low b

and_truths : (a b : Bool) → bit_and (bit a) (bit b) ≡ bit (a && b)
and_truths true true = refl
and_truths true false = refl
and_truths false true = refl
and_truths false false = refl

pub and_bit : (n m : ℕ) (a b : Bool) → n ≡ bit a → m ≡ bit b → bit_and n m ≡ bit (a && b)
and_bit n m a b e f = (λ j. bit_and (e j) (f j)) ∙ and_truths a b

or_truths : (a b : Bool) → bit_or (bit a) (bit b) ≡ bit (a || b)
or_truths true true = refl
or_truths true false = refl
or_truths false true = refl
or_truths false false = refl

pub or_bit : (n m : ℕ) (a b : Bool) → n ≡ bit a → m ≡ bit b → bit_or n m ≡ bit (a || b)
or_bit n m a b e f = (λ j. bit_or (e j) (f j)) ∙ or_truths a b

xor_truths : (a b : Bool) → bit_xor (bit a) (bit b) ≡ bit (differ a b)
xor_truths true true = refl
xor_truths true false = refl
xor_truths false true = refl
xor_truths false false = refl

pub xor_bit : (n m : ℕ) (a b : Bool) → n ≡ bit a → m ≡ bit b → bit_xor n m ≡ bit (differ a b)
xor_bit n m a b e f = (λ j. bit_xor (e j) (f j)) ∙ xor_truths a b

not_truth : (b : Bool) → 2 ^ 1 - 1 - bit b ≡ bit (not b)
not_truth true = refl
not_truth false = refl

pub not_bit : (n : ℕ) (b : Bool) → n ≡ bit b → 2 ^ 1 - 1 - n ≡ bit (not b)
not_bit n b e = ap (λ m. 2 ^ 1 - 1 - m) e ∙ not_truth b

pub choice : (t : ℕ) (b : Bool) (n m : ℕ) → t ≡ bit b → (if nat_eq t 1 then n else m) ≡ (if b then n else m)
choice t true n m e = rw e refl
choice t false n m e = rw e refl
