-- The words of a script are words.
use Rattle.std.proofs.Common.{◌≡◌, ℕ, ◌^◌, ◌<◌, Bool, true, false, ◌&&◌, nat_le, List, [], ◌∷◌, ◌++◌, length, Some, refl, arith, codes, decimal}
use Rattle.std.specs.List.{list_all}
use Rattle.std.proofs.lemmas.Bool.Decides.{nat_tests}
use Rattle.stk_scripts.specs.declared.operators.UnaryOp.{UnaryOp}
use Rattle.stk_scripts.specs.declared.operators.UnaryOp.TheVariants as unary
use Rattle.stk_scripts.specs.declared.operators.BinaryOp.{BinaryOp}
use Rattle.stk_scripts.specs.declared.operators.BinaryOp.TheVariants as binary
use Rattle.stk_scripts.specs.declared.operators.ExtendOp.{ExtendOp}
use Rattle.stk_scripts.specs.declared.operators.ExtendOp.TheVariants as extend
use Rattle.stk_scripts.specs.declared.operators.TestOp.{TestOp}
use Rattle.stk_scripts.specs.declared.operators.TestOp.TheVariants as test
use Rattle.stk_scripts.specs.Syntax.{unary_name, binary_name, extend_name, test_name}
use Rattle.stk_scripts.specs.Texts.{is_digit, is_word_byte}
use Rattle.stk_scripts.specs.Numerals.{numeral, is_numeral, has_lead}
use Rattle.stk_scripts.specs.Scripts.{is_name, is_name_byte}
use Rattle.stk_scripts.proofs.Bytes.{and_both}
use Rattle.stk_scripts.proofs.Numerals.{numeral_of}
use Rattle.stk_smtlib.specs.Written.{input_name, term_name}

-- a word: not empty, and of bytes of words
pub record IsWord (w : List ℕ) : Type 0 where
  pub some : 0 < length w
  pub all : list_all is_word_byte w ≡ true

numeral_made : (t : List ℕ) (n : ℕ) (b : Bool) → is_numeral t ≡ b → numeral t ≡ Some n → is_numeral t ≡ true
numeral_made t n true e h = e
numeral_made t n false e h = absurd (cc)

pub digits_of : (n : ℕ) → n < 2 ^ 128 → list_all is_digit (decimal n) ≡ true
digits_of n small =
    let k = numeral_made (decimal n) n (is_numeral (decimal n)) refl (numeral_of n small) in
    (and_both (list_all is_digit (decimal n)) (has_lead (decimal n)) ((and_both (list_all is_digit (decimal n) && has_lead (decimal n)) (nat_le (length (decimal n)) 39) k).0)).0

no_lead : (t : List ℕ) → has_lead t ≡ true → 0 < length t
no_lead [] e = absurd (cc)
no_lead (b ∷ bs) e = omega arith

digits_some : (n : ℕ) → n < 2 ^ 128 → 0 < length (decimal n)
digits_some n small =
    let k = numeral_made (decimal n) n (is_numeral (decimal n)) refl (numeral_of n small) in
    no_lead (decimal n) ((and_both (list_all is_digit (decimal n)) (has_lead (decimal n)) ((and_both (list_all is_digit (decimal n) && has_lead (decimal n)) (nat_le (length (decimal n)) 39) k).0)).1)

digit_word : (b : ℕ) → is_digit b ≡ true → is_word_byte b ≡ true
digit_word b h = grind (arith, nat_tests)

digit_named : (b : ℕ) → is_digit b ≡ true → is_name_byte b ≡ true
digit_named b h = grind (arith, nat_tests)

all_of : (p q : ℕ → Bool) → ((b : ℕ) → p b ≡ true → q b ≡ true) → (t : List ℕ) → list_all p t ≡ true → list_all q t ≡ true
all_of p q f [] h = refl
all_of p q f (b ∷ bs) h =
    let k = and_both (p b) (list_all p bs) h in
    (λ i. f b k.0 i && all_of p q f bs k.1 i)

digits_worded : (n : ℕ) → n < 2 ^ 128 → list_all is_word_byte (decimal n) ≡ true
digits_worded n small = all_of is_digit is_word_byte digit_word (decimal n) (digits_of n small)

pub number_word : (n : ℕ) → n < 2 ^ 128 → IsWord (decimal n)
number_word n small = record { some = digits_some n small; all = digits_worded n small }

pub bits_word : (n : ℕ) → n < 2 ^ 128 → IsWord (codes "bv" ++ decimal n)
bits_word n small = record { some = omega arith; all = digits_worded n small }

pub term_word : (j : ℕ) → j < 2 ^ 128 → IsWord (term_name j)
term_word j small = record { some = omega arith; all = digits_worded j small }

pub input_word : (k : ℕ) → k < 2 ^ 128 → IsWord (input_name k)
input_word k small = record { some = omega arith; all = digits_worded k small }

digits_named : (n : ℕ) → n < 2 ^ 128 → list_all is_name_byte (decimal n) ≡ true
digits_named n small = all_of is_digit is_name_byte digit_named (decimal n) (digits_of n small)

pub term_is_name : (j : ℕ) → j < 2 ^ 128 → is_name (term_name j) ≡ true
term_is_name j small = digits_named j small

pub input_is_name : (k : ℕ) → k < 2 ^ 128 → is_name (input_name k) ≡ true
input_is_name k small = digits_named k small

pub unary_word : (op : UnaryOp) → IsWord (unary_name op)
unary_word unary.Not = record { some = omega arith; all = refl }
unary_word unary.Neg = record { some = omega arith; all = refl }

pub binary_word : (op : BinaryOp) → IsWord (binary_name op)
binary_word binary.And = record { some = omega arith; all = refl }
binary_word binary.Or = record { some = omega arith; all = refl }
binary_word binary.Xor = record { some = omega arith; all = refl }
binary_word binary.Add = record { some = omega arith; all = refl }
binary_word binary.Sub = record { some = omega arith; all = refl }
binary_word binary.Mul = record { some = omega arith; all = refl }
binary_word binary.UDiv = record { some = omega arith; all = refl }
binary_word binary.URem = record { some = omega arith; all = refl }
binary_word binary.Shl = record { some = omega arith; all = refl }
binary_word binary.LShr = record { some = omega arith; all = refl }
binary_word binary.AShr = record { some = omega arith; all = refl }

pub extend_word : (op : ExtendOp) → IsWord (extend_name op)
extend_word extend.Zero = record { some = omega arith; all = refl }
extend_word extend.Sign = record { some = omega arith; all = refl }

pub test_word : (op : TestOp) → IsWord (test_name op)
test_word test.Equal = record { some = omega arith; all = refl }
test_word test.Below = record { some = omega arith; all = refl }
test_word test.SignedBelow = record { some = omega arith; all = refl }
