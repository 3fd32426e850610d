-- Numbers of the kinds as bytes.
use Rattle.std.proofs.Common.{◌≡◌, ℕ, zero, suc, ◌<◌, ◌^◌, ◌%◌, Bool, true, false, pos, refl, sym, ap, ◌∙◌, arith}
use Rattle.std.proofs.Math.Nat.{mod-eq_of_lt}
use Rattle.std.specs.Prelude.{nat_eq, if◌then◌else◌}
use Rattle.std.specs.Ordering.{int_eq}
use Rattle.std.proofs.lemmas.Bool.Decides.{nat_tests}
use Rattle.stk_ctype.specs.declared.kind.IntKind.{IntKind}
use Rattle.stk_ctype.specs.declared.kind.IntKind.TheVariants as kind
use Rattle.stk_ctype.specs.Kinds.{bytes_of}
use Rattle.stk_numbers.specs.Kinds.{wrap, decoded}
use Rattle.stk_meaning.specs.Memory.{shown}

low : (s : Bool) (w n : ℕ) → n < 2 ^ w → decoded s w (n % 2 ^ w) ≡ decoded s w n
low s w n h = ap (decoded s w) (mod-eq_of_lt h)

some_is : (n : ℕ) → nat_eq (suc n) 0 ≡ false
some_is n = grind (arith, nat_tests)

some_differs : (n : ℕ) → int_eq (pos (suc n)) (pos 0) ≡ false
some_differs n = grind (arith, nat_tests)

truth : (n : ℕ) → wrap kind.Bool (pos n) ≡ shown kind.Bool n
truth zero = refl
truth (suc n) = ap (λ b. if b then pos 0 else pos 1) (some_differs n ∙ sym (some_is n))

-- bytes as a number of a kind
pub wrapped_is_shown : (k : IntKind) (n : ℕ) → n < 256 ^ bytes_of k → wrap k (pos n) ≡ shown k n
wrapped_is_shown kind.Bool n h = truth n
wrapped_is_shown kind.Char n h = low true 8 n h
wrapped_is_shown kind.SChar n h = low true 8 n h
wrapped_is_shown kind.UChar n h = low false 8 n h
wrapped_is_shown kind.Short n h = low true 16 n h
wrapped_is_shown kind.UShort n h = low false 16 n h
wrapped_is_shown kind.Int n h = low true 32 n h
wrapped_is_shown kind.UInt n h = low false 32 n h
wrapped_is_shown kind.Long n h = low true 64 n h
wrapped_is_shown kind.ULong n h = low false 64 n h
wrapped_is_shown kind.LLong n h = low true 64 n h
wrapped_is_shown kind.ULLong n h = low false 64 n h
