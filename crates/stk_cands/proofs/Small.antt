-- Sizes of sound types are small.
use Rattle.std.proofs.Common.{◌≡◌, ◌<◌, ◌^◌, ℕ, Option, Some, None, arith, subst, sym}
use Rattle.std.specs.Prelude.{IfSome}
use Rattle.stk_ctype.specs.declared.kind.IntKind.{IntKind}
use Rattle.stk_ctype.specs.declared.kind.IntKind.TheVariants as kind
use Rattle.stk_ctype.specs.Kinds.{bytes_of}
use Rattle.stk_ctype.specs.Types.{TypeTree, void_type, integer_type, pointer_type, array_type, struct_type, function_type}
use Rattle.stk_ctype.specs.Structs.{Structs, size_of}
use Rattle.stk_ctype.specs.Sound.{IsSound, IsWithinLimit}

bytes_small : (k : IntKind) → bytes_of k < 2 ^ 31
bytes_small kind.Bool = omega arith
bytes_small kind.Char = omega arith
bytes_small kind.SChar = omega arith
bytes_small kind.UChar = omega arith
bytes_small kind.Short = omega arith
bytes_small kind.UShort = omega arith
bytes_small kind.Int = omega arith
bytes_small kind.UInt = omega arith
bytes_small kind.Long = omega arith
bytes_small kind.ULong = omega arith
bytes_small kind.LLong = omega arith
bytes_small kind.ULLong = omega arith

within : (o : Option ℕ) → IsWithinLimit o → IfSome o (λ n. n < 2 ^ 31)
within None h = tt
within (Some n) h = omega (arith, h)

pub size_small : (S : Structs) (t : TypeTree) → IsSound S t → IfSome (size_of S t) (λ n. n < 2 ^ 31)
size_small S void_type h = tt
size_small S (integer_type k) h = bytes_small k
size_small S (pointer_type t) h = omega arith
size_small S (array_type t count) h = within _ h.3
size_small S (struct_type id) h = within _ h.1
size_small S (function_type f) h = tt

-- the size of a type that has one
pub size_fits : (S : Structs) (t : TypeTree) (n : ℕ) → IsSound S t → Some n ≡ size_of S t → n < 2 ^ 31
size_fits S t n h e = let P : Option ℕ → Type 0 = λ o. IfSome o (λ n. n < 2 ^ 31) in subst P (sym e) (size_small S t h)
