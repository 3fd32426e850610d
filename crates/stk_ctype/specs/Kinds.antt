-- The integer kinds of this profile (LP64).
use Rattle.std.specs.Prelude.{ℕ}
use Rattle.stk_ctype.specs.declared.kind.IntKind.{IntKind}
use Rattle.stk_ctype.specs.declared.kind.IntKind.TheVariants.{Bool, Char, SChar, UChar, Short, UShort, Int, UInt, Long, ULong, LLong, ULLong}

-- the size and the alignment of an integer of a kind, in bytes
abbrev pub bytes_of : IntKind → ℕ
bytes_of Bool = 1
bytes_of Char = 1
bytes_of SChar = 1
bytes_of UChar = 1
bytes_of Short = 2
bytes_of UShort = 2
bytes_of Int = 4
bytes_of UInt = 4
bytes_of Long = 8
bytes_of ULong = 8
bytes_of LLong = 8
bytes_of ULLong = 8
