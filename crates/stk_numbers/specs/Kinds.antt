-- The ranges of the integer kinds, and conversions between them (C11 6.2.5, 6.2.6.2, 6.3.1).
use Rattle.std.specs.Prelude.{ℕ, ◌-◌, ◌%◌, ◌^◌, Bool, true, false, ◌&&◌, ℤ, pos, negsuc, ◌-ℤ◌, nat_lt, nat_le, if◌then◌else◌}
use Rattle.std.specs.Int.RustNames.{int_le}
use Rattle.std.specs.Ordering.{int_eq}
use Rattle.stk_ctype.specs.declared.kind.IntKind.{IntKind}
use Rattle.stk_ctype.specs.declared.kind.IntKind.TheVariants as kind

-- the bits of a kind (C11 5.2.4.2.1, 6.2.5p2; LP64)
abbrev pub width_of : IntKind → ℕ
width_of kind.Bool = 1
width_of kind.Char = 8
width_of kind.SChar = 8
width_of kind.UChar = 8
width_of kind.Short = 16
width_of kind.UShort = 16
width_of kind.Int = 32
width_of kind.UInt = 32
width_of kind.Long = 64
width_of kind.ULong = 64
width_of kind.LLong = 64
width_of kind.ULLong = 64

-- whether a kind has negative numbers (C11 6.2.5p4, p6, p15; `char` is signed)
abbrev pub is_signed : IntKind → Bool
is_signed kind.Bool = false
is_signed kind.Char = true
is_signed kind.SChar = true
is_signed kind.UChar = false
is_signed kind.Short = true
is_signed kind.UShort = false
is_signed kind.Int = true
is_signed kind.UInt = false
is_signed kind.Long = true
is_signed kind.ULong = false
is_signed kind.LLong = true
is_signed kind.ULLong = false

-- whether a kind is `_Bool`
abbrev pub is_bool : IntKind → Bool
is_bool kind.Bool = true
is_bool kind.Char = false
is_bool kind.SChar = false
is_bool kind.UChar = false
is_bool kind.Short = false
is_bool kind.UShort = false
is_bool kind.Int = false
is_bool kind.UInt = false
is_bool kind.Long = false
is_bool kind.ULong = false
is_bool kind.LLong = false
is_bool kind.ULLong = false

-- the least number of a kind: two's complement (C11 6.2.6.2)
abbrev pub least : IntKind → ℤ
least k = if is_signed k then pos 0 -ℤ pos (2 ^ (width_of k - 1)) else pos 0

-- the greatest number of a kind
abbrev pub greatest : IntKind → ℤ
greatest k = if is_signed k then pos (2 ^ (width_of k - 1)) -ℤ pos 1 else pos (2 ^ width_of k) -ℤ pos 1

-- whether a number is in the range of a kind
abbrev pub fits : IntKind → ℤ → Bool
fits k z = int_le (least k) z && int_le z (greatest k)

-- the residue of a number modulo 2 to a width
abbrev pub residue : ℕ → ℤ → ℕ
residue w (pos n) = n % 2 ^ w
residue w (negsuc n) = 2 ^ w - 1 - n % 2 ^ w

-- the number that bits of a width stand for: in two's complement, or plain (C11 6.2.6.2)
abbrev pub decoded : Bool → ℕ → ℕ → ℤ
decoded false w n = pos n
decoded true w n = if nat_lt n (2 ^ (w - 1)) then pos n else pos n -ℤ pos (2 ^ w)

-- a number converted to a kind: for `_Bool` whether it isn't 0 (C11 6.3.1.2), else the number of the kind's range that
-- is congruent modulo 2 to the width (C11 6.3.1.3, and so for signed kinds in this profile)
abbrev pub wrap : IntKind → ℤ → ℤ
wrap k z = if is_bool k then (if int_eq z (pos 0) then pos 0 else pos 1) else decoded (is_signed k) (width_of k) (residue (width_of k) z)

-- the rank of a kind (C11 6.3.1.1p1)
abbrev pub rank : IntKind → ℕ
rank kind.Bool = 0
rank kind.Char = 1
rank kind.SChar = 1
rank kind.UChar = 1
rank kind.Short = 2
rank kind.UShort = 2
rank kind.Int = 3
rank kind.UInt = 3
rank kind.Long = 4
rank kind.ULong = 4
rank kind.LLong = 5
rank kind.ULLong = 5

-- the kind of a promoted operand: `int` holds each kind of lower rank (C11 6.3.1.1p2)
abbrev pub promote : IntKind → IntKind
promote k = if nat_lt (rank k) 3 then kind.Int else k

-- the unsigned kind of a kind's rank
abbrev pub unsigned_of : IntKind → IntKind
unsigned_of kind.Bool = kind.Bool
unsigned_of kind.Char = kind.UChar
unsigned_of kind.SChar = kind.UChar
unsigned_of kind.UChar = kind.UChar
unsigned_of kind.Short = kind.UShort
unsigned_of kind.UShort = kind.UShort
unsigned_of kind.Int = kind.UInt
unsigned_of kind.UInt = kind.UInt
unsigned_of kind.Long = kind.ULong
unsigned_of kind.ULong = kind.ULong
unsigned_of kind.LLong = kind.ULLong
unsigned_of kind.ULLong = kind.ULLong

-- the common kind of an unsigned kind and a signed one (C11 6.3.1.8): the unsigned one where its rank is at least that
-- of the other; else the signed one where its range holds the whole range of the other; else the unsigned kind of its
-- rank
abbrev pub mixed : IntKind → IntKind → IntKind
mixed u s = if nat_le (rank s) (rank u) then u else (if int_le (greatest u) (greatest s) then s else unsigned_of s)

-- the common kind of two promoted kinds (C11 6.3.1.8): of one sign the one of greater rank
abbrev pub common_of : Bool → Bool → IntKind → IntKind → IntKind
common_of true true a b = if nat_le (rank b) (rank a) then a else b
common_of false false a b = if nat_le (rank b) (rank a) then a else b
common_of false true a b = mixed a b
common_of true false a b = mixed b a

-- the common kind of two operands (C11 6.3.1.8)
abbrev pub common : IntKind → IntKind → IntKind
common a b = common_of (is_signed (promote a)) (is_signed (promote b)) (promote a) (promote b)
