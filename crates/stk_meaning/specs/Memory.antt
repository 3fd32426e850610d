-- The memory of an execution: 2^64 bytes, each taken modulo 256 where it is read; numbers are little-endian (C11
-- 6.2.6.1, 6.2.6.2; this profile).
use Rattle.std.specs.Prelude.{ℕ, zero, suc, ◌+◌, ◌*◌, ◌^◌, ◌%◌, ◌/◌, ◌==◌, List, [], ◌∷◌, ℤ, pos, if◌then◌else◌}
use Rattle.stk_ctype.specs.declared.kind.IntKind.{IntKind}
use Rattle.stk_ctype.specs.Kinds.{bytes_of}
use Rattle.stk_numbers.specs.Kinds.{width_of, is_signed, is_bool, residue, decoded, wrap}

abbrev pub Memory : Type 0
Memory = ℕ → ℕ

-- address 0 follows the last one
abbrev pub following : ℕ → ℕ
following a = (a + 1) % 2 ^ 64

-- one byte
abbrev pub put : ℕ → ℕ → Memory → Memory
put a x memory b = if b == a then x else memory b

-- the number that so many bytes make, the lowest one first
abbrev pub read_bytes : ℕ → ℕ → Memory → ℕ
read_bytes zero a memory = 0
read_bytes (suc size) a memory = memory a % 256 + 256 * read_bytes size (following a) memory

abbrev pub write_bytes : ℕ → ℕ → ℕ → Memory → Memory
write_bytes zero a x memory = memory
write_bytes (suc size) a x memory = put a (x % 256) (write_bytes size (following a) (x / 256) memory)

-- the number that bytes stand for in a kind: a `_Bool` is 1 unless its byte is 0
abbrev pub shown : IntKind → ℕ → ℤ
shown k n = if is_bool k then (if n == 0 then pos 0 else pos 1) else decoded (is_signed k) (width_of k) n

-- the number at an address
abbrev pub number_at : IntKind → ℕ → Memory → ℤ
number_at k a memory = shown k (read_bytes (bytes_of k) a memory)

-- the memory after a store at an address
abbrev pub stored : IntKind → ℕ → ℤ → Memory → Memory
stored k a x memory = write_bytes (bytes_of k) a (residue (width_of k) (wrap k x)) memory

-- single bytes that the outside writes, in order
pub record Write : Type 0 where
  pub address : ℕ
  pub byte : ℕ

abbrev pub put_all : List Write → Memory → Memory
put_all [] memory = memory
put_all (x ∷ xs) memory = put_all xs (put (x.address % 2 ^ 64) x.byte memory)
