-- What a memory of the code is: its cells, and one byte everywhere else.
use Rattle.std.specs.Prelude.{◌≡◌, ℕ, ◌^◌, ◌%◌, List, [], ◌∷◌, unwrap_or, nat_eq, if◌then◌else◌}
use Rattle.indexmap.specs.IndexMap.{get}
use Rattle.stk_memory.specs.declared.image.Cell.{Cell}
use Rattle.stk_memory.specs.declared.image.MemoryImage.{MemoryImage}
use Rattle.stk_memory.specs.declared.bytes.Bytes.{Bytes}
use Rattle.stk_meaning.specs.Memory.{Memory, Write}

-- the memory that the code's bytes stand for
abbrev pub memory_of : Bytes → Memory
memory_of m a = unwrap_or (get nat_eq m.cells a) m.fill

-- the byte of an address among cells, the first that has it, and else the fill
abbrev pub byte_in : ℕ → List Cell → ℕ → ℕ
byte_in fill [] a = fill
byte_in fill (c ∷ cs) a = if nat_eq (c.at % 2 ^ 64) a then c.byte else byte_in fill cs a

-- the memory of an image: each cell's byte at its address, and the fill elsewhere
abbrev pub image_memory : MemoryImage → Memory
image_memory m a = byte_in m.fill m.cells a

-- no two cells have one address
abbrev pub IsFree : ℕ → List Cell → Type 0
IsFree a [] = Unit {0}
IsFree a (c ∷ cs) = (c.at % 2 ^ 64 ≡ a → ⊥) × IsFree a cs

abbrev pub AreApart : List Cell → Type 0
AreApart [] = Unit {0}
AreApart (c ∷ cs) = IsFree (c.at % 2 ^ 64) cs × AreApart cs

-- a cell as a write of the outside
abbrev pub write_of : Cell → Write
write_of c = record { address = c.at; byte = c.byte }

abbrev pub writes_of : List Cell → List Write
writes_of [] = []
writes_of (c ∷ cs) = write_of c ∷ writes_of cs
