-- Kept objects in memory: where they lie, the numbers kept of them, and what a memory gives of them (C11 6.2.4p2,
-- 6.5p7).
use Rattle.std.specs.Prelude.{ℕ, ◌+◌, ◌-◌, ◌^◌, ◌<◌, ◌≤◌, ◌≡◌, Bool, true, false, ℤ, Some, None, get_or, set}
use Rattle.stk_ctype.specs.declared.kind.IntKind.{IntKind}
use Rattle.stk_ctype.specs.Kinds.{bytes_of}
use Rattle.stk_numbers.specs.Kinds.{fits, wrap}
use Rattle.stk_meaning.specs.Memory.{Memory, number_at, stored}
use Rattle.stk_meaning.specs.Paths.{KeptNumbers, forgotten}

-- how many objects are kept, and of each by its position the kind of its numbers and its address
pub record Held : Type 0 where
  pub count : ℕ
  pub kind : ℕ → IntKind
  pub address : ℕ → ℕ

-- bytes from an address on share none with a kept object
pub record IsClear (h : Held) (q first size : ℕ) : Type 0 where
  pub by : (b : ℕ) → first ≤ b → b < first + size → h.address q ≤ b → b < h.address q + bytes_of (h.kind q) → ⊥

-- each kept object ends before the last address, and shares no byte with another kept one
pub record AreHeld (h : Held) : Type 0 where
  pub last : (q : ℕ) → q < h.count → h.address q + bytes_of (h.kind q) ≤ 2 ^ 64 - 1
  pub apart : (q p : ℕ) → q < h.count → p < h.count → (q ≡ p → ⊥) → IsClear h q (h.address p) (bytes_of (h.kind p))

-- each kept number is what the memory gives at its object
pub record Agrees (h : Held) (kept : KeptNumbers) (m : Memory) : Type 0 where
  pub is_kept : (q : ℕ) (x : ℤ) → get_or kept q None ≡ Some x → q < h.count
  pub number : (q : ℕ) (x : ℤ) → get_or kept q None ≡ Some x → number_at (h.kind q) (h.address q) m ≡ x

-- the kept objects that a test passes over have the same numbers in both memories
pub record Unmoved (h : Held) (test : ℕ → Bool) (m m' : Memory) : Type 0 where
  pub same : (q : ℕ) → q < h.count → test q ≡ false → number_at (h.kind q) (h.address q) m' ≡ number_at (h.kind q) (h.address q) m

-- what is stored within memory is read back, converted to its kind
abbrev pub WhatIsStoredIsReadBack : Type 0
WhatIsStoredIsReadBack = (k : IntKind) (a : ℕ) (z : ℤ) (m : Memory) → a + bytes_of k ≤ 2 ^ 64 - 1 → number_at k a (stored k a z m) ≡ wrap k z

-- what is read is in the range of its kind
abbrev pub WhatIsReadIsInRange : Type 0
WhatIsReadIsInRange = (k : IntKind) (a : ℕ) (m : Memory) → fits k (number_at k a m) ≡ true

-- a store to a kept object keeps its number and those of all others; one to bytes that no kept object has keeps all;
-- whatever is written otherwise leaves right what is then still kept, where what may have changed is forgotten
pub record GoOnAgreeing (h : Held) (kept : KeptNumbers) (m : Memory) : Type 0 where
  pub stored_to : (q : ℕ) (z : ℤ) → q < h.count → Agrees h (set kept q (Some (wrap (h.kind q) z))) (stored (h.kind q) (h.address q) z m)
  pub beside : (k : IntKind) (a : ℕ) (z : ℤ) → a + bytes_of k ≤ 2 ^ 64 - 1 → ((q : ℕ) → q < h.count → IsClear h q a (bytes_of k)) → Agrees h kept (stored k a z m)
  pub changed : (test : ℕ → Bool) (other : Memory) → Unmoved h test m other → Agrees h (forgotten test kept) other

abbrev pub KeptNumbersGoOnAgreeing : Type 0
KeptNumbersGoOnAgreeing = (h : Held) (kept : KeptNumbers) (m : Memory) → AreHeld h → Agrees h kept m → GoOnAgreeing h kept m
