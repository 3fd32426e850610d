-- What is written is read back, and nothing else changes.
use Rattle.std.proofs.Common.{◌≡◌, ℕ, zero, suc, ◌+◌, ◌*◌, ◌^◌, ◌%◌, ◌/◌, ◌<◌, ◌≤◌, Bool, true, false, ℤ, pos, refl, sym, ap, ◌∙◌, arith}
use Rattle.std.specs.Prelude.{if◌then◌else◌}
use Rattle.std.specs.Ordering.{int_eq}
use Rattle.std.proofs.lemmas.Grind.{common_steps}
use Rattle.std.proofs.Math.Nat.{mod-eq_of_lt}
use Rattle.stk_ctype.specs.declared.kind.IntKind.{IntKind}
use Rattle.stk_ctype.specs.declared.kind.IntKind.TheVariants as kind
use Rattle.stk_ctype.specs.Kinds.{bytes_of}
use Rattle.stk_numbers.specs.Kinds.{width_of, residue, decoded, wrap, fits}
use Rattle.stk_numbers.proofs.Residues.{residue_below, residue_decoded}
use Rattle.stk_numbers.proofs.Wrapping.{wrap_in_range}
use Rattle.stk_meaning.specs.Memory.{Memory, following, put, read_bytes, write_bytes, shown, number_at, stored}

pub put_here : (a x : ℕ) (m : Memory) → put a x m a ≡ x
put_here a x m = grind (arith, common_steps)

pub put_there : (a x : ℕ) (m : Memory) (b : ℕ) → (b ≡ a → ⊥) → put a x m b ≡ m b
put_there a x m b h = grind (arith, common_steps)

-- what lies in memory does not wrap round
pub follows : (a : ℕ) → a + 1 < 2 ^ 64 → following a ≡ a + 1
follows a h = omega arith

pub same_read : (s a : ℕ) (m m' : Memory) → a + s < 2 ^ 64 → ((b : ℕ) → a ≤ b → b < a + s → m b ≡ m' b) → read_bytes s a m ≡ read_bytes s a m'
same_read zero a m m' l h = refl
same_read (suc s) a m m' l h =
    let e : following a ≡ a + 1 = follows a (omega arith) in
    let x : m a ≡ m' a = h a (omega arith) (omega arith) in
    let y : read_bytes s (following a) m ≡ read_bytes s (following a) m' =
    same_read s (following a) m m' (omega arith) (λ b p q. h b (omega arith) (omega arith)) in
    ap (λ z. z % 256 + 256 * read_bytes s (following a) m) x ∙ ap (λ z. m' a % 256 + 256 * z) y

pub untouched : (s a x : ℕ) (m : Memory) (b : ℕ) → a + s < 2 ^ 64 → (a ≤ b → b < a + s → ⊥) → write_bytes s a x m b ≡ m b
untouched zero a x m b l h = refl
untouched (suc s) a x m b l h =
    let e : following a ≡ a + 1 = follows a (omega arith) in
    put_there a (x % 256) (write_bytes s (following a) (x / 256) m) b (λ same. h (omega arith) (omega arith))
    ∙ untouched s (following a) (x / 256) m b (omega arith) (λ p q. h (omega arith) (omega arith))

power : (s : ℕ) → 256 ^ suc s ≡ 256 * 256 ^ s
power s = omega arith

pub read_back : (s a x : ℕ) (m : Memory) → a + s < 2 ^ 64 → x < 256 ^ s → read_bytes s a (write_bytes s a x m) ≡ x
read_back zero a x m l h = omega arith
read_back (suc s) a x m l h =
    let e : following a ≡ a + 1 = follows a (omega arith) in
    let p : 256 ^ suc s ≡ 256 * 256 ^ s = power s in
    let before = write_bytes s (following a) (x / 256) m in
    let first : put a (x % 256) before a ≡ x % 256 = put_here a (x % 256) before in
    let rest : read_bytes s (following a) (put a (x % 256) before) ≡ read_bytes s (following a) before =
    same_read s (following a) (put a (x % 256) before) before (omega arith) (λ b p q. put_there a (x % 256) before b (λ same. absurd (omega arith))) in
    let last : read_bytes s (following a) before ≡ x / 256 = read_back s (following a) (x / 256) m (omega arith) (omega arith) in
    omega arith

pub read_below : (s a : ℕ) (m : Memory) → read_bytes s a m < 256 ^ s
read_below zero a m = omega arith
read_below (suc s) a m =
    let p : 256 ^ suc s ≡ 256 * 256 ^ s = power s in
    let h = read_below s (following a) m in
    omega arith

-- ---- kinds

-- the bytes of a kind hold its bits
room : (k : IntKind) (n : ℕ) → n < 2 ^ width_of k → n < 256 ^ bytes_of k
room kind.Bool n h = omega arith
room kind.Char n h = omega arith
room kind.SChar n h = omega arith
room kind.UChar n h = omega arith
room kind.Short n h = omega arith
room kind.UShort n h = omega arith
room kind.Int n h = omega arith
room kind.UInt n h = omega arith
room kind.Long n h = omega arith
room kind.ULong n h = omega arith
room kind.LLong n h = omega arith
room kind.ULLong n h = omega arith

-- what bits stand for is the number converted
as_wrap : (s : Bool) (w n : ℕ) → n < 2 ^ w → decoded s w n ≡ decoded s w (residue w (pos n))
as_wrap s w n h = ap (decoded s w) (sym (mod-eq_of_lt h))

shown_bool : (n : ℕ) → shown kind.Bool n ≡ wrap kind.Bool (pos n)
shown_bool zero = refl
shown_bool (suc n) = grind (arith, common_steps)

shown_wrap : (k : IntKind) (n : ℕ) → n < 256 ^ bytes_of k → shown k n ≡ wrap k (pos n)
shown_wrap kind.Bool n h = shown_bool n
shown_wrap kind.Char n h = as_wrap true 8 n h
shown_wrap kind.SChar n h = as_wrap true 8 n h
shown_wrap kind.UChar n h = as_wrap false 8 n h
shown_wrap kind.Short n h = as_wrap true 16 n h
shown_wrap kind.UShort n h = as_wrap false 16 n h
shown_wrap kind.Int n h = as_wrap true 32 n h
shown_wrap kind.UInt n h = as_wrap false 32 n h
shown_wrap kind.Long n h = as_wrap true 64 n h
shown_wrap kind.ULong n h = as_wrap false 64 n h
shown_wrap kind.LLong n h = as_wrap true 64 n h
shown_wrap kind.ULLong n h = as_wrap false 64 n h

-- a number that is read is in the range of its kind
pub number_fits : (k : IntKind) (a : ℕ) (m : Memory) → fits k (number_at k a m) ≡ true
number_fits k a m = ap (fits k) (shown_wrap k (read_bytes (bytes_of k) a m) (read_below (bytes_of k) a m)) ∙ wrap_in_range k (pos (read_bytes (bytes_of k) a m))

same_decoded : (s : Bool) (w : ℕ) (z : ℤ) → decoded s w (residue w (decoded s w (residue w z))) ≡ decoded s w (residue w z)
same_decoded s w z = ap (decoded s w) (residue_decoded s w (residue w z) (residue_below w z))

bool_shown : (b : Bool) → shown kind.Bool (residue 1 (if b then pos 0 else pos 1)) ≡ (if b then pos 0 else pos 1)
bool_shown true = refl
bool_shown false = refl

-- the bits of a converted number stand for it
shown_residue : (k : IntKind) (z : ℤ) → shown k (residue (width_of k) (wrap k z)) ≡ wrap k z
shown_residue kind.Bool z = bool_shown (int_eq z (pos 0))
shown_residue kind.Char z = same_decoded true 8 z
shown_residue kind.SChar z = same_decoded true 8 z
shown_residue kind.UChar z = same_decoded false 8 z
shown_residue kind.Short z = same_decoded true 16 z
shown_residue kind.UShort z = same_decoded false 16 z
shown_residue kind.Int z = same_decoded true 32 z
shown_residue kind.UInt z = same_decoded false 32 z
shown_residue kind.Long z = same_decoded true 64 z
shown_residue kind.ULong z = same_decoded false 64 z
shown_residue kind.LLong z = same_decoded true 64 z
shown_residue kind.ULLong z = same_decoded false 64 z

-- what is stored in memory is read back, converted
pub number_stored : (k : IntKind) (a : ℕ) (z : ℤ) (m : Memory) → a + bytes_of k < 2 ^ 64 → number_at k a (stored k a z m) ≡ wrap k z
number_stored k a z m l = ap (shown k) (read_back (bytes_of k) a (residue (width_of k) (wrap k z)) m l (room k _ (residue_below (width_of k) (wrap k z)))) ∙ shown_residue k z
