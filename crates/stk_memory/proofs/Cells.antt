-- The memory of an image is what is left when its cells are put over its fill.
use Rattle.std.proofs.Common.{◌≡◌, ℕ, zero, suc, ◌<◌, ◌≤◌, ◌+◌, ◌-◌, ◌*◌, ◌^◌, ◌%◌, Bool, true, false, List, [], ◌∷◌, refl, ap, ◌∙◌, arith, cond, subst}
use Rattle.std.specs.Prelude.{nat_eq}
use Rattle.std.proofs.Math.Nat.{pow-succ', pow-le-pow_right}
use Rattle.std.proofs.lemmas.Bool.Decides.{nat_tests}
use Rattle.stk_meaning.specs.Memory.{Memory, put, put_all}
use Rattle.stk_memory.specs.declared.image.Cell.{Cell}
use Rattle.stk_memory.specs.Image.{byte_in, writes_of, IsFree, AreApart}

differ : (a b : ℕ) → (a ≡ b → ⊥) → nat_eq a b ≡ false
differ a b h = grind (arith, nat_tests)

are_one : (a b : ℕ) → nat_eq a b ≡ true → a ≡ b
are_one a b h = grind (arith, nat_tests)

-- an address that no cell has keeps its byte
free_byte : (fill : ℕ) (cs : List Cell) (a : ℕ) → IsFree a cs → byte_in fill cs a ≡ fill
free_byte fill [] a f = refl
free_byte fill (c ∷ cs) a f = ap (λ t. cond t c.byte (byte_in fill cs a)) (differ (c.at % 2 ^ 64) a f.0) ∙ free_byte fill cs a f.1

-- one cell, by whether it has the address
one_cell : (t : Bool) (c : Cell) (cs : List Cell) (m : Memory) (a : ℕ) → nat_eq (c.at % 2 ^ 64) a ≡ t → IsFree (c.at % 2 ^ 64) cs → byte_in (put (c.at % 2 ^ 64) c.byte m a) cs a ≡ cond t c.byte (byte_in (m a) cs a)
one_cell true c cs m a e f =
    let same : c.at % 2 ^ 64 ≡ a = are_one (c.at % 2 ^ 64) a e in
    let own : put (c.at % 2 ^ 64) c.byte m a ≡ c.byte = grind (arith, nat_tests) in
    ap (λ x. byte_in x cs a) own ∙ free_byte c.byte cs a (subst (λ x. IsFree x cs) same f)
one_cell false c cs m a e f =
    let own : put (c.at % 2 ^ 64) c.byte m a ≡ m a = grind (arith, nat_tests) in
    ap (λ x. byte_in x cs a) own

put_cells : (cs : List Cell) (m : Memory) (a : ℕ) → AreApart cs → put_all (writes_of cs) m a ≡ byte_in (m a) cs a
put_cells [] m a k = refl
put_cells (c ∷ cs) m a k = put_cells cs (put (c.at % 2 ^ 64) c.byte m) a k.1 ∙ one_cell (nat_eq (c.at % 2 ^ 64) a) c cs m a refl k.0

pub image_is : (cs : List Cell) (m : Memory) (fill : ℕ) → AreApart cs → ((a : ℕ) → m a ≡ fill) → put_all (writes_of cs) m ≡ (λ a. byte_in fill cs a)
image_is cs m fill k h = λ i a. (put_cells cs m a k ∙ ap (λ x. byte_in x cs a) (h a)) i

-- one byte more
pub one_byte : (size low high : ℕ) → 0 < size → size ≤ 8 → low < 256 → high < 256 ^ (size - 1) → (low + 256 * high < 256 ^ size) × (256 ^ size ≤ 2 ^ 64)
one_byte zero low high some few l h = absurd (omega arith)
one_byte (suc n) low high some few l h =
    let same : suc n - 1 ≡ n = omega arith in
    let small : high < 256 ^ n = subst (λ x. high < 256 ^ x) same h in
    let more : 256 ^ suc n ≡ 256 * 256 ^ n = pow-succ' 256 n in
    let most : 256 ^ suc n ≤ 256 ^ 8 = pow-le-pow_right {n = 256} (omega arith) few in
    (omega (arith, small, more), omega (arith, most))
