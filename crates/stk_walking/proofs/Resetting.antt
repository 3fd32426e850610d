-- Registers that a loop sets one after another, and the values of their keys.
use Rattle.std.proofs.Common.{◌≡◌, ℕ, zero, suc, ◌+◌, Bool, true, false, List, [], ◌∷◌, ℤ, Option, Some, None, length, set, refl, sym, ap, ◌∙◌, arith}
use Rattle.std.specs.Prelude.{if◌then◌else◌, slice_get, IfSome}
use Rattle.std.specs.Option.{unwrap_or}
use Rattle.stk_ctype.specs.declared.kind.IntKind.{IntKind}
use Rattle.stk_meaning.specs.Keys.{loop_key}
use Rattle.stk_meaning.specs.Paths.{InputMap, reset_all}
use Rattle.stk_walking.specs.Keyed.{AreThere}

-- the first n of the registers of a loop
abbrev pub first_reset : InputMap → ℕ → ℕ → List ℕ → List ℤ → List ℤ
first_reset inputs k zero js r = r
first_reset inputs k (suc n) [] r = r
first_reset inputs k (suc n) (j ∷ js) r = first_reset inputs k n js (set r j (inputs (loop_key k j)))

pub some_one : {A : Type 0} {a b : A} → Some a ≡ Some b → a ≡ b
some_one {A} {a} {b} h = ap (λ o. unwrap_or o a) h

one_more : (inputs : InputMap) (k : ℕ) (n : ℕ) (js : List ℕ) (j : ℕ) (r : List ℤ) → slice_get js n ≡ Some j → set (first_reset inputs k n js r) j (inputs (loop_key k j)) ≡ first_reset inputs k (suc n) js r
one_more inputs k n [] j r e = absurd cc
one_more inputs k zero (i ∷ js) j r e = ap (λ l. set r l (inputs (loop_key k l))) (sym (some_one e))
one_more inputs k (suc n) (i ∷ js) j r e = one_more inputs k n js j (set r i (inputs (loop_key k i))) e

-- one more of them, where b is true
pub next_reset : (b : Bool) (inputs : InputMap) (k : ℕ) (n : ℕ) (js : List ℕ) (j : ℕ) (r : List ℤ) → slice_get js n ≡ Some j →
    (if b then set (if b then first_reset inputs k n js r else r) j (inputs (loop_key k j)) else (if b then first_reset inputs k n js r else r)) ≡ (if b then first_reset inputs k (n + 1) js r else r)
next_reset true inputs k n js j r e = let more : suc n ≡ n + 1 = omega arith in one_more inputs k n js j r e ∙ ap (λ i. first_reset inputs k i js r) more
next_reset false inputs k n js j r e = refl

-- none of them
pub none_reset : (b : Bool) (inputs : InputMap) (k : ℕ) (js : List ℕ) (r : List ℤ) → r ≡ (if b then first_reset inputs k 0 js r else r)
none_reset true inputs k js r = refl
none_reset false inputs k js r = refl

-- all of them
pub all_reset : (inputs : InputMap) (k : ℕ) (js : List ℕ) (r : List ℤ) → first_reset inputs k (length js) js r ≡ reset_all inputs k js r
all_reset inputs k [] r = refl
all_reset inputs k (j ∷ js) r = all_reset inputs k js (set r j (inputs (loop_key k j)))

-- the place of a key is one that the store has at the key's kind
pub place_there : (has_key : ℕ → IntKind → Type 0) (kinds : List IntKind) (o : Option ℕ) (j k : IntKind) → AreThere has_key kinds → j ≡ k → IfSome o (λ p. slice_get kinds p ≡ Some j) → IfSome o (λ p. has_key p k)
place_there has_key kinds None j k h e a = tt
place_there has_key kinds (Some p) j k h e a = h p k (a ∙ ap Some e)
