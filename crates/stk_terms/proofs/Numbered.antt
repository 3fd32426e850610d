-- Residues and their numbers.
use Rattle.std.proofs.Common.{◌≡◌, ℕ, ◌+◌, ◌*◌, ◌/◌, ◌%◌, ◌<◌, ◌^◌, List, [], ◌∷◌, sym, ◌∙◌, ap, subst, inl, inr, refl, arith}
use Rattle.std.proofs.lemmas.Nat.{pow-add, div-mul-add, pow_pos, mul-add-lt, mod-pow-add}
use Rattle.std.proofs.Math.Nat.{mul-add-div_right, mul-add-mod_self_right, mod-eq_of_lt, mod-lt, mod-le, mul_assoc, mul_comm}
use Rattle.stk_terms.specs.Fitting.{AreResidues}
use Rattle.stk_terms.specs.Ordered.{bits_in, residues_at, number_of, IsBefore, EachHasItsNumber}

-- the residues with a number are in range
pub residues_fit : (ws : List ℕ) (n : ℕ) → AreResidues ws (residues_at ws n)
residues_fit [] n = tt
residues_fit (w ∷ ws) n = (mod-lt (n / 2 ^ bits_in ws) (pow_pos w), residues_fit ws n)

-- higher bits of the number don't matter
shifted : (ws : List ℕ) (k x : ℕ) → residues_at ws (k * 2 ^ bits_in ws + x) ≡ residues_at ws x
shifted [] k x = refl
shifted (w ∷ ws) k x =
    let c : ℕ = 2 ^ bits_in ws in
    let b : ℕ = 2 ^ w in
    let e : k * 2 ^ (w + bits_in ws) + x ≡ (k * b) * c + x = ap (λ y. k * y + x) (pow-add 2 w (bits_in ws)) ∙ ap (λ y. y + x) (sym (mul_assoc k b c)) in
    let head : (((k * b) * c + x) / c) % b ≡ (x / c) % b = ap (λ y. y % b) (mul-add-div_right (pow_pos (bits_in ws)) (k * b) x) ∙ mul-add-mod_self_right k b (x / c) in
    ap (λ y. ((y / c) % b) ∷ residues_at ws y) e ∙ ap (λ y. y ∷ residues_at ws ((k * b) * c + x)) head ∙ ap (λ ys. ((x / c) % b) ∷ ys) (shifted ws (k * b) x)

pub number_below : (ws rs : List ℕ) → AreResidues ws rs → number_of ws rs < 2 ^ bits_in ws
number_below [] [] h = omega arith
number_below (w ∷ ws) (r ∷ rs) (lt, h) =
    let below = number_below ws rs h in
    subst (λ y. r * 2 ^ bits_in ws + number_of ws rs < y) (sym (pow-add 2 w (bits_in ws))) (upper r (2 ^ w) (2 ^ bits_in ws) (number_of ws rs) lt below)
  where
    upper : (r b c x : ℕ) → r < b → x < c → r * c + x < b * c
    upper r b c x lt below = subst (λ y. r * c + x < y) (mul_comm c b) (mul-add-lt r c x b lt below)
number_below [] (r ∷ rs) h = absurd h
number_below (w ∷ ws) [] h = absurd h

pub number_itself : (ws rs : List ℕ) → AreResidues ws rs → residues_at ws (number_of ws rs) ≡ rs
number_itself [] [] h = refl
number_itself (w ∷ ws) (r ∷ rs) (lt, h) =
    let c : ℕ = 2 ^ bits_in ws in
    let x : ℕ = number_of ws rs in
    let below = number_below ws rs h in
    let head : ((r * c + x) / c) % 2 ^ w ≡ r = ap (λ y. y % 2 ^ w) (div-mul-add r c x below) ∙ mod-eq_of_lt lt in
    ap (λ y. y ∷ residues_at ws (r * c + x)) head ∙ ap (λ ys. r ∷ ys) (shifted ws r x ∙ number_itself ws rs h)
number_itself [] (r ∷ rs) h = absurd h
number_itself (w ∷ ws) [] h = absurd h

pub number_lower : (ws qs rs : List ℕ) → AreResidues ws qs → AreResidues ws rs → IsBefore qs rs → number_of ws qs < number_of ws rs
number_lower [] [] [] hq hr b = absurd b
number_lower (w ∷ ws) (q ∷ qs) (r ∷ rs) (lq, hq) (lr, hr) (inl lt) =
    let c : ℕ = 2 ^ bits_in ws in
    let a : q * c + number_of ws qs < r * c = subst (λ y. q * c + number_of ws qs < y) (mul_comm c r) (mul-add-lt q c (number_of ws qs) r lt (number_below ws qs hq)) in
    omega (arith, a)
number_lower (w ∷ ws) (q ∷ qs) (r ∷ rs) (lq, hq) (lr, hr) (inr (e, b)) =
    let a = number_lower ws qs rs hq hr b in
    let f : q * 2 ^ bits_in ws ≡ r * 2 ^ bits_in ws = ap (λ y. y * 2 ^ bits_in ws) e in
    omega (arith, a, f)
number_lower [] (q ∷ qs) rs hq hr b = absurd hq
number_lower [] [] (r ∷ rs) hq hr b = absurd hr
number_lower (w ∷ ws) [] rs hq hr b = absurd hq
number_lower (w ∷ ws) (q ∷ qs) [] hq hr b = absurd hr

pub numbers_are : EachHasItsNumber
numbers_are = record { below = number_below; itself = number_itself; lower = number_lower }

-- the number of the residues with a number is what its bits leave of it
pub number_again : (ws : List ℕ) (n : ℕ) → number_of ws (residues_at ws n) ≡ n % 2 ^ bits_in ws
number_again [] n = omega arith
number_again (w ∷ ws) n = ap (λ y. (n / 2 ^ bits_in ws % 2 ^ w) * 2 ^ bits_in ws + y) (number_again ws n) ∙ sym (mod-pow-add n w (bits_in ws))

-- residues in front of those with a number have a lower one
pub number_before : (ws qs : List ℕ) (n : ℕ) → AreResidues ws qs → IsBefore qs (residues_at ws n) → number_of ws qs < n
number_before ws qs n h b = omega (arith, number_lower ws qs (residues_at ws n) h (residues_fit ws n) b, number_again ws n, mod-le n (2 ^ bits_in ws))
