-- Numbers of scripts as texts: a text is one number at most, and what comes behind numbers.
use Rattle.std.proofs.Common.{◌≡◌, ℕ, suc, ◌^◌, ◌<◌, ◌≤◌, true, ◌&&◌, List, ◌∷◌, ◌++◌, ℤ, pos, negsuc, to_z, of_z, decimal, refl, sym, ap, ◌∙◌, arith}
use Rattle.std.specs.List.{list_all}
use Rattle.std.specs.Fmt.{signed_decimal}
use Rattle.std.specs.Int.{w128}
use Rattle.std.proofs.lemmas.Bool.{true≢false, and_parts}
use Rattle.std.proofs.lemmas.Fmt.{decimal_injective}
use Rattle.std.proofs.lemmas.Int.{to_z-of_z, fits_signed_from_abs}
use Rattle.stk_line_reading.specs.Cuts.{is_other}
use Rattle.stk_line_reading.specs.Numbers.{IsNext}
use Rattle.stk_line_reading.proofs.Texts.{one_cut, other_number, plain_number}
use Rattle.stk_replay_script.specs.Scripts.{IsOfSomeKind}

pub tail_of : {a b : ℕ} {x y : List ℕ} → a ∷ x ≡ b ∷ y → x ≡ y
tail_of e = cc

-- a text begins with one number at most
pub one_next : (text : List ℕ) (m n : ℕ) (x y : List ℕ) → IsNext text m x → IsNext text n y → (m ≡ n) × (x ≡ y)
one_next text m n x y h k =
    let tails : decimal m ++ x ≡ decimal n ++ y = tail_of (sym h.same ∙ k.same) in
    let cut = one_cut 32 (decimal m ++ x) (decimal m) x (decimal n) y (record { whole = refl; others = plain_number m h.fits; stops = h.stops }) (record { whole = tails; others = plain_number n k.fits; stops = k.stops }) in
    (decimal_injective m n h.fits k.fits cut.0, cut.1)

-- digits don't begin with a sign
pub no_sign : (n : ℕ) (ds : List ℕ) → n < 2 ^ 64 → decimal n ≡ 45 ∷ ds → ⊥
no_sign n ds small e =
    let others : list_all (is_other 45) (45 ∷ ds) ≡ true = sym (ap (list_all (is_other 45)) e) ∙ other_number 45 n (omega arith) small in
    true≢false (sym (and_parts (is_other 45 45) (list_all (is_other 45) ds) others).0)

pub one_signed : (y z : ℤ) → IsOfSomeKind y → IsOfSomeKind z → signed_decimal y ≡ signed_decimal z → y ≡ z
one_signed (pos m) (pos n) h k e = ap pos (decimal_injective m n h k e)
one_signed (pos m) (negsuc n) h k e = absurd (no_sign m (decimal (suc n)) h e)
one_signed (negsuc m) (pos n) h k e = absurd (no_sign n (decimal (suc m)) k (sym e))
one_signed (negsuc m) (negsuc n) h k e =
    let same = decimal_injective (suc m) (suc n) (omega arith) (omega arith) (tail_of e) in
    ap negsuc (omega arith)

other_sign : (stop : ℕ) → stop < 45 → is_other stop 45 ≡ true
other_sign stop low = grind arith

-- a byte below `-` doesn't stand in a number
pub other_signed : (stop : ℕ) (z : ℤ) → stop < 45 → IsOfSomeKind z → list_all (is_other stop) (signed_decimal z) ≡ true
other_signed stop (pos n) low h = other_number stop n (omega arith) h
other_signed stop (negsuc n) low h =
    ap (λ b. b && list_all (is_other stop) (decimal (suc n))) (other_sign stop low) ∙ other_number stop (suc n) (omega arith) (omega arith)

-- a number behind a sign
pub not_behind_sign : (text digits : List ℕ) → text ≡ 45 ∷ digits → ((n : ℕ) → 0 < n → n ≤ 2 ^ 63 → digits ≡ decimal n → ⊥) → (z : ℤ) → IsOfSomeKind z → text ≡ signed_decimal z → ⊥
not_behind_sign text digits begins none (pos n) h e = no_sign n digits h (sym e ∙ begins)
not_behind_sign text digits begins none (negsuc n) h e = none (suc n) (omega arith) (omega arith) (tail_of (sym begins ∙ e))

-- a number without one
pub not_plain : (text : List ℕ) → ((digits : List ℕ) → text ≡ 45 ∷ digits → ⊥) → ((n : ℕ) → n < 2 ^ 64 → text ≡ decimal n → ⊥) → (z : ℤ) → IsOfSomeKind z → text ≡ signed_decimal z → ⊥
not_plain text plain none (pos n) h e = none n h e
not_plain text plain none (negsuc n) h e = plain (decimal (suc n)) e

-- such a number is the same in 128 bits
pub again : (z : ℤ) → IsOfSomeKind z → to_z w128 (of_z w128 z) ≡ z
again (pos n) h = to_z-of_z w128 (pos n) (fits_signed_from_abs w128 (pos n) (omega arith))
again (negsuc n) h = to_z-of_z w128 (negsuc n) (fits_signed_from_abs w128 (negsuc n) (omega arith))
