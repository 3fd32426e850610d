-- Laws of the conversion to a kind: the number is in the range, it is congruent, and it is the only such number.
use Rattle.std.proofs.Common.{◌≡◌, ℕ, zero, suc, ◌+◌, ◌-◌, ◌^◌, ◌<◌, ◌≤◌, Bool, true, false, ◌&&◌, ℤ, pos, negsuc, ◌-ℤ◌, refl, sym, ap, subst, ◌∙◌, arith, if◌then◌else◌, nat_lt}
use Rattle.std.specs.Prelude.{int_le}
use Rattle.std.proofs.lemmas.Int.{ints}
use Rattle.std.proofs.Math.Nat.{mod-eq_of_lt}
use Rattle.stk_ctype.specs.declared.kind.IntKind.{IntKind}
use Rattle.stk_ctype.specs.declared.kind.IntKind.TheVariants as kind
use Rattle.stk_numbers.specs.Kinds.{width_of, is_signed, is_bool, fits, residue, decoded, wrap}
use Rattle.stk_numbers.proofs.Bounds.{both_ends, within_ends}
use Rattle.stk_numbers.proofs.Residues.{residue_below, residue_decoded}

-- ---- what bits stand for is in the range
plain_fits : (n M : ℕ) → n < M → (int_le (pos 0) (pos n) && int_le (pos n) (pos M -ℤ pos 1)) ≡ true
plain_fits n M below = within_ends (pos 0) (pos M -ℤ pos 1) (pos n) (omega (arith, ints)) (omega (arith, ints))

low_fits : (n H : ℕ) → n < H → (int_le (pos 0 -ℤ pos H) (pos n) && int_le (pos n) (pos H -ℤ pos 1)) ≡ true
low_fits n H below = within_ends (pos 0 -ℤ pos H) (pos H -ℤ pos 1) (pos n) (omega (arith, ints)) (omega (arith, ints))

high_fits : (n H : ℕ) → n < H + H → H ≤ n → (int_le (pos 0 -ℤ pos H) (pos n -ℤ pos (H + H)) && int_le (pos n -ℤ pos (H + H)) (pos H -ℤ pos 1)) ≡ true
high_fits n H below above = within_ends (pos 0 -ℤ pos H) (pos H -ℤ pos 1) (pos n -ℤ pos (H + H)) (omega (arith, ints)) (omega (arith, ints))

not_low : (n H : ℕ) → nat_lt n H ≡ false → H ≤ n
not_low n H e = grind arith

is_low : (n H : ℕ) → nat_lt n H ≡ true → n < H
is_low n H e = grind arith

signed_fits : (n H : ℕ) → n < H + H → (b : Bool) → nat_lt n H ≡ b → let z = if b then pos n else pos n -ℤ pos (H + H) in (int_le (pos 0 -ℤ pos H) z && int_le z (pos H -ℤ pos 1)) ≡ true
signed_fits n H below true e = low_fits n H (is_low n H e)
signed_fits n H below false e = high_fits n H below (not_low n H e)

decoded_fits : (k : IntKind) (n : ℕ) → n < 2 ^ width_of k → fits k (decoded (is_signed k) (width_of k) n) ≡ true
decoded_fits kind.Bool n below = plain_fits n 2 below
decoded_fits kind.Char n below = signed_fits n 128 below (nat_lt n 128) refl
decoded_fits kind.SChar n below = signed_fits n 128 below (nat_lt n 128) refl
decoded_fits kind.UChar n below = plain_fits n 256 below
decoded_fits kind.Short n below = signed_fits n 32768 below (nat_lt n 32768) refl
decoded_fits kind.UShort n below = plain_fits n 65536 below
decoded_fits kind.Int n below = signed_fits n 2147483648 below (nat_lt n 2147483648) refl
decoded_fits kind.UInt n below = plain_fits n 4294967296 below
decoded_fits kind.Long n below = signed_fits n 9223372036854775808 below (nat_lt n 9223372036854775808) refl
decoded_fits kind.ULong n below = plain_fits n 18446744073709551616 below
decoded_fits kind.LLong n below = signed_fits n 9223372036854775808 below (nat_lt n 9223372036854775808) refl
decoded_fits kind.ULLong n below = plain_fits n 18446744073709551616 below

truth_fits : (b : Bool) → fits kind.Bool (if b then pos 0 else pos 1) ≡ true
truth_fits true = refl
truth_fits false = refl

-- the number that a conversion gives is in the range of the kind
pub wrap_in_range : (k : IntKind) (z : ℤ) → fits k (wrap k z) ≡ true
wrap_in_range kind.Bool z = truth_fits _
wrap_in_range kind.Char z = decoded_fits kind.Char (residue 8 z) (residue_below 8 z)
wrap_in_range kind.SChar z = decoded_fits kind.SChar (residue 8 z) (residue_below 8 z)
wrap_in_range kind.UChar z = decoded_fits kind.UChar (residue 8 z) (residue_below 8 z)
wrap_in_range kind.Short z = decoded_fits kind.Short (residue 16 z) (residue_below 16 z)
wrap_in_range kind.UShort z = decoded_fits kind.UShort (residue 16 z) (residue_below 16 z)
wrap_in_range kind.Int z = decoded_fits kind.Int (residue 32 z) (residue_below 32 z)
wrap_in_range kind.UInt z = decoded_fits kind.UInt (residue 32 z) (residue_below 32 z)
wrap_in_range kind.Long z = decoded_fits kind.Long (residue 64 z) (residue_below 64 z)
wrap_in_range kind.ULong z = decoded_fits kind.ULong (residue 64 z) (residue_below 64 z)
wrap_in_range kind.LLong z = decoded_fits kind.LLong (residue 64 z) (residue_below 64 z)
wrap_in_range kind.ULLong z = decoded_fits kind.ULLong (residue 64 z) (residue_below 64 z)

-- it is congruent modulo 2 to the width, but for `_Bool`
pub wrap_congruent : (k : IntKind) (z : ℤ) → is_bool k ≡ false → residue (width_of k) (wrap k z) ≡ residue (width_of k) z
wrap_congruent kind.Bool z other = cc
wrap_congruent kind.Char z other = residue_decoded true 8 (residue 8 z) (residue_below 8 z)
wrap_congruent kind.SChar z other = residue_decoded true 8 (residue 8 z) (residue_below 8 z)
wrap_congruent kind.UChar z other = residue_decoded false 8 (residue 8 z) (residue_below 8 z)
wrap_congruent kind.Short z other = residue_decoded true 16 (residue 16 z) (residue_below 16 z)
wrap_congruent kind.UShort z other = residue_decoded false 16 (residue 16 z) (residue_below 16 z)
wrap_congruent kind.Int z other = residue_decoded true 32 (residue 32 z) (residue_below 32 z)
wrap_congruent kind.UInt z other = residue_decoded false 32 (residue 32 z) (residue_below 32 z)
wrap_congruent kind.Long z other = residue_decoded true 64 (residue 64 z) (residue_below 64 z)
wrap_congruent kind.ULong z other = residue_decoded false 64 (residue 64 z) (residue_below 64 z)
wrap_congruent kind.LLong z other = residue_decoded true 64 (residue 64 z) (residue_below 64 z)
wrap_congruent kind.ULLong z other = residue_decoded false 64 (residue 64 z) (residue_below 64 z)

-- ---- a number in the range stays
plain_stays : (w : ℕ) (z : ℤ) → (int_le (pos 0) z && int_le z (pos (2 ^ w) -ℤ pos 1)) ≡ true → pos (residue w z) ≡ z
plain_stays w (pos n) within =
    let ends = both_ends (pos 0) (pos (2 ^ w) -ℤ pos 1) (pos n) within in
    let high = ends.1 in
    let below : n < 2 ^ w = omega (arith, ints) in
    ap pos (mod-eq_of_lt below)
plain_stays w (negsuc n) within = cc

chosen : (b : Bool) (x y : ℤ) → b ≡ true → (if b then x else y) ≡ x
chosen true x y e = refl
chosen false x y e = cc

other_chosen : (b : Bool) (x y : ℤ) → b ≡ false → (if b then x else y) ≡ y
other_chosen false x y e = refl
other_chosen true x y e = cc

lt_true : (n H : ℕ) → n < H → nat_lt n H ≡ true
lt_true n H below = grind arith

lt_false : (n H : ℕ) → H ≤ n → nat_lt n H ≡ false
lt_false n H above = grind arith

low_stays : (n H : ℕ) → n < H → (if nat_lt n H then pos n else pos n -ℤ pos (H + H)) ≡ pos n
low_stays n H below = chosen (nat_lt n H) (pos n) (pos n -ℤ pos (H + H)) (lt_true n H below)

high_stays : (n H r : ℕ) → n < H → r ≡ H + H - 1 - n → (if nat_lt r H then pos r else pos r -ℤ pos (H + H)) ≡ negsuc n
high_stays n H r below is = other_chosen (nat_lt r H) (pos r) (pos r -ℤ pos (H + H)) (lt_false r H (omega (arith, below, is))) ∙ omega (arith, ints)

signed_stays : (w H : ℕ) (z : ℤ) → 2 ^ w ≡ H + H → (int_le (pos 0 -ℤ pos H) z && int_le z (pos H -ℤ pos 1)) ≡ true → (if nat_lt (residue w z) H then pos (residue w z) else pos (residue w z) -ℤ pos (H + H)) ≡ z
signed_stays w H (pos n) twice within =
    let ends = both_ends (pos 0 -ℤ pos H) (pos H -ℤ pos 1) (pos n) within in
    let high = ends.1 in
    let low : n < H = omega (arith, ints) in
    let below : n < 2 ^ w = omega (arith, low, twice) in
    ap (λ r. if nat_lt r H then pos r else pos r -ℤ pos (H + H)) (mod-eq_of_lt below) ∙ low_stays n H low
signed_stays w H (negsuc n) twice within =
    let ends = both_ends (pos 0 -ℤ pos H) (pos H -ℤ pos 1) (negsuc n) within in
    let least_ = ends.0 in
    let low : n < H = omega (arith, ints) in
    let below : n < 2 ^ w = omega (arith, low, twice) in
    high_stays n H (residue w (negsuc n)) low (ap (λ r. 2 ^ w - 1 - r) (mod-eq_of_lt below) ∙ ap (λ M. M - 1 - n) twice)

truth_stays : (z : ℤ) → fits kind.Bool z ≡ true → wrap kind.Bool z ≡ z
truth_stays (pos zero) within = refl
truth_stays (pos (suc n)) within =
    let ends = both_ends (pos 0) (pos 1) (pos (suc n)) within in
    let high = ends.1 in
    let one : n ≡ 0 = omega (arith, ints) in
    subst (λ m. wrap kind.Bool (pos (suc m)) ≡ pos (suc m)) (sym one) refl
truth_stays (negsuc n) within = cc

-- a conversion changes no number that is in the range
pub wrap_stays : (k : IntKind) (z : ℤ) → fits k z ≡ true → wrap k z ≡ z
wrap_stays kind.Bool z within = truth_stays z within
wrap_stays kind.Char z within = signed_stays 8 128 z refl within
wrap_stays kind.SChar z within = signed_stays 8 128 z refl within
wrap_stays kind.UChar z within = plain_stays 8 z within
wrap_stays kind.Short z within = signed_stays 16 32768 z refl within
wrap_stays kind.UShort z within = plain_stays 16 z within
wrap_stays kind.Int z within = signed_stays 32 2147483648 z refl within
wrap_stays kind.UInt z within = plain_stays 32 z within
wrap_stays kind.Long z within = signed_stays 64 9223372036854775808 z refl within
wrap_stays kind.ULong z within = plain_stays 64 z within
wrap_stays kind.LLong z within = signed_stays 64 9223372036854775808 z refl within
wrap_stays kind.ULLong z within = plain_stays 64 z within

-- converting twice is converting once
pub wrap_twice : (k : IntKind) (z : ℤ) → wrap k (wrap k z) ≡ wrap k z
wrap_twice k z = wrap_stays k (wrap k z) (wrap_in_range k z)

same_wrapped : (k : IntKind) (x y : ℤ) → is_bool k ≡ false → residue (width_of k) x ≡ residue (width_of k) y → wrap k x ≡ wrap k y
same_wrapped kind.Bool x y other same = cc
same_wrapped kind.Char x y other same = ap (decoded true 8) same
same_wrapped kind.SChar x y other same = ap (decoded true 8) same
same_wrapped kind.UChar x y other same = ap (decoded false 8) same
same_wrapped kind.Short x y other same = ap (decoded true 16) same
same_wrapped kind.UShort x y other same = ap (decoded false 16) same
same_wrapped kind.Int x y other same = ap (decoded true 32) same
same_wrapped kind.UInt x y other same = ap (decoded false 32) same
same_wrapped kind.Long x y other same = ap (decoded true 64) same
same_wrapped kind.ULong x y other same = ap (decoded false 64) same
same_wrapped kind.LLong x y other same = ap (decoded true 64) same
same_wrapped kind.ULLong x y other same = ap (decoded false 64) same

-- it is the only number of the range that is congruent
pub wrap_only : (k : IntKind) (z r : ℤ) → is_bool k ≡ false → fits k r ≡ true → residue (width_of k) r ≡ residue (width_of k) z → r ≡ wrap k z
wrap_only k z r other within same = sym (wrap_stays k r within) ∙ same_wrapped k r z other same
