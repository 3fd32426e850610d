-- Shifts in the greater width of both kinds, cut to the width of the first.
use Rattle.std.proofs.Common.{◌≡◌, ℕ, zero, suc, ◌+◌, ◌-◌, ◌*◌, ◌%◌, ◌/◌, ◌^◌, ◌<◌, ◌≤◌, Bool, true, false, not, ℤ, pos, negsuc, ◌-ℤ◌, ◌*ℤ◌, refl, sym, ap, subst, ◌∙◌, arith, nat_lt, if◌then◌else◌}
use Rattle.std.specs.Int.{int_div_euclid}
use Rattle.std.proofs.lemmas.Nat.{pow_pos, pow-add, mul-mod}
use Rattle.std.proofs.Math.Nat.{mod-eq_of_lt, mod-lt, add-mul-mod_self_right, div-eq_of_lt, div-eq_of_lt-le, div-add-mod, div-lt_iff_lt-mul, div-le_self}
use Rattle.std.proofs.Math.Pow.{mod-mod-pow}
use Rattle.stk_ctype.specs.declared.kind.IntKind.{IntKind}
use Rattle.stk_ctype.specs.declared.kind.IntKind.TheVariants as kind
use Rattle.stk_numbers.specs.declared.operators.ShiftOp.TheVariants.{Left, Right}
use Rattle.stk_numbers.specs.Kinds.{width_of, is_signed, residue, decoded, wrap}
use Rattle.stk_numbers.specs.Values.{bits_of, is_oversized, shifted, shifted_by, shifted_out}
use Rattle.stk_numbers.proofs.Residues.{residue_mul}
use Rattle.stk_numbers.proofs.Wrapping.{wrap_congruent}
use Rattle.stk_terms.specs.Values.{extended, sign_bits}
use Rattle.stk_values.specs.Standing.{stands}
use Rattle.stk_symbols.proofs.Results.{wide_kind}
use Rattle.stk_symbols.proofs.Signs.{halves, half_above, half_below}
use Rattle.stk_symbols.proofs.Sizes.{power_wider}
use Rattle.stk_symbols.proofs.Counts.{IsCount, Plain, Negative, oversized_of, below_zero}

-- cut residues
split : (w W : ℕ) → w ≤ W → 2 ^ W ≡ 2 ^ (W - w) * 2 ^ w
split w W l = (let e : W ≡ W - w + w = omega arith in ap (λ k. 2 ^ k) e) ∙ pow-add 2 (W - w) w

cut_twice : (n w W : ℕ) → w ≤ W → n % 2 ^ W % 2 ^ w ≡ n % 2 ^ w
cut_twice n w W l = (let e : W ≡ W - w + w = omega arith in ap (λ k. n % 2 ^ k % 2 ^ w) e) ∙ mod-mod-pow n (W - w) w

opposite_cut : (M P r q s : ℕ) → 0 < M → r ≡ q * M + s → s < M → q < P → P * M - 1 - r ≡ (M - 1 - s) + (P - 1 - q) * M
opposite_cut M P r q s z e h l =
    let f : (P - 1 - q) * M + q * M + M ≡ P * M = (let g : P - 1 - q + q + 1 ≡ P = omega arith in (let k : (P - 1 - q) * M + q * M + M ≡ (P - 1 - q + q + 1) * M = omega arith in k ∙ ap (λ j. j * M) g)) in
    omega (arith, f, e, h)

pub residue_cut : (w W : ℕ) (z : ℤ) → w ≤ W → residue W z % 2 ^ w ≡ residue w z
residue_cut w W (pos n) l = cut_twice n w W l
residue_cut w W (negsuc n) l =
    let M = 2 ^ w in
    let P = 2 ^ (W - w) in
    let r = n % 2 ^ W in
    let q = r / M in
    let s = r % M in
    let e : r ≡ q * M + s = omega (arith, div-add-mod r M) in
    let b : r < P * M = subst (λ k. r < k) (split w W l) (mod-lt n (pow_pos W)) in
    let lq : q < P = (div-lt_iff_lt-mul (pow_pos w)).1 b in
    ap (λ k. (k - 1 - r) % M) (split w W l)
    ∙ (ap (λ k. k % M) (opposite_cut M P r q s (pow_pos w) e (mod-lt r (pow_pos w)) lq)
    ∙ (add-mul-mod_self_right (M - 1 - s) (P - 1 - q) M
    ∙ (mod-eq_of_lt (let z = pow_pos w in omega (arith, z)) ∙ ap (λ k. M - 1 - k) (cut_twice n w W l))))

-- the left shift
plain_wrap : (k : IntKind) (n C : ℕ) → n < 2 ^ width_of k → C < width_of k → bits_of k (wrap k (stands k n *ℤ pos (2 ^ C))) ≡ residue (width_of k) (stands k n *ℤ pos (2 ^ C))
plain_wrap kind.Bool zero zero h l = refl
plain_wrap kind.Bool (suc zero) zero h l = refl
plain_wrap kind.Bool (suc (suc n)) zero h l = absurd (omega arith)
plain_wrap kind.Bool n (suc C) h l = absurd (omega arith)
plain_wrap kind.Char n C h l = wrap_congruent kind.Char (stands kind.Char n *ℤ pos (2 ^ C)) refl
plain_wrap kind.SChar n C h l = wrap_congruent kind.SChar (stands kind.SChar n *ℤ pos (2 ^ C)) refl
plain_wrap kind.UChar n C h l = wrap_congruent kind.UChar (stands kind.UChar n *ℤ pos (2 ^ C)) refl
plain_wrap kind.Short n C h l = wrap_congruent kind.Short (stands kind.Short n *ℤ pos (2 ^ C)) refl
plain_wrap kind.UShort n C h l = wrap_congruent kind.UShort (stands kind.UShort n *ℤ pos (2 ^ C)) refl
plain_wrap kind.Int n C h l = wrap_congruent kind.Int (stands kind.Int n *ℤ pos (2 ^ C)) refl
plain_wrap kind.UInt n C h l = wrap_congruent kind.UInt (stands kind.UInt n *ℤ pos (2 ^ C)) refl
plain_wrap kind.Long n C h l = wrap_congruent kind.Long (stands kind.Long n *ℤ pos (2 ^ C)) refl
plain_wrap kind.ULong n C h l = wrap_congruent kind.ULong (stands kind.ULong n *ℤ pos (2 ^ C)) refl
plain_wrap kind.LLong n C h l = wrap_congruent kind.LLong (stands kind.LLong n *ℤ pos (2 ^ C)) refl
plain_wrap kind.ULLong n C h l = wrap_congruent kind.ULLong (stands kind.ULLong n *ℤ pos (2 ^ C)) refl

shifted_away : (X C w : ℕ) → w ≤ C → (X * 2 ^ C) % 2 ^ w ≡ 0
shifted_away X C w l =
    let e : X * 2 ^ C ≡ 0 + (X * 2 ^ (C - w)) * 2 ^ w = (let f = split w C l in (let g : X * (2 ^ (C - w) * 2 ^ w) ≡ 0 + (X * 2 ^ (C - w)) * 2 ^ w = omega arith in ap (λ k. X * k) f ∙ g)) in
    ap (λ k. k % 2 ^ w) e ∙ (add-mul-mod_self_right 0 (X * 2 ^ (C - w)) (2 ^ w) ∙ mod-eq_of_lt (pow_pos w))

below_true : (m n : ℕ) → m < n → nat_lt m n ≡ true
below_true m n h = grind arith

below_false : (m n : ℕ) → n ≤ m → nat_lt m n ≡ false
below_false m n h = grind arith

module _ (k : IntKind) (n W C : ℕ) (y : ℤ) (h : n < 2 ^ width_of k) (l : width_of k ≤ W) where
  abbrev w : ℕ
  w = width_of k

  abbrev X : ℕ
  X = residue W (stands k n)

  -- where no bit is left
  gone : w ≤ C → (t : Bool) → (if t then (X * 2 ^ C) % 2 ^ W else 0) % 2 ^ w ≡ 0
  gone g true = cut_twice (X * 2 ^ C) w W l ∙ shifted_away X C w g
  gone g false = mod-eq_of_lt (pow_pos w)

  kept : C < w → (if nat_lt C W then (X * 2 ^ C) % 2 ^ W else 0) % 2 ^ w ≡ residue w (stands k n *ℤ pos (2 ^ C))
  kept g =
      ap (λ t. (if t then (X * 2 ^ C) % 2 ^ W else 0) % 2 ^ w) (below_true C W (omega arith))
      ∙ (cut_twice (X * 2 ^ C) w W l
      ∙ (mul-mod X (2 ^ C) (2 ^ w)
      ∙ ((λ i. (residue_cut w W (stands k n) l i * (2 ^ C % 2 ^ w)) % 2 ^ w) ∙ sym (residue_mul w (stands k n) (pos (2 ^ C))))))

  zero_bits : residue w (pos 0) ≡ 0
  zero_bits = mod-eq_of_lt (pow_pos w)

  plain_left : C < 2 ^ W → (t : Bool) → nat_lt C w ≡ t → (if nat_lt C W then (X * 2 ^ C) % 2 ^ W else 0) % 2 ^ w ≡ bits_of k (shifted Left k (stands k n) (pos C))
  plain_left b true f =
      let o : is_oversized k (pos C) ≡ false = sym (oversized_of k W (pos C) C l (Plain refl b)) ∙ ap not f in
      kept (half_below C w f) ∙ (sym (plain_wrap k n C h (half_below C w f)) ∙ ap (λ t. bits_of k (if t then pos 0 else shifted_by Left k (stands k n) C)) (sym o))
  plain_left b false f =
      let o : is_oversized k (pos C) ≡ true = sym (oversized_of k W (pos C) C l (Plain refl b)) ∙ ap not f in
      gone (half_above C w f) (nat_lt C W) ∙ (sym zero_bits ∙ ap (λ t. bits_of k (if t then pos 0 else shifted_by Left k (stands k n) C)) (sym o))

  pub left_bits : IsCount W y C → (if nat_lt C W then (X * 2 ^ C) % 2 ^ W else 0) % 2 ^ w ≡ bits_of k (shifted Left k (stands k n) y)
  left_bits (Plain e b) = plain_left b (nat_lt C w) refl ∙ ap (λ u. bits_of k (shifted Left k (stands k n) u)) (sym e)
  left_bits (Negative m e g) = gone (omega (arith, l, g)) (nat_lt C W) ∙ (sym zero_bits ∙ ap (λ u. bits_of k (shifted Left k (stands k n) u)) (sym e))

-- a number shifted to the right: of w bits, in the greater width W, by C bits
module _ (w W n C : ℕ) (o : 1 ≤ w) (l : w ≤ W) (h : n < 2 ^ w) where
  -- without a sign
  pub plain_right : (if nat_lt C W then n / 2 ^ C else 0) % 2 ^ w ≡ residue w (int_div_euclid (pos n) (pos (2 ^ C)))
  plain_right = by (nat_lt C W) refl
    where
      by : (t : Bool) → nat_lt C W ≡ t → (if t then n / 2 ^ C else 0) % 2 ^ w ≡ n / 2 ^ C % 2 ^ w
      by true e = refl
      by false e =
          let g = half_above C W e in
          let b : n < 2 ^ C = omega (arith, h, power_wider w C (omega (arith, g, l))) in
          ap (λ q. q % 2 ^ w) (sym (div-eq_of_lt b))

  half_split : C < W → 2 ^ (W - 1) ≡ 2 ^ (W - C - 1) * 2 ^ C
  half_split g = split C (W - 1) (omega arith) ∙ (let e : W - 1 - C ≡ W - C - 1 = omega arith in ap (λ k. 2 ^ k * 2 ^ C) e)

  -- a number whose top bit is 0
  plus_right : n < 2 ^ (w - 1) → (t : Bool) → nat_lt C W ≡ t → (if t then extended (W - C) W (n / 2 ^ C) else sign_bits W n) % 2 ^ w ≡ n / 2 ^ C % 2 ^ w
  plus_right p true e =
      let g = half_below C W e in
      let q : n < 2 ^ (W - C - 1) * 2 ^ C = subst (λ k. n < k) (half_split g) (omega (arith, p, power_wider (w - 1) (W - 1) (omega arith))) in
      let r : n / 2 ^ C < 2 ^ (W - C - 1) = (div-lt_iff_lt-mul (pow_pos C)).1 q in
      ap (λ t. (if t then n / 2 ^ C else n / 2 ^ C + (2 ^ W - 2 ^ (W - C))) % 2 ^ w) (below_true (n / 2 ^ C) (2 ^ (W - C - 1)) r)
  plus_right p false e =
      let g = half_above C W e in
      let b : n < 2 ^ C = omega (arith, h, power_wider w C (omega (arith, g, l))) in
      let q : n < 2 ^ (W - 1) = omega (arith, p, power_wider (w - 1) (W - 1) (omega arith)) in
      ap (λ t. (if t then 0 else 2 ^ W - 1) % 2 ^ w) (below_true n (2 ^ (W - 1)) q) ∙ ap (λ q. q % 2 ^ w) (sym (div-eq_of_lt b))

-- the bits of a complement shifted to the right
complement : (P D a : ℕ) → 0 < D → a < P * D → (P * D - 1 - a) / D ≡ P - 1 - a / D
complement P D a z h =
    let q = a / D in
    let e : a ≡ q * D + a % D = omega (arith, div-add-mod a D) in
    let r = mod-lt a z in
    let lq : q < P = (div-lt_iff_lt-mul z).1 h in
    let f : (P - 1 - q) * D + q * D + D ≡ P * D = (let g : P - 1 - q + q + 1 ≡ P = omega arith in (let k : (P - 1 - q) * D + q * D + D ≡ (P - 1 - q + q + 1) * D = omega arith in k ∙ ap (λ j. j * D) g)) in
    let u : (P - 1 - q + 1) * D ≡ (P - 1 - q) * D + D = omega arith in
    div-eq_of_lt-le {k = P - 1 - q} D (omega (arith, e, r, f)) (omega (arith, e, r, f, u))

-- a negative number, one less than minus a, shifted to the right with its sign
module _ (w W a C : ℕ) (o : 1 ≤ w) (l : w ≤ W) (h : a < 2 ^ (w - 1)) where
  abbrev Y : ℕ
  Y = 2 ^ W - 1 - a

  small : a < 2 ^ (W - 1)
  small = omega (arith, h, power_wider (w - 1) (W - 1) (omega arith))

  same_floor : 2 ^ W - 1 - a / 2 ^ C ≡ residue W (negsuc (a / 2 ^ C))
  same_floor =
      let f = halves W (omega arith) in
      let s = small in
      let d = div-le_self a (2 ^ C) in
      ap (λ k. 2 ^ W - 1 - k) (sym (mod-eq_of_lt (omega (arith, f, s, d))))

  minus_number : (t : Bool) → nat_lt C W ≡ t → (if t then extended (W - C) W (Y / 2 ^ C) else sign_bits W Y) ≡ residue W (negsuc (a / 2 ^ C))
  minus_number true e =
      let g = half_below C W e in
      let P = 2 ^ (W - C) in
      let D = 2 ^ C in
      let z = pow_pos C in
      let sp : 2 ^ W ≡ P * D = split C W (omega arith) in
      let f = halves W (omega arith) in
      let fp : P ≡ 2 ^ (W - C - 1) + 2 ^ (W - C - 1) = halves (W - C) (omega arith) in
      let s = small in
      let ab : a < P * D = omega (arith, s, f, sp) in
      let c : Y / D ≡ P - 1 - a / D = ap (λ k. (k - 1 - a) / D) sp ∙ complement P D a z ab in
      let hs : 2 ^ (W - 1) ≡ 2 ^ (W - C - 1) * D = half_split w W 0 C o l (pow_pos w) g in
      let q : a / D < 2 ^ (W - C - 1) = (div-lt_iff_lt-mul z).1 (subst (λ k. a < k) hs s) in
      let lp : P ≤ 2 ^ W = power_wider (W - C) W (omega arith) in
      ap (λ t. if t then Y / D else Y / D + (2 ^ W - P)) (below_false (Y / D) (2 ^ (W - C - 1)) (omega (arith, c, fp, q)))
      ∙ ((let x : Y / D + (2 ^ W - P) ≡ 2 ^ W - 1 - a / D = omega (arith, c, fp, q, lp) in x) ∙ same_floor)
  minus_number false e =
      let g = half_above C W e in
      let f = halves W (omega arith) in
      let s = small in
      let b : a < 2 ^ C = omega (arith, s, power_wider (W - 1) C (omega arith)) in
      let zero_left : a / 2 ^ C ≡ 0 = div-eq_of_lt b in
      ap (λ t. if t then 0 else 2 ^ W - 1) (below_false Y (2 ^ (W - 1)) (omega (arith, s, f)))
      ∙ ((let x : 2 ^ W - 1 ≡ 2 ^ W - 1 - a / 2 ^ C = omega (arith, zero_left) in x) ∙ same_floor)

  pub minus_right : (if nat_lt C W then extended (W - C) W (Y / 2 ^ C) else sign_bits W Y) % 2 ^ w ≡ residue w (negsuc (a / 2 ^ C))
  minus_right = ap (λ q. q % 2 ^ w) (minus_number (nat_lt C W) refl) ∙ residue_cut w W (negsuc (a / 2 ^ C)) l

-- what shifts to the right round down to, as the table has it
module _ (k : IntKind) (W C : ℕ) (y : ℤ) (l : width_of k ≤ W) where
  plus_out : (n : ℕ) → n < 2 ^ width_of k → width_of k ≤ C → residue (width_of k) (pos (n / 2 ^ C)) ≡ bits_of k (shifted_out Right (pos n))
  plus_out n h g =
      ap (λ q. q % 2 ^ width_of k) (div-eq_of_lt (omega (arith, h, power_wider (width_of k) C g)))
      ∙ ap (λ t. bits_of k (if t then negsuc 0 else pos 0)) (sym (below_false n 0 (omega arith)))

  minus_out : (a : ℕ) → a < 2 ^ (width_of k - 1) → width_of k ≤ C → residue (width_of k) (negsuc (a / 2 ^ C)) ≡ bits_of k (shifted_out Right (negsuc a))
  minus_out a h g = ap (λ q. residue (width_of k) (negsuc q)) (div-eq_of_lt (omega (arith, h, power_wider (width_of k - 1) C (omega arith))))

  floors : (x : ℤ) → (width_of k ≤ C → residue (width_of k) (int_div_euclid x (pos (2 ^ C))) ≡ bits_of k (shifted_out Right x)) → IsCount W y C → residue (width_of k) (int_div_euclid x (pos (2 ^ C))) ≡ bits_of k (shifted Right k x y)
  floors x out (Plain e b) = by (nat_lt C (width_of k)) refl ∙ ap (λ u. bits_of k (shifted Right k x u)) (sym e)
    where
      by : (t : Bool) → nat_lt C (width_of k) ≡ t → residue (width_of k) (int_div_euclid x (pos (2 ^ C))) ≡ bits_of k (shifted Right k x (pos C))
      by true f =
          let o : is_oversized k (pos C) ≡ false = sym (oversized_of k W (pos C) C l (Plain refl b)) ∙ ap not f in
          ap (λ t. bits_of k (if t then shifted_out Right x else shifted_by Right k x C)) (sym o)
      by false f =
          let o : is_oversized k (pos C) ≡ true = sym (oversized_of k W (pos C) C l (Plain refl b)) ∙ ap not f in
          out (half_above C (width_of k) f) ∙ ap (λ t. bits_of k (if t then shifted_out Right x else shifted_by Right k x C)) (sym o)
  floors x out (Negative m e g) = out (omega (arith, l, g)) ∙ ap (λ u. bits_of k (shifted Right k x u)) (sym e)

  pub right_plain : (n : ℕ) → is_signed k ≡ false → n < 2 ^ width_of k → IsCount W y C → (if nat_lt C W then residue W (stands k n) / 2 ^ C else 0) % 2 ^ width_of k ≡ bits_of k (shifted Right k (stands k n) y)
  right_plain n s h c =
      let e : stands k n ≡ pos n = ap (λ t. decoded t (width_of k) n) s in
      let r : residue W (stands k n) ≡ n = ap (residue W) e ∙ mod-eq_of_lt (omega (arith, h, power_wider (width_of k) W l)) in
      ap (λ u. (if nat_lt C W then u / 2 ^ C else 0) % 2 ^ width_of k) r
      ∙ (plain_right (width_of k) W n C (wide_kind k) l h
      ∙ (floors (pos n) (plus_out n h) c ∙ ap (λ x. bits_of k (shifted Right k x y)) (sym e)))

  pub right_signed : (n : ℕ) → is_signed k ≡ true → n < 2 ^ width_of k → IsCount W y C → (if nat_lt C W then extended (W - C) W (residue W (stands k n) / 2 ^ C) else sign_bits W (residue W (stands k n))) % 2 ^ width_of k ≡ bits_of k (shifted Right k (stands k n) y)
  right_signed n s h c = by (nat_lt n (2 ^ (width_of k - 1))) refl
    where
      by : (t : Bool) → nat_lt n (2 ^ (width_of k - 1)) ≡ t → (if nat_lt C W then extended (W - C) W (residue W (stands k n) / 2 ^ C) else sign_bits W (residue W (stands k n))) % 2 ^ width_of k ≡ bits_of k (shifted Right k (stands k n) y)
      by true f =
          let e : stands k n ≡ pos n = ap (λ t. decoded t (width_of k) n) s ∙ ap (λ t. if t then pos n else pos n -ℤ pos (2 ^ width_of k)) f in
          let r : residue W (stands k n) ≡ n = ap (residue W) e ∙ mod-eq_of_lt (omega (arith, h, power_wider (width_of k) W l)) in
          ap (λ u. (if nat_lt C W then extended (W - C) W (u / 2 ^ C) else sign_bits W u) % 2 ^ width_of k) r
          ∙ (plus_right (width_of k) W n C (wide_kind k) l h (half_below n (2 ^ (width_of k - 1)) f) (nat_lt C W) refl
          ∙ (floors (pos n) (plus_out n h) c ∙ ap (λ x. bits_of k (shifted Right k x y)) (sym e)))
      by false f =
          let g = half_above n (2 ^ (width_of k - 1)) f in
          let v = halves (width_of k) (wide_kind k) in
          let a = 2 ^ width_of k - 1 - n in
          let b : a < 2 ^ (width_of k - 1) = omega (arith, g, v, h) in
          let p = power_wider (width_of k) W l in
          let e : stands k n ≡ negsuc a = ap (λ t. decoded t (width_of k) n) s ∙ (ap (λ t. if t then pos n else pos n -ℤ pos (2 ^ width_of k)) f ∙ below_zero n (2 ^ width_of k) h) in
          let r : residue W (stands k n) ≡ 2 ^ W - 1 - a = ap (residue W) e ∙ ap (λ q. 2 ^ W - 1 - q) (mod-eq_of_lt (omega (arith, b, v, p))) in
          ap (λ u. (if nat_lt C W then extended (W - C) W (u / 2 ^ C) else sign_bits W u) % 2 ^ width_of k) r
          ∙ (minus_right (width_of k) W a C (wide_kind k) l b
          ∙ (floors (negsuc a) (minus_out a b) c ∙ ap (λ x. bits_of k (shifted Right k x y)) (sym e)))
