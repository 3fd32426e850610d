-- Overflow of sums and differences by sign bits.
use Rattle.std.proofs.Common.{◌≡◌, ℕ, zero, suc, ◌+◌, ◌-◌, ◌*◌, ◌%◌, ◌^◌, ◌<◌, ◌≤◌, Bool, true, false, not, ◌&&◌, ℤ, pos, ◌+ℤ◌, ◌-ℤ◌, refl, sym, ap, subst, ◌∙◌, arith, if◌then◌else◌, nat_lt}
use Rattle.std.specs.Ordering.{int_eq}
use mathlib.Core.Logic.{◌⊎◌, inl, inr}
use Rattle.std.proofs.lemmas.Int.{ints}
use Rattle.std.proofs.lemmas.Nat.{pow_pos}
use Rattle.std.proofs.Math.Nat.{mod-lt, mod-eq_of_lt, add-mul-mod_self_right, pow-suc}
use Rattle.stk_numbers.specs.Kinds.{residue, decoded}
use Rattle.stk_numbers.proofs.Residues.{residue_add, residue_sub, residue_decoded}
use Rattle.stk_symbols.specs.Standing.{same}

-- what bits of half H stand for
abbrev pub signed_by : ℕ → ℕ → ℤ
signed_by H n = if nat_lt n H then pos n else pos n -ℤ pos (H + H)

differs : (x y : ℤ) → (x ≡ y → ⊥) → not (int_eq x y) ≡ true
differs x y h = grind (arith, ints)

agrees : (x y : ℤ) → x ≡ y → not (int_eq x y) ≡ false
agrees x y h = grind (arith, ints)

-- below the half or not
abbrev Half : Bool → ℕ → ℕ → Type 0
Half true n H = n < H
Half false n H = H ≤ n

half : (n H : ℕ) → Half (nat_lt n H) n H
half n H = by (nat_lt n H) refl
  where
    by : (b : Bool) → nat_lt n H ≡ b → Half b n H
    by true e = grind arith
    by false e = grind arith

abbrev Z : ℕ → Bool → ℕ → ℤ
Z H b n = if b then pos n else pos n -ℤ pos (H + H)

over_sum : (H a b r : ℕ) → a < H + H → b < H + H → r < H + H → (r ≡ a + b) ⊎ (r + (H + H) ≡ a + b) → (p q s : Bool) → Half p a H → Half q b H → Half s r H → not (int_eq (Z H p a +ℤ Z H q b) (Z H s r)) ≡ (same p q && not (same p s))
over_sum H a b r h k l (inl e) true true true x y z = agrees (pos a +ℤ pos b) (pos r) (omega (arith, ints))
over_sum H a b r h k l (inl e) true true false x y z = differs (pos a +ℤ pos b) ((pos r -ℤ pos (H + H))) (λ h. omega (arith, ints))
over_sum H a b r h k l (inl e) true false true x y z = agrees (pos a +ℤ (pos b -ℤ pos (H + H))) (pos r) (omega (arith, ints))
over_sum H a b r h k l (inl e) true false false x y z = agrees (pos a +ℤ (pos b -ℤ pos (H + H))) ((pos r -ℤ pos (H + H))) (omega (arith, ints))
over_sum H a b r h k l (inl e) false true true x y z = agrees ((pos a -ℤ pos (H + H)) +ℤ pos b) (pos r) (omega (arith, ints))
over_sum H a b r h k l (inl e) false true false x y z = agrees ((pos a -ℤ pos (H + H)) +ℤ pos b) ((pos r -ℤ pos (H + H))) (omega (arith, ints))
over_sum H a b r h k l (inl e) false false true x y z = differs ((pos a -ℤ pos (H + H)) +ℤ (pos b -ℤ pos (H + H))) (pos r) (λ h. omega (arith, ints))
over_sum H a b r h k l (inl e) false false false x y z = agrees ((pos a -ℤ pos (H + H)) +ℤ (pos b -ℤ pos (H + H))) ((pos r -ℤ pos (H + H))) (omega (arith, ints))
over_sum H a b r h k l (inr e) true true true x y z = agrees (pos a +ℤ pos b) (pos r) (omega (arith, ints))
over_sum H a b r h k l (inr e) true true false x y z = differs (pos a +ℤ pos b) ((pos r -ℤ pos (H + H))) (λ h. omega (arith, ints))
over_sum H a b r h k l (inr e) true false true x y z = agrees (pos a +ℤ (pos b -ℤ pos (H + H))) (pos r) (omega (arith, ints))
over_sum H a b r h k l (inr e) true false false x y z = agrees (pos a +ℤ (pos b -ℤ pos (H + H))) ((pos r -ℤ pos (H + H))) (omega (arith, ints))
over_sum H a b r h k l (inr e) false true true x y z = agrees ((pos a -ℤ pos (H + H)) +ℤ pos b) (pos r) (omega (arith, ints))
over_sum H a b r h k l (inr e) false true false x y z = agrees ((pos a -ℤ pos (H + H)) +ℤ pos b) ((pos r -ℤ pos (H + H))) (omega (arith, ints))
over_sum H a b r h k l (inr e) false false true x y z = differs ((pos a -ℤ pos (H + H)) +ℤ (pos b -ℤ pos (H + H))) (pos r) (λ h. omega (arith, ints))
over_sum H a b r h k l (inr e) false false false x y z = agrees ((pos a -ℤ pos (H + H)) +ℤ (pos b -ℤ pos (H + H))) ((pos r -ℤ pos (H + H))) (omega (arith, ints))

over_difference : (H a b r : ℕ) → a < H + H → b < H + H → r < H + H → (r + b ≡ a) ⊎ (r + b ≡ a + (H + H)) → (p q s : Bool) → Half p a H → Half q b H → Half s r H → not (int_eq (Z H p a -ℤ Z H q b) (Z H s r)) ≡ (not (same p q) && not (same p s))
over_difference H a b r h k l (inl e) true true true x y z = agrees (pos a -ℤ pos b) (pos r) (omega (arith, ints))
over_difference H a b r h k l (inl e) true true false x y z = agrees (pos a -ℤ pos b) ((pos r -ℤ pos (H + H))) (omega (arith, ints))
over_difference H a b r h k l (inl e) true false true x y z = agrees (pos a -ℤ (pos b -ℤ pos (H + H))) (pos r) (omega (arith, ints))
over_difference H a b r h k l (inl e) true false false x y z = differs (pos a -ℤ (pos b -ℤ pos (H + H))) ((pos r -ℤ pos (H + H))) (λ h. omega (arith, ints))
over_difference H a b r h k l (inl e) false true true x y z = differs ((pos a -ℤ pos (H + H)) -ℤ pos b) (pos r) (λ h. omega (arith, ints))
over_difference H a b r h k l (inl e) false true false x y z = agrees ((pos a -ℤ pos (H + H)) -ℤ pos b) ((pos r -ℤ pos (H + H))) (omega (arith, ints))
over_difference H a b r h k l (inl e) false false true x y z = agrees ((pos a -ℤ pos (H + H)) -ℤ (pos b -ℤ pos (H + H))) (pos r) (omega (arith, ints))
over_difference H a b r h k l (inl e) false false false x y z = agrees ((pos a -ℤ pos (H + H)) -ℤ (pos b -ℤ pos (H + H))) ((pos r -ℤ pos (H + H))) (omega (arith, ints))
over_difference H a b r h k l (inr e) true true true x y z = agrees (pos a -ℤ pos b) (pos r) (omega (arith, ints))
over_difference H a b r h k l (inr e) true true false x y z = agrees (pos a -ℤ pos b) ((pos r -ℤ pos (H + H))) (omega (arith, ints))
over_difference H a b r h k l (inr e) true false true x y z = agrees (pos a -ℤ (pos b -ℤ pos (H + H))) (pos r) (omega (arith, ints))
over_difference H a b r h k l (inr e) true false false x y z = differs (pos a -ℤ (pos b -ℤ pos (H + H))) ((pos r -ℤ pos (H + H))) (λ h. omega (arith, ints))
over_difference H a b r h k l (inr e) false true true x y z = differs ((pos a -ℤ pos (H + H)) -ℤ pos b) (pos r) (λ h. omega (arith, ints))
over_difference H a b r h k l (inr e) false true false x y z = agrees ((pos a -ℤ pos (H + H)) -ℤ pos b) ((pos r -ℤ pos (H + H))) (omega (arith, ints))
over_difference H a b r h k l (inr e) false false true x y z = agrees ((pos a -ℤ pos (H + H)) -ℤ (pos b -ℤ pos (H + H))) (pos r) (omega (arith, ints))
over_difference H a b r h k l (inr e) false false false x y z = agrees ((pos a -ℤ pos (H + H)) -ℤ (pos b -ℤ pos (H + H))) ((pos r -ℤ pos (H + H))) (omega (arith, ints))

pub over_add : (H a b r : ℕ) → a < H + H → b < H + H → r < H + H → (r ≡ a + b) ⊎ (r + (H + H) ≡ a + b) → not (int_eq (signed_by H a +ℤ signed_by H b) (signed_by H r)) ≡ (same (nat_lt a H) (nat_lt b H) && not (same (nat_lt a H) (nat_lt r H)))
over_add H a b r h k l e = over_sum H a b r h k l e (nat_lt a H) (nat_lt b H) (nat_lt r H) (half a H) (half b H) (half r H)

pub over_sub : (H a b r : ℕ) → a < H + H → b < H + H → r < H + H → (r + b ≡ a) ⊎ (r + b ≡ a + (H + H)) → not (int_eq (signed_by H a -ℤ signed_by H b) (signed_by H r)) ≡ (not (same (nat_lt a H) (nat_lt b H)) && not (same (nat_lt a H) (nat_lt r H)))
over_sub H a b r h k l e = over_difference H a b r h k l e (nat_lt a H) (nat_lt b H) (nat_lt r H) (half a H) (half b H) (half r H)

pub halves : (w : ℕ) → 1 ≤ w → 2 ^ w ≡ 2 ^ (w - 1) + 2 ^ (w - 1)
halves zero h = absurd (omega arith)
halves (suc w) h = let e : suc w - 1 ≡ w = omega arith in rw e (pow-suc 2 w ∙ omega arith)

signed_as : (w n : ℕ) → 1 ≤ w → decoded true w n ≡ signed_by (2 ^ (w - 1)) n
signed_as w n h = ap (λ M. if nat_lt n (2 ^ (w - 1)) then pos n else pos n -ℤ pos M) (halves w h)

pub half_below : (s M : ℕ) → nat_lt s M ≡ true → s < M
half_below s M e = grind arith

pub half_above : (s M : ℕ) → nat_lt s M ≡ false → M ≤ s
half_above s M e = grind arith

sub_one : (s M : ℕ) → M ≤ s → s < M + M → s % M + M ≡ s
sub_one s M h k =
    let e : (s - M) + 1 * M ≡ s = omega arith in
    let f : s % M ≡ s - M = ap (λ n. n % M) (sym e) ∙ (add-mul-mod_self_right (s - M) 1 M ∙ mod-eq_of_lt (omega arith)) in
    omega (arith, f)

borrowed : (M n m r : ℕ) → n < M → m < M → (r ≡ n + (M - m)) ⊎ (r + M ≡ n + (M - m)) → (r + m ≡ n) ⊎ (r + m ≡ n + M)
borrowed M n m r h k (inl e) = inr (omega arith)
borrowed M n m r h k (inr e) = inl (omega arith)

wrapped : (M s : ℕ) → s < M + M → (s % M ≡ s) ⊎ (s % M + M ≡ s)
wrapped M s h = by (nat_lt s M) refl
  where
    by : (b : Bool) → nat_lt s M ≡ b → (s % M ≡ s) ⊎ (s % M + M ≡ s)
    by true e = inl (mod-eq_of_lt (half_below s M e))
    by false e = let k : M ≤ s = half_above s M e in inr (sub_one s M k h)

-- a sum overflows where its operands have one sign and the result has the other
pub sum_breaks : (w n m : ℕ) → 1 ≤ w → n < 2 ^ w → m < 2 ^ w → not (int_eq (decoded true w n +ℤ decoded true w m) (decoded true w (residue w (decoded true w n +ℤ decoded true w m)))) ≡ (same (nat_lt n (2 ^ (w - 1))) (nat_lt m (2 ^ (w - 1))) && not (same (nat_lt n (2 ^ (w - 1))) (nat_lt ((n + m) % 2 ^ w) (2 ^ (w - 1)))))
sum_breaks w n m o h k =
    let H = 2 ^ (w - 1) in
    let e = halves w o in
    let r = (n + m) % 2 ^ w in
    let rl : r < H + H = subst (λ M. r < M) e (mod-lt (n + m) (pow_pos w)) in
    let nl : n < H + H = subst (λ M. n < M) e h in
    let ml : m < H + H = subst (λ M. m < M) e k in
    let res : residue w (decoded true w n +ℤ decoded true w m) ≡ r = residue_add w _ _ ∙ (λ i. (residue_decoded true w n h i + residue_decoded true w m k i) % 2 ^ w) in
    let c : (r ≡ n + m) ⊎ (r + (H + H) ≡ n + m) = subst (λ M. (r ≡ n + m) ⊎ (r + M ≡ n + m)) e (wrapped (2 ^ w) (n + m) (omega arith)) in
    (λ i. not (int_eq (signed_as w n o i +ℤ signed_as w m o i) (signed_as w (residue w (decoded true w n +ℤ decoded true w m)) o i)))
    ∙ (ap (λ j. not (int_eq (signed_by H n +ℤ signed_by H m) (signed_by H j))) res ∙ over_add H n m r nl ml rl c)

pub difference_breaks : (w n m : ℕ) → 1 ≤ w → n < 2 ^ w → m < 2 ^ w → not (int_eq (decoded true w n -ℤ decoded true w m) (decoded true w (residue w (decoded true w n -ℤ decoded true w m)))) ≡ (not (same (nat_lt n (2 ^ (w - 1))) (nat_lt m (2 ^ (w - 1)))) && not (same (nat_lt n (2 ^ (w - 1))) (nat_lt ((n + (2 ^ w - m)) % 2 ^ w) (2 ^ (w - 1)))))
difference_breaks w n m o h k =
    let H = 2 ^ (w - 1) in
    let e = halves w o in
    let r = (n + (2 ^ w - m)) % 2 ^ w in
    let rl : r < H + H = subst (λ M. r < M) e (mod-lt (n + (2 ^ w - m)) (pow_pos w)) in
    let nl : n < H + H = subst (λ M. n < M) e h in
    let ml : m < H + H = subst (λ M. m < M) e k in
    let res : residue w (decoded true w n -ℤ decoded true w m) ≡ r = residue_sub w _ _ ∙ (λ i. (residue_decoded true w n h i + (2 ^ w - residue_decoded true w m k i)) % 2 ^ w) in
    let c : (r + m ≡ n) ⊎ (r + m ≡ n + (H + H)) = subst (λ M. (r + m ≡ n) ⊎ (r + m ≡ n + M)) e (borrowed (2 ^ w) n m r h k (wrapped (2 ^ w) (n + (2 ^ w - m)) (omega arith))) in
    (λ i. not (int_eq (signed_as w n o i -ℤ signed_as w m o i) (signed_as w (residue w (decoded true w n -ℤ decoded true w m)) o i)))
    ∙ (ap (λ j. not (int_eq (signed_by H n -ℤ signed_by H m) (signed_by H j))) res ∙ over_sub H n m r nl ml rl c)
