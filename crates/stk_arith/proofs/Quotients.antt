-- The places of a long division.
use Rattle.std.proofs.Common.{◌≡◌, ◌==◌, ℕ, zero, suc, ◌+◌, ◌-◌, ◌*◌, ◌/◌, ◌%◌, ◌<◌, ◌≤◌, Bool, true, false, not, ◌&&◌, ◌||◌, if◌then◌else◌, nat_lt, nat_eq, List, length, drop, get_or, set, refl, sym, ap, ◌∙◌, subst, arith, mul_assoc, eqb-true}
use Rattle.std.proofs.lemmas.List.{drop-set, drop_all, get_or-set_same, get_or-set_other}
use Rattle.std.proofs.lemmas.Nat.{div-mul-add, mod-mul-add}
use Rattle.std.proofs.lemmas.Bool.{le-ltb, lt-ltb, eqb-false}
use Rattle.std.proofs.Math.Nat.{mul-add, add-mul, mul_left_comm, mul-zero, mul-suc}
use Rattle.stk_gates.specs.declared.edge.Edge.{Edge}
use Rattle.stk_gates.specs.Edges.{edge_value}
use Rattle.stk_arith.specs.Rows.{bit, number}
use Rattle.stk_arith.proofs.Numbers.{bit_below, number-drop_more}
use Rattle.stk_arith.specs.Division.{IsTaken, IsDivided}

-- what a difference says of a divisor with further places, of which some is true where some is
pub taken : (d low high x p r : ℕ) (carry some : Bool) → some ≡ nat_lt 0 high → d + low + p * bit carry ≡ x + p → d < p → x < p → r ≡ (if carry && not some then d else x) → IsTaken x (low + p * high) (carry && not some) r
taken d low zero x p r carry true e is ld lx has = let none : true ≡ false = e in record { took = cc; short = λ h. cc }
taken d low (suc high) x p r carry false e is ld lx has = let none : false ≡ true = e ∙ lt-ltb 0 (suc high) (omega arith) in record { took = cc; short = λ h. cc }
taken d low zero x p r true false e is ld lx has = let none = mul-zero p in record { took = omega arith; short = λ h. cc }
taken d low zero x p r false false e is ld lx has = let none = mul-zero p in let less : x < low + p * 0 = omega arith in record { took = omega arith; short = λ h. less }
taken d low (suc high) x p r true true e is ld lx has = let more = mul-suc p high in let less : x < low + p * suc high = omega arith in record { took = omega arith; short = λ h. less }
taken d low (suc high) x p r false true e is ld lx has = let more = mul-suc p high in let less : x < low + p * suc high = omega arith in record { took = omega arith; short = λ h. less }

pub next_quotient : (x t b q r new : ℕ) (k : Bool) → IsDivided t b q r → x < 2 → IsTaken (x + 2 * r) b k new → IsDivided (x + 2 * t) b (bit k + 2 * q) new
next_quotient x t b q r new k h lx took =
    let whole = h.whole in
    let step = took.took in
    let product : (bit k + 2 * q) * b ≡ bit k * b + 2 * (q * b) = add-mul (bit k) (2 * q) b ∙ ap (λ n. bit k * b + n) (mul_assoc 2 q b) in
    record { whole = omega arith; less = λ pos. by k took (h.less pos) pos }
  where
    by : (k : Bool) → IsTaken (x + 2 * r) b k new → r < b → 0 < b → new < b
    by true u l pos = let e = u.took in omega arith
    by false u l pos = let e = u.took in let s = u.short refl in omega arith

pub quotient_is : (a b q r : ℕ) → IsDivided a b q r → bit (nat_lt 0 b) * q ≡ (if b == 0 then 0 else a / b)
quotient_is a b q r h = by (nat_eq b 0) refl
  where
    by : (v : Bool) → nat_eq b 0 ≡ v → bit (nat_lt 0 b) * q ≡ (if v then 0 else a / b)
    by true e = let zero_b = eqb-true b 0 e in let none : b ≤ 0 = omega arith in ap (λ v. bit v * q) (le-ltb 0 b none) ∙ omega arith
    by false e = let some = eqb-false b 0 e in let pos : 0 < b = omega arith in ap (λ v. bit v * q) (lt-ltb 0 b pos) ∙ (let one : 1 * q ≡ q = omega arith in one ∙ sym (ap (λ n. n / b) h.whole ∙ div-mul-add q b r (h.less pos)))

pub rest_is : (a b q r : ℕ) → IsDivided a b q r → r ≡ (if b == 0 then a else a % b)
rest_is a b q r h = by (nat_eq b 0) refl
  where
    by : (v : Bool) → nat_eq b 0 ≡ v → r ≡ (if v then a else a % b)
    by true e = let whole = h.whole in let none : q * b ≡ q * 0 = ap (λ n. q * n) (eqb-true b 0 e) in let zero_q = mul-zero q in omega arith
    by false e = let some = eqb-false b 0 e in let pos : 0 < b = omega arith in sym (ap (λ n. n % b) h.whole ∙ mod-mul-add q b r (h.less pos))

pub more_places : (k n old now new each : ℕ) → n ≡ k + 1 → now ≤ old + k * each → new ≤ now + each → new ≤ old + n * each
more_places k n old now new each e before grows = let all : n * each ≡ k * each + 1 * each = ap (λ m. m * each) e ∙ add-mul k 1 each in omega arith

pub fourteen : (w new old : ℕ) → new ≤ old + (w * (12 * w + 9) + w + w) → new ≤ old + (14 * w * w + 20 * w)
fourteen w new old h =
    let first : w * (12 * w + 9) ≡ w * (12 * w) + w * 9 = mul-add w (12 * w) 9 in
    let second : w * (12 * w) ≡ 12 * (w * w) = mul_left_comm w 12 w in
    let third : 14 * w * w ≡ 14 * (w * w) = mul_assoc 14 w w in
    omega arith

module _ (gates : ℕ → Bool) where
  pub divided_step : (a q b rest new : List Edge) (k i : ℕ) (d e : Edge) → k < length a → i ≡ length a - 1 - k → length q ≡ length a
      → IsDivided (number gates (drop (length a - k) a)) (number gates b) (number gates (drop (length a - k) q)) (number gates rest)
      → IsTaken (bit (edge_value gates (get_or a i d)) + 2 * number gates rest) (number gates b) (edge_value gates e) (number gates new)
      → IsDivided (number gates (drop (length a - (k + 1)) a)) (number gates b) (number gates (drop (length a - (k + 1)) (set q i e))) (number gates new)
  divided_step a q b rest new k i d e lk is lq before took =
      let here : i ≡ length a - (k + 1) = omega arith in
      let above : i + 1 ≡ length a - k = omega arith in
      let within : i < length a = omega arith in
      let within_q : i < length q = omega arith in
      let x = bit (edge_value gates (get_or a i d)) in
      let t = number gates (drop (i + 1) a) in
      let old : IsDivided t (number gates b) (number gates (drop (i + 1) q)) (number gates rest) = subst (λ n. IsDivided (number gates (drop n a)) (number gates b) (number gates (drop n q)) (number gates rest)) (sym above) before in
      let parts : number gates (drop i a) ≡ x + 2 * t = number-drop_more gates a i d within in
      let small = bit_below gates (edge_value gates (get_or a i d)) in
      let next = next_quotient x t (number gates b) (number gates (drop (i + 1) q)) (number gates rest) (number gates new) (edge_value gates e) old small took in
      let quotient : number gates (drop i (set q i e)) ≡ bit (edge_value gates e) + 2 * number gates (drop (i + 1) q) = ap (number gates) (drop-set q i e within_q) in
      subst (λ n. IsDivided (number gates (drop n a)) (number gates b) (number gates (drop n (set q i e))) (number gates new)) here
      (subst (λ n. IsDivided n (number gates b) (number gates (drop i (set q i e))) (number gates new)) (sym parts)
      (subst (λ n. IsDivided (x + 2 * t) (number gates b) n (number gates new)) (sym quotient) next))

  pub tail_step : (row tails : List Edge) (k i : ℕ) (new f d : Edge) → k < length row → i ≡ length row - 1 - k → length tails ≡ length row + 1
      → f ≡ get_or tails (i + 1) f → edge_value gates new ≡ edge_value gates f || edge_value gates (get_or row i d)
      → ((j : ℕ) (c : Edge) → length row - k ≤ j → j ≤ length row → edge_value gates (get_or tails j c) ≡ nat_lt 0 (number gates (drop j row)))
      → (j : ℕ) (c : Edge) → length row - (k + 1) ≤ j → j ≤ length row → edge_value gates (get_or (set tails i new) j c) ≡ nat_lt 0 (number gates (drop j row))
  tail_step row tails k i new f d lk is long at value before j c low high = by (nat_eq j i) refl
    where
      joined : (n : ℕ) (x : Bool) → nat_lt 0 n || x ≡ nat_lt 0 (bit x + 2 * n)
      joined zero true = refl
      joined zero false = refl
      joined (suc n) true = ap (λ b. b || true) (lt-ltb 0 (suc n) (omega arith)) ∙ sym (lt-ltb 0 (1 + 2 * suc n) (omega arith))
      joined (suc n) false = ap (λ b. b || false) (lt-ltb 0 (suc n) (omega arith)) ∙ sym (lt-ltb 0 (0 + 2 * suc n) (omega arith))

      by : (v : Bool) → nat_eq j i ≡ v → edge_value gates (get_or (set tails i new) j c) ≡ nat_lt 0 (number gates (drop j row))
      by true e =
          let same = eqb-true j i e in
          let within : i < length tails = omega arith in
          let next = ap (edge_value gates) at ∙ before (i + 1) f (omega arith) (omega arith) in
          subst (λ n. edge_value gates (get_or (set tails i new) n c) ≡ nat_lt 0 (number gates (drop n row))) (sym same)
          (ap (edge_value gates) (get_or-set_same tails i new c within) ∙ (value ∙ (ap (λ b. b || edge_value gates (get_or row i d)) next ∙ (joined (number gates (drop (i + 1) row)) (edge_value gates (get_or row i d)) ∙ ap (nat_lt 0) (sym (number-drop_more gates row i d (omega arith)))))))
      by false e = let other = eqb-false j i e in ap (edge_value gates) (get_or-set_other tails i j new c other) ∙ before j c (omega arith) high

  pub divided_none : (a q rest : List Edge) (b n : ℕ) → length a ≤ n → length q ≤ n → number gates rest ≡ 0 → IsDivided (number gates (drop n a)) b (number gates (drop n q)) (number gates rest)
  divided_none a q rest b n la lq none =
      let first : number gates (drop n a) ≡ 0 = ap (number gates) (drop_all n a la) in
      let second : number gates (drop n q) ≡ 0 = ap (number gates) (drop_all n q lq) in
      record { whole = first ∙ (omega (arith, none) ∙ sym (ap (λ m. m * b + number gates rest) second)); less = λ pos. omega arith }
