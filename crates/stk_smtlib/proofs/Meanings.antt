-- What a term of a store is, is what is written of it.
use Rattle.std.proofs.Common.{◌≡◌, ℕ, ◌+◌, ◌-◌, ◌/◌, ◌%◌, ◌^◌, ◌<◌, ◌≤◌, Bool, true, false, ◌⊎◌, inl, inr, nat_eq, nat_lt, List, length, get_or, Some, ℤ, pos, refl, ap, sym, subst, ◌∙◌, arith, if◌then◌else◌}
use Rattle.std.specs.Prelude.{int_lt, nat_le, ◌-ℤ◌}
use Rattle.std.proofs.lemmas.Bool.Decides.{nat_tests}
use Rattle.stk_terms.specs.declared.term.TermOp.{TermOp}
use Rattle.stk_terms.specs.declared.term.TermOp.TheVariants.{Constant, Input, Not, Neg, And, Or, Xor, Add, Sub, Mul, UDiv, URem, Shl, LShr, AShr, Eq, ULt, SLt, Extract, ZeroExt, SignExt, Concat, Ite}
use Rattle.stk_terms.specs.Terms.{Stored, term_at, child}
use Rattle.stk_terms.specs.Fitting.{arity, IsSound, AreResidues}
use Rattle.stk_terms.specs.Values.{width_at, number_at, number_by, signed, bit}
use Rattle.stk_terms.proofs.Reading as reading
use Rattle.stk_terms.proofs.Reading.{Pair, Alone, Triple, Leaf, two_args, one_arg, no_args, three_args, least}
use Rattle.stk_scripts.specs.declared.operators.UnaryOp.{UnaryOp}
use Rattle.stk_scripts.specs.declared.operators.UnaryOp.TheVariants as unary
use Rattle.stk_scripts.specs.declared.operators.BinaryOp.{BinaryOp}
use Rattle.stk_scripts.specs.declared.operators.BinaryOp.TheVariants as binary
use Rattle.stk_scripts.specs.declared.operators.ExtendOp.TheVariants as extend
use Rattle.stk_scripts.specs.declared.operators.TestOp.{TestOp}
use Rattle.stk_scripts.specs.declared.operators.TestOp.TheVariants as test
use Rattle.stk_scripts.specs.Table.{unary_number, binary_number, extended_number, cut_number, joined_number, test_truth, signed_below, has_sign}
use Rattle.stk_scripts.specs.Syntax.{one_of, two_of}
use Rattle.stk_scripts.specs.Scripts.{found, Bits, bits, some_bits, meaning}
use Rattle.stk_scripts.proofs.Agreeing.{tables_agree}
use Rattle.stk_smtlib.specs.Written.{input_name, term_name, at, truth_of, body_by, body_of}

-- ---- signed comparisons

by_sign : (x n : ℕ) → (x < n) ⊎ (n ≤ x)
by_sign x n = by (nat_lt x n) refl
  where
    by : (t : Bool) → nat_lt x n ≡ t → (x < n) ⊎ (n ≤ x)
    by true e = inl (grind (arith, nat_tests))
    by false e = inr (grind (arith, nat_tests))

below_is : (x n : ℕ) → x < n → nat_lt x n ≡ true
below_is x n h = grind (arith, nat_tests)

behind_is : (x n : ℕ) → n ≤ x → nat_lt x n ≡ false
behind_is x n h = grind (arith, nat_tests)

sign_is : (x n : ℕ) → n ≤ x → nat_le n x ≡ true
sign_is x n h = grind (arith, nat_tests)

no_sign : (x n : ℕ) → x < n → nat_le n x ≡ false
no_sign x n h = grind (arith, nat_tests)

-- numbers below W, less W where they have a sign
abbrev less_whole : ℕ → ℕ → Bool → ℤ
less_whole W x positive = if positive then pos x else pos x -ℤ pos W

both_positive : (x y : ℕ) → int_lt (pos x) (pos y) ≡ nat_lt x y
both_positive x y = grind (arith, nat_tests)

both_negative : (W x y : ℕ) → int_lt (pos x -ℤ pos W) (pos y -ℤ pos W) ≡ nat_lt x y
both_negative W x y = grind (arith, nat_tests)

first_negative : (W x y : ℕ) → x < W → int_lt (pos x -ℤ pos W) (pos y) ≡ true
first_negative W x y h = grind (arith, nat_tests)

second_negative : (W x y : ℕ) → y < W → int_lt (pos x) (pos y -ℤ pos W) ≡ false
second_negative W x y h = grind (arith, nat_tests)

signed_below_is : (w x y : ℕ) → x < 2 ^ w → y < 2 ^ w → int_lt (signed w x) (signed w y) ≡ signed_below (has_sign w x) (has_sign w y) x y
signed_below_is w x y small little = elim (by_sign x (2 ^ (w - 1))) [
  | inl h ↦ elim (by_sign y (2 ^ (w - 1))) [
    | inl l ↦
        (λ j. int_lt (less_whole (2 ^ w) x (below_is x (2 ^ (w - 1)) h j)) (less_whole (2 ^ w) y (below_is y (2 ^ (w - 1)) l j)))
        ∙ both_positive x y
        ∙ (λ j. signed_below (sym (no_sign x (2 ^ (w - 1)) h) j) (sym (no_sign y (2 ^ (w - 1)) l) j) x y)
    | inr l ↦
        (λ j. int_lt (less_whole (2 ^ w) x (below_is x (2 ^ (w - 1)) h j)) (less_whole (2 ^ w) y (behind_is y (2 ^ (w - 1)) l j)))
        ∙ second_negative (2 ^ w) x y little
        ∙ (λ j. signed_below (sym (no_sign x (2 ^ (w - 1)) h) j) (sym (sign_is y (2 ^ (w - 1)) l) j) x y)
  ]
  | inr h ↦ elim (by_sign y (2 ^ (w - 1))) [
    | inl l ↦
        (λ j. int_lt (less_whole (2 ^ w) x (behind_is x (2 ^ (w - 1)) h j)) (less_whole (2 ^ w) y (below_is y (2 ^ (w - 1)) l j)))
        ∙ first_negative (2 ^ w) x y small
        ∙ (λ j. signed_below (sym (sign_is x (2 ^ (w - 1)) h) j) (sym (no_sign y (2 ^ (w - 1)) l) j) x y)
    | inr l ↦
        (λ j. int_lt (less_whole (2 ^ w) x (behind_is x (2 ^ (w - 1)) h j)) (less_whole (2 ^ w) y (behind_is y (2 ^ (w - 1)) l j)))
        ∙ both_negative (2 ^ w) x y
        ∙ (λ j. signed_below (sym (sign_is x (2 ^ (w - 1)) h) j) (sym (sign_is y (2 ^ (w - 1)) l) j) x y)
  ]
]

-- ---- terms

truth_bits : (t : Bool) → (if t then bits 1 1 else bits 1 0) ≡ bits 1 (bit t)
truth_bits true = refl
truth_bits false = refl

cut_bits : (low w x : ℕ) → 1 ≤ w → bits (low + w - 1 + 1 - low) (cut_number (low + w - 1) low x) ≡ bits w (x / 2 ^ low % 2 ^ w)
cut_bits low w x some = let e : low + w - 1 + 1 - low ≡ w = omega (arith, some) in ap (λ v. bits v (x / 2 ^ low % 2 ^ v)) e

module _ (s : Stored) (sound : IsSound s) (residues : List ℕ) (fit : AreResidues s.inputs residues) (j : ℕ) (below : j < length s.terms) (g : List (List ℕ × Bits))
    (inputs : (k : ℕ) → k < length s.inputs → found g (input_name k) ≡ Some (bits (get_or s.inputs k 0) (get_or residues k 0)))
    (children : (k : ℕ) → k < length (term_at s j).args → found g (term_name (child s j k)) ≡ Some (bits (width_at s (child s j k)) (number_at s residues (child s j k)))) where
  abbrev a : ℕ
  a = child s j 0

  abbrev b : ℕ
  b = child s j 1

  abbrev c : ℕ
  c = child s j 2

  abbrev x : ℕ
  x = number_at s residues a

  abbrev y : ℕ
  y = number_at s residues b

  abbrev z : ℕ
  z = number_at s residues c

  -- what the term itself is
  abbrev own : Bits
  own = bits (width_at s j) (number_at s residues j)

  at_child : (k : ℕ) → k < length (term_at s j).args → meaning g (at (child s j k)) ≡ bits (width_at s (child s j k)) (number_at s residues (child s j k))
  at_child k l = ap some_bits (children k l)

  small : (k : ℕ) → k < length (term_at s j).args → number_at s residues (child s j k) < 2 ^ width_at s (child s j k)
  small k l = reading.below s sound residues (child s j k) fit

  own_is : (w n : ℕ) → width_at s j ≡ w → number_at s residues j ≡ n → bits w n ≡ own
  own_is w n e f = λ i. bits (sym e i) (sym f i)

  -- an operator on two terms
  means_two : (op : TermOp) (t : BinaryOp) (p : Pair s j op) → width_at s j ≡ width_at s a → number_by residues op (width_at s a) (width_at s b) x y 0 ≡ binary_number t (width_at s a) x y → meaning g (two_of t (at a) (at b)) ≡ own
  means_two op t p wide same =
      let first = at_child 0 (omega (arith, p.many)) in
      let second = at_child 1 (omega (arith, p.many)) in
      (λ i. bits (first i).width (binary_number t (first i).width (first i).number (second i).number))
      ∙ ap (λ n. bits (width_at s a) n) (sym same)
      ∙ own_is (width_at s a) _ wide (p.value residues)

  -- a comparison
  means_test : (op : TermOp) (t : TestOp) (p : Pair s j op) → width_at s j ≡ 1 → number_by residues op (width_at s a) (width_at s b) x y 0 ≡ bit (test_truth t (width_at s a) x y) → meaning g (truth_of t (at a) (at b)) ≡ own
  means_test op t p wide same =
      let first = at_child 0 (omega (arith, p.many)) in
      let second = at_child 1 (omega (arith, p.many)) in
      (λ i. if test_truth t (first i).width (first i).number (second i).number then bits 1 1 else bits 1 0)
      ∙ truth_bits (test_truth t (width_at s a) x y)
      ∙ ap (λ n. bits 1 n) (sym same)
      ∙ own_is 1 _ wide (p.value residues)

  means_one : (op : TermOp) (t : UnaryOp) (o : Alone s j op) → width_at s j ≡ width_at s a → number_by residues op (width_at s a) 0 x 0 0 ≡ unary_number t (width_at s a) x → meaning g (one_of t (at a)) ≡ own
  means_one op t o wide same =
      let first = at_child 0 (omega (arith, o.many)) in
      (λ i. bits (first i).width (unary_number t (first i).width (first i).number))
      ∙ ap (λ n. bits (width_at s a) n) (sym same)
      ∙ own_is (width_at s a) _ wide (o.value residues)

  choice_bits : (t : Bool) (w v m n : ℕ) → w ≡ v → (if t then bits w m else bits v n) ≡ bits w (if t then m else n)
  choice_bits true w v m n e = refl
  choice_bits false w v m n e = ap (λ u. bits u n) (sym e)

  quotient_bits : (t : Bool) (w m n : ℕ) → nat_eq n 0 ≡ t → (if nat_eq n 0 then bits w 0 else bits w (binary_number binary.UDiv w m n)) ≡ bits w (if nat_eq n 0 then 0 else m / n)
  quotient_bits true w m n e = (λ i. if e i then bits w 0 else bits w (binary_number binary.UDiv w m n)) ∙ ap (bits w) (sym (λ i. if e i then 0 else m / n))
  quotient_bits false w m n e =
      (λ i. if e i then bits w 0 else bits w (if e i then 2 ^ w - 1 else m / n)) ∙ ap (bits w) (sym (λ i. if e i then 0 else m / n))

  means_quotient : (p : Pair s j UDiv) → meaning g (body_by UDiv (width_at s a) a b c) ≡ own
  means_quotient p =
      let first = at_child 0 (omega (arith, p.many)) in
      let second = at_child 1 (omega (arith, p.many)) in
      (λ i. if nat_eq (second i).number 0 then bits (width_at s a) 0 else bits (first i).width (binary_number binary.UDiv (first i).width (first i).number (second i).number))
      ∙ quotient_bits (nat_eq y 0) (width_at s a) x y refl
      ∙ own_is (width_at s a) _ p.wide (p.value residues)

  means_choice : (term_at s j).op ≡ Ite → meaning g (body_by Ite (width_at s a) a b c) ≡ own
  means_choice e =
      let many = (reading.fits s sound j below).arity_is ∙ ap arity e in
      let t = three_args s sound j below Ite e refl in
      let first = at_child 0 (omega (arith, many)) in
      let second = at_child 1 (omega (arith, many)) in
      let third = at_child 2 (omega (arith, many)) in
      (λ i. if nat_eq (first i).number 1 then second i else third i)
      ∙ choice_bits (nat_eq x 1) (width_at s b) (width_at s c) y z t.alike
      ∙ own_is (width_at s b) _ t.wide (t.value residues)

  means_by : (op : TermOp) → (term_at s j).op ≡ op → meaning g (body_by op (width_at s a) a b c) ≡ own
  means_by (Constant w n) e = let l = no_args s sound j below (Constant w n) e refl in own_is w n l.wide (l.value residues)
  means_by (Input k) e = let l = no_args s sound j below (Input k) e refl in ap some_bits (inputs k l.fits) ∙ own_is (get_or s.inputs k 0) (get_or residues k 0) l.wide (l.value residues)
  means_by Not e = let o = one_arg s sound j below Not e refl in means_one Not unary.Not o o.wide refl
  means_by Neg e = let o = one_arg s sound j below Neg e refl in means_one Neg unary.Neg o o.wide refl
  means_by And e = let p = two_args s sound j below And e refl in means_two And binary.And p p.wide refl
  means_by Or e = let p = two_args s sound j below Or e refl in means_two Or binary.Or p p.wide refl
  means_by Xor e = let p = two_args s sound j below Xor e refl in means_two Xor binary.Xor p p.wide refl
  means_by Add e = let p = two_args s sound j below Add e refl in means_two Add binary.Add p p.wide refl
  means_by Sub e = let p = two_args s sound j below Sub e refl in means_two Sub binary.Sub p p.wide refl
  means_by Mul e = let p = two_args s sound j below Mul e refl in means_two Mul binary.Mul p p.wide refl
  means_by UDiv e = means_quotient (two_args s sound j below UDiv e refl)
  means_by URem e = let p = two_args s sound j below URem e refl in means_two URem binary.URem p p.wide refl
  means_by Shl e = let p = two_args s sound j below Shl e refl in means_two Shl binary.Shl p p.wide (tables_agree.shl (width_at s a) x y (small 0 (omega (arith, p.many))))
  means_by LShr e = let p = two_args s sound j below LShr e refl in means_two LShr binary.LShr p p.wide (tables_agree.lshr (width_at s a) x y (small 0 (omega (arith, p.many))))
  means_by AShr e =
      let p = two_args s sound j below AShr e refl in
      let first = p.first in
      means_two AShr binary.AShr p p.wide (tables_agree.ashr (width_at s a) x y (least s sound a (omega (arith, first, below))) (small 0 (omega (arith, p.many))))
  means_by Eq e = let p = two_args s sound j below Eq e refl in means_test Eq test.Equal p p.wide refl
  means_by ULt e = let p = two_args s sound j below ULt e refl in means_test ULt test.Below p p.wide refl
  means_by SLt e =
      let p = two_args s sound j below SLt e refl in
      means_test SLt test.SignedBelow p p.wide (ap bit (signed_below_is (width_at s a) x y (small 0 (omega (arith, p.many))) (subst (λ w. y < 2 ^ w) (sym p.fits) (small 1 (omega (arith, p.many))))))
  means_by (Extract low w) e =
      let o = one_arg s sound j below (Extract low w) e refl in
      let first = at_child 0 (omega (arith, o.many)) in
      (λ i. bits (low + w - 1 + 1 - low) (cut_number (low + w - 1) low (first i).number)) ∙ cut_bits low w x o.fits.0 ∙ own_is w _ o.wide (o.value residues)
  means_by (ZeroExt w) e =
      let o = one_arg s sound j below (ZeroExt w) e refl in
      let first = at_child 0 (omega (arith, o.many)) in
      let wider = o.fits.0 in
      let whole : width_at s a + (w - width_at s a) ≡ w = omega (arith, wider) in
      (λ i. bits ((first i).width + (w - width_at s a)) (first i).number) ∙ ap (λ v. bits v x) whole ∙ own_is w _ o.wide (o.value residues)
  means_by (SignExt w) e =
      let o = one_arg s sound j below (SignExt w) e refl in
      let first = at_child 0 (omega (arith, o.many)) in
      let wider = o.fits.0 in
      let before = o.first in
      let whole : width_at s a + (w - width_at s a) ≡ w = omega (arith, wider) in
      (λ i. bits ((first i).width + (w - width_at s a)) (extended_number extend.Sign (first i).width (w - width_at s a) (first i).number))
      ∙ ap (λ v. bits v (extended_number extend.Sign (width_at s a) (w - width_at s a) x)) whole
      ∙ ap (bits w) (sym (tables_agree.sign (width_at s a) w x (least s sound a (omega (arith, before, below))) wider))
      ∙ own_is w _ o.wide (o.value residues)
  means_by Concat e =
      let p = two_args s sound j below Concat e refl in
      let first = at_child 0 (omega (arith, p.many)) in
      let second = at_child 1 (omega (arith, p.many)) in
      (λ i. bits ((first i).width + (second i).width) (joined_number (second i).width (first i).number (second i).number)) ∙ own_is (width_at s a + width_at s b) _ p.wide (p.value residues)
  means_by Ite e = means_choice e

  -- what is written of a term means the term
  pub body_means : meaning g (body_of s (term_at s j)) ≡ own
  body_means = means_by (term_at s j).op refl
