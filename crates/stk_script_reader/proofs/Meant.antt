-- What operators of the store are in the words of scripts.
use Rattle.std.proofs.Common.{◌≡◌, ℕ, ◌+◌, ◌-◌, ◌/◌, ◌^◌, ◌<◌, ◌≤◌, Bool, true, false, ◌&&◌, nat_eq, nat_lt, List, length, refl, ap, sym, subst, ◌∙◌, arith, if◌then◌else◌}
use Rattle.std.specs.Prelude.{Option, Some, None, nat_le}
use Rattle.std.proofs.lemmas.Bool.Decides.{nat_tests}
use Rattle.std.proofs.Math.Nat.{one-le-pow}
use Rattle.stk_terms.specs.declared.term.TermOp.{TermOp}
use Rattle.stk_terms.specs.declared.term.TermOp.TheVariants.{Constant, Not, And, Or, Xor, Add, Sub, Mul, UDiv, URem, Shl, LShr, AShr, Eq, Extract, Concat}
use Rattle.stk_terms.specs.Terms.{Stored}
use Rattle.stk_terms.specs.Fitting.{arity, WidthsFit, IsSound}
use Rattle.stk_terms.specs.Values.{width_at, number_at, width_by, number_by, bit}
use Rattle.stk_terms.proofs.Reading as reading
use Rattle.stk_scripts.specs.declared.operators.UnaryOp.{UnaryOp}
use Rattle.stk_scripts.specs.declared.operators.UnaryOp.TheVariants as unary
use Rattle.stk_scripts.specs.declared.operators.BinaryOp.{BinaryOp}
use Rattle.stk_scripts.specs.declared.operators.BinaryOp.TheVariants as binary
use Rattle.stk_scripts.specs.declared.operators.ExtendOp.{ExtendOp}
use Rattle.stk_scripts.specs.declared.operators.ExtendOp.TheVariants as extend
use Rattle.stk_scripts.specs.declared.operators.TestOp.{TestOp}
use Rattle.stk_scripts.specs.declared.operators.TestOp.TheVariants as test
use Rattle.stk_scripts.specs.Syntax.{Expr, literal, one_of, two_of, joined, cut, widened, chosen}
use Rattle.stk_scripts.specs.Table.{unary_number, binary_number, extended_number, cut_number, joined_number, test_truth}
use Rattle.stk_scripts.specs.Scripts.{Bits, bits, meaning, width_in, same_width, bounded, literal_width, joined_width, cut_width, widened_width, tested_width}
use Rattle.stk_scripts.proofs.Agreeing.{tables_agree}
use Rattle.stk_script_reader.specs.Standing.{widths_named, bits_named, AllStand, IsTerm, IsTest}
use Rattle.stk_script_reader.specs.Made.{IsLeaf, IsOne, IsTwo, IsChoice}
use Rattle.stk_script_reader.specs.Operators.{unary_term, plain_term, test_term, extend_term, IsApplied}
use Rattle.stk_script_reader.proofs.Signed.{signed_below_is}

-- ---- widths

pub same_some : (w v : ℕ) → w ≡ v → same_width (Some w) (Some v) ≡ Some w
same_some w v e = let t : nat_eq w v ≡ true = grind (arith, nat_tests) in ap (λ b. if b then Some w else None) t

pub same_none : (w v : ℕ) → (w ≡ v → ⊥) → same_width (Some w) (Some v) ≡ None
same_none w v h = by (nat_eq w v) refl
  where
    by : (t : Bool) → nat_eq w v ≡ t → same_width (Some w) (Some v) ≡ None
    by true e = absurd (h (grind (arith, nat_tests)))
    by false e = ap (λ b. if b then Some w else None) e

-- terms of unlike widths
pub unlike : (o p : Option ℕ) (w v : ℕ) → o ≡ Some w → p ≡ Some v → (w ≡ v → ⊥) → same_width o p ≡ None
unlike o p w v e f h = (λ i. same_width (e i) (f i)) ∙ same_none w v h

pub alike : (o p : Option ℕ) (w v : ℕ) → o ≡ Some w → p ≡ Some v → w ≡ v → same_width o p ≡ Some w
alike o p w v e f h = (λ i. same_width (e i) (f i)) ∙ same_some w v h

pub bounded_some : (w : ℕ) → 1 ≤ w → w ≤ 128 → bounded w ≡ Some w
bounded_some w some few = let t : (nat_le 1 w && nat_le w 128) ≡ true = grind (arith, nat_tests) in ap (λ b. if b then Some w else None) t

pub bounded_none : (w : ℕ) → 128 < w → bounded w ≡ None
bounded_none w many = let t : (nat_le 1 w && nat_le w 128) ≡ false = grind (arith, nat_tests) in ap (λ b. if b then Some w else None) t

pub literal_some : (w n : ℕ) → 1 ≤ w → w ≤ 128 → n < 2 ^ w → literal_width w n ≡ Some w
literal_some w n some few small = let t : nat_lt n (2 ^ w) ≡ true = grind (arith, nat_tests) in ap (λ b. if b then bounded w else None) t ∙ bounded_some w some few

pub literal_none : (w n : ℕ) → ((1 ≤ w) × (w ≤ 128) × (n < 2 ^ w) → ⊥) → literal_width w n ≡ None
literal_none w n h = by (nat_lt n (2 ^ w)) (nat_le 1 w) (nat_le w 128) refl refl refl
  where
    by : (s t u : Bool) → nat_lt n (2 ^ w) ≡ s → nat_le 1 w ≡ t → nat_le w 128 ≡ u → literal_width w n ≡ None
    by true true true d e f = absurd (h (grind (arith, nat_tests), grind (arith, nat_tests), grind (arith, nat_tests)))
    by true true false d e f = λ i. if d i then (if e i && f i then Some w else None) else None
    by true false u d e f = λ i. if d i then (if e i && nat_le w 128 then Some w else None) else None
    by false t u d e f = ap (λ b. if b then bounded w else None) d

pub cut_some : (high low v : ℕ) → low ≤ high → high < v → cut_width high low (Some v) ≡ Some (high + 1 - low)
cut_some high low v l h = let t : (nat_le low high && nat_lt high v) ≡ true = grind (arith, nat_tests) in ap (λ b. if b then Some (high + 1 - low) else None) t

pub cut_none : (high low v : ℕ) → ((low ≤ high) × (high < v) → ⊥) → cut_width high low (Some v) ≡ None
cut_none high low v h = by (nat_le low high) (nat_lt high v) refl refl
  where
    by : (t u : Bool) → nat_le low high ≡ t → nat_lt high v ≡ u → cut_width high low (Some v) ≡ None
    by true true e f = absurd (h (grind (arith, nat_tests), grind (arith, nat_tests)))
    by true false e f = λ i. if e i && f i then Some (high + 1 - low) else None
    by false u e f = λ i. if e i && nat_lt high v then Some (high + 1 - low) else None

pub zero_fits : (w : ℕ) → 1 ≤ w → w ≤ 128 → (1 ≤ w) × (w ≤ 128) × (0 < 2 ^ w)
zero_fits w some few = let k = one-le-pow w 2 (omega arith) in (some, few, omega (arith, k))

-- ---- numbers

unary_wide : (inputs : List ℕ) (op : UnaryOp) (w : ℕ) → width_by inputs (unary_term op) w 0 ≡ w
unary_wide inputs unary.Not w = refl
unary_wide inputs unary.Neg w = refl

unary_agree : (r : List ℕ) (op : UnaryOp) (w x : ℕ) → number_by r (unary_term op) w 0 x 0 0 ≡ unary_number op w x
unary_agree r unary.Not w x = refl
unary_agree r unary.Neg w x = refl

pub unary_fits : (inputs : List ℕ) (op : UnaryOp) (w : ℕ) → WidthsFit inputs (unary_term op) w 0 0
unary_fits inputs unary.Not w = tt
unary_fits inputs unary.Neg w = tt

pub unary_arity : (op : UnaryOp) → arity (unary_term op) ≡ 1
unary_arity unary.Not = refl
unary_arity unary.Neg = refl

-- what is asked and told of an operator on two terms of one width
record Plain (op : BinaryOp) (o : TermOp) : Type 0 where
  two : arity o ≡ 2
  fits : (inputs : List ℕ) (w v : ℕ) → w ≡ v → WidthsFit inputs o w v 0
  wide : (inputs : List ℕ) (w v : ℕ) → width_by inputs o w v ≡ w
  value : (r : List ℕ) (w v x y : ℕ) → 1 ≤ w → x < 2 ^ w → number_by r o w v x y 0 ≡ binary_number op w x y

plain_is : (op : BinaryOp) (o : TermOp) → Plain op o → (p : TermOp) → Some o ≡ Some p → Plain op p
plain_is op o h p e = subst (Plain op) (let k : o ≡ p = cc in k) h

plain : (op : BinaryOp) (p : TermOp) → plain_term op ≡ Some p → Plain op p
plain binary.And p e = plain_is binary.And And (record { two = refl; fits = λ i w v e. e; wide = λ i w v. refl; value = λ r w v x y l h. refl }) p e
plain binary.Or p e = plain_is binary.Or Or (record { two = refl; fits = λ i w v e. e; wide = λ i w v. refl; value = λ r w v x y l h. refl }) p e
plain binary.Xor p e = plain_is binary.Xor Xor (record { two = refl; fits = λ i w v e. e; wide = λ i w v. refl; value = λ r w v x y l h. refl }) p e
plain binary.Add p e = plain_is binary.Add Add (record { two = refl; fits = λ i w v e. e; wide = λ i w v. refl; value = λ r w v x y l h. refl }) p e
plain binary.Sub p e = plain_is binary.Sub Sub (record { two = refl; fits = λ i w v e. e; wide = λ i w v. refl; value = λ r w v x y l h. refl }) p e
plain binary.Mul p e = plain_is binary.Mul Mul (record { two = refl; fits = λ i w v e. e; wide = λ i w v. refl; value = λ r w v x y l h. refl }) p e
plain binary.UDiv p e = absurd cc
plain binary.URem p e = plain_is binary.URem URem (record { two = refl; fits = λ i w v e. e; wide = λ i w v. refl; value = λ r w v x y l h. refl }) p e
plain binary.Shl p e = plain_is binary.Shl Shl (record { two = refl; fits = λ i w v e. e; wide = λ i w v. refl; value = λ r w v x y l h. tables_agree.shl w x y h }) p e
plain binary.LShr p e = plain_is binary.LShr LShr (record { two = refl; fits = λ i w v e. e; wide = λ i w v. refl; value = λ r w v x y l h. tables_agree.lshr w x y h }) p e
plain binary.AShr p e = plain_is binary.AShr AShr (record { two = refl; fits = λ i w v e. e; wide = λ i w v. refl; value = λ r w v x y l h. tables_agree.ashr w x y l h }) p e

pub plain_arity : (op : BinaryOp) (p : TermOp) → plain_term op ≡ Some p → arity p ≡ 2
plain_arity op p e = (plain op p e).two

pub plain_fits : (inputs : List ℕ) (op : BinaryOp) (p : TermOp) (w v : ℕ) → plain_term op ≡ Some p → w ≡ v → WidthsFit inputs p w v 0
plain_fits inputs op p w v e h = (plain op p e).fits inputs w v h

pub quotient_left : (op : BinaryOp) → plain_term op ≡ None → op ≡ binary.UDiv
quotient_left binary.And e = absurd cc
quotient_left binary.Or e = absurd cc
quotient_left binary.Xor e = absurd cc
quotient_left binary.Add e = absurd cc
quotient_left binary.Sub e = absurd cc
quotient_left binary.Mul e = absurd cc
quotient_left binary.UDiv e = refl
quotient_left binary.URem e = absurd cc
quotient_left binary.Shl e = absurd cc
quotient_left binary.LShr e = absurd cc
quotient_left binary.AShr e = absurd cc

pub test_arity : (op : TestOp) → arity (test_term op) ≡ 2
test_arity test.Equal = refl
test_arity test.Below = refl
test_arity test.SignedBelow = refl

pub test_fits : (inputs : List ℕ) (op : TestOp) (w v : ℕ) → w ≡ v → WidthsFit inputs (test_term op) w v 0
test_fits inputs test.Equal w v e = e
test_fits inputs test.Below w v e = e
test_fits inputs test.SignedBelow w v e = e

pub test_wide : (inputs : List ℕ) (op : TestOp) (w v : ℕ) → width_by inputs (test_term op) w v ≡ 1
test_wide inputs test.Equal w v = refl
test_wide inputs test.Below w v = refl
test_wide inputs test.SignedBelow w v = refl

test_agree : (r : List ℕ) (op : TestOp) (w v x y : ℕ) → x < 2 ^ w → y < 2 ^ w → number_by r (test_term op) w v x y 0 ≡ bit (test_truth op w x y)
test_agree r test.Equal w v x y h k = refl
test_agree r test.Below w v x y h k = refl
test_agree r test.SignedBelow w v x y h k = ap bit (signed_below_is w x y h k)

pub extend_arity : (op : ExtendOp) (w : ℕ) → arity (extend_term op w) ≡ 1
extend_arity extend.Zero w = refl
extend_arity extend.Sign w = refl

pub extend_fits : (inputs : List ℕ) (op : ExtendOp) (w k : ℕ) → w + k ≤ 128 → WidthsFit inputs (extend_term op (w + k)) w 0 0
extend_fits inputs extend.Zero w k h = (omega arith, h)
extend_fits inputs extend.Sign w k h = (omega arith, h)

extend_wide : (inputs : List ℕ) (op : ExtendOp) (v w : ℕ) → width_by inputs (extend_term op v) w 0 ≡ v
extend_wide inputs extend.Zero v w = refl
extend_wide inputs extend.Sign v w = refl

extend_agree : (r : List ℕ) (op : ExtendOp) (w k x : ℕ) → 1 ≤ w → number_by r (extend_term op (w + k)) w 0 x 0 0 ≡ extended_number op w k x
extend_agree r extend.Zero w k x h = refl
extend_agree r extend.Sign w k x h =
    let e : w + k - w ≡ k = omega arith in
    tables_agree.sign w (w + k) x h (omega arith) ∙ ap (λ m. extended_number extend.Sign w m x) e

-- the quotient in the words of scripts
quotient_agree : (w x y : ℕ) → (if nat_eq (bit (nat_eq y 0)) 1 then 2 ^ w - 1 - 0 else (if nat_eq y 0 then 0 else x / y)) ≡ binary_number binary.UDiv w x y
quotient_agree w x y = by (nat_eq y 0) refl
  where
    by : (t : Bool) → nat_eq y 0 ≡ t → (if nat_eq (bit (nat_eq y 0)) 1 then 2 ^ w - 1 - 0 else (if nat_eq y 0 then 0 else x / y)) ≡ (if nat_eq y 0 then 2 ^ w - 1 else x / y)
    by true e = (λ i. if nat_eq (bit (e i)) 1 then 2 ^ w - 1 - 0 else (if e i then 0 else x / y)) ∙ (omega arith) ∙ sym (ap (λ t. if t then 2 ^ w - 1 else x / y) e)
    by false e = (λ i. if nat_eq (bit (e i)) 1 then 2 ^ w - 1 - 0 else (if e i then 0 else x / y)) ∙ sym (ap (λ t. if t then 2 ^ w - 1 else x / y) e)

-- ---- terms

module _ (s : Stored) (sound : IsSound s) where
  own_is : (j w n : ℕ) (r : List ℕ) → width_at s j ≡ w → number_at s r j ≡ n → bits w n ≡ bits (width_at s j) (number_at s r j)
  own_is j w n r e f = λ i. bits (sym e i) (sym f i)

  pub literal_meant : (names : List (List ℕ × ℕ)) (h : AllStand s names) (w n j : ℕ) → 1 ≤ w → w ≤ 128 → n < 2 ^ w → IsLeaf s (Constant w n) j → IsTerm s names (literal w n) j
  literal_meant names h w n j some few small l = record {
    named = h;
    there = l.there;
    wide = literal_some w n some few small ∙ ap (λ v. Some v) (sym l.wide);
    means = λ r k. own_is j w n r l.wide (l.value r);
  }

  pub one_meant : (names : List (List ℕ × ℕ)) (op : UnaryOp) (e : Expr) (a j : ℕ) → IsTerm s names e a → IsOne s (unary_term op) a j → IsTerm s names (one_of op e) j
  one_meant names op e a j t o =
      let wide = o.wide ∙ unary_wide s.inputs op (width_at s a) in
      record {
        named = t.named;
        there = o.there;
        wide = t.wide ∙ ap (λ v. Some v) (sym wide);
        means = λ r k.
            ap (λ (b : Bits). bits b.width (unary_number op b.width b.number)) (t.means r k)
            ∙ own_is j (width_at s a) (unary_number op (width_at s a) (number_at s r a)) r wide (o.value r ∙ unary_agree r op (width_at s a) (number_at s r a));
      }

  pub applied_meant : (op : BinaryOp) (p : TermOp) (a b j : ℕ) → plain_term op ≡ Some p → a < length s.terms → IsTwo s p a b j → IsApplied s op a b j
  applied_meant op p a b j e h t =
      let k = plain op p e in
      record {
        there = t.there;
        wide = t.wide ∙ k.wide s.inputs (width_at s a) (width_at s b);
        value = λ r g. t.value r ∙ k.value r (width_at s a) (width_at s b) (number_at s r a) (number_at s r b) (reading.least s sound a h) (reading.below s sound r a g);
      }

  pub two_meant : (names : List (List ℕ × ℕ)) (op : BinaryOp) (e f : Expr) (a b j : ℕ) → IsTerm s names e a → IsTerm s names f b → width_at s a ≡ width_at s b → IsApplied s op a b j → IsTerm s names (two_of op e f) j
  two_meant names op e f a b j t u same p = record {
    named = t.named;
    there = p.there;
    wide = alike (width_in (widths_named s names) e) (width_in (widths_named s names) f) (width_at s a) (width_at s b) t.wide u.wide same ∙ ap (λ v. Some v) (sym p.wide);
    means = λ r k.
        (λ i. bits (t.means r k i).width (binary_number op (t.means r k i).width (t.means r k i).number (u.means r k i).number))
        ∙ own_is j (width_at s a) (binary_number op (width_at s a) (number_at s r a) (number_at s r b)) r p.wide (p.value r k);
  }

  pub joined_meant : (names : List (List ℕ × ℕ)) (e f : Expr) (a b j : ℕ) → IsTerm s names e a → IsTerm s names f b → width_at s a + width_at s b ≤ 128 → IsTwo s Concat a b j → IsTerm s names (joined e f) j
  joined_meant names e f a b j t u few p =
      let some = reading.least s sound a t.there in
      record {
        named = t.named;
        there = p.there;
        wide = (λ i. joined_width (t.wide i) (u.wide i)) ∙ bounded_some (width_at s a + width_at s b) (omega (arith, some)) few ∙ ap (λ v. Some v) (sym p.wide);
        means = λ r k.
            (λ i. bits ((t.means r k i).width + (u.means r k i).width) (joined_number (u.means r k i).width (t.means r k i).number (u.means r k i).number))
            ∙ own_is j (width_at s a + width_at s b) (joined_number (width_at s b) (number_at s r a) (number_at s r b)) r p.wide (p.value r);
      }

  pub cut_meant : (names : List (List ℕ × ℕ)) (high low : ℕ) (e : Expr) (a j : ℕ) → IsTerm s names e a → low ≤ high → high < width_at s a → IsOne s (Extract low (high + 1 - low)) a j → IsTerm s names (cut high low e) j
  cut_meant names high low e a j t l h o = record {
    named = t.named;
    there = o.there;
    wide = ap (cut_width high low) t.wide ∙ cut_some high low (width_at s a) l h ∙ ap (λ v. Some v) (sym o.wide);
    means = λ r k.
        ap (λ (b : Bits). bits (high + 1 - low) (cut_number high low b.number)) (t.means r k)
        ∙ own_is j (high + 1 - low) (cut_number high low (number_at s r a)) r o.wide (o.value r);
  }

  pub widened_meant : (names : List (List ℕ × ℕ)) (op : ExtendOp) (n : ℕ) (e : Expr) (a j : ℕ) → IsTerm s names e a → width_at s a + n ≤ 128 → IsOne s (extend_term op (width_at s a + n)) a j → IsTerm s names (widened op n e) j
  widened_meant names op n e a j t few o =
      let some = reading.least s sound a t.there in
      let wide = o.wide ∙ extend_wide s.inputs op (width_at s a + n) (width_at s a) in
      record {
        named = t.named;
        there = o.there;
        wide = ap (widened_width n) t.wide ∙ bounded_some (width_at s a + n) (omega (arith, some)) few ∙ ap (λ v. Some v) (sym wide);
        means = λ r k.
            ap (λ (b : Bits). bits (b.width + n) (extended_number op b.width n b.number)) (t.means r k)
            ∙ own_is j (width_at s a + n) (extended_number op (width_at s a) n (number_at s r a)) r wide (o.value r ∙ extend_agree r op (width_at s a) n (number_at s r a) some);
      }

  pub test_meant : (names : List (List ℕ × ℕ)) (op : TestOp) (e f : Expr) (a b j : ℕ) → IsTerm s names e a → IsTerm s names f b → width_at s a ≡ width_at s b → IsTwo s (test_term op) a b j → IsTest s names op e f j
  test_meant names op e f a b j t u same p = record {
    named = t.named;
    there = p.there;
    one = p.wide ∙ test_wide s.inputs op (width_at s a) (width_at s b);
    width = width_at s a;
    left = t.wide;
    right = u.wide ∙ ap (λ w. Some w) (sym same);
    value = λ r k.
        p.value r
        ∙ test_agree r op (width_at s a) (width_at s b) (number_at s r a) (number_at s r b) (reading.below s sound r a k) (subst (λ w. number_at s r b < 2 ^ w) (sym same) (reading.below s sound r b k))
        ∙ sym (λ i. bit (test_truth op (t.means r k i).width (t.means r k i).number (u.means r k i).number));
  }

  choice_bits : (t : Bool) (w v m n : ℕ) → w ≡ v → (if t then bits w m else bits v n) ≡ bits w (if nat_eq (bit t) 1 then m else n)
  choice_bits true w v m n e = refl
  choice_bits false w v m n e = ap (λ u. bits u n) (sym e)

  pub choice_meant : (names : List (List ℕ × ℕ)) (op : TestOp) (e f g h : Expr) (c a b j : ℕ) → IsTest s names op e f c → IsTerm s names g a → IsTerm s names h b → width_at s a ≡ width_at s b → IsChoice s c a b j → IsTerm s names (chosen op e f g h) j
  choice_meant names op e f g h c a b j q t u same p =
      let ws = widths_named s names in record {
        named = t.named;
        there = p.there;
        wide = (λ i. tested_width (alike (width_in ws e) (width_in ws f) q.width q.width q.left q.right refl i) (alike (width_in ws g) (width_in ws h) (width_at s a) (width_at s b) t.wide u.wide same i)) ∙ ap (λ v. Some v) (sym p.wide);
        means = λ r k.
            let m = bits_named s r names in
            let truth = test_truth op (meaning m e).width (meaning m e).number (meaning m f).number in
            (λ i. if truth then t.means r k i else u.means r k i)
            ∙ choice_bits truth (width_at s a) (width_at s b) (number_at s r a) (number_at s r b) same
            ∙ own_is j (width_at s a) (if nat_eq (bit truth) 1 then number_at s r a else number_at s r b) r p.wide (p.value r ∙ ap (λ n. if nat_eq n 1 then number_at s r a else number_at s r b) (q.value r k));
      }

  -- the quotient: all ones where the divisor is 0
  pub quotient_meant : (w a b none ones test quotient j : ℕ) → width_at s a ≡ w → IsLeaf s (Constant w 0) none → IsOne s Not none ones → IsTwo s Eq b none test → IsTwo s UDiv a b quotient → IsChoice s test ones quotient j → IsApplied s binary.UDiv a b j
  quotient_meant w a b none ones test quotient j e z o t q p =
      let wide : width_at s none ≡ width_at s a = z.wide ∙ sym e in
      record {
        there = p.there;
        wide = p.wide ∙ o.wide ∙ wide;
        value = λ r k.
            p.value r
            ∙ (λ i. if nat_eq ((t.value r ∙ ap (λ n. bit (nat_eq (number_at s r b) n)) (z.value r)) i) 1 then (o.value r ∙ (λ i. 2 ^ wide i - 1 - z.value r i)) i else q.value r i)
            ∙ quotient_agree (width_at s a) (number_at s r a) (number_at s r b);
      }
