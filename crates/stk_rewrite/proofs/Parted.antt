-- What the parts of a term are of which no part is a left side.
use Rattle.std.proofs.Common.{◌≡◌, ℕ, ◌+◌, ◌-◌, ◌/◌, ◌%◌, ◌^◌, ◌<◌, ◌≤◌, true, false, ◌&&◌, List, length, get_or, refl, sym, ap, subst, ◌∙◌, arith}
use Rattle.stk_terms.specs.declared.term.TermOp.{TermOp}
use Rattle.stk_terms.specs.declared.term.TermOp.TheVariants.{Constant, Not, Neg, Add, Extract}
use Rattle.stk_terms.specs.declared.term.TermId.{TermId}
use Rattle.stk_terms.specs.Terms.{Stored, Term, term_at, nth, child}
use Rattle.stk_terms.specs.Fitting.{IsSound, WidthsFit, Fits}
use Rattle.stk_terms.specs.Values.{Bits, none, width_by, number_by, width_of, widths_of, arg_at, bits_of, meanings, width_at, number_at}
use Rattle.stk_rewrite.specs.Looks.{look, is_constant, is_not, is_add, adds_constant}
use Rattle.stk_rewrite.specs.Rules.{is_left}
use Rattle.stk_rewrite.specs.Normal.{IsNormal}
use Rattle.stk_rewrite.specs.Readings.{IsNumber, IsSum, IsNegation, IsNegative, IsCut}
use Rattle.stk_rewrite.proofs.Tests.{either_first, either_second, and_true}
use Rattle.stk_terms.proofs.Reading.{fits, means, width_means, two_args, one_arg, nth_get}
use Rattle.stk_rewrite.proofs.Normals.{normal_child, normal_here}

constant_width : (inputs ws : List ℕ) (t : Term) (w n : ℕ) → t.op ≡ Constant w n → width_of inputs ws t ≡ w
constant_width inputs ws t w n e = ap (λ o. width_by inputs o (arg_at 0 ws t.args 0) (arg_at 0 ws t.args 1)) e

constant_number : (inputs r : List ℕ) (done : List Bits) (t : Term) (w n : ℕ) → t.op ≡ Constant w n → (bits_of inputs r done t).number ≡ n
constant_number inputs r done t w n e = ap (λ o. number_by r o (arg_at none done t.args 0).width (arg_at none done t.args 1).width (arg_at none done t.args 0).number (arg_at none done t.args 1).number (arg_at none done t.args 2).number) e

constant_fits : (inputs ws : List ℕ) (t : Term) (w n : ℕ) → t.op ≡ Constant w n → Fits inputs ws t → (1 ≤ w) × (w ≤ 128) × (n < 2 ^ w)
constant_fits inputs ws t w n e f = subst (λ o. WidthsFit inputs o (arg_at 0 ws t.args 0) (arg_at 0 ws t.args 1) (arg_at 0 ws t.args 2)) e f.widths_fit

module _ (s : Stored) (sound : IsSound s) where
  pub number_is : (i w n : ℕ) → i < length s.terms → (term_at s i).op ≡ Constant w n → IsNumber s i n
  number_is i w n h e =
      let v : width_at s i ≡ w = width_means s sound i h ∙ constant_width s.inputs (widths_of s) (term_at s i) w n e in
      let f = constant_fits s.inputs (widths_of s) (term_at s i) w n e (fits s sound i h) in
      record {
        op_is = e ∙ ap (λ u. Constant u n) (sym v);
        value = λ r. ap (λ (b : Bits). b.number) (means s sound r i h) ∙ constant_number s.inputs r (meanings s r) (term_at s i) w n e;
        written = subst (λ u. (1 ≤ u) × (u ≤ 128) × (n < 2 ^ u)) (sym v) f;
      }

  module _ (i : ℕ) (n : IsNormal s i) where
    left : (op : TermOp) → (term_at s i).op ≡ op → is_left op (look s (child s i 0)) (look s (child s i 1)) (look s (child s i 2)) ≡ false
    left op e = subst (λ o. is_left o (look s (child s i 0)) (look s (child s i 1)) (look s (child s i 2)) ≡ false) e (normal_here s sound i n)

    pub sum_is : (c : ℕ) → (term_at s i).op ≡ Add → IsNumber s (child s i 1) c → IsSum s i (child s i 0) c
    sum_is c e b =
        let p = two_args s sound i n.exists_ Add e refl in
        let k : is_constant (term_at s (child s i 1)).op ≡ true = ap is_constant b.op_is in
        let l = left Add e in
        record {
          part = record { normal = normal_child s sound i 0 n (omega (arith, p.many)); plain = and_true _ _ k (either_first _ _ (either_first _ _ (either_first _ _ l))) };
          reached = λ c k h. k.closed i 0 h (omega (arith, p.many));
          wide = sym p.wide;
          once = and_true _ _ k (either_second _ _ l);
          written = subst (λ w. c < 2 ^ w) (sym p.fits ∙ sym p.wide) b.written.2;
          value = λ r. p.value r ∙ (λ j. (number_at s r (child s i 0) + b.value r j) % 2 ^ sym p.wide j);
        }

    pub negation_is : (term_at s i).op ≡ Not → IsNegation s i (child s i 0)
    negation_is e =
        let p = one_arg s sound i n.exists_ Not e refl in
        let l = left Not e in
        record {
          part = record { normal = normal_child s sound i 0 n (omega (arith, p.many)); plain = either_first _ _ l };
          reached = λ c k h. k.closed i 0 h (omega (arith, p.many));
          is = ap is_not e;
          first = refl;
          wide = sym p.wide;
          once = either_second _ _ l;
          value = λ r. p.value r ∙ (λ j. 2 ^ sym p.wide j - 1 - number_at s r (child s i 0));
        }

    pub negative_is : (term_at s i).op ≡ Neg → IsNegative s i (child s i 0)
    negative_is e =
        let p = one_arg s sound i n.exists_ Neg e refl in
        let l = left Neg e in
        record {
          part = record { normal = normal_child s sound i 0 n (omega (arith, p.many)); plain = either_first _ _ l };
          reached = λ c k h. k.closed i 0 h (omega (arith, p.many));
          wide = sym p.wide;
          once = either_second _ _ l;
          value = λ r. p.value r ∙ (λ j. (2 ^ sym p.wide j - number_at s r (child s i 0)) % 2 ^ sym p.wide j);
        }

    pub cut_is : (low w : ℕ) → (term_at s i).op ≡ Extract low w → IsCut s i low (child s i 0)
    cut_is low w e =
        let p = one_arg s sound i n.exists_ (Extract low w) e refl in
        let l = left (Extract low w) e in
        record {
          part = record { normal = normal_child s sound i 0 n (omega (arith, p.many)); plain = either_first _ _ (either_first _ _ l) };
          reached = λ c k h. k.closed i 0 h (omega (arith, p.many));
          within = subst (λ u. low + u ≤ width_at s (child s i 0)) (sym p.wide) p.fits.1;
          once = either_second _ _ l;
          value = λ r. p.value r ∙ (λ j. number_at s r (child s i 0) / 2 ^ low % 2 ^ sym p.wide j);
        }

    -- no sum with a constant
    pub no_sum : (op : TermOp) → (term_at s i).op ≡ op → is_add op ≡ false → adds_constant s i ≡ false
    no_sum op e f = let g : is_add (term_at s i).op ≡ false = ap is_add e ∙ f in ap (λ b. b && is_constant (term_at s (child s i 1)).op) g

  -- the k-th of the arguments that were read
  pub read_arg : (i k : ℕ) (args : List TermId) (e : TermId) → args ≡ (term_at s i).args → k < length args → (get_or args k e).0 ≡ child s i k
  read_arg i k args e a h = nth_get args k e h ∙ ap (λ l. nth l k) a
