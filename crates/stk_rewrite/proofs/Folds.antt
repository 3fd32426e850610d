-- Operators over constants.
use Rattle.std.proofs.Common.{◌≡◌, ℕ, ◌<◌, ◌≤◌, ◌^◌, List, [], length, refl, sym, ap, subst, ◌∙◌, arith}
use Rattle.stk_terms.specs.declared.term.TermOp.{TermOp}
use Rattle.stk_terms.specs.declared.term.TermOp.TheVariants.{Constant, Input, Eq, ULt, SLt, Extract, ZeroExt, SignExt, Concat, Ite}
use Rattle.stk_terms.specs.declared.term.TermId.{TermId}
use Rattle.stk_terms.specs.Terms.{Stored}
use Rattle.stk_terms.specs.Fitting.{IsSound, WidthsFit, arity}
use Rattle.stk_terms.specs.Values.{width_by, number_by, width_at}
use Rattle.stk_terms.specs.Applying.{CanApply}
use Rattle.stk_terms.proofs.Below.{number_below, can_apply}
use Rattle.stk_rewrite.specs.Readings.{IsNumber}
use Rattle.stk_rewrite.specs.declared.right.Right.TheVariants.{Number, One, Two}
use Rattle.stk_rewrite.specs.Rights.{Replaces, IsWritten}
use Rattle.stk_terms.proofs.Reading.{most, least}

-- operators with arguments look at no input
pub pure : (op : TermOp) (r q : List ℕ) (w v x y z : ℕ) → 0 < arity op → number_by r op w v x y z ≡ number_by q op w v x y z
pure (Constant w n) r q w0 w1 x y z h = refl
pure (Input k) r q w0 w1 x y z h = absurd (omega arith)
pure _ r q w0 w1 x y z h = refl

pub pure_fits : (op : TermOp) (i j : List ℕ) (w0 w1 w2 : ℕ) → 0 < arity op → WidthsFit i op w0 w1 w2 → WidthsFit j op w0 w1 w2
pure_fits (Constant w n) i j w0 w1 w2 h f = f
pure_fits (Input k) i j w0 w1 w2 h f = absurd (omega arith)
pure_fits _ i j w0 w1 w2 h f = f

width_range : (op : TermOp) (w0 w1 w2 : ℕ) → 0 < arity op → arity op ≤ 2 → WidthsFit [] op w0 w1 w2 → 1 ≤ w0 → w0 ≤ 128 → (1 ≤ width_by [] op w0 w1) × (width_by [] op w0 w1 ≤ 128)
width_range (Constant w n) w0 w1 w2 h k f l m = absurd (omega arith)
width_range (Input i) w0 w1 w2 h k f l m = absurd (omega arith)
width_range Eq w0 w1 w2 h k f l m = (omega arith, omega arith)
width_range ULt w0 w1 w2 h k f l m = (omega arith, omega arith)
width_range SLt w0 w1 w2 h k f l m = (omega arith, omega arith)
width_range (Extract low w) w0 w1 w2 h k f l m = (f.0, omega (arith, f.1))
width_range (ZeroExt w) w0 w1 w2 h k f l m = (omega (arith, f.0), f.1)
width_range (SignExt w) w0 w1 w2 h k f l m = (omega (arith, f.0), f.1)
width_range Concat w0 w1 w2 h k f l m = (omega (arith, l), f)
width_range Ite w0 w1 w2 h k f l m = absurd (omega arith)
width_range _ w0 w1 w2 h k f l m = (l, m)

pub can_pure : (op : TermOp) (inputs : List ℕ) (w0 w1 x y : ℕ) → 0 < arity op → WidthsFit inputs op w0 w1 0 → 1 ≤ w0 → w0 ≤ 128 → x < 2 ^ w0 → y < 2 ^ w1 → CanApply [] op w0 w1 x y
can_pure op inputs w0 w1 x y h f l m a b = can_apply [] [] op w0 w1 0 x y tt (pure_fits op inputs [] w0 w1 0 h f) m (λ _. l) a b

module _ (s : Stored) (sound : IsSound s) (op : TermOp) (a : TermId) (h : a.0 < length s.terms) (x : ℕ) (first : IsNumber s a.0 x) where
  abbrev w0 : ℕ
  w0 = width_at s a.0

  folded : (w1 y w n : ℕ) → 0 < arity op → arity op ≤ 2 → WidthsFit s.inputs op w0 w1 0 → y < 2 ^ w1 → ((inputs : List ℕ) → width_by inputs op w0 w1 ≡ w) → n ≡ number_by [] op w0 w1 x y 0 → IsWritten w n
  folded w1 y w n p q f b u v =
      let g = pure_fits op s.inputs [] w0 w1 0 p f in
      let l = width_range op w0 w1 0 p q g (least s sound a.0 h) (most s sound a.0) in
      let k : number_by [] op w0 w1 x y 0 < 2 ^ width_by [] op w0 w1 = number_below [] [] op w0 w1 0 x y 0 tt g first.written.2 b (omega arith) in
      subst (λ i. (1 ≤ i) × (i ≤ 128) × (n < 2 ^ i)) (u []) (l.0, l.1, subst (λ m. m < 2 ^ width_by [] op w0 w1) (sym v) k)

  pub fold_one : (w n : ℕ) → arity op ≡ 1 → WidthsFit s.inputs op w0 0 0 → ((inputs : List ℕ) (w1 : ℕ) → width_by inputs op w0 w1 ≡ w) → n ≡ number_by [] op w0 0 x 0 0 → Replaces s (One op a) (Number w n)
  fold_one w n e f u v =
      let p : 0 < arity op = omega arith in
      let q : arity op ≤ 2 = omega arith in
      record {
        built = folded 0 0 w n p q f (omega arith) (λ i. u i 0) v;
        wide = sym (u s.inputs 0);
        value = λ r _. v ∙ (pure op [] r w0 0 x 0 0 p ∙ ap (λ k. number_by r op w0 0 k 0 0) (sym (first.value r)));
        cheap = omega arith;
        from = λ c l k. tt;
      }

  pub fold_two : (b : TermId) (y w n : ℕ) → IsNumber s b.0 y → arity op ≡ 2 → WidthsFit s.inputs op w0 (width_at s b.0) 0 → ((inputs : List ℕ) → width_by inputs op w0 (width_at s b.0) ≡ w) → n ≡ number_by [] op w0 (width_at s b.0) x y 0 → Replaces s (Two op a b) (Number w n)
  fold_two b y w n second e f u v =
      let p : 0 < arity op = omega arith in
      let q : arity op ≤ 2 = omega arith in
      record {
        built = folded (width_at s b.0) y w n p q f second.written.2 u v;
        wide = sym (u s.inputs);
        value = λ r _. v ∙ (pure op [] r w0 (width_at s b.0) x y 0 p ∙ (λ j. number_by r op w0 (width_at s b.0) (sym (first.value r) j) (sym (second.value r) j) 0));
        cheap = omega arith;
        from = λ c l k. tt;
      }
