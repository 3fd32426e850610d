-- The width of a term of a store is that of what is written of it.
use Rattle.std.proofs.Common.{◌≡◌, ℕ, ◌+◌, ◌-◌, ◌^◌, ◌<◌, ◌≤◌, true, ◌&&◌, nat_eq, nat_lt, nat_le, List, length, get_or, Some, None, refl, ap, sym, ◌∙◌, arith, if◌then◌else◌}
use Rattle.std.proofs.lemmas.Bool.Decides.{nat_tests}
use Rattle.std.proofs.Math.Nat.{one-le-pow}
use Rattle.stk_terms.specs.declared.term.TermOp.{TermOp}
use Rattle.stk_terms.specs.declared.term.TermOp.TheVariants.{Constant, Input, Not, Neg, And, Or, Xor, Add, Sub, Mul, UDiv, URem, Shl, LShr, AShr, Eq, ULt, SLt, Extract, ZeroExt, SignExt, Concat, Ite}
use Rattle.stk_terms.specs.Terms.{Stored, term_at, child}
use Rattle.stk_terms.specs.Fitting.{arity, IsSound}
use Rattle.stk_terms.specs.Values.{width_at}
use Rattle.stk_terms.proofs.Reading.{Pair, two_args, one_arg, no_args, three_args, fits, least, most}
use Rattle.stk_scripts.specs.declared.operators.BinaryOp.{BinaryOp}
use Rattle.stk_scripts.specs.declared.operators.BinaryOp.TheVariants as binary
use Rattle.stk_scripts.specs.declared.operators.TestOp.{TestOp}
use Rattle.stk_scripts.specs.declared.operators.TestOp.TheVariants as test
use Rattle.stk_scripts.specs.Syntax.{two_of}
use Rattle.stk_scripts.specs.Scripts.{found, width_in, same_width, bounded, literal_width, joined_width, cut_width, widened_width, tested_width}
use Rattle.stk_smtlib.specs.Written.{input_name, term_name, at, truth_of, body_by, body_of}

-- ---- widths that fit

pub same_some : (w v : ℕ) → w ≡ v → same_width (Some w) (Some v) ≡ Some w
same_some w v e = let t : nat_eq w v ≡ true = grind (arith, nat_tests) in ap (λ b. if b then Some w else None) t

pub bounded_some : (w : ℕ) → 1 ≤ w → w ≤ 128 → bounded w ≡ Some w
bounded_some w some few = let t : (nat_le 1 w && nat_le w 128) ≡ true = grind (arith, nat_tests) in ap (λ b. if b then Some w else None) t

pub literal_some : (w n : ℕ) → n < 2 ^ w → 1 ≤ w → w ≤ 128 → literal_width w n ≡ Some w
literal_some w n small some few = let t : nat_lt n (2 ^ w) ≡ true = grind (arith, nat_tests) in ap (λ b. if b then bounded w else None) t ∙ bounded_some w some few

zero_fits : (w : ℕ) → 1 ≤ w → w ≤ 128 → literal_width w 0 ≡ Some w
zero_fits w some few = let k = one-le-pow w 2 (omega arith) in literal_some w 0 (omega (arith, k)) some few

cut_some : (low w v : ℕ) → 1 ≤ w → low + w ≤ v → cut_width (low + w - 1) low (Some v) ≡ Some w
cut_some low w v some few =
    let t : (nat_le low (low + w - 1) && nat_lt (low + w - 1) v) ≡ true = grind (arith, nat_tests) in
    let e : low + w - 1 + 1 - low ≡ w = omega (arith, some) in
    ap (λ b. if b then Some (low + w - 1 + 1 - low) else None) t ∙ ap (λ n. Some n) e

widened_some : (w v : ℕ) → 1 ≤ w → w ≤ v → v ≤ 128 → widened_width (v - w) (Some w) ≡ Some v
widened_some w v some wider few = let e : w + (v - w) ≡ v = omega (arith, wider) in ap bounded e ∙ bounded_some v (omega (arith, some, wider)) few

truth_some : literal_width 1 1 ≡ Some 1
truth_some = refl

-- ---- terms

module _ (s : Stored) (sound : IsSound s) (j : ℕ) (below : j < length s.terms) (g : List (List ℕ × ℕ)) (inputs : (k : ℕ) → k < length s.inputs → found g (input_name k) ≡ Some (get_or s.inputs k 0))
    (children : (k : ℕ) → k < length (term_at s j).args → found g (term_name (child s j k)) ≡ Some (width_at s (child s j k))) where
  abbrev a : ℕ
  a = child s j 0

  abbrev b : ℕ
  b = child s j 1

  abbrev c : ℕ
  c = child s j 2

  wide_two : (op : BinaryOp) → length (term_at s j).args ≡ 2 → width_at s a ≡ width_at s b → width_in g (two_of op (at a) (at b)) ≡ Some (width_at s a)
  wide_two op many same =
      ap (λ w. same_width w (found g (term_name b))) (children 0 (omega (arith, many)))
      ∙ ap (λ w. same_width (Some (width_at s a)) w) (children 1 (omega (arith, many)))
      ∙ same_some (width_at s a) (width_at s b) same

  wide_truth : (t : TestOp) → length (term_at s j).args ≡ 2 → width_at s a ≡ width_at s b → width_in g (truth_of t (at a) (at b)) ≡ Some 1
  wide_truth t many same =
      ap (λ w. tested_width w (Some 1))
      (ap (λ w. same_width w (found g (term_name b))) (children 0 (omega (arith, many))) ∙ ap (λ w. same_width (Some (width_at s a)) w) (children 1 (omega (arith, many))) ∙ same_some (width_at s a) (width_at s b) same)

  many_args : (op : TermOp) → (term_at s j).op ≡ op → length (term_at s j).args ≡ arity op
  many_args op e = (fits s sound j below).arity_is ∙ ap arity e

  wide_pair : (op : TermOp) (t : BinaryOp) (p : Pair s j op) → width_at s a ≡ width_at s b → width_at s j ≡ width_at s a → width_in g (two_of t (at a) (at b)) ≡ Some (width_at s j)
  wide_pair op t p same wide = wide_two t p.many same ∙ ap (λ w. Some w) (sym wide)

  wide_test : (op : TermOp) (t : TestOp) (p : Pair s j op) → width_at s a ≡ width_at s b → width_at s j ≡ 1 → width_in g (truth_of t (at a) (at b)) ≡ Some (width_at s j)
  wide_test op t p same wide = wide_truth t p.many same ∙ ap (λ w. Some w) (sym wide)

  wide_quotient : (p : Pair s j UDiv) → width_in g (body_by UDiv (width_at s a) a b c) ≡ Some (width_at s j)
  wide_quotient p =
      let first = p.first in
      let there : a < length s.terms = omega (arith, first, below) in
      let zero : literal_width (width_at s a) 0 ≡ Some (width_at s a) = zero_fits (width_at s a) (least s sound a there) (most s sound a) in
      let tested : same_width (found g (term_name b)) (literal_width (width_at s a) 0) ≡ Some (width_at s b) =
      ap (λ w. same_width w (literal_width (width_at s a) 0)) (children 1 (omega (arith, p.many))) ∙ ap (λ w. same_width (Some (width_at s b)) w) zero ∙ same_some (width_at s b) (width_at s a) (sym p.fits) in
      let either : same_width (literal_width (width_at s a) 0) (width_in g (two_of binary.UDiv (at a) (at b))) ≡ Some (width_at s a) =
      ap (λ w. same_width w (width_in g (two_of binary.UDiv (at a) (at b)))) zero ∙ ap (λ w. same_width (Some (width_at s a)) w) (wide_two binary.UDiv p.many p.fits) ∙ same_some (width_at s a) (width_at s a) refl in
      ap (λ w. tested_width w (same_width (literal_width (width_at s a) 0) (width_in g (two_of binary.UDiv (at a) (at b))))) tested ∙ either ∙ ap (λ w. Some w) (sym p.wide)

  wide_choice : (term_at s j).op ≡ Ite → width_in g (body_by Ite (width_at s a) a b c) ≡ Some (width_at s j)
  wide_choice e =
      let t = three_args s sound j below Ite e refl in
      let many = many_args Ite e in
      let tested : same_width (found g (term_name a)) (literal_width 1 1) ≡ Some (width_at s a) = ap (λ w. same_width w (Some 1)) (children 0 (omega (arith, many))) ∙ same_some (width_at s a) 1 t.one in
      let either : same_width (found g (term_name b)) (found g (term_name c)) ≡ Some (width_at s b) =
      ap (λ w. same_width w (found g (term_name c))) (children 1 (omega (arith, many))) ∙ ap (λ w. same_width (Some (width_at s b)) w) (children 2 (omega (arith, many))) ∙ same_some (width_at s b) (width_at s c) t.alike in
      ap (λ w. tested_width w (same_width (found g (term_name b)) (found g (term_name c)))) tested ∙ either ∙ ap (λ w. Some w) (sym t.wide)

  body_wide_by : (op : TermOp) → (term_at s j).op ≡ op → width_in g (body_by op (width_at s a) a b c) ≡ Some (width_at s j)
  body_wide_by (Constant w n) e = let l = no_args s sound j below (Constant w n) e refl in literal_some w n l.fits.2 l.fits.0 l.fits.1 ∙ ap (λ w. Some w) (sym l.wide)
  body_wide_by (Input k) e = let l = no_args s sound j below (Input k) e refl in inputs k l.fits ∙ ap (λ w. Some w) (sym l.wide)
  body_wide_by Not e = let o = one_arg s sound j below Not e refl in children 0 (omega (arith, o.many)) ∙ ap (λ w. Some w) (sym o.wide)
  body_wide_by Neg e = let o = one_arg s sound j below Neg e refl in children 0 (omega (arith, o.many)) ∙ ap (λ w. Some w) (sym o.wide)
  body_wide_by And e = let p = two_args s sound j below And e refl in wide_pair And binary.And p p.fits p.wide
  body_wide_by Or e = let p = two_args s sound j below Or e refl in wide_pair Or binary.Or p p.fits p.wide
  body_wide_by Xor e = let p = two_args s sound j below Xor e refl in wide_pair Xor binary.Xor p p.fits p.wide
  body_wide_by Add e = let p = two_args s sound j below Add e refl in wide_pair Add binary.Add p p.fits p.wide
  body_wide_by Sub e = let p = two_args s sound j below Sub e refl in wide_pair Sub binary.Sub p p.fits p.wide
  body_wide_by Mul e = let p = two_args s sound j below Mul e refl in wide_pair Mul binary.Mul p p.fits p.wide
  body_wide_by UDiv e = wide_quotient (two_args s sound j below UDiv e refl)
  body_wide_by URem e = let p = two_args s sound j below URem e refl in wide_pair URem binary.URem p p.fits p.wide
  body_wide_by Shl e = let p = two_args s sound j below Shl e refl in wide_pair Shl binary.Shl p p.fits p.wide
  body_wide_by LShr e = let p = two_args s sound j below LShr e refl in wide_pair LShr binary.LShr p p.fits p.wide
  body_wide_by AShr e = let p = two_args s sound j below AShr e refl in wide_pair AShr binary.AShr p p.fits p.wide
  body_wide_by Eq e = let p = two_args s sound j below Eq e refl in wide_test Eq test.Equal p p.fits p.wide
  body_wide_by ULt e = let p = two_args s sound j below ULt e refl in wide_test ULt test.Below p p.fits p.wide
  body_wide_by SLt e = let p = two_args s sound j below SLt e refl in wide_test SLt test.SignedBelow p p.fits p.wide
  body_wide_by (Extract low w) e = let o = one_arg s sound j below (Extract low w) e refl in ap (cut_width (low + w - 1) low) (children 0 (omega (arith, o.many))) ∙ cut_some low w (width_at s a) o.fits.0 o.fits.1 ∙ ap (λ w. Some w) (sym o.wide)
  body_wide_by (ZeroExt w) e =
      let o = one_arg s sound j below (ZeroExt w) e refl in
      let first = o.first in
      ap (widened_width (w - width_at s a)) (children 0 (omega (arith, o.many))) ∙ widened_some (width_at s a) w (least s sound a (omega (arith, first, below))) o.fits.0 o.fits.1 ∙ ap (λ w. Some w) (sym o.wide)
  body_wide_by (SignExt w) e =
      let o = one_arg s sound j below (SignExt w) e refl in
      let first = o.first in
      ap (widened_width (w - width_at s a)) (children 0 (omega (arith, o.many))) ∙ widened_some (width_at s a) w (least s sound a (omega (arith, first, below))) o.fits.0 o.fits.1 ∙ ap (λ w. Some w) (sym o.wide)
  body_wide_by Concat e =
      let p = two_args s sound j below Concat e refl in
      let first = p.first in
      let some = least s sound a (omega (arith, first, below)) in
      ap (λ w. joined_width w (found g (term_name b))) (children 0 (omega (arith, p.many)))
      ∙ ap (λ w. joined_width (Some (width_at s a)) w) (children 1 (omega (arith, p.many)))
      ∙ bounded_some (width_at s a + width_at s b) (omega (arith, some)) p.fits
      ∙ ap (λ w. Some w) (sym p.wide)
  body_wide_by Ite e = wide_choice e

  -- what is written of a term has its width
  pub body_wide : width_in g (body_of s (term_at s j)) ≡ Some (width_at s j)
  body_wide = body_wide_by (term_at s j).op refl
