use Rattle.std.proofs.Common.{◌≡◌, ◌<◌, length, false, sym, ap, subst, ◌∙◌, arith, refl}
use Rattle.stk_terms.specs.Terms.{term_at}
use Rattle.stk_rewrite.specs.Looks.{is_constant}
use Rattle.stk_rewrite.specs.Readings.{IsSum, IsNumber}
use Rattle.stk_rewrite.proofs.Tests.{other_add, not_first, not_second}
use Rattle.stk_terms.specs.declared.term.TermOp.TheVariants.{Add}
use Rattle.stk_terms.proofs.Reading.{there, two_args}
use Rattle.stk_rewrite.proofs.Parted.{sum_is, read_arg}
use Rattle.stk_rewrite.proofs.reading.added.Goals as goal

pub bounds-args-0 : goal.bounds-args-0
bounds-args-0 c =
    let t = there c.args.terms.now c.requires.sound c.args.a.0 c.requires.normal.exists_ in
    let p = two_args c.args.terms.now c.requires.sound c.args.a.0 c.requires.normal.exists_ Add (sym (c.op.ensures _ t) ∙ c.in-Add.is) refl in
    omega (arith, p.many, ap length (c.args-args.ensures _ t))

pub bounds-args-1 : goal.bounds-args-1
bounds-args-1 c =
    let t = there c.args.terms.now c.requires.sound c.args.a.0 c.requires.normal.exists_ in
    let p = two_args c.args.terms.now c.requires.sound c.args.a.0 c.requires.normal.exists_ Add (sym (c.op.ensures _ t) ∙ c.in-Add.is) refl in
    omega (arith, p.many, ap length (c.args-args.ensures _ t))

pub number-requires-clause-exists : goal.number-requires-clause-exists
number-requires-clause-exists c =
    let t = there c.args.terms.now c.requires.sound c.args.a.0 c.requires.normal.exists_ in
    let p = two_args c.args.terms.now c.requires.sound c.args.a.0 c.requires.normal.exists_ Add (sym (c.op.ensures _ t) ∙ c.in-Add.is) refl in
    let e = read_arg c.args.terms.now c.requires.sound c.args.a.0 1 c.args-args.result.now _ (c.args-args.ensures _ t) (omega (arith, p.many, ap length (c.args-args.ensures _ t))) in
    subst (λ k. k < length c.args.terms.now.terms) (sym e) (omega (arith, p.second, c.requires.normal.exists_))

pub returns-in-Some : goal.returns-in-Some
returns-in-Some c =
    let t = there c.args.terms.now c.requires.sound c.args.a.0 c.requires.normal.exists_ in
    let o = sym (c.op.ensures _ t) ∙ c.in-Add.is in
    let p = two_args c.args.terms.now c.requires.sound c.args.a.0 c.requires.normal.exists_ Add o refl in
    let m : length c.args-args.result.now ≡ 2 = ap length (c.args-args.ensures _ t) ∙ p.many in
    let l0 : 0 < length c.args-args.result.now = omega (arith, m) in
    let l1 : 1 < length c.args-args.result.now = omega (arith, m) in
    let e0 = read_arg c.args.terms.now c.requires.sound c.args.a.0 0 c.args-args.result.now _ (c.args-args.ensures _ t) l0 in
    let e1 = read_arg c.args.terms.now c.requires.sound c.args.a.0 1 c.args-args.result.now _ (c.args-args.ensures _ t) l1 in
    subst (λ k. IsSum c.args.terms.now c.args.a.0 k c.in-Some.n) (sym e0) (sum_is c.args.terms.now c.requires.sound c.args.a.0 c.requires.normal c.in-Some.n o (subst (λ k. IsNumber c.args.terms.now k c.in-Some.n) e1 c.in-Some.ensures))

pub returns-in-None : goal.returns-in-None
returns-in-None c =
    let t = there c.args.terms.now c.requires.sound c.args.a.0 c.requires.normal.exists_ in
    let p = two_args c.args.terms.now c.requires.sound c.args.a.0 c.requires.normal.exists_ Add (sym (c.op.ensures _ t) ∙ c.in-Add.is) refl in
    let e1 = read_arg c.args.terms.now c.requires.sound c.args.a.0 1 c.args-args.result.now _ (c.args-args.ensures _ t) (omega (arith, p.many, ap length (c.args-args.ensures _ t))) in
    not_second _ _ (subst (λ k. is_constant (term_at c.args.terms.now k).op ≡ false) e1 c.in-None.ensures)

pub returns-in_default : goal.returns-in_default
returns-in_default c =
    let e = c.op.ensures _ (there c.args.terms.now c.requires.sound c.args.a.0 c.requires.normal.exists_) in
    not_first _ _ (other_add _ (λ f. c.in_default.not-Add (e ∙ f)))
