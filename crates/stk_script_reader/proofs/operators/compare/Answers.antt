use Rattle.std.proofs.Common.{◌≡◌, sym, ◌∙◌, arith, subst, ap}
use Rattle.stk_terms.specs.Values.{width_at, width_by}
use Rattle.stk_scripts.specs.Scripts.{width_in}
use Rattle.stk_script_reader.specs.Standing.{widths_named}
use Rattle.stk_script_reader.specs.Made.{IsTwo}
use Rattle.stk_script_reader.proofs.Kept.{keeps_same, term_kept}
use Rattle.stk_script_reader.proofs.Meant.{test_meant, test_wide, unlike}
use Rattle.stk_script_reader.proofs.operators.compare.Goals as goal

pub returns-then-width-clause-made : goal.returns-then-width-clause-made
returns-then-width-clause-made c = λ names e f t u.
    let s = c.args.terms.now in
    let ws = widths_named s names in
    unlike (width_in ws e) (width_in ws f) (width_at s c.args.a.0) (width_at s c.args.b.0) t.wide u.wide (λ k. omega (arith, k, c.if-width.true, c.width.ensures.is, c.width-2.ensures.is))

pub returns-then-width-clause-keeps : goal.returns-then-width-clause-keeps
returns-then-width-clause-keeps c = keeps_same c.args.terms.now

pub returns-clause-made : goal.returns-clause-made
returns-clause-made c = λ names e f t u.
    let old = c.args.terms.now in
    let s = c.double.new.terms in
    let m = c.in_ok-made in
    let k = m.ensures.keeps in
    let a = c.args.a.0 in
    let b = c.args.b.0 in
    let same : width_at old a ≡ width_at old b = omega (arith, c.if-width.false, c.width.ensures.is, c.width-2.ensures.is) in
    test_meant s m.ensures.sound names c.args.op e f a b m.made.0 (term_kept old s k names e a t) (term_kept old s k names f b u) (k.wide a t.there ∙ same ∙ sym (k.wide b u.there)) (subst (λ o. IsTwo s o a b m.made.0) c.test_term.ensures m.ensures.made)

pub returns-clause-there : goal.returns-clause-there
returns-clause-there c = c.in_ok-made.ensures.made.there

pub returns-clause-one : goal.returns-clause-one
returns-clause-one c =
    let s = c.double.new.terms in
    let m = c.in_ok-made.ensures.made in
    m.wide ∙ ap (λ o. width_by s.inputs o (width_at s c.args.a.0) (width_at s c.args.b.0)) c.test_term.ensures ∙ test_wide s.inputs c.args.op (width_at s c.args.a.0) (width_at s c.args.b.0)
