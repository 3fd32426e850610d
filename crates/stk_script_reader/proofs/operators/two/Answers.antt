use Rattle.std.proofs.Common.{◌≡◌, sym, ◌∙◌, arith}
use Rattle.stk_terms.specs.Values.{width_at}
use Rattle.stk_scripts.specs.Scripts.{width_in}
use Rattle.stk_script_reader.specs.Standing.{widths_named}
use Rattle.stk_script_reader.proofs.Kept.{keeps_same, term_kept}
use Rattle.stk_script_reader.proofs.Meant.{two_meant, unlike}
use Rattle.stk_script_reader.proofs.operators.two.Goals as goal

pub returns-then-width-clause-made : goal.returns-then-width-clause-made
returns-then-width-clause-made c = λ names e f t u.
    let s = c.args.terms.now in
    let ws = widths_named s names in
    unlike (width_in ws e) (width_in ws f) (width_at s c.args.a.0) (width_at s c.args.b.0) t.wide u.wide (λ k. omega (arith, k, c.if-width.true, c.width.ensures.is, c.width-2.ensures.is))

pub returns-then-width-clause-keeps : goal.returns-then-width-clause-keeps
returns-then-width-clause-keeps c = keeps_same c.args.terms.now

pub returns-clause-made : goal.returns-clause-made
returns-clause-made c = λ names e f t u.
    let old = c.args.terms.now in
    let s = c.applied.new.terms in
    let m = c.in_ok-made in
    let k = m.ensures.keeps in
    let a = c.args.a.0 in
    let b = c.args.b.0 in
    let same : width_at old a ≡ width_at old b = omega (arith, c.if-width.false, c.width.ensures.is, c.width-2.ensures.is) in
    two_meant s m.ensures.sound names c.args.op e f a b m.made.0 (term_kept old s k names e a t) (term_kept old s k names f b u) (k.wide a t.there ∙ same ∙ sym (k.wide b u.there)) m.ensures.made
