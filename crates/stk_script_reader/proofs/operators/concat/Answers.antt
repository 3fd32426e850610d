use Rattle.std.proofs.Common.{◌≤◌, ◌+◌, ◌∙◌, arith}
use Rattle.stk_terms.specs.Values.{width_at}
use Rattle.stk_scripts.specs.Scripts.{joined_width}
use Rattle.stk_script_reader.proofs.Kept.{keeps_same, term_kept}
use Rattle.stk_script_reader.proofs.Meant.{joined_meant, bounded_none}
use Rattle.stk_script_reader.proofs.operators.concat.Goals as goal

pub returns-then-width-clause-made : goal.returns-then-width-clause-made
returns-then-width-clause-made c = λ names e f t u.
    let s = c.args.terms.now in
    (λ i. joined_width (t.wide i) (u.wide i))
    ∙ bounded_none (width_at s c.args.a.0 + width_at s c.args.b.0) (omega (arith, c.if-width.true, c.width.ensures.is, c.width-2.ensures.is, c.width-2.ensures.most))

pub returns-then-width-clause-keeps : goal.returns-then-width-clause-keeps
returns-then-width-clause-keeps c = keeps_same c.args.terms.now

pub double-requires-clause-fits : goal.double-requires-clause-fits
double-requires-clause-fits c = omega (arith, c.if-width.false, c.width.ensures.is, c.width-2.ensures.is, c.width-2.ensures.most)

pub returns-clause-made : goal.returns-clause-made
returns-clause-made c = λ names e f t u.
    let old = c.args.terms.now in
    let s = c.double.new.terms in
    let m = c.in_ok-made in
    let k = m.ensures.keeps in
    let a = c.args.a.0 in
    let b = c.args.b.0 in
    let few : width_at s a + width_at s b ≤ 128 = omega (arith, c.if-width.false, c.width.ensures.is, c.width-2.ensures.is, c.width-2.ensures.most, k.wide a t.there, k.wide b u.there) in
    joined_meant s m.ensures.sound names e f a b m.made.0 (term_kept old s k names e a t) (term_kept old s k names f b u) few m.ensures.made
