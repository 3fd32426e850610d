use Rattle.std.proofs.Common.{◌≡◌, ◌≤◌, ◌+◌, ap, subst, ◌∙◌, arith}
use Rattle.stk_terms.specs.Values.{width_at}
use Rattle.stk_scripts.specs.Scripts.{widened_width}
use Rattle.stk_script_reader.specs.Made.{IsOne}
use Rattle.stk_script_reader.specs.Operators.{extend_term}
use Rattle.stk_script_reader.proofs.Kept.{keeps_same, term_kept}
use Rattle.stk_script_reader.proofs.Meant.{widened_meant, bounded_none}
use Rattle.stk_script_reader.proofs.operators.extend.Goals as goal

pub returns-then-more-room-clause-made : goal.returns-then-more-room-clause-made
returns-then-more-room-clause-made c = λ names e t.
    let s = c.args.terms.now in
    ap (widened_width c.args.more) t.wide ∙ bounded_none (width_at s c.args.a.0 + c.args.more) (omega (arith, c.if-more-room.true, c.width-width.ensures.is, c.width-width.ensures.most))

pub returns-then-more-room-clause-keeps : goal.returns-then-more-room-clause-keeps
returns-then-more-room-clause-keeps c = keeps_same c.args.terms.now

pub returns-clause-made : goal.returns-clause-made
returns-clause-made c = λ names e t.
    let old = c.args.terms.now in
    let s = c.single.new.terms in
    let m = c.in_ok-made in
    let k = m.ensures.keeps in
    let a = c.args.a.0 in
    let few : width_at s a + c.args.more ≤ 128 = omega (arith, c.if-more-room.false, c.width-width.ensures.is, c.width-width.ensures.most, k.wide a t.there) in
    let same : c.width-width.result + c.args.more ≡ width_at s a + c.args.more = omega (arith, c.width-width.ensures.is, k.wide a t.there) in
    widened_meant s m.ensures.sound names c.args.op c.args.more e a m.made.0 (term_kept old s k names e a t) few (subst (λ o. IsOne s o a m.made.0) (c.extend_term.ensures ∙ ap (extend_term c.args.op) same) m.ensures.made)
