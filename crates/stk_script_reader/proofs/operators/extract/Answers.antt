use Rattle.std.proofs.Common.{ap, ◌∙◌, arith}
use Rattle.stk_terms.specs.Values.{width_at}
use Rattle.stk_scripts.specs.Scripts.{cut_width}
use Rattle.stk_script_reader.proofs.Kept.{keeps_same, term_kept}
use Rattle.stk_script_reader.proofs.Meant.{cut_meant, cut_none}
use Rattle.stk_script_reader.proofs.operators.extract.Goals as goal

pub returns-then-not-is_cut-clause-made : goal.returns-then-not-is_cut-clause-made
returns-then-not-is_cut-clause-made c = λ names e t.
    let s = c.args.terms.now in
    ap (cut_width c.args.high c.args.low) t.wide
    ∙ cut_none c.args.high c.args.low (width_at s c.args.a.0) (λ k. let l = k.1 in let u = c.is_cut.ensures.1 (k.0, omega (arith, l, c.width.ensures.is)) in absurd (cc (u, c.if-not-is_cut.true)))

pub returns-then-not-is_cut-clause-keeps : goal.returns-then-not-is_cut-clause-keeps
returns-then-not-is_cut-clause-keeps c = keeps_same c.args.terms.now

pub returns-clause-made : goal.returns-clause-made
returns-clause-made c = λ names e t.
    let old = c.args.terms.now in
    let s = c.single.new.terms in
    let m = c.in_ok-made in
    let k = m.ensures.keeps in
    let a = c.args.a.0 in
    let within = c.is_cut.ensures.0 c.if-not-is_cut.false in
    let l = within.1 in
    cut_meant s m.ensures.sound names c.args.high c.args.low e a m.made.0 (term_kept old s k names e a t) within.0 (omega (arith, l, c.width.ensures.is, k.wide a t.there)) m.ensures.made
