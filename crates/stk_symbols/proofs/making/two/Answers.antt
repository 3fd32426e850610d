use Rattle.std.proofs.Common.{sym, subst}
use Rattle.stk_terms.specs.Cost.{bound, Grows}
use Rattle.stk_terms.specs.Fitting.{WidthsFit}
use Rattle.stk_terms.specs.Values.{width_at}
use Rattle.stk_symbols.proofs.Made.{two_valued, two_term}
use Rattle.stk_symbols.proofs.making.two.Goals as goal

pub two-requires-clause-fits : goal.two-requires-clause-fits
two-requires-clause-fits c = subst (λ w. WidthsFit c.args.terms.now.inputs c.args.op w (width_at c.args.terms.now c.args.b.0) 0) (sym c.requires.first.wide) (subst (λ w. WidthsFit c.args.terms.now.inputs c.args.op c.args.widths.0 w 0) (sym c.requires.second.wide) c.requires.fits)

pub returns-clause-made : goal.returns-clause-made
returns-clause-made c = two_term c.args.terms.now c.two.new.self c.in_ok-v.v.0 c.args.op c.args.a c.args.b c.args.widths.0 c.args.widths.1 c.requires.first c.requires.second c.in_ok-v.ensures.built

pub returns-clause-value : goal.returns-clause-value
returns-clause-value c = λ numbers o. two_valued c.args.terms.now c.two.new.self c.two.ensures.keeps c.in_ok-v.v.0 numbers o c.args.op c.args.a c.args.b c.args.widths.0 c.args.widths.1 c.requires.first c.requires.second c.in_ok-v.ensures.built

pub returns-clause-grows : goal.returns-clause-grows
returns-clause-grows c = λ chosen closed a b. subst (λ w. Grows c.args.terms.now c.two.new.self chosen (bound c.args.op w c.args.widths.1) c.in_ok-v.v.0) c.requires.first.wide (subst (λ w. Grows c.args.terms.now c.two.new.self chosen (bound c.args.op (width_at c.args.terms.now c.args.a.0) w) c.in_ok-v.v.0) c.requires.second.wide (c.in_ok-v.ensures.built.grows chosen closed (a, b)))
