use Rattle.std.proofs.Common.{sym, subst}
use Rattle.stk_terms.specs.Cost.{bound, Grows}
use Rattle.stk_terms.specs.Fitting.{WidthsFit}
use Rattle.stk_symbols.proofs.Made.{one_valued, one_term}
use Rattle.stk_symbols.proofs.making.one.Goals as goal

pub one-requires-clause-fits : goal.one-requires-clause-fits
one-requires-clause-fits c = subst (λ w. WidthsFit c.args.terms.now.inputs c.args.op w 0 0) (sym c.requires.term.wide) c.requires.fits

pub returns-clause-made : goal.returns-clause-made
returns-clause-made c = one_term c.args.terms.now c.one.new.self c.in_ok-v.v.0 c.args.op c.args.a c.args.width c.requires.term c.in_ok-v.ensures.built

pub returns-clause-value : goal.returns-clause-value
returns-clause-value c = λ numbers o. one_valued c.args.terms.now c.one.new.self c.one.ensures.keeps c.in_ok-v.v.0 numbers o c.args.op c.args.a c.args.width c.requires.term c.in_ok-v.ensures.built

pub returns-clause-grows : goal.returns-clause-grows
returns-clause-grows c = λ chosen closed has. subst (λ w. Grows c.args.terms.now c.one.new.self chosen (bound c.args.op w 0) c.in_ok-v.v.0) c.requires.term.wide (c.in_ok-v.ensures.built.grows chosen closed has)
