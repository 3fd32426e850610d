use Rattle.stk_symbols.proofs.Made.{number_valued, number_term}
use Rattle.stk_symbols.proofs.making.constant.Goals as goal

pub returns-clause-made : goal.returns-clause-made
returns-clause-made c = number_term c.args.terms.now c.constant.new.self c.in_ok-v.v.0 c.args.width c.args.number c.in_ok-v.ensures.built

pub returns-clause-value : goal.returns-clause-value
returns-clause-value c = λ numbers o. number_valued c.args.terms.now c.constant.new.self c.constant.ensures.keeps c.in_ok-v.v.0 numbers o c.args.width c.args.number c.in_ok-v.ensures.built

pub returns-clause-grows : goal.returns-clause-grows
returns-clause-grows c = λ chosen closed. c.in_ok-v.ensures.built.grows chosen closed tt
