use Rattle.stk_symbols.proofs.Made.{three_valued, three_term}
use Rattle.stk_symbols.proofs.making.chosen.Goals as goal

pub returns-clause-made : goal.returns-clause-made
returns-clause-made c = three_term c.args.terms.now c.choice.new.self c.in_ok-v.v.0 c.args.test c.args.a c.args.b c.args.width c.requires.first c.in_ok-v.ensures.built

pub returns-clause-value : goal.returns-clause-value
returns-clause-value c = λ numbers o. three_valued c.args.terms.now c.choice.new.self c.choice.ensures.keeps c.in_ok-v.v.0 numbers o c.args.test c.args.a c.args.b 1 c.args.width c.requires.test c.requires.first c.requires.second c.in_ok-v.ensures.built
