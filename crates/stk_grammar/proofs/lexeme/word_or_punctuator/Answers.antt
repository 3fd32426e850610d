use Rattle.stk_grammar.proofs.Spellings.{is_fixed}
use Rattle.stk_grammar.proofs.lexeme.word_or_punctuator.Goals as goal

pub returns : goal.returns
returns c = is_fixed c.args.text.now c.fixed_of.result c.fixed_of.ensures.found c.fixed_of.ensures.missing
