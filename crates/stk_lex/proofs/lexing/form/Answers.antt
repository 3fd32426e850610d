use Rattle.std.proofs.Common.{sym, ◌∙◌, arith}
use Rattle.stk_lex.specs.Classes.{is_word, is_number, is_character, is_text, is_punctuator, is_digraph}
use Rattle.stk_lex.specs.Lengths.{word_length, number_length, character_length, text_length, punctuator_length, digraph_length}
use Rattle.stk_lex.specs.Cut.{digraph}
use Rattle.stk_lex.proofs.Longest.{word_is_longest, number_is_longest, character_is_longest, text_is_longest, punctuator_is_longest, digraph_is_longest}
use Rattle.stk_lex.proofs.First.{passes_of}
use Rattle.stk_lex.proofs.lexing.form.Goals as goal

pub returns-then-word-most-clause-class : goal.returns-then-word-most-clause-class
returns-then-word-most-clause-class c = passes_of is_word c.args.bytes.now (word_length c.args.bytes.now) c.max-most.result (word_is_longest c.args.bytes.now) (sym c.if-word-most.true ∙ c.word_length-word.ensures.value)

pub returns-then-number-most-clause-class : goal.returns-then-number-most-clause-class
returns-then-number-most-clause-class c = passes_of is_number c.args.bytes.now (number_length c.args.bytes.now) c.max-most.result (number_is_longest c.args.bytes.now) (sym c.if-number-most.true ∙ c.number_length-number.ensures.value)

pub returns-then-character-most-clause-class : goal.returns-then-character-most-clause-class
returns-then-character-most-clause-class c = passes_of is_character c.args.bytes.now (character_length c.args.bytes.now) c.max-most.result (character_is_longest c.args.bytes.now) (sym c.if-character-most.true ∙ c.requires.character)

pub returns-then-text-most-clause-class : goal.returns-then-text-most-clause-class
returns-then-text-most-clause-class c = passes_of is_text c.args.bytes.now (text_length c.args.bytes.now) c.max-most.result (text_is_longest c.args.bytes.now) (sym c.if-text-most.true ∙ c.requires.text)

pub returns-then-punctuator-most-clause-class : goal.returns-then-punctuator-most-clause-class
returns-then-punctuator-most-clause-class c = passes_of is_punctuator c.args.bytes.now (punctuator_length c.args.bytes.now) c.max-most.result (punctuator_is_longest c.args.bytes.now) (sym c.if-punctuator-most.true ∙ c.punctuator_length-punctuator.ensures.value)

pub returns-else-punctuator-most-clause-class : goal.returns-else-punctuator-most-clause-class
returns-else-punctuator-most-clause-class c = λ some. digraph (passes_of is_digraph c.args.bytes.now (digraph_length c.args.bytes.now) c.max-most.result (digraph_is_longest c.args.bytes.now) (omega arith) some)
