use Rattle.std.proofs.Common.{arith}
use Rattle.stk_proofs.proofs.FirstWord.{word_step}
use Rattle.stk_proofs.proofs.words.next_word.Goals as goal

pub returns-clause-words : goal.returns-clause-words
returns-clause-words c =
    word_step c.from_word-start.result.now c.split_at.result.0.now c.split_at.result.1.now c.args.text.now c.word_length.result c.from_word-start.ensures.begins (λ h. grind (arith, h, c.is_empty.ensures, c.if-is_empty.false)) c.word_length.ensures.front c.word_length.ensures.behind c.split_at.ensures.front c.split_at.ensures.back c.from_word-start.ensures.words
