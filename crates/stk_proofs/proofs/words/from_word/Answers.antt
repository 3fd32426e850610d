use Rattle.std.proofs.Common.{◌∙◌, arith}
use Rattle.stk_proofs.proofs.FirstWord.{comment_step}
use Rattle.stk_proofs.proofs.words.from_word.Goals as goal

pub loop-first-preserved-then-first-eq99 : goal.loop-first-preserved-then-first-eq99
loop-first-preserved-then-first-eq99 c = record {
  words = comment_step c.loop-first.starts c.loop-first.rest.now c.in-Some.behind.now c.behind_line-rest.result.now c.in-Some.first.now c.in-Some.ensures.cases.0 c.if-starts.true c.if-first-eq99.true c.behind_line-rest.ensures.behind ∙ c.loop-first.invariant.words;
  within = search (arith, c.behind_line-rest.ensures.within, c.loop-first.invariant.within, c.in-Some.ensures.cases.0);
}
