use Rattle.std.proofs.Common.{◌≡◌, sym, ap, ◌∙◌, arith}
use Rattle.stk_lex.specs.Gaps.{comment, one_more}
use Rattle.stk_lex.proofs.Blanks.{comment_on, one_more_none, one_more_some}
use Rattle.stk_lex.proofs.gaps.comment.Goals as goal

pub loop-b-preserved : goal.loop-b-preserved
loop-b-preserved c =
    let i = c.loop-b.invariant in
    let turn : comment c.loop-b.rest.now ≡ one_more (comment c.in-Some.behind.now) =
    ap comment c.in-Some.ensures.cases.0 ∙ comment_on c.in-Some.b.now c.in-Some.behind.now (sym c.ends_comment.ensures ∙ c.if-ends_comment.false) in
    record {
      none = λ h. i.none (turn ∙ one_more_none (comment c.in-Some.behind.now) h);
      some = λ h. let more = turn ∙ one_more_some (comment c.in-Some.behind.now) h in omega (arith, more, i.some (omega (arith, more)));
      few = omega (arith, i.few, c.in-Some.ensures.cases.1);
    }
