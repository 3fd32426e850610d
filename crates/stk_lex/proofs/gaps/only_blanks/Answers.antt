use Rattle.std.proofs.Common.{◌≡◌, sym, ◌∙◌, arith}
use Rattle.stk_lex.specs.Gaps.{only_blanks}
use Rattle.stk_lex.proofs.Blanks.{blanks_stop, blanks_other, blanks_on}
use Rattle.stk_lex.proofs.gaps.only_blanks.Goals as goal

pub returns-then-b-eq10 : goal.returns-then-b-eq10
returns-then-b-eq10 c = sym (blanks_stop c.args.bytes.now c.loop-place.place (omega arith) (omega arith) c.if-b-eq10.true) ∙ c.loop-place.invariant.same

pub returns-then-not-is_blank : goal.returns-then-not-is_blank
returns-then-not-is_blank c = sym (blanks_other c.args.bytes.now c.loop-place.place (omega arith) (omega arith) c.if-b-eq10.false (sym c.is_blank.ensures ∙ c.if-not-is_blank.true)) ∙ c.loop-place.invariant.same

pub loop-place-preserved : goal.loop-place-preserved
loop-place-preserved c = record {
  same = sym (blanks_on c.args.bytes.now c.loop-place.place (omega arith) (omega arith) c.if-b-eq10.false (sym c.is_blank.ensures ∙ c.if-not-is_blank.false)) ∙ c.loop-place.invariant.same;
  before = omega arith;
}

pub returns : goal.returns
unfolding only_blanks
returns c =
    let start : c.loop-place.place ≡ 0 = omega arith in
    rw start at c.loop-place.invariant.same
