use Rattle.std.proofs.Common.{◌≡◌, ◌<◌, ◌∙◌, length, sym, ap, subst, refl, arith}
use Rattle.std.proofs.lemmas.Bool.{true≢false}
use Rattle.stk_bundle.specs.Grammar.{is_ended}
use Rattle.stk_audit.specs.Hands.{hand_of}
use Rattle.stk_audit.specs.Progressing.{known_in}
use Rattle.stk_audit.specs.Stepping.{Stepped, IsReady, IsOpenClaim, IsEnd, IsEndFrom}
use Rattle.std.specs.Prelude.{IfOk}
use Rattle.stk_audit.proofs.Turns.{first_audited, after_line, small, small_rest, ready, open_there, line_fails, no_line_comes, nothing_left, something_left, ended_there, ended_is, shorter}
use Rattle.stk_audit.proofs.auditing.all_lines.Goals as goal

pub lines-init : goal.lines-init
lines-init g c = record {
  audited = first_audited (g.A.Answering.world (g.A.Answering.about c.args.answering.now)) c.args.bundle.now c.args.progress.now c.requires.known c.requires.number;
  hand = c.requires.fresh ∙ sym (ap hand_of c.requires.known);
  about = refl;
}

pub take_line-requires-clause-ready : goal.take_line-requires-clause-ready
take_line-requires-clause-ready g c =
    subst (λ i. IsReady (g.A.Answering.world i) (known_in c.lines.progress) c.in-Ok.next.part.line) (sym c.lines.invariant.about) (ready (g.A.Answering.world (g.A.Answering.about c.args.answering.now)) c.args.bundle.now c.lines.stage c.lines.progress c.lines.rest.now c.lines.invariant.audited c.in-Ok.next.stage c.in-Ok.next.rest.now c.in-Ok.next.part.block.now c.in-Ok.next.part.line c.in-Ok.ensures.ok)

pub overflow_add-progress : goal.overflow_add-progress
overflow_add-progress g c =
    let few = small (g.A.Answering.world (g.A.Answering.about c.args.answering.now)) c.args.bundle.now c.lines.stage c.lines.progress c.lines.rest.now c.lines.invariant.audited c.in-Ok.next.stage c.take_line.new.progress c.in-Ok.next.rest.now c.in-Ok.next.part.block.now c.in-Ok.next.part.line c.in-Ok.ensures.ok (subst (λ s. Stepped (g.A.Answering.world (g.A.Answering.about c.args.answering.now)) c.lines.progress c.in-Ok.next.part.line c.in-Ok.next.part.block.now s c.take_line.new.progress) c.in-Holds.is (subst (λ i. Stepped (g.A.Answering.world i) c.lines.progress c.in-Ok.next.part.line c.in-Ok.next.part.block.now c.in_ok-take_line-in-Ok.field-0 c.take_line.new.progress) c.lines.invariant.about c.in_ok-take_line-in-Ok.ensures.step)) c.requires.short in
    omega (arith, few)

pub number_behind-progress-requires : goal.number_behind-progress-requires
number_behind-progress-requires g c = small (g.A.Answering.world (g.A.Answering.about c.args.answering.now)) c.args.bundle.now c.lines.stage c.lines.progress c.lines.rest.now c.lines.invariant.audited c.in-Ok.next.stage c.take_line.new.progress c.in-Ok.next.rest.now c.in-Ok.next.part.block.now c.in-Ok.next.part.line c.in-Ok.ensures.ok (subst (λ s. Stepped (g.A.Answering.world (g.A.Answering.about c.args.answering.now)) c.lines.progress c.in-Ok.next.part.line c.in-Ok.next.part.block.now s c.take_line.new.progress) c.in-Holds.is (subst (λ i. Stepped (g.A.Answering.world i) c.lines.progress c.in-Ok.next.part.line c.in-Ok.next.part.block.now c.in_ok-take_line-in-Ok.field-0 c.take_line.new.progress) c.lines.invariant.about c.in_ok-take_line-in-Ok.ensures.step)) c.requires.short

pub lines-smaller : goal.lines-smaller
lines-smaller g c = shorter c.lines.stage c.in-Ok.next.stage c.lines.rest.now c.in-Ok.next.part.block.now c.in-Ok.next.rest.now c.in-Ok.next.part.line c.in-Ok.ensures.ok

pub lines-preserved : goal.lines-preserved
lines-preserved g c = record {
  audited = after_line (g.A.Answering.world (g.A.Answering.about c.args.answering.now)) c.args.bundle.now c.lines.stage c.lines.progress c.lines.rest.now c.lines.invariant.audited c.in-Ok.next.stage c.take_line.new.progress _ c.in-Ok.next.rest.now c.in-Ok.next.part.block.now c.in-Ok.next.part.line c.in-Ok.ensures.ok (subst (λ s. Stepped (g.A.Answering.world (g.A.Answering.about c.args.answering.now)) c.lines.progress c.in-Ok.next.part.line c.in-Ok.next.part.block.now s c.take_line.new.progress) c.in-Holds.is (subst (λ i. Stepped (g.A.Answering.world i) c.lines.progress c.in-Ok.next.part.line c.in-Ok.next.part.block.now c.in_ok-take_line-in-Ok.field-0 c.take_line.new.progress) c.lines.invariant.about c.in_ok-take_line-in-Ok.ensures.step)) (c.in_ok-take_line-in-Ok.ensures.within c.in-Holds.is c.lines.invariant.audited.within) refl c.number_behind-progress.ensures;
  hand = c.in_ok-take_line-in-Ok.ensures.hand c.in-Holds.is;
  about = c.in_ok-take_line-in-Ok.ensures.about ∙ c.lines.invariant.about;
}

pub lines-preserved-in-Holds : goal.lines-preserved-in-Holds
lines-preserved-in-Holds g c = record {
  audited = after_line (g.A.Answering.world (g.A.Answering.about c.args.answering.now)) c.args.bundle.now c.lines.stage c.lines.progress c.lines.rest.now c.lines.invariant.audited c.in-Ok.next.stage c.take_line.new.progress _ c.in-Ok.next.rest.now c.in-Ok.next.part.block.now c.in-Ok.next.part.line c.in-Ok.ensures.ok (subst (λ s. Stepped (g.A.Answering.world (g.A.Answering.about c.args.answering.now)) c.lines.progress c.in-Ok.next.part.line c.in-Ok.next.part.block.now s c.take_line.new.progress) c.in-Holds.is (subst (λ i. Stepped (g.A.Answering.world i) c.lines.progress c.in-Ok.next.part.line c.in-Ok.next.part.block.now c.in_ok-take_line-in-Ok.field-0 c.take_line.new.progress) c.lines.invariant.about c.in_ok-take_line-in-Ok.ensures.step)) (c.in_ok-take_line-in-Ok.ensures.within c.in-Holds.is c.lines.invariant.audited.within) refl c.number_behind-progress.ensures;
  hand = c.in_ok-take_line-in-Ok.ensures.hand c.in-Holds.is;
  about = c.in_ok-take_line-in-Ok.ensures.about ∙ c.lines.invariant.about;
}

pub lines-preserved-in-Holds-2 : goal.lines-preserved-in-Holds-2
lines-preserved-in-Holds-2 g c = record {
  audited = after_line (g.A.Answering.world (g.A.Answering.about c.args.answering.now)) c.args.bundle.now c.lines.stage c.lines.progress c.lines.rest.now c.lines.invariant.audited c.in-Ok.next.stage c.take_line.new.progress _ c.in-Ok.next.rest.now c.in-Ok.next.part.block.now c.in-Ok.next.part.line c.in-Ok.ensures.ok (subst (λ s. Stepped (g.A.Answering.world (g.A.Answering.about c.args.answering.now)) c.lines.progress c.in-Ok.next.part.line c.in-Ok.next.part.block.now s c.take_line.new.progress) c.in-Holds.is (subst (λ i. Stepped (g.A.Answering.world i) c.lines.progress c.in-Ok.next.part.line c.in-Ok.next.part.block.now c.in_ok-take_line-in-Ok.field-0 c.take_line.new.progress) c.lines.invariant.about c.in_ok-take_line-in-Ok.ensures.step)) (c.in_ok-take_line-in-Ok.ensures.within c.in-Holds.is c.lines.invariant.audited.within) refl c.number_behind-progress.ensures;
  hand = c.in_ok-take_line-in-Ok.ensures.hand c.in-Holds.is;
  about = c.in_ok-take_line-in-Ok.ensures.about ∙ c.lines.invariant.about;
}

pub lines-preserved-in-Holds-3 : goal.lines-preserved-in-Holds-3
lines-preserved-in-Holds-3 g c = record {
  audited = after_line (g.A.Answering.world (g.A.Answering.about c.args.answering.now)) c.args.bundle.now c.lines.stage c.lines.progress c.lines.rest.now c.lines.invariant.audited c.in-Ok.next.stage c.take_line.new.progress _ c.in-Ok.next.rest.now c.in-Ok.next.part.block.now c.in-Ok.next.part.line c.in-Ok.ensures.ok (subst (λ s. Stepped (g.A.Answering.world (g.A.Answering.about c.args.answering.now)) c.lines.progress c.in-Ok.next.part.line c.in-Ok.next.part.block.now s c.take_line.new.progress) c.in-Holds.is (subst (λ i. Stepped (g.A.Answering.world i) c.lines.progress c.in-Ok.next.part.line c.in-Ok.next.part.block.now c.in_ok-take_line-in-Ok.field-0 c.take_line.new.progress) c.lines.invariant.about c.in_ok-take_line-in-Ok.ensures.step)) (c.in_ok-take_line-in-Ok.ensures.within c.in-Holds.is c.lines.invariant.audited.within) refl c.number_behind-progress.ensures;
  hand = c.in_ok-take_line-in-Ok.ensures.hand c.in-Holds.is;
  about = c.in_ok-take_line-in-Ok.ensures.about ∙ c.lines.invariant.about;
}

pub returns-in-Fails-clause-end : goal.returns-in-Fails-clause-end
returns-in-Fails-clause-end g c = line_fails (g.A.Answering.world (g.A.Answering.about c.args.answering.now)) c.args.bundle.now c.lines.stage c.lines.progress c.lines.rest.now c.lines.invariant.audited c.in-Ok.next.stage c.take_line.new.progress c.in-Ok.next.rest.now c.in-Ok.next.part.block.now c.in-Ok.next.part.line c.in-Fails.line c.in-Fails.why c.in-Ok.ensures.ok (subst (λ s. Stepped (g.A.Answering.world (g.A.Answering.about c.args.answering.now)) c.lines.progress c.in-Ok.next.part.line c.in-Ok.next.part.block.now s c.take_line.new.progress) c.in-Fails.is (subst (λ i. Stepped (g.A.Answering.world i) c.lines.progress c.in-Ok.next.part.line c.in-Ok.next.part.block.now c.in_ok-take_line-in-Ok.field-0 c.take_line.new.progress) c.lines.invariant.about c.in_ok-take_line-in-Ok.ensures.step))

pub returns-in-Err-Line-clause-end : goal.returns-in-Err-Line-clause-end
returns-in-Err-Line-clause-end g c =
    subst (λ s. IsEnd (g.A.Answering.world (g.A.Answering.about c.args.answering.now)) c.args.bundle.now c.lines.progress s) (sym c.fails.ensures)
    (no_line_comes (g.A.Answering.world (g.A.Answering.about c.args.answering.now)) c.args.bundle.now c.lines.stage c.lines.progress c.lines.rest.now c.lines.invariant.audited (λ e. true≢false (sym (c.is_ended.ensures ∙ ap is_ended e) ∙ c.lines-test.true)) (c.in-Err-Line.ensures.line c.in-Err-Line.field-0-is))

pub short_block-requires-clause-claim : goal.short_block-requires-clause-claim
short_block-requires-clause-claim g c = λ e.
    subst (λ i. IsOpenClaim (g.A.Answering.world i) (known_in c.lines.progress)) (sym c.lines.invariant.about) (open_there (g.A.Answering.world (g.A.Answering.about c.args.answering.now)) c.args.bundle.now c.lines.stage c.lines.progress c.lines.rest.now c.lines.invariant.audited e)

pub short_block-requires-clause-few : goal.short_block-requires-clause-few
short_block-requires-clause-few g c = small_rest (g.A.Answering.world (g.A.Answering.about c.args.answering.now)) c.args.bundle.now c.lines.stage c.lines.progress c.lines.rest.now c.lines.invariant.audited c.requires.short

pub returns-in-Err-Block-clause-end : goal.returns-in-Err-Block-clause-end
returns-in-Err-Block-clause-end g c =
    ended_there (g.A.Answering.world (g.A.Answering.about c.args.answering.now)) c.args.bundle.now c.lines.stage c.lines.progress c.lines.rest.now c.lines.invariant.audited c.short_block.result (subst (λ i. IfOk c.short_block.result (IsEndFrom (g.A.Answering.world i) c.lines.stage c.lines.progress c.lines.rest.now)) c.lines.invariant.about c.short_block.ensures)

pub returns-then-is_empty-clause-end : goal.returns-then-is_empty-clause-end
returns-then-is_empty-clause-end g c =
    let empty : length c.lines.rest.now ≡ 0 = grind (arith, c.is_empty.ensures, c.if-is_empty.true) in
    nothing_left (g.A.Answering.world (g.A.Answering.about c.args.answering.now)) c.args.bundle.now c.lines.stage c.lines.progress c.lines.rest.now c.lines.invariant.audited c.lines.progress.claims.items (ended_is c.lines.stage (sym c.is_ended.ensures ∙ c.lines-test.false)) empty refl

pub returns-else-is_empty-clause-end : goal.returns-else-is_empty-clause-end
returns-else-is_empty-clause-end g c =
    let some : 0 < length c.lines.rest.now = grind (arith, c.is_empty.ensures, c.if-is_empty.false) in
    subst (λ s. IsEnd (g.A.Answering.world (g.A.Answering.about c.args.answering.now)) c.args.bundle.now c.lines.progress s) (sym c.fails-else-is_empty.ensures) (something_left (g.A.Answering.world (g.A.Answering.about c.args.answering.now)) c.args.bundle.now c.lines.stage c.lines.progress c.lines.rest.now c.lines.invariant.audited (ended_is c.lines.stage (sym c.is_ended.ensures ∙ c.lines-test.false)) some)
