use Rattle.std.proofs.Common.{sym, ap, ◌∙◌, refl, subst}
use Rattle.stk_numbers.specs.declared.conditions.Kinds.{Kinds}
use Rattle.stk_bundle.specs.declared.line.BundleLine.TheVariants as line
use Rattle.stk_audit_rules.specs.Knowing.{kinds_taken}
use Rattle.stk_audit_rules.specs.Reasons as rules
use Rattle.stk_audit.specs.declared.progress.Step.TheVariants as steps
use Rattle.stk_audit.specs.Hands.{hand_by}
use Rattle.stk_audit.specs.Progressing.{known_in}
use Rattle.stk_audit.specs.Stepping.{Stepped, IsReady}
use Rattle.stk_audit.proofs.Lines.{it_holds, same_hand, same_within}
use Rattle.stk_audit.proofs.Arms.{arm_step, arm_hand, arm_within, at_block, at_number, arm_derived, kept_same, arm_brought}
use Rattle.stk_audit.proofs.stepping.take_line.Goals as goal

pub tried-requires-clause-claim : goal.tried-requires-clause-claim
tried-requires-clause-claim g c = subst (IsReady (g.A.Answering.world (g.A.Answering.about c.args.answering.now)) (known_in c.args.progress.now)) c.in-Tried.is c.requires.ready

pub clauses-requires-clause-claim : goal.clauses-requires-clause-claim
clauses-requires-clause-claim g c = subst (IsReady (g.A.Answering.world (g.A.Answering.about c.args.answering.now)) (known_in c.args.progress.now)) c.in-Clauses.is c.requires.ready

pub derivation-requires-clause-claim : goal.derivation-requires-clause-claim
derivation-requires-clause-claim g c = let ready = (subst (IsReady (g.A.Answering.world (g.A.Answering.about c.args.answering.now)) (known_in c.args.progress.now)) c.in-Steps.is c.requires.ready) in (ready.0.at, ready.0.c, ready.0.claim)

pub derivation-requires-clause-clauses : goal.derivation-requires-clause-clauses
derivation-requires-clause-clauses g c = let ready = (subst (IsReady (g.A.Answering.world (g.A.Answering.about c.args.answering.now)) (known_in c.args.progress.now)) c.in-Steps.is c.requires.ready) in ready.1

pub derivation-requires-clause-within : goal.derivation-requires-clause-within
derivation-requires-clause-within g c = let ready = (subst (IsReady (g.A.Answering.world (g.A.Answering.about c.args.answering.now)) (known_in c.args.progress.now)) c.in-Steps.is c.requires.ready) in ready.2

pub returns-in-Head-clause-step : goal.returns-in-Head-clause-step
returns-in-Head-clause-step g c = subst (λ x. Stepped (g.A.Answering.world (g.A.Answering.about c.args.answering.now)) c.args.progress.now x c.args.block.now steps.Holds c.args.progress.now) (sym c.in-Head.is) (it_holds (g.A.Answering.world (g.A.Answering.about c.args.answering.now)) c.args.progress.now c.args.progress.now line.Head c.args.block.now (known_in c.args.progress.now) refl refl rules.head)

pub returns-in-End-clause-step : goal.returns-in-End-clause-step
returns-in-End-clause-step g c = subst (λ x. Stepped (g.A.Answering.world (g.A.Answering.about c.args.answering.now)) c.args.progress.now x c.args.block.now steps.Holds c.args.progress.now) (sym c.in-End.is) (it_holds (g.A.Answering.world (g.A.Answering.about c.args.answering.now)) c.args.progress.now c.args.progress.now line.End c.args.block.now (known_in c.args.progress.now) refl refl rules.end)

pub returns-in-Source-clause-step : goal.returns-in-Source-clause-step
returns-in-Source-clause-step g c = subst (λ x. Stepped (g.A.Answering.world (g.A.Answering.about c.args.answering.now)) c.args.progress.now x c.args.block.now c.source.result c.args.progress.now) (sym c.in-Source.is) (c.source.ensures c.args.block.now)

pub returns-in-Without-clause-step : goal.returns-in-Without-clause-step
returns-in-Without-clause-step g c = subst (λ x. Stepped (g.A.Answering.world (g.A.Answering.about c.args.answering.now)) c.args.progress.now x c.args.block.now steps.Holds (record c.args.progress.now { without = c.kinds_taken-progress.result })) (sym (c.in-Without.is ∙ ap line.Without (sym c.as_slice.ensures))) (it_holds (g.A.Answering.world (g.A.Answering.about c.args.answering.now)) c.args.progress.now (record c.args.progress.now { without = c.kinds_taken-progress.result }) (line.Without c.as_slice.result.now) c.args.block.now (record (known_in c.args.progress.now) { without = kinds_taken c.as_slice.result.now }) (ap (λ (k : Kinds). record (known_in c.args.progress.now) { without = k }) c.kinds_taken-progress.ensures) refl rules.without)

pub returns-in-Without-clause-hand : goal.returns-in-Without-clause-hand
returns-in-Without-clause-hand g c = λ e.
    let none = subst (IsReady (g.A.Answering.world (g.A.Answering.about c.args.answering.now)) (known_in c.args.progress.now)) c.in-Without.is c.requires.ready in
    c.requires.hand ∙ (ap (hand_by c.args.progress.now.without) none ∙ sym (ap (hand_by c.kinds_taken-progress.result) none))

pub returns-in-Unstable-clause-step : goal.returns-in-Unstable-clause-step
returns-in-Unstable-clause-step g c = subst (λ x. Stepped (g.A.Answering.world (g.A.Answering.about c.args.answering.now)) c.args.progress.now x c.args.block.now c.candidate.result c.candidate.new.progress) (sym c.in-Unstable.is) (c.candidate.ensures.unstable c.args.block.now)

pub returns-in-Unstable-clause-hand : goal.returns-in-Unstable-clause-hand
returns-in-Unstable-clause-hand g c = λ e. same_hand (g.A.Answering.world (g.A.Answering.about c.args.answering.now)) c.args.progress.now c.candidate.new.progress (line.Unstable c.in-Unstable.node c.in-Unstable.kind) c.args.block.now c.candidate.result (g.A.Answering.hand c.args.answering.now) (g.A.Answering.hand c.args.answering.now) (c.candidate.ensures.unstable c.args.block.now) refl (subst (IsReady (g.A.Answering.world (g.A.Answering.about c.args.answering.now)) (known_in c.args.progress.now)) c.in-Unstable.is c.requires.ready) c.requires.hand refl e

pub returns-in-Unstable-clause-within : goal.returns-in-Unstable-clause-within
returns-in-Unstable-clause-within g c = λ e within. same_within (g.A.Answering.world (g.A.Answering.about c.args.answering.now)) c.args.progress.now c.candidate.new.progress (line.Unstable c.in-Unstable.node c.in-Unstable.kind) c.args.block.now c.candidate.result (c.candidate.ensures.unstable c.args.block.now) refl e within

pub returns-in-Left-clause-step : goal.returns-in-Left-clause-step
returns-in-Left-clause-step g c = subst (λ x. Stepped (g.A.Answering.world (g.A.Answering.about c.args.answering.now)) c.args.progress.now x c.args.block.now c.candidate-in-Left.result c.candidate-in-Left.new.progress) (sym c.in-Left.is) (c.candidate-in-Left.ensures.left c.args.block.now)

pub returns-in-Left-clause-hand : goal.returns-in-Left-clause-hand
returns-in-Left-clause-hand g c = λ e. same_hand (g.A.Answering.world (g.A.Answering.about c.args.answering.now)) c.args.progress.now c.candidate-in-Left.new.progress (line.Left c.in-Left.node c.in-Left.kind) c.args.block.now c.candidate-in-Left.result (g.A.Answering.hand c.args.answering.now) (g.A.Answering.hand c.args.answering.now) (c.candidate-in-Left.ensures.left c.args.block.now) refl (subst (IsReady (g.A.Answering.world (g.A.Answering.about c.args.answering.now)) (known_in c.args.progress.now)) c.in-Left.is c.requires.ready) c.requires.hand refl e

pub returns-in-Left-clause-within : goal.returns-in-Left-clause-within
returns-in-Left-clause-within g c = λ e within. same_within (g.A.Answering.world (g.A.Answering.about c.args.answering.now)) c.args.progress.now c.candidate-in-Left.new.progress (line.Left c.in-Left.node c.in-Left.kind) c.args.block.now c.candidate-in-Left.result (c.candidate-in-Left.ensures.left c.args.block.now) refl e within

pub returns-in-Function-clause-step : goal.returns-in-Function-clause-step
returns-in-Function-clause-step g c = arm_step (g.A.Answering.world (g.A.Answering.about c.args.answering.now)) c.args.progress.now c.function.new.progress c.args.line.now (line.Function c.in-Function.at) c.in-Function.is c.args.block.now c.function.result (at_block (λ s b. Stepped (g.A.Answering.world (g.A.Answering.about c.args.answering.now)) c.args.progress.now (line.Function c.in-Function.at) b s c.function.new.progress) c.function.result c.args.block.now c.function.ensures.step)

pub returns-in-Function-clause-within : goal.returns-in-Function-clause-within
returns-in-Function-clause-within g c = arm_within (g.A.Answering.world (g.A.Answering.about c.args.answering.now)) c.args.progress.now c.function.new.progress c.args.line.now (line.Function c.in-Function.at) c.in-Function.is c.args.block.now refl c.function.result (at_block (λ s b. Stepped (g.A.Answering.world (g.A.Answering.about c.args.answering.now)) c.args.progress.now (line.Function c.in-Function.at) b s c.function.new.progress) c.function.result c.args.block.now c.function.ensures.step)

pub returns-in-Hit-clause-step : goal.returns-in-Hit-clause-step
returns-in-Hit-clause-step g c = arm_step (g.A.Answering.world (g.A.Answering.about c.args.answering.now)) c.args.progress.now c.hit.new.progress c.args.line.now (line.Hit c.as_slice-in-Hit.result.now) (c.in-Hit.is ∙ ap line.Hit (sym c.as_slice-in-Hit.ensures)) c.args.block.now c.hit.result (at_block (λ s b. Stepped (g.A.Answering.world (g.A.Answering.about c.args.answering.now)) c.args.progress.now (line.Hit c.as_slice-in-Hit.result.now) b s c.hit.new.progress) c.hit.result c.args.block.now c.hit.ensures)

pub returns-in-Hit-clause-within : goal.returns-in-Hit-clause-within
returns-in-Hit-clause-within g c = arm_within (g.A.Answering.world (g.A.Answering.about c.args.answering.now)) c.args.progress.now c.hit.new.progress c.args.line.now (line.Hit c.as_slice-in-Hit.result.now) (c.in-Hit.is ∙ ap line.Hit (sym c.as_slice-in-Hit.ensures)) c.args.block.now refl c.hit.result (at_block (λ s b. Stepped (g.A.Answering.world (g.A.Answering.about c.args.answering.now)) c.args.progress.now (line.Hit c.as_slice-in-Hit.result.now) b s c.hit.new.progress) c.hit.result c.args.block.now c.hit.ensures)

pub returns-in-Hit-clause-hand : goal.returns-in-Hit-clause-hand
returns-in-Hit-clause-hand g c = arm_hand (g.A.Answering.world (g.A.Answering.about c.args.answering.now)) c.args.progress.now c.hit.new.progress c.args.line.now (line.Hit c.as_slice-in-Hit.result.now) (c.in-Hit.is ∙ ap line.Hit (sym c.as_slice-in-Hit.ensures)) c.args.block.now (g.A.Answering.hand c.args.answering.now) (g.A.Answering.hand c.args.answering.now) refl c.requires.ready c.requires.hand c.hit.result (at_block (λ s b. Stepped (g.A.Answering.world (g.A.Answering.about c.args.answering.now)) c.args.progress.now (line.Hit c.as_slice-in-Hit.result.now) b s c.hit.new.progress) c.hit.result c.args.block.now c.hit.ensures) (kept_same c.hit.result (g.A.Answering.hand c.args.answering.now))

pub returns-in-Need-clause-step : goal.returns-in-Need-clause-step
returns-in-Need-clause-step g c = arm_step (g.A.Answering.world (g.A.Answering.about c.args.answering.now)) c.args.progress.now c.need.new.progress c.args.line.now (line.Need c.in-Need.node c.in-Need.kind c.as_slice-in-Need.result.now) (c.in-Need.is ∙ ap (λ xs. line.Need c.in-Need.node c.in-Need.kind xs) (sym c.as_slice-in-Need.ensures)) c.args.block.now c.need.result (at_block (λ s b. Stepped (g.A.Answering.world (g.A.Answering.about c.args.answering.now)) c.args.progress.now (line.Need c.in-Need.node c.in-Need.kind c.as_slice-in-Need.result.now) b s c.need.new.progress) c.need.result c.args.block.now c.need.ensures)

pub returns-in-Need-clause-within : goal.returns-in-Need-clause-within
returns-in-Need-clause-within g c = arm_within (g.A.Answering.world (g.A.Answering.about c.args.answering.now)) c.args.progress.now c.need.new.progress c.args.line.now (line.Need c.in-Need.node c.in-Need.kind c.as_slice-in-Need.result.now) (c.in-Need.is ∙ ap (λ xs. line.Need c.in-Need.node c.in-Need.kind xs) (sym c.as_slice-in-Need.ensures)) c.args.block.now refl c.need.result (at_block (λ s b. Stepped (g.A.Answering.world (g.A.Answering.about c.args.answering.now)) c.args.progress.now (line.Need c.in-Need.node c.in-Need.kind c.as_slice-in-Need.result.now) b s c.need.new.progress) c.need.result c.args.block.now c.need.ensures)

pub returns-in-Need-clause-hand : goal.returns-in-Need-clause-hand
returns-in-Need-clause-hand g c = arm_hand (g.A.Answering.world (g.A.Answering.about c.args.answering.now)) c.args.progress.now c.need.new.progress c.args.line.now (line.Need c.in-Need.node c.in-Need.kind c.as_slice-in-Need.result.now) (c.in-Need.is ∙ ap (λ xs. line.Need c.in-Need.node c.in-Need.kind xs) (sym c.as_slice-in-Need.ensures)) c.args.block.now (g.A.Answering.hand c.args.answering.now) (g.A.Answering.hand c.args.answering.now) refl c.requires.ready c.requires.hand c.need.result (at_block (λ s b. Stepped (g.A.Answering.world (g.A.Answering.about c.args.answering.now)) c.args.progress.now (line.Need c.in-Need.node c.in-Need.kind c.as_slice-in-Need.result.now) b s c.need.new.progress) c.need.result c.args.block.now c.need.ensures) (kept_same c.need.result (g.A.Answering.hand c.args.answering.now))

pub returns-in-Open-clause-step : goal.returns-in-Open-clause-step
returns-in-Open-clause-step g c = arm_step (g.A.Answering.world (g.A.Answering.about c.args.answering.now)) c.args.progress.now c.open_member.new.progress c.args.line.now (line.Open c.in-Open.node c.in-Open.kind) c.in-Open.is c.args.block.now c.open_member.result (at_block (λ s b. Stepped (g.A.Answering.world (g.A.Answering.about c.args.answering.now)) c.args.progress.now (line.Open c.in-Open.node c.in-Open.kind) b s c.open_member.new.progress) c.open_member.result c.args.block.now c.open_member.ensures)

pub returns-in-Open-clause-within : goal.returns-in-Open-clause-within
returns-in-Open-clause-within g c = arm_within (g.A.Answering.world (g.A.Answering.about c.args.answering.now)) c.args.progress.now c.open_member.new.progress c.args.line.now (line.Open c.in-Open.node c.in-Open.kind) c.in-Open.is c.args.block.now refl c.open_member.result (at_block (λ s b. Stepped (g.A.Answering.world (g.A.Answering.about c.args.answering.now)) c.args.progress.now (line.Open c.in-Open.node c.in-Open.kind) b s c.open_member.new.progress) c.open_member.result c.args.block.now c.open_member.ensures)

pub returns-in-Open-clause-hand : goal.returns-in-Open-clause-hand
returns-in-Open-clause-hand g c = arm_hand (g.A.Answering.world (g.A.Answering.about c.args.answering.now)) c.args.progress.now c.open_member.new.progress c.args.line.now (line.Open c.in-Open.node c.in-Open.kind) c.in-Open.is c.args.block.now (g.A.Answering.hand c.args.answering.now) (g.A.Answering.hand c.args.answering.now) refl c.requires.ready c.requires.hand c.open_member.result (at_block (λ s b. Stepped (g.A.Answering.world (g.A.Answering.about c.args.answering.now)) c.args.progress.now (line.Open c.in-Open.node c.in-Open.kind) b s c.open_member.new.progress) c.open_member.result c.args.block.now c.open_member.ensures) (kept_same c.open_member.result (g.A.Answering.hand c.args.answering.now))

pub returns-in-Tried-clause-step : goal.returns-in-Tried-clause-step
returns-in-Tried-clause-step g c = arm_step (g.A.Answering.world (g.A.Answering.about c.args.answering.now)) c.args.progress.now c.tried.new.progress c.args.line.now line.Tried c.in-Tried.is c.args.block.now c.tried.result (at_block (λ s b. Stepped (g.A.Answering.world (g.A.Answering.about c.args.answering.now)) c.args.progress.now line.Tried b s c.tried.new.progress) c.tried.result c.args.block.now c.tried.ensures.step)

pub returns-in-Tried-clause-within : goal.returns-in-Tried-clause-within
returns-in-Tried-clause-within g c = arm_within (g.A.Answering.world (g.A.Answering.about c.args.answering.now)) c.args.progress.now c.tried.new.progress c.args.line.now line.Tried c.in-Tried.is c.args.block.now refl c.tried.result (at_block (λ s b. Stepped (g.A.Answering.world (g.A.Answering.about c.args.answering.now)) c.args.progress.now line.Tried b s c.tried.new.progress) c.tried.result c.args.block.now c.tried.ensures.step)

pub returns-in-Tried-clause-hand : goal.returns-in-Tried-clause-hand
returns-in-Tried-clause-hand g c = arm_hand (g.A.Answering.world (g.A.Answering.about c.args.answering.now)) c.args.progress.now c.tried.new.progress c.args.line.now line.Tried c.in-Tried.is c.args.block.now (g.A.Answering.hand c.args.answering.now) (g.A.Answering.hand c.tried.new.answering) refl c.requires.ready c.requires.hand c.tried.result (at_block (λ s b. Stepped (g.A.Answering.world (g.A.Answering.about c.args.answering.now)) c.args.progress.now line.Tried b s c.tried.new.progress) c.tried.result c.args.block.now c.tried.ensures.step) c.tried.ensures.hand

pub returns-in-Clauses-clause-step : goal.returns-in-Clauses-clause-step
returns-in-Clauses-clause-step g c = arm_step (g.A.Answering.world (g.A.Answering.about c.args.answering.now)) c.args.progress.now c.clauses.new.progress c.args.line.now (line.Clauses c.in-Clauses._lines) c.in-Clauses.is c.args.block.now c.clauses.result (at_number (λ s n. Stepped (g.A.Answering.world (g.A.Answering.about c.args.answering.now)) c.args.progress.now (line.Clauses n) c.args.block.now s c.clauses.new.progress) c.clauses.result c.in-Clauses._lines c.clauses.ensures.step)

pub returns-in-Clauses-clause-hand : goal.returns-in-Clauses-clause-hand
returns-in-Clauses-clause-hand g c = arm_hand (g.A.Answering.world (g.A.Answering.about c.args.answering.now)) c.args.progress.now c.clauses.new.progress c.args.line.now (line.Clauses c.in-Clauses._lines) c.in-Clauses.is c.args.block.now (g.A.Answering.hand c.args.answering.now) (g.A.Answering.hand c.clauses.new.answering) refl c.requires.ready c.requires.hand c.clauses.result (at_number (λ s n. Stepped (g.A.Answering.world (g.A.Answering.about c.args.answering.now)) c.args.progress.now (line.Clauses n) c.args.block.now s c.clauses.new.progress) c.clauses.result c.in-Clauses._lines c.clauses.ensures.step) c.clauses.ensures.hand

pub returns-in-Clauses-clause-within : goal.returns-in-Clauses-clause-within
returns-in-Clauses-clause-within g c = arm_brought (g.A.Answering.world (g.A.Answering.about c.args.answering.now)) c.args.progress.now c.clauses.new.progress c.clauses.result c.clauses.ensures.within

pub returns-in-Steps-clause-step : goal.returns-in-Steps-clause-step
returns-in-Steps-clause-step g c = arm_step (g.A.Answering.world (g.A.Answering.about c.args.answering.now)) c.args.progress.now c.derivation.new.progress c.args.line.now (line.Steps c.in-Steps._lines) c.in-Steps.is c.args.block.now c.derivation.result (arm_derived (g.A.Answering.world (g.A.Answering.about c.args.answering.now)) c.args.progress.now c.derivation.new.progress c.in-Steps._lines c.args.block.now c.derivation.result c.derivation.ensures)

pub returns-in-Steps-clause-within : goal.returns-in-Steps-clause-within
returns-in-Steps-clause-within g c = arm_within (g.A.Answering.world (g.A.Answering.about c.args.answering.now)) c.args.progress.now c.derivation.new.progress c.args.line.now (line.Steps c.in-Steps._lines) c.in-Steps.is c.args.block.now refl c.derivation.result (arm_derived (g.A.Answering.world (g.A.Answering.about c.args.answering.now)) c.args.progress.now c.derivation.new.progress c.in-Steps._lines c.args.block.now c.derivation.result c.derivation.ensures)

pub returns-in-Steps-clause-hand : goal.returns-in-Steps-clause-hand
returns-in-Steps-clause-hand g c = arm_hand (g.A.Answering.world (g.A.Answering.about c.args.answering.now)) c.args.progress.now c.derivation.new.progress c.args.line.now (line.Steps c.in-Steps._lines) c.in-Steps.is c.args.block.now (g.A.Answering.hand c.args.answering.now) (g.A.Answering.hand c.args.answering.now) refl c.requires.ready c.requires.hand c.derivation.result (arm_derived (g.A.Answering.world (g.A.Answering.about c.args.answering.now)) c.args.progress.now c.derivation.new.progress c.in-Steps._lines c.args.block.now c.derivation.result c.derivation.ensures) (kept_same c.derivation.result (g.A.Answering.hand c.args.answering.now))
