use Rattle.std.proofs.Common.{sym, ◌∙◌}
use Rattle.stk_audit_rules.proofs.Claims.{false_true}
use Rattle.stk_audit.specs.Hands.{hand_by}
use Rattle.stk_audit_tests.proofs.Found.{start_answers, answer_is_zero, no_start_with_zero}
use Rattle.stk_audit_tests.proofs.small.SmallAnswering.is_answer.Goals as goal

pub returns-then-has_zero : goal.returns-then-has_zero
returns-then-has_zero c = λ h e.
    (λ t. absurd (false_true t), λ a. absurd (no_start_with_zero (hand_by c.args.self.now.without c.args.self.now.at) c.args._candidate c.args.set.now c.args.start.now c.requires (sym c.has_zero.ensures ∙ c.if-has_zero.true) a))

pub returns : goal.returns
returns c = λ h e. (
  λ t. start_answers (hand_by c.args.self.now.without c.args.self.now.at) c.args._candidate c.args.set.now c.args.start.now c.requires (sym c.has_zero.ensures ∙ c.if-has_zero.false) (c.is_zero.ensures.0 t),
  λ a. c.is_zero.ensures.1 (answer_is_zero (hand_by c.args.self.now.without c.args.self.now.at) c.args._candidate c.args.set.now c.args.start.now c.requires a),
)
