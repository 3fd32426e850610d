use Rattle.stk_audit.specs.Hands.{hand_by}
use Rattle.stk_audit_tests.proofs.Found.{told_none}
use Rattle.stk_audit_tests.proofs.small.SmallAnswering.none_answers.Goals as goal

pub returns-clause-none : goal.returns-clause-none
returns-clause-none c = λ h e.
    told_none (hand_by c.args.self.now.without c.args.self.now.at) c.args._candidate c.args.set.now c.has_zero.result c.requires.asked c.has_zero.ensures
