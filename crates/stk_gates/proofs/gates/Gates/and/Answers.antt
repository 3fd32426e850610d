use Rattle.stk_gates.proofs.Sharing.{turned}
use Rattle.stk_gates.proofs.gates.Gates.and.Goals as goal

pub returns-then-a-b-clause-shared : goal.returns-then-a-b-clause-shared
returns-then-a-b-clause-shared c e whole g = c.gate.ensures.shared e g

pub returns-else-a-b-clause-shared : goal.returns-else-a-b-clause-shared
returns-else-a-b-clause-shared c e whole g = c.gate-else-a-b.ensures.shared e (turned c.args.self.now c.args.a c.args.b e c.if-a-b.false whole g)
