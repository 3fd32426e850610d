use Rattle.std.proofs.Common.{refl}
use Rattle.stk_meaning.specs.Conditions.{violated}
use Rattle.stk_operators.specs.Checked.{kept_tests}
use Rattle.stk_eval_expr.proofs.LeavingLaws.{bounded_adds, cut_adds}
use Rattle.stk_eval_expr.proofs.state.State.violate.Goals as goal

pub returns-then-self : goal.returns-then-self
returns-then-self g c = cut_adds (violated c.args.node (kept_tests c.args.without c.args.node_tests) c.args.numbers.0 c.args.numbers.1 c.args.numbers.2) c.args.self.now c.if-self.true

pub returns : goal.returns
returns g c =
    let s0 = c.args.self.now in
    bounded_adds (violated c.args.node (kept_tests c.args.without c.args.node_tests) c.args.numbers.0 c.args.numbers.1 c.args.numbers.2) s0 (record s0 { entries = c.push_violated.new.entries }) c.bound.new.self c.if-self.false refl refl refl refl c.in_ok-push_violated.ensures c.bound.ensures
