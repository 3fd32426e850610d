use Rattle.stk_cnf.proofs.Sets.{grown_gate}
use Rattle.stk_cnf.proofs.edges.put_gate.Goals as goal

pub returns : goal.returns
returns c vars below =
    grown_gate vars c.args.store.now c.push.new.self c.push-2.new.self c.push-3.new.self c.args.gate c.args.a c.args.b c.negated-not_gate.result c.negated.result c.negated-2.result
    c.negated-not_gate.ensures c.negated.ensures c.negated-2.ensures c.requires.apart.0 c.requires.apart.1 below c.in_ok-push.ensures.pushed c.in_ok-push-2.ensures.pushed c.in_ok-push-3.ensures.pushed
