use Rattle.stk_operators.specs.Shown.{library_shown}
use Rattle.stk_walk_values.proofs.Calling.{set_made, set_first}
use Rattle.stk_walk_values.proofs.Lasting.{operands_made}
use Rattle.stk_walk_values.proofs.calls.passed.Goals as goal

pub returns-in_ok-operand-in-Some-clause-makes : goal.returns-in_ok-operand-in-Some-clause-makes
returns-in_ok-operand-in-Some-clause-makes g c =
    let made = g.V.Values.made in
    let old = made c.args.values.now in
    let now = made c.in_parameter.new.values in
    let l = library_shown c.in-Some.library in
    let xs = c.args.arguments in
    let x = c.in_ok-operand-in-Some.operand in
    let first = rw c.in-Some.is at c.requires.arguments.first in
    rw c.in-Some.is (rw c.with_argument.ensures (record {
      operands = set_made now xs.count xs.operands x (operands_made old now c.in_parameter.ensures.keeps.made_still xs.operands c.requires.arguments.operands) c.in_ok-operand-in-Some.ensures.makes;
      first = set_first l xs.count xs.operands x first c.in_ok-operand-in-Some.ensures.kind;
    }))

pub returns-in_ok-operand-in-Some-clause-charge : goal.returns-in_ok-operand-in-Some-clause-charge
returns-in_ok-operand-in-Some-clause-charge g c = rw c.in-Some.is c.in_ok-operand-in-Some.ensures.charge
