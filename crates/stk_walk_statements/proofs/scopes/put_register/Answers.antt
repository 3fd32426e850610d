use Rattle.std.proofs.Common.{◌≤◌, length, sym, arith}
use Rattle.stk_walk_statements.proofs.Saving.{set_past}
use Rattle.stk_walk_statements.proofs.scopes.put_register.Goals as goal

pub returns-else-place-len : goal.returns-else-place-len
returns-else-place-len g c =
    let past : length c.args.registers.now.items ≤ c.args.at = omega arith in
    sym (set_past c.args.registers.now.items c.args.at c.args.value past)
