use Rattle.std.proofs.Common.{sym, ap, ◌∙◌}
use Rattle.stk_exec_stmt.specs.Saved.{given_back}
use Rattle.stk_exec_stmt.proofs.Saving.{last_first}
use Rattle.stk_exec_stmt.proofs.scopes.give_back.Goals as goal

pub loop-last-preserved : goal.loop-last-preserved
loop-last-preserved c =
    let r = c.loop-last.registers.items in
    ap (given_back c.pop.new.self.items) c.put_word.ensures ∙ sym (last_first c.pop.new.self.items c.in-Some.last r) ∙ ap (λ xs. given_back xs r) (sym c.in-Some.ensures.items) ∙ c.loop-last.invariant
