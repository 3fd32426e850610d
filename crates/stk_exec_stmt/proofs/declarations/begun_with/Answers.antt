use Rattle.std.proofs.Common.{ℤ, ap, ◌∙◌}
use Rattle.std.proofs.lemmas.Result.{IfOk-weaker}
use Rattle.stk_numbers.specs.Kinds.{wrap}
use Rattle.stk_meaning.specs.Worlds.{written}
use Rattle.stk_meaning.specs.Expressions.{stored_at}
use Rattle.stk_operators.specs.Targets.{target_shown}
use Rattle.stk_eval_expr.specs.Leaving.{Leaves}
use Rattle.stk_exec_stmt.proofs.Beginning.{stored_leaves, outside_leaves}
use Rattle.stk_exec_stmt.proofs.declarations.begun_with.Goals as goal

pub returns-then-is_scalar_at : goal.returns-then-is_scalar_at
returns-then-is_scalar_at g c =
    let G = g.W.RunSetting.setting c.args.out.now in
    let W = g.W.World.world c.args.out.now in
    let shown = g.W.World.shown in
    let k = c.args.k in
    let s0 = c.args.state.now in
    let s1 = c.store.new.state in
    let t = target_shown c.target_at.result in
    let kind = c.kind_at-kind.result in
    let place = c.object_address-address.result in
    let y = c.to_kind.result in
    IfOk-weaker c.store.result (λ _. (z : ℤ) → Leaves shown (stored_at W t kind place y z s0.registers.items (shown s0.kept)) z s0 s1) _
    (λ _ h. stored_leaves G W k t kind place c.args.number y s0 s1 c.if-is_scalar_at.ensures c.target_at.ensures c.kind_at-kind.ensures c.object_address-address.ensures
    (c.to_kind.ensures ∙ ap (λ u. wrap u c.args.number) c.kind_at-kind.ensures) h)
    c.store.ensures

pub returns-else-is_scalar_at : goal.returns-else-is_scalar_at
returns-else-is_scalar_at g c =
    let G = g.W.RunSetting.setting c.args.out.now in
    let W = g.W.World.world c.args.out.now in
    let shown = g.W.World.shown in
    let s0 = c.args.state.now in
    let s1 = c.write.new.state in
    IfOk-weaker c.write.result (λ _. (z : ℤ) → Leaves shown (written z (W.write (shown s0.kept)) s0.registers.items) z s0 s1) _
    (λ _ h. outside_leaves G W c.args.k c.args.number s0 s1 c.if-is_scalar_at.ensures (h c.args.number))
    c.write.ensures
