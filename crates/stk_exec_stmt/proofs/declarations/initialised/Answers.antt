use Rattle.std.proofs.Common.{map, ℤ, pos}
use Rattle.std.proofs.lemmas.Result.{IfOk-weaker}
use Rattle.stk_tree.specs.View.{view_expression, view_item, items}
use Rattle.stk_meaning.specs.Worlds.{Normal, written}
use Rattle.stk_meaning.specs.Declarations.{items_run}
use Rattle.stk_eval_expr.specs.Leaving.{Leaves, from, value_run}
use Rattle.stk_eval_expr.proofs.LeavingLaws.{then_leaves}
use Rattle.stk_exec_stmt.specs.Ending.{automatic_end}
use Rattle.stk_exec_stmt.proofs.Beginning.{rewritten}
use Rattle.stk_exec_stmt.proofs.InitialViews.{at_plain, at_braces}
use Rattle.stk_exec_stmt.proofs.declarations.initialised.Goals as goal

pub returns-in_ok-number-in-Plain : goal.returns-in_ok-number-in-Plain
returns-in_ok-number-in-Plain g c =
    let G = g.W.RunSetting.setting c.args.out.now in
    let W = g.W.World.world c.args.out.now in
    let shown = g.W.World.shown in
    let e = view_expression c.in-Plain.e in
    let k = c.args.k in
    let x = c.in_ok-number-in-Plain.number in
    let s0 = c.args.state.now in
    let s1 = c.value.new.state in
    let s2 = c.begun_with.new.state in
    rw (at_plain c.args.x.now c.in-Plain.e c.in-Plain.is)
    (IfOk-weaker c.begun_with.result (λ _. Leaves shown (automatic_end G W k x s1.registers.items (shown s1.kept)) Normal s1 s2) _
    (λ _ h. then_leaves (value_run shown G W e s0) (automatic_end G W k) x Normal s0 s1 s2 c.in_ok-number-in-Plain.ensures h)
    c.begun_with.ensures)

pub returns-in_ok-items-in-Braces : goal.returns-in_ok-items-in-Braces
returns-in_ok-items-in-Braces g c =
    let G = g.W.RunSetting.setting c.args.out.now in
    let W = g.W.World.world c.args.out.now in
    let shown = g.W.World.shown in
    let xs = items (map view_item c.as_slice.result.now) in
    let s0 = c.args.state.now in
    let s1 = c.items.new.state in
    let s2 = c.write.new.state in
    let r = s1.registers.items in
    let o = W.write (shown s1.kept) in
    rw (at_braces c.args.x.now c.in-Braces.list c.in-Braces.field-1 c.in-Braces.is, ← c.as_slice.ensures)
    (IfOk-weaker c.write.result (λ _. (z : ℤ) → Leaves shown (written z o r) z s1 s2) _
    (λ _ h. then_leaves (from shown (items_run G W xs) s0) (λ flow r m. written Normal (W.write m) r) Normal Normal s0 s1 s2 c.in_ok-items-in-Braces.ensures (rewritten (pos 0) Normal o r s1 s2 (h (pos 0))))
    c.write.ensures)
