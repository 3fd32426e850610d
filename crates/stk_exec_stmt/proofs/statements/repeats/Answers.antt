use Rattle.std.proofs.Common.{if◌then◌else◌, Bool, ap}
use Rattle.stk_tree.specs.View.{view_expression}
use Rattle.stk_meaning.specs.Operations.{truth}
use Rattle.stk_meaning.specs.Worlds.{Another, Ended, Normal, gives}
use Rattle.stk_eval_expr.specs.Leaving.{test_run}
use Rattle.stk_eval_expr.proofs.LeavingLaws.{then_leaves, value_leaves}
use Rattle.stk_exec_stmt.proofs.statements.repeats.Goals as goal

pub returns-then-is_true : goal.returns-then-is_true
returns-then-is_true g c =
    let R = test_run g.W.World.shown (g.W.RunSetting.setting c.args.out.now) (g.W.World.world c.args.out.now) (view_expression c.args.test.now) c.args.state.now in
    let n = c.in_ok-n.n in
    let s1 = c.tested.new.state in
    then_leaves R (λ x. gives (if truth x then Another else Ended Normal)) n Another c.args.state.now s1 s1 c.in_ok-n.ensures
    (value_leaves (if truth n then Another else Ended Normal) Another s1 (ap (λ (b : Bool). if b then Another else Ended Normal) c.if-is_true.ensures))

pub returns-else-is_true : goal.returns-else-is_true
returns-else-is_true g c =
    let R = test_run g.W.World.shown (g.W.RunSetting.setting c.args.out.now) (g.W.World.world c.args.out.now) (view_expression c.args.test.now) c.args.state.now in
    let n = c.in_ok-n.n in
    let s1 = c.tested.new.state in
    then_leaves R (λ x. gives (if truth x then Another else Ended Normal)) n (Ended Normal) c.args.state.now s1 s1 c.in_ok-n.ensures
    (value_leaves (if truth n then Another else Ended Normal) (Ended Normal) s1 (ap (λ (b : Bool). if b then Another else Ended Normal) c.if-is_true.ensures))
