use Rattle.std.proofs.Common.{◌≡◌, true, None, length, set, length-set, ap, ◌∙◌, arith}
use Rattle.stk_path_runs.proofs.Forgotten.{first_forgotten, next_forgotten, each_forgotten}
use Rattle.stk_path_runs.proofs.kept.forget_all.Goals as goal

pub loop-at-preserved : goal.loop-at-preserved
loop-at-preserved c =
    let i = c.loop-at.at in
    (length-set c.loop-at.list.items i None ∙ c.loop-at.invariant.0, next_forgotten (λ q. true) i c.args.list.now.items (set c.loop-at.list.items i None) (ap (λ xs. set xs i None) c.loop-at.invariant.1))

pub returns : goal.returns
returns c =
    let n : c.loop-at.at ≡ length c.args.list.now.items = omega (arith, c.loop-at.auto.at-end, c.args.list.now.ok.0) in
    c.loop-at.invariant.1 ∙ ap (λ k. first_forgotten (λ q. true) 0 k c.args.list.now.items) n ∙ each_forgotten (λ q. true) 0 c.args.list.now.items
