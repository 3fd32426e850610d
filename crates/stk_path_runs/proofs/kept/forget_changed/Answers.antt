use Rattle.std.proofs.Common.{rules, ◌≡◌, None, length, set, ap, ◌∙◌}
use Rattle.std.specs.Prelude.{if◌then◌else◌}
use Rattle.stk_meaning.specs.Paths.{KeptNumbers}
use Rattle.stk_path_runs.specs.Rows.{forgets_in}
use Rattle.stk_path_runs.proofs.Forgotten.{first_forgotten, next_forgotten, each_forgotten}
use Rattle.stk_path_runs.proofs.kept.forget_changed.Goals as goal

pub loop-position-preserved : goal.loop-position-preserved
loop-position-preserved c =
    next_forgotten (forgets_in c.args.row.now) c.loop-position.position c.args.kept.now.items c.forget_one.new.kept.items
    (c.forget_one.ensures ∙ ap (λ (ys : KeptNumbers). if forgets_in c.args.row.now c.loop-position.position then set ys c.loop-position.position None else ys) c.loop-position.invariant)

pub returns : goal.returns
returns c =
    let ended : c.loop-position.position ≡ length c.args.kept.now.items = search rules in
    c.loop-position.invariant ∙ ap (λ n. first_forgotten (forgets_in c.args.row.now) 0 n c.args.kept.now.items) ended ∙ each_forgotten (forgets_in c.args.row.now) 0 c.args.kept.now.items
