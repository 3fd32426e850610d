use Rattle.std.proofs.Common.{◌≡◌, ℕ, List, ℤ, replicate, None, ap, ◌∙◌, refl}
use Rattle.std.proofs.lemmas.Result.{IfOk-weaker}
use Rattle.stk_tree.specs.View.{view_function}
use Rattle.stk_function_env.specs.Settings.{setting_in}
use Rattle.stk_meaning.specs.Worlds.{trace_of}
use Rattle.stk_meaning.specs.Statements.{statement_run}
use Rattle.stk_meaning.specs.Keys.{body_of}
use Rattle.stk_meaning.specs.Paths.{path_world, number_under, path}
use Rattle.stk_path_runs.proofs.Made.{told}
use Rattle.stk_path_runs.proofs.running.path_run.Goals as goal

pub returns : goal.returns
returns c = λ ty without same keys.
    let tree = view_function c.args.f.now in
    let places = c.args.tables.now.places in
    let numbers : List ℤ = c.args.numbers.now in
    let registers : List ℤ = c.in_ok-registers.registers.items in
    let kept = c.in_ok-kept.kept.items in
    IfOk-weaker c.run_body.result (λ entries. entries.items ≡ trace_of (statement_run (setting_in places) (path_world (number_under places.keys numbers)) (body_of tree) registers kept))
    (λ entries. entries.items ≡ path ty without tree numbers)
    (λ entries is. told ty without tree (setting_in places) places.keys numbers registers kept entries.items same keys c.in_ok-registers.ensures (c.in_ok-kept.ensures ∙ ap (λ (n : ℕ). replicate n None) (rw (c.kept.ensures.is, c.setting.ensures) refl)) is)
    c.run_body.ensures
