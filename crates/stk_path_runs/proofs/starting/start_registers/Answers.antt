use Rattle.std.proofs.Common.{◌≡◌, ℕ, List, ℤ, map, sym, ap, ◌∙◌}
use Rattle.stk_tree.specs.declared.statement.Stmt.{Stmt, out-Stmt, fold_out-Stmt}
use Rattle.stk_tree.specs.Syntax.{PartTree, StmtFormTree, SectionTree, StmtTree}
use Rattle.stk_tree.specs.View.{part_step, statement_form_step, section_step, statement_step, view_statement, view_function, view_parameter, parameters}
use Rattle.stk_meaning.specs.Typings.{statement_node}
use Rattle.stk_meaning.specs.Keys.{parameter_key}
use Rattle.stk_meaning.specs.Paths.{number_under}
use Rattle.stk_function_types.specs.Nodes.{typing_in}
use Rattle.stk_path_runs.specs.Starting.{parameters_set}
use Rattle.stk_path_runs.proofs.Started.{started}
use Rattle.stk_path_runs.proofs.starting.start_registers.Goals as goal

node_is : (x : Stmt) → (out-Stmt x).node.number ≡ statement_node (view_statement x)
node_is x = sym (ap statement_node (fold_out-Stmt PartTree StmtFormTree SectionTree StmtTree part_step statement_form_step section_step statement_step x))

pub returns : goal.returns
returns c =
    let tables = c.args.out.now.tables.now in
    let T = typing_in tables.places.types in
    let numbers : ℕ → ℤ = λ k. number_under tables.places.keys c.args.out.now.numbers.now (parameter_key k) in
    c.set_parameters.ensures
    ∙ ap (λ (xs : List ℤ). parameters_set T numbers (parameters (map view_parameter c.parameters.result.now)) xs) c.in_ok-registers.ensures
    ∙ started T numbers (view_function c.args.f.now) (parameters (map view_parameter c.parameters.result.now)) (out-Stmt c.args.f.now.body).node.number c.parameters.ensures (node_is c.args.f.now.body)
