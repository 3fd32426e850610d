-- The view of a statement's form: an `if` with its `else`.
use Rattle.std.proofs.Common.{◌≡◌, ap, sym, ◌∙◌, Some}
use Rattle.stk_tree.specs.declared.expression.Expr.{Expr}
use Rattle.stk_tree.specs.declared.statement.Stmt.{Stmt}
use Rattle.stk_tree.specs.declared.statement.StmtForm.{StmtForm-F, fold-roll-StmtForm}
use Rattle.stk_tree.specs.declared.statement.StmtForm.TheVariants as form
use Rattle.stk_tree.specs.Syntax.{PartTree, StmtFormTree, SectionTree, StmtTree}
use Rattle.stk_tree.specs.Syntax.{if_statement, some_statement}
use Rattle.stk_tree.specs.View.{part_step, statement_form_step, section_step, statement_step, view_statement_form, view_statement, view_expression}

pub view_else : (e : Expr) (x y : Stmt) →
    view_statement_form (form.If e x (Some y)) ≡ if_statement (view_expression e) (view_statement x) (some_statement (view_statement y))
view_else e x y = ap view_statement_form (sym (form.rolls-If e x (Some y))) ∙ fold-roll-StmtForm PartTree StmtFormTree SectionTree StmtTree part_step statement_form_step section_step statement_step (StmtForm-F.If e x (Some y))
