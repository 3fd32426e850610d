-- The syntax of an `if` without `else`.
use Rattle.std.proofs.Common.{◌≡◌, None, sym, ap, ◌∙◌}
use Rattle.stk_tree.specs.Syntax.{PartTree, StmtFormTree, SectionTree, StmtTree, if_statement, no_statement}
use Rattle.stk_tree.specs.View.{view_expression, view_statement, view_statement_form, part_step, statement_form_step, section_step, statement_step}
use Rattle.stk_tree.specs.declared.expression.Expr.{Expr}
use Rattle.stk_tree.specs.declared.statement.Stmt.{Stmt}
use Rattle.stk_tree.specs.declared.statement.StmtForm.{StmtForm-F, fold-roll-StmtForm}
use Rattle.stk_tree.specs.declared.statement.StmtForm.TheVariants as form

pub view_if : (e : Expr) (x : Stmt) → view_statement_form (form.If e x None) ≡ if_statement (view_expression e) (view_statement x) no_statement
view_if e x = ap view_statement_form (sym (form.rolls-If e x None)) ∙ fold-roll-StmtForm PartTree StmtFormTree SectionTree StmtTree part_step statement_form_step section_step statement_step (StmtForm-F.If e x None)
