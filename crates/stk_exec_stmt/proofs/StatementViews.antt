-- What the statements of the code show, form by form.
use Rattle.std.proofs.Common.{◌≡◌, List, Option, Some, None, map, option_map, sym, ap, ◌∙◌}
use Rattle.stk_tree.specs.declared.expression.Expr.{Expr}
use Rattle.stk_tree.specs.declared.statement.Start.{Start}
use Rattle.stk_tree.specs.declared.statement.Part.{Part, Part-F, fold-roll-Part}
use Rattle.stk_tree.specs.declared.statement.Part.TheVariants as part
use Rattle.stk_tree.specs.declared.statement.Section.{Section, out-Section, fold_out-Section}
use Rattle.stk_tree.specs.declared.statement.Stmt.{Stmt, out-Stmt, fold_out-Stmt}
use Rattle.stk_tree.specs.declared.statement.StmtForm.{StmtForm-F, fold-roll-StmtForm}
use Rattle.stk_tree.specs.declared.statement.StmtForm.TheVariants as form
use Rattle.stk_tree.specs.Syntax.{PartTree, StmtFormTree, SectionTree, StmtTree}
use Rattle.stk_tree.specs.Syntax as s
use Rattle.stk_tree.specs.View.{part_step, statement_form_step, section_step, statement_step, view_expression, given_expression, view_start, parts, view_part, sections, view_section, maybe_statement, view_statement, view_statement_form, labels, view_label, statements}

pub view_node : (x : Stmt) → view_statement x ≡ s.statement (out-Stmt x).node (view_statement_form (out-Stmt x).form)
view_node x = fold_out-Stmt PartTree StmtFormTree SectionTree StmtTree part_step statement_form_step section_step statement_step x

view_block : (ps : List Part) → view_statement_form (form.Block ps) ≡ s.block (parts (map view_part ps))
view_block ps = ap view_statement_form (sym (form.rolls-Block ps)) ∙ fold-roll-StmtForm PartTree StmtFormTree SectionTree StmtTree part_step statement_form_step section_step statement_step (StmtForm-F.Block ps)

pub at_block : (whole : Stmt) (ps : List Part) → (out-Stmt whole).form ≡ form.Block ps → view_statement whole ≡ s.statement (out-Stmt whole).node (s.block (parts (map view_part ps)))
at_block whole ps is = view_node whole ∙ ap (s.statement (out-Stmt whole).node) (ap view_statement_form is ∙ view_block ps)

view_expression_statement : (e : Option Expr) → view_statement_form (form.Plain e) ≡ s.expression_statement (given_expression e)
view_expression_statement e = ap view_statement_form (sym (form.rolls-Plain e)) ∙ fold-roll-StmtForm PartTree StmtFormTree SectionTree StmtTree part_step statement_form_step section_step statement_step (StmtForm-F.Plain e)

pub at_expression_statement : (whole : Stmt) (e : Option Expr) → (out-Stmt whole).form ≡ form.Plain e → view_statement whole ≡ s.statement (out-Stmt whole).node (s.expression_statement (given_expression e))
at_expression_statement whole e is = view_node whole ∙ ap (s.statement (out-Stmt whole).node) (ap view_statement_form is ∙ view_expression_statement e)

view_if_statement : (e : Expr) (x : Stmt) (o : Option Stmt) → view_statement_form (form.If e x o) ≡ s.if_statement (view_expression e) (view_statement x) (maybe_statement (option_map view_statement o))
view_if_statement e x None = ap view_statement_form (sym (form.rolls-If e x None)) ∙ fold-roll-StmtForm PartTree StmtFormTree SectionTree StmtTree part_step statement_form_step section_step statement_step (StmtForm-F.If e x None)
view_if_statement e x (Some y) = ap view_statement_form (sym (form.rolls-If e x (Some y))) ∙ fold-roll-StmtForm PartTree StmtFormTree SectionTree StmtTree part_step statement_form_step section_step statement_step (StmtForm-F.If e x (Some y))

pub at_if_statement : (whole : Stmt) (e : Expr) (x : Stmt) (o : Option Stmt) → (out-Stmt whole).form ≡ form.If e x o → view_statement whole ≡ s.statement (out-Stmt whole).node (s.if_statement (view_expression e) (view_statement x) (maybe_statement (option_map view_statement o)))
at_if_statement whole e x o is = view_node whole ∙ ap (s.statement (out-Stmt whole).node) (ap view_statement_form is ∙ view_if_statement e x o)

view_switch_statement : (e : Expr) (ss : List Section) → view_statement_form (form.Switch e ss) ≡ s.switch_statement (view_expression e) (sections (map view_section ss))
view_switch_statement e ss = ap view_statement_form (sym (form.rolls-Switch e ss)) ∙ fold-roll-StmtForm PartTree StmtFormTree SectionTree StmtTree part_step statement_form_step section_step statement_step (StmtForm-F.Switch e ss)

pub at_switch_statement : (whole : Stmt) (e : Expr) (ss : List Section) → (out-Stmt whole).form ≡ form.Switch e ss → view_statement whole ≡ s.statement (out-Stmt whole).node (s.switch_statement (view_expression e) (sections (map view_section ss)))
at_switch_statement whole e ss is = view_node whole ∙ ap (s.statement (out-Stmt whole).node) (ap view_statement_form is ∙ view_switch_statement e ss)

view_while_statement : (e : Expr) (x : Stmt) → view_statement_form (form.While e x) ≡ s.while_statement (view_expression e) (view_statement x)
view_while_statement e x = ap view_statement_form (sym (form.rolls-While e x)) ∙ fold-roll-StmtForm PartTree StmtFormTree SectionTree StmtTree part_step statement_form_step section_step statement_step (StmtForm-F.While e x)

pub at_while_statement : (whole : Stmt) (e : Expr) (x : Stmt) → (out-Stmt whole).form ≡ form.While e x → view_statement whole ≡ s.statement (out-Stmt whole).node (s.while_statement (view_expression e) (view_statement x))
at_while_statement whole e x is = view_node whole ∙ ap (s.statement (out-Stmt whole).node) (ap view_statement_form is ∙ view_while_statement e x)

view_do_statement : (x : Stmt) (e : Expr) → view_statement_form (form.Do x e) ≡ s.do_statement (view_statement x) (view_expression e)
view_do_statement x e = ap view_statement_form (sym (form.rolls-Do x e)) ∙ fold-roll-StmtForm PartTree StmtFormTree SectionTree StmtTree part_step statement_form_step section_step statement_step (StmtForm-F.Do x e)

pub at_do_statement : (whole : Stmt) (x : Stmt) (e : Expr) → (out-Stmt whole).form ≡ form.Do x e → view_statement whole ≡ s.statement (out-Stmt whole).node (s.do_statement (view_statement x) (view_expression e))
at_do_statement whole x e is = view_node whole ∙ ap (s.statement (out-Stmt whole).node) (ap view_statement_form is ∙ view_do_statement x e)

view_for_statement : (first : Start) (test : Option Expr) (step : Option Expr) (x : Stmt) → view_statement_form (form.For first test step x) ≡ s.for_statement (view_start first) (given_expression test) (given_expression step) (view_statement x)
view_for_statement first test step x = ap view_statement_form (sym (form.rolls-For first test step x)) ∙ fold-roll-StmtForm PartTree StmtFormTree SectionTree StmtTree part_step statement_form_step section_step statement_step (StmtForm-F.For first test step x)

pub at_for_statement : (whole : Stmt) (first : Start) (test : Option Expr) (step : Option Expr) (x : Stmt) → (out-Stmt whole).form ≡ form.For first test step x → view_statement whole ≡ s.statement (out-Stmt whole).node (s.for_statement (view_start first) (given_expression test) (given_expression step) (view_statement x))
at_for_statement whole first test step x is = view_node whole ∙ ap (s.statement (out-Stmt whole).node) (ap view_statement_form is ∙ view_for_statement first test step x)

view_return_statement : (e : Option Expr) → view_statement_form (form.Return e) ≡ s.return_statement (given_expression e)
view_return_statement e = ap view_statement_form (sym (form.rolls-Return e)) ∙ fold-roll-StmtForm PartTree StmtFormTree SectionTree StmtTree part_step statement_form_step section_step statement_step (StmtForm-F.Return e)

pub at_return_statement : (whole : Stmt) (e : Option Expr) → (out-Stmt whole).form ≡ form.Return e → view_statement whole ≡ s.statement (out-Stmt whole).node (s.return_statement (given_expression e))
at_return_statement whole e is = view_node whole ∙ ap (s.statement (out-Stmt whole).node) (ap view_statement_form is ∙ view_return_statement e)

pub at_break_statement : (whole : Stmt) → (out-Stmt whole).form ≡ form.Break → view_statement whole ≡ s.statement (out-Stmt whole).node s.break_statement
at_break_statement whole is = view_node whole ∙ ap (s.statement (out-Stmt whole).node) (ap view_statement_form is ∙ (ap view_statement_form (sym form.rolls-Break) ∙ fold-roll-StmtForm PartTree StmtFormTree SectionTree StmtTree part_step statement_form_step section_step statement_step StmtForm-F.Break))

pub at_continue_statement : (whole : Stmt) → (out-Stmt whole).form ≡ form.Continue → view_statement whole ≡ s.statement (out-Stmt whole).node s.continue_statement
at_continue_statement whole is = view_node whole ∙ ap (s.statement (out-Stmt whole).node) (ap view_statement_form is ∙ (ap view_statement_form (sym form.rolls-Continue) ∙ fold-roll-StmtForm PartTree StmtFormTree SectionTree StmtTree part_step statement_form_step section_step statement_step StmtForm-F.Continue))

pub at_run : (p : Part) (x : Stmt) → p ≡ part.Run x → view_part p ≡ s.run (view_statement x)
at_run p x is = ap view_part is ∙ (ap view_part (sym (part.rolls-Run x)) ∙ fold-roll-Part PartTree StmtFormTree SectionTree StmtTree part_step statement_form_step section_step statement_step (Part-F.Run x))

pub at_section : (x : Section) → view_section x ≡ s.section (out-Section x).node (labels (map view_label (out-Section x).labels)) (statements (map view_statement (out-Section x).body))
at_section x = fold_out-Section PartTree StmtFormTree SectionTree StmtTree part_step statement_form_step section_step statement_step x
