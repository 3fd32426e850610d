-- What the statements of the code show of their syntax, and what typing them is.
use Rattle.std.proofs.Common.{◌≡◌, true, List, [], map, ap, sym, ◌∙◌, Option, Some, None}
use Rattle.std.specs.Option.{option_map}
use Rattle.stk_tree.specs.declared.expression.Expr.{Expr}
use Rattle.stk_tree.specs.declared.statement.Part.{Part}
use Rattle.stk_tree.specs.declared.statement.Section.{Section, out-Section, fold_out-Section}
use Rattle.stk_tree.specs.declared.statement.Start.{Start}
use Rattle.stk_tree.specs.declared.statement.Stmt.{Stmt, out-Stmt, fold_out-Stmt}
use Rattle.stk_tree.specs.declared.statement.StmtForm.{StmtForm, StmtForm-F, fold-roll-StmtForm}
use Rattle.stk_tree.specs.declared.statement.StmtForm.TheVariants as form
use Rattle.stk_tree.specs.declared.declaration.Declr.{Declr, out-Declr, fold_out-Declr}
use Rattle.stk_tree.specs.Syntax.{PartTree, SectionTree, StmtTree, StmtFormTree, MaybeInitTree, BaseFormTree, DesigTree, DimensionTree, InitTree, TailTree, ExprFormTree, BaseTree, DeclrTree, EnumrTree, ItemTree, MemberTree, ParamTree, TypeNameTree, ExprTree}
use Rattle.stk_tree.specs.View.{base_form_step, designator_step, dimension_step, initialiser_step, tail_step, expression_form_step, base_step, declarator_step, enumerator_step, item_step, member_step, parameter_step, type_name_step, expression_step, view_declarator, view_tail}
use Rattle.stk_ctype.specs.Types.{TypeTree}
use Rattle.stk_typing.specs.Scope.{Scope}
use Rattle.stk_typing.specs.Arrays.{starred}
use Rattle.stk_typing.specs.Forms.{structs_in}
use Rattle.stk_declarators.specs.Tails.{tail_typed, tail_type}
use Rattle.stk_declarators.specs.Rows.{locals_in}
use Rattle.stk_tree.specs.Syntax as s
use Rattle.stk_tree.specs.View.{given_expression, labels, maybe_statement, parts, part_step, sections, section_step, statement_form_step, statement_step, statements, view_expression, view_label, view_part, view_section, view_start, view_statement, view_statement_form}
use Rattle.stk_type_rules.specs.Facts.{Fits, plain}
use Rattle.stk_type_rules.specs.Outcome.{Good, and_then, finish}
use Rattle.stk_type_rules.specs.Types.{kind_of}
use Rattle.stk_typing.specs.Typing.{expression_typed}
use Rattle.stk_function_types.specs.Bodies.{Body, with_more, opened, looped, switched}
use Rattle.stk_function_types.specs.Sections.{unlabelled}
use Rattle.stk_function_types.specs.Functions.{body_typed, head_typed}
use Rattle.stk_function_types.specs.Statements.{for_rule, maybe_statement_typed, maybe_typed, parts_typed, sections_typed, start_typed, statement_typed, switch_rule, test_rule}

seen : (x : Stmt) (f : StmtForm) (t : StmtFormTree) → (out-Stmt x).form ≡ f → view_statement_form f ≡ t → view_statement x ≡ s.statement (out-Stmt x).node t
seen x f t is view = fold_out-Stmt PartTree StmtFormTree SectionTree StmtTree part_step statement_form_step section_step statement_step x ∙ ap (s.statement (out-Stmt x).node) (ap view_statement_form is ∙ view)

view_block : (x : Stmt) (list : List Part) → (out-Stmt x).form ≡ form.Block list → view_statement x ≡ s.statement (out-Stmt x).node (s.block (parts (map view_part list)))
view_block x list is = seen x (form.Block list) _ is (ap view_statement_form (sym (form.rolls-Block list)) ∙ fold-roll-StmtForm PartTree StmtFormTree SectionTree StmtTree part_step statement_form_step section_step statement_step (StmtForm-F.Block list))

view_if : (x : Stmt) (e : Expr) (y : Stmt) (other : Option Stmt) → (out-Stmt x).form ≡ form.If e y other
    → view_statement x ≡ s.statement (out-Stmt x).node (s.if_statement (view_expression e) (view_statement y) (maybe_statement (option_map view_statement other)))
view_if x e y None is = seen x (form.If e y None) _ is (ap view_statement_form (sym (form.rolls-If e y None)) ∙ fold-roll-StmtForm PartTree StmtFormTree SectionTree StmtTree part_step statement_form_step section_step statement_step (StmtForm-F.If e y None))
view_if x e y (Some z) is = seen x (form.If e y (Some z)) _ is (ap view_statement_form (sym (form.rolls-If e y (Some z))) ∙ fold-roll-StmtForm PartTree StmtFormTree SectionTree StmtTree part_step statement_form_step section_step statement_step (StmtForm-F.If e y (Some z)))

view_switch : (x : Stmt) (e : Expr) (list : List Section) → (out-Stmt x).form ≡ form.Switch e list → view_statement x ≡ s.statement (out-Stmt x).node (s.switch_statement (view_expression e) (sections (map view_section list)))
view_switch x e list is = seen x (form.Switch e list) _ is (ap view_statement_form (sym (form.rolls-Switch e list)) ∙ fold-roll-StmtForm PartTree StmtFormTree SectionTree StmtTree part_step statement_form_step section_step statement_step (StmtForm-F.Switch e list))

view_while : (x : Stmt) (e : Expr) (y : Stmt) → (out-Stmt x).form ≡ form.While e y → view_statement x ≡ s.statement (out-Stmt x).node (s.while_statement (view_expression e) (view_statement y))
view_while x e y is = seen x (form.While e y) _ is (ap view_statement_form (sym (form.rolls-While e y)) ∙ fold-roll-StmtForm PartTree StmtFormTree SectionTree StmtTree part_step statement_form_step section_step statement_step (StmtForm-F.While e y))

view_do : (x : Stmt) (y : Stmt) (e : Expr) → (out-Stmt x).form ≡ form.Do y e → view_statement x ≡ s.statement (out-Stmt x).node (s.do_statement (view_statement y) (view_expression e))
view_do x y e is = seen x (form.Do y e) _ is (ap view_statement_form (sym (form.rolls-Do y e)) ∙ fold-roll-StmtForm PartTree StmtFormTree SectionTree StmtTree part_step statement_form_step section_step statement_step (StmtForm-F.Do y e))

view_for : (x : Stmt) (first : Start) (e step : Option Expr) (y : Stmt) → (out-Stmt x).form ≡ form.For first e step y
    → view_statement x ≡ s.statement (out-Stmt x).node (s.for_statement (view_start first) (given_expression e) (given_expression step) (view_statement y))
view_for x first e step y is = seen x (form.For first e step y) _ is (ap view_statement_form (sym (form.rolls-For first e step y)) ∙ fold-roll-StmtForm PartTree StmtFormTree SectionTree StmtTree part_step statement_form_step section_step statement_step (StmtForm-F.For first e step y))

-- ---- what typing them is
pub block_typed : (b : Body) (x : Stmt) (list : List Part) → (out-Stmt x).form ≡ form.Block list → statement_typed b (view_statement x) ≡ and_then (parts_typed (opened b) (parts (map view_part list))) (λ u. finish (out-Stmt x).node.number (Fits plain))
block_typed b x list is = ap (statement_typed b) (view_block x list is)

pub outermost_typed : (b : Body) (x : Stmt) (list : List Part) → (out-Stmt x).form ≡ form.Block list → body_typed b (view_statement x) ≡ and_then (parts_typed b (parts (map view_part list))) (λ u. finish (out-Stmt x).node.number (Fits plain))
outermost_typed b x list is = ap (body_typed b) (view_block x list is)

pub if_typed : (b : Body) (x : Stmt) (e : Expr) (y : Stmt) (other : Option Stmt) → (out-Stmt x).form ≡ form.If e y other
    → statement_typed b (view_statement x) ≡ and_then (expression_typed b.scope (view_expression e)) (λ t. and_then (statement_typed b (view_statement y)) (λ u. and_then (maybe_statement_typed b (maybe_statement (option_map view_statement other))) (λ v. finish (out-Stmt x).node.number (test_rule (Some t)))))
if_typed b x e y other is = ap (statement_typed b) (view_if x e y other is)

pub switch_typed : (b : Body) (x : Stmt) (e : Expr) (list : List Section) → (out-Stmt x).form ≡ form.Switch e list
    → statement_typed b (view_statement x) ≡ and_then (expression_typed b.scope (view_expression e)) (λ t. and_then (sections_typed (switched b) (kind_of t.ty) unlabelled (sections (map view_section list))) (λ l. finish (out-Stmt x).node.number (switch_rule (kind_of t.ty))))
switch_typed b x e list is = ap (statement_typed b) (view_switch x e list is)

pub while_typed : (b : Body) (x : Stmt) (e : Expr) (y : Stmt) → (out-Stmt x).form ≡ form.While e y
    → statement_typed b (view_statement x) ≡ and_then (expression_typed b.scope (view_expression e)) (λ t. and_then (statement_typed (looped b) (view_statement y)) (λ u. finish (out-Stmt x).node.number (test_rule (Some t))))
while_typed b x e y is = ap (statement_typed b) (view_while x e y is)

pub do_typed : (b : Body) (x : Stmt) (y : Stmt) (e : Expr) → (out-Stmt x).form ≡ form.Do y e
    → statement_typed b (view_statement x) ≡ and_then (statement_typed (looped b) (view_statement y)) (λ u. and_then (expression_typed b.scope (view_expression e)) (λ t. finish (out-Stmt x).node.number (test_rule (Some t))))
do_typed b x y e is = ap (statement_typed b) (view_do x y e is)

pub for_typed : (b : Body) (x : Stmt) (first : Start) (e step : Option Expr) (y : Stmt) → (out-Stmt x).form ≡ form.For first e step y
    → statement_typed b (view_statement x) ≡ and_then (start_typed (opened b) (view_start first)) (λ f.
    and_then (maybe_typed (with_more (opened b) f.locals).scope (given_expression e)) (λ t. and_then (maybe_typed (with_more (opened b) f.locals).scope (given_expression step)) (λ v.
    and_then (statement_typed (looped (with_more (opened b) f.locals)) (view_statement y)) (λ u. finish (out-Stmt x).node.number (for_rule f.value t v)))))
for_typed b x first e step y is = ap (statement_typed b) (view_for x first e step y is)

pub view_sections : (x : Section) → view_section x ≡ s.section (out-Section x).node (labels (map view_label (out-Section x).labels)) (statements (map view_statement (out-Section x).body))
view_sections x = fold_out-Section PartTree StmtFormTree SectionTree StmtTree part_step statement_form_step section_step statement_step x

-- ---- a declarator, with some initialiser or none
view_declared : (d : Declr) → (i : MaybeInitTree) × (view_declarator d ≡ s.declarator (out-Declr d).node (out-Declr d).stars (out-Declr d).name (view_tail (out-Declr d).tail) i)
view_declared d = (_, fold_out-Declr BaseFormTree DesigTree DimensionTree InitTree TailTree ExprFormTree BaseTree DeclrTree EnumrTree ItemTree MemberTree ParamTree TypeNameTree ExprTree base_form_step designator_step dimension_step initialiser_step tail_step expression_form_step base_step declarator_step enumerator_step item_step member_step parameter_step type_name_step expression_step d)

pub head_is : (scope : Scope) (t : TypeTree) (d : Declr) → head_typed scope t (view_declarator d) ≡ and_then (tail_typed scope true (view_tail (out-Declr d).tail)) (λ z.
    and_then (finish (out-Declr d).node.number (tail_type (structs_in scope) true None (starred (out-Declr d).stars t) z)) (λ x. Good (record { returns = starred (out-Declr d).stars t; locals = locals_in z }) []))
head_is scope t d = ap (head_typed scope t) (view_declared d).1
