-- What declarators, items, parts and statements of the code show.
use Rattle.std.proofs.Common.{◌≡◌, ◌∙◌, Option, Some, None, map, refl, sym, ap}
use Rattle.std.specs.Option.{option_map}
use Rattle.stk_tree.specs.declared.declaration.Declr.{Declr, out-Declr, fold_out-Declr}
use Rattle.stk_tree.specs.declared.declaration.Item.{Item, out-Item, fold_out-Item}
use Rattle.stk_tree.specs.declared.declaration.Init.{Init}
use Rattle.stk_tree.specs.declared.declaration.Declaration.{Declaration}
use Rattle.stk_tree.specs.declared.statement.Part.{Part, Part-F, fold-roll-Part}
use Rattle.stk_tree.specs.declared.statement.Part.TheVariants as part
use Rattle.stk_tree.specs.declared.statement.Stmt.{Stmt, out-Stmt}
use Rattle.stk_tree.specs.Syntax.{PartTree, StmtFormTree, SectionTree, StmtTree, BaseFormTree, DesigTree, DimensionTree, InitTree, TailTree, ExprFormTree, BaseTree, DeclrTree, EnumrTree, ItemTree, MemberTree, ParamTree, TypeNameTree, ExprTree}
use Rattle.stk_tree.specs.Syntax as s
use Rattle.stk_tree.specs.View.{part_step, statement_form_step, section_step, statement_step, view_part, view_declaration, view_statement, view_statement_form, base_form_step, designator_step, dimension_step, initialiser_step, tail_step, expression_form_step, base_step, declarator_step, enumerator_step, item_step, member_step, parameter_step, type_name_step, expression_step, maybe_initialiser, designators, view_declarator, view_designator, view_initialiser, view_item, view_tail}
use Rattle.stk_meaning.specs.Typings.{declarator_node, statement_node}
use Rattle.stk_exec_stmt.specs.Ending.{form_of}
use Rattle.stk_exec_stmt.proofs.StatementViews.{view_node}

pub at_declarator : (d : Declr) → view_declarator d ≡ s.declarator (out-Declr d).node (out-Declr d).stars (out-Declr d).name (view_tail (out-Declr d).tail) (maybe_initialiser (option_map view_initialiser (out-Declr d).init))
at_declarator d = on (out-Declr d).init refl
  where
    on : (o : Option Init) → (out-Declr d).init ≡ o → view_declarator d ≡ s.declarator (out-Declr d).node (out-Declr d).stars (out-Declr d).name (view_tail (out-Declr d).tail) (maybe_initialiser (option_map view_initialiser (out-Declr d).init))
    on None h = fold_out-Declr BaseFormTree DesigTree DimensionTree InitTree TailTree ExprFormTree BaseTree DeclrTree EnumrTree ItemTree MemberTree ParamTree TypeNameTree ExprTree base_form_step designator_step dimension_step initialiser_step tail_step expression_form_step base_step declarator_step enumerator_step item_step member_step parameter_step type_name_step expression_step d ∙ rw h refl
    on (Some i) h = fold_out-Declr BaseFormTree DesigTree DimensionTree InitTree TailTree ExprFormTree BaseTree DeclrTree EnumrTree ItemTree MemberTree ParamTree TypeNameTree ExprTree base_form_step designator_step dimension_step initialiser_step tail_step expression_form_step base_step declarator_step enumerator_step item_step member_step parameter_step type_name_step expression_step d ∙ rw h refl

pub at_declarator_node : (d : Declr) → declarator_node (view_declarator d) ≡ (out-Declr d).node.number
at_declarator_node d = ap declarator_node (at_declarator d)

pub at_item : (x : Item) → view_item x ≡ s.item (designators (map view_designator (out-Item x).path)) (view_initialiser (out-Item x).init)
at_item x = fold_out-Item BaseFormTree DesigTree DimensionTree InitTree TailTree ExprFormTree BaseTree DeclrTree EnumrTree ItemTree MemberTree ParamTree TypeNameTree ExprTree base_form_step designator_step dimension_step initialiser_step tail_step expression_form_step base_step declarator_step enumerator_step item_step member_step parameter_step type_name_step expression_step x

pub at_local : (p : Part) (d : Declaration) → p ≡ part.Local d → view_part p ≡ s.local (view_declaration d)
at_local p d is = ap view_part is ∙ (ap view_part (sym (part.rolls-Local d)) ∙ fold-roll-Part PartTree StmtFormTree SectionTree StmtTree part_step statement_form_step section_step statement_step (Part-F.Local d))

pub at_statement_node : (x : Stmt) → statement_node (view_statement x) ≡ (out-Stmt x).node.number
at_statement_node x = ap statement_node (view_node x)

pub at_statement_form : (x : Stmt) → form_of (view_statement x) ≡ view_statement_form (out-Stmt x).form
at_statement_form x = ap form_of (view_node x)
