-- The view: what the trees of the code show of their syntax.
use Rattle.std.specs.Prelude.{List, [], ◌∷◌, map, Option, Some, None}
use Rattle.stk_tree.specs.declared.declaration.BaseForm.{BaseForm, BaseForm-F, fold-BaseForm}
use Rattle.stk_tree.specs.declared.declaration.Desig.{Desig, Desig-F, fold-Desig}
use Rattle.stk_tree.specs.declared.declaration.Dimension.{Dimension, Dimension-F, fold-Dimension}
use Rattle.stk_tree.specs.declared.declaration.Init.{Init, Init-F, fold-Init}
use Rattle.stk_tree.specs.declared.declaration.Tail.{Tail, Tail-F, fold-Tail}
use Rattle.stk_tree.specs.declared.expression.ExprForm.{ExprForm, ExprForm-F, fold-ExprForm}
use Rattle.stk_tree.specs.declared.declaration.Base.{Base, Base-F, fold-Base}
use Rattle.stk_tree.specs.declared.declaration.Declr.{Declr, Declr-F, fold-Declr}
use Rattle.stk_tree.specs.declared.declaration.Enumr.{Enumr, Enumr-F, fold-Enumr}
use Rattle.stk_tree.specs.declared.declaration.Item.{Item, Item-F, fold-Item}
use Rattle.stk_tree.specs.declared.declaration.Member.{Member, Member-F, fold-Member}
use Rattle.stk_tree.specs.declared.declaration.Param.{Param, Param-F, fold-Param}
use Rattle.stk_tree.specs.declared.declaration.TypeName.{TypeName, TypeName-F, fold-TypeName}
use Rattle.stk_tree.specs.declared.expression.Expr.{Expr, Expr-F, fold-Expr}
use Rattle.stk_tree.specs.declared.statement.Part.{Part, Part-F, fold-Part}
use Rattle.stk_tree.specs.declared.statement.StmtForm.{StmtForm, StmtForm-F, fold-StmtForm}
use Rattle.stk_tree.specs.declared.statement.Section.{Section, Section-F, fold-Section}
use Rattle.stk_tree.specs.declared.statement.Stmt.{Stmt, Stmt-F, fold-Stmt}
use Rattle.stk_tree.specs.declared.declaration.Declaration.{Declaration}
use Rattle.stk_tree.specs.declared.unit.Function.{Function}
use Rattle.stk_tree.specs.declared.statement.Label.{Label}
use Rattle.stk_tree.specs.declared.statement.Label.TheVariants as label
use Rattle.stk_tree.specs.declared.statement.Start.{Start}
use Rattle.stk_tree.specs.declared.statement.Start.TheVariants as start
use Rattle.stk_tree.specs.declared.unit.Unit.{Unit}
use Rattle.stk_tree.specs.declared.unit.Unit.TheVariants as unit
use Rattle.stk_tree.specs.Syntax.{BaseFormTree, DesigTree, DimensionTree, InitTree, TailTree, ExprFormTree, BaseTree, DeclrTree, EnumrTree, ItemTree, MemberTree, ParamTree, TypeNameTree, ExprTree, PartTree, StmtFormTree, SectionTree, StmtTree, DeclarationTree, FunctionTree, LabelTree, StartTree, UnitTree, MemberTrees, EnumrTrees, DeclrTrees, DimensionTrees, ParamTrees, ItemTrees, DesigTrees, ExprTrees, LabelTrees, StmtTrees, PartTrees, SectionTrees, MaybeInitTree, MaybeExprTree, MaybeStmtTree}
use Rattle.stk_tree.specs.Syntax as syntax

-- a list as syntax: `none`, with each element added in front
abbrev pub chained : {X T : Type 0} → (X → T → T) → T → List X → T
chained add none [] = none
chained add none (x ∷ xs) = add x (chained add none xs)

-- members in a row
abbrev pub members : List MemberTree → MemberTrees
members xs = chained syntax.then_member syntax.no_members xs

-- enumerators in a row
abbrev pub enumerators : List EnumrTree → EnumrTrees
enumerators xs = chained syntax.then_enumerator syntax.no_enumerators xs

-- declarators in a row
abbrev pub declarators : List DeclrTree → DeclrTrees
declarators xs = chained syntax.then_declarator syntax.no_declarators xs

-- dimensions in a row
abbrev pub dimensions : List DimensionTree → DimensionTrees
dimensions xs = chained syntax.then_dimension syntax.no_dimensions xs

-- parameters in a row
abbrev pub parameters : List ParamTree → ParamTrees
parameters xs = chained syntax.then_parameter syntax.no_parameters xs

-- items in a row
abbrev pub items : List ItemTree → ItemTrees
items xs = chained syntax.then_item syntax.no_items xs

-- designators in a row
abbrev pub designators : List DesigTree → DesigTrees
designators xs = chained syntax.then_designator syntax.no_designators xs

-- expressions in a row
abbrev pub expressions : List ExprTree → ExprTrees
expressions xs = chained syntax.then_expression syntax.no_expressions xs

-- an initialiser that may be missing
abbrev pub maybe_initialiser : Option InitTree → MaybeInitTree
maybe_initialiser None = syntax.no_initialiser
maybe_initialiser (Some x) = syntax.some_initialiser x

-- an expression that may be missing
abbrev pub maybe_expression : Option ExprTree → MaybeExprTree
maybe_expression None = syntax.no_expression
maybe_expression (Some x) = syntax.some_expression x

-- the syntax of one layer of each type of the expressions, with the syntax of each child in the child's place
abbrev pub base_form_step : BaseForm-F BaseFormTree DesigTree DimensionTree InitTree TailTree ExprFormTree BaseTree DeclrTree EnumrTree ItemTree MemberTree ParamTree TypeNameTree ExprTree → BaseFormTree
base_form_step (BaseForm-F.Words ws) = syntax.words ws
base_form_step (BaseForm-F.StructRef tag) = syntax.struct_ref tag
base_form_step (BaseForm-F.StructDef tag ms) = syntax.struct_def tag (members ms)
base_form_step (BaseForm-F.EnumRef tag) = syntax.enum_ref tag
base_form_step (BaseForm-F.EnumDef tag es comma) = syntax.enum_def tag (enumerators es) comma
base_form_step (BaseForm-F.Named at) = syntax.named at

abbrev pub designator_step : Desig-F BaseFormTree DesigTree DimensionTree InitTree TailTree ExprFormTree BaseTree DeclrTree EnumrTree ItemTree MemberTree ParamTree TypeNameTree ExprTree → DesigTree
designator_step (Desig-F.Desig::Dot at) = syntax.dot_designator at
designator_step (Desig-F.At e) = syntax.at_designator e

abbrev pub dimension_step : Dimension-F BaseFormTree DesigTree DimensionTree InitTree TailTree ExprFormTree BaseTree DeclrTree EnumrTree ItemTree MemberTree ParamTree TypeNameTree ExprTree → DimensionTree
dimension_step Dimension-F.Open = syntax.open_dimension
dimension_step (Dimension-F.Sized e) = syntax.sized e

abbrev pub initialiser_step : Init-F BaseFormTree DesigTree DimensionTree InitTree TailTree ExprFormTree BaseTree DeclrTree EnumrTree ItemTree MemberTree ParamTree TypeNameTree ExprTree → InitTree
initialiser_step (Init-F.Plain e) = syntax.plain e
initialiser_step (Init-F.Braces is comma) = syntax.braces (items is) comma

abbrev pub tail_step : Tail-F BaseFormTree DesigTree DimensionTree InitTree TailTree ExprFormTree BaseTree DeclrTree EnumrTree ItemTree MemberTree ParamTree TypeNameTree ExprTree → TailTree
tail_step (Tail-F.Arrays ds) = syntax.arrays (dimensions ds)
tail_step Tail-F.Unspecified = syntax.unspecified
tail_step Tail-F.NoParams = syntax.void_parameters
tail_step (Tail-F.Params ps more) = syntax.with_parameters (parameters ps) more

abbrev pub expression_form_step : ExprForm-F BaseFormTree DesigTree DimensionTree InitTree TailTree ExprFormTree BaseTree DeclrTree EnumrTree ItemTree MemberTree ParamTree TypeNameTree ExprTree → ExprFormTree
expression_form_step (ExprForm-F.Name at) = syntax.name at
expression_form_step (ExprForm-F.Number at) = syntax.number at
expression_form_step (ExprForm-F.Character at) = syntax.character at
expression_form_step (ExprForm-F.Text parts) = syntax.text parts
expression_form_step (ExprForm-F.Paren e) = syntax.paren e
expression_form_step (ExprForm-F.Index a b) = syntax.index a b
expression_form_step (ExprForm-F.Call f args) = syntax.call f (expressions args)
expression_form_step (ExprForm-F.ExprForm::Dot e at) = syntax.dot e at
expression_form_step (ExprForm-F.Arrow e at) = syntax.arrow e at
expression_form_step (ExprForm-F.Step op e) = syntax.step op e
expression_form_step (ExprForm-F.Unary op e) = syntax.unary op e
expression_form_step (ExprForm-F.SizeExpr e) = syntax.size_expression e
expression_form_step (ExprForm-F.SizeName t) = syntax.size_name t
expression_form_step (ExprForm-F.Cast t e) = syntax.cast t e
expression_form_step (ExprForm-F.Binary op a b) = syntax.binary op a b
expression_form_step (ExprForm-F.Choice a b c) = syntax.choice a b c
expression_form_step (ExprForm-F.Assign op a b) = syntax.assign op a b

abbrev pub base_step : Base-F BaseFormTree DesigTree DimensionTree InitTree TailTree ExprFormTree BaseTree DeclrTree EnumrTree ItemTree MemberTree ParamTree TypeNameTree ExprTree → BaseTree
base_step x = syntax.base x.node x.form

abbrev pub declarator_step : Declr-F BaseFormTree DesigTree DimensionTree InitTree TailTree ExprFormTree BaseTree DeclrTree EnumrTree ItemTree MemberTree ParamTree TypeNameTree ExprTree → DeclrTree
declarator_step x = syntax.declarator x.node x.stars x.name x.tail (maybe_initialiser x.init)

abbrev pub enumerator_step : Enumr-F BaseFormTree DesigTree DimensionTree InitTree TailTree ExprFormTree BaseTree DeclrTree EnumrTree ItemTree MemberTree ParamTree TypeNameTree ExprTree → EnumrTree
enumerator_step x = syntax.enumerator x.name (maybe_expression x.value)

abbrev pub item_step : Item-F BaseFormTree DesigTree DimensionTree InitTree TailTree ExprFormTree BaseTree DeclrTree EnumrTree ItemTree MemberTree ParamTree TypeNameTree ExprTree → ItemTree
item_step x = syntax.item (designators x.path) x.init

abbrev pub member_step : Member-F BaseFormTree DesigTree DimensionTree InitTree TailTree ExprFormTree BaseTree DeclrTree EnumrTree ItemTree MemberTree ParamTree TypeNameTree ExprTree → MemberTree
member_step x = syntax.member x.base (declarators x.list)

abbrev pub parameter_step : Param-F BaseFormTree DesigTree DimensionTree InitTree TailTree ExprFormTree BaseTree DeclrTree EnumrTree ItemTree MemberTree ParamTree TypeNameTree ExprTree → ParamTree
parameter_step x = syntax.parameter x.node x.base x.declr

abbrev pub type_name_step : TypeName-F BaseFormTree DesigTree DimensionTree InitTree TailTree ExprFormTree BaseTree DeclrTree EnumrTree ItemTree MemberTree ParamTree TypeNameTree ExprTree → TypeNameTree
type_name_step x = syntax.type_name x.node x.base x.stars (dimensions x.arrays)

abbrev pub expression_step : Expr-F BaseFormTree DesigTree DimensionTree InitTree TailTree ExprFormTree BaseTree DeclrTree EnumrTree ItemTree MemberTree ParamTree TypeNameTree ExprTree → ExprTree
expression_step x = syntax.expression x.node x.form

-- the syntax of a base form
abbrev pub view_base_form : BaseForm → BaseFormTree
view_base_form = fold-BaseForm BaseFormTree DesigTree DimensionTree InitTree TailTree ExprFormTree BaseTree DeclrTree EnumrTree ItemTree MemberTree ParamTree TypeNameTree ExprTree base_form_step designator_step dimension_step initialiser_step tail_step expression_form_step base_step declarator_step enumerator_step item_step member_step parameter_step type_name_step expression_step

-- the syntax of a designator
abbrev pub view_designator : Desig → DesigTree
view_designator = fold-Desig BaseFormTree DesigTree DimensionTree InitTree TailTree ExprFormTree BaseTree DeclrTree EnumrTree ItemTree MemberTree ParamTree TypeNameTree ExprTree base_form_step designator_step dimension_step initialiser_step tail_step expression_form_step base_step declarator_step enumerator_step item_step member_step parameter_step type_name_step expression_step

-- the syntax of a dimension
abbrev pub view_dimension : Dimension → DimensionTree
view_dimension = fold-Dimension BaseFormTree DesigTree DimensionTree InitTree TailTree ExprFormTree BaseTree DeclrTree EnumrTree ItemTree MemberTree ParamTree TypeNameTree ExprTree base_form_step designator_step dimension_step initialiser_step tail_step expression_form_step base_step declarator_step enumerator_step item_step member_step parameter_step type_name_step expression_step

-- the syntax of an initialiser
abbrev pub view_initialiser : Init → InitTree
view_initialiser = fold-Init BaseFormTree DesigTree DimensionTree InitTree TailTree ExprFormTree BaseTree DeclrTree EnumrTree ItemTree MemberTree ParamTree TypeNameTree ExprTree base_form_step designator_step dimension_step initialiser_step tail_step expression_form_step base_step declarator_step enumerator_step item_step member_step parameter_step type_name_step expression_step

-- the syntax of a tail
abbrev pub view_tail : Tail → TailTree
view_tail = fold-Tail BaseFormTree DesigTree DimensionTree InitTree TailTree ExprFormTree BaseTree DeclrTree EnumrTree ItemTree MemberTree ParamTree TypeNameTree ExprTree base_form_step designator_step dimension_step initialiser_step tail_step expression_form_step base_step declarator_step enumerator_step item_step member_step parameter_step type_name_step expression_step

-- the syntax of an expression form
abbrev pub view_expression_form : ExprForm → ExprFormTree
view_expression_form = fold-ExprForm BaseFormTree DesigTree DimensionTree InitTree TailTree ExprFormTree BaseTree DeclrTree EnumrTree ItemTree MemberTree ParamTree TypeNameTree ExprTree base_form_step designator_step dimension_step initialiser_step tail_step expression_form_step base_step declarator_step enumerator_step item_step member_step parameter_step type_name_step expression_step

-- the syntax of a base
abbrev pub view_base : Base → BaseTree
view_base = fold-Base BaseFormTree DesigTree DimensionTree InitTree TailTree ExprFormTree BaseTree DeclrTree EnumrTree ItemTree MemberTree ParamTree TypeNameTree ExprTree base_form_step designator_step dimension_step initialiser_step tail_step expression_form_step base_step declarator_step enumerator_step item_step member_step parameter_step type_name_step expression_step

-- the syntax of a declarator
abbrev pub view_declarator : Declr → DeclrTree
view_declarator = fold-Declr BaseFormTree DesigTree DimensionTree InitTree TailTree ExprFormTree BaseTree DeclrTree EnumrTree ItemTree MemberTree ParamTree TypeNameTree ExprTree base_form_step designator_step dimension_step initialiser_step tail_step expression_form_step base_step declarator_step enumerator_step item_step member_step parameter_step type_name_step expression_step

-- the syntax of an enumerator
abbrev pub view_enumerator : Enumr → EnumrTree
view_enumerator = fold-Enumr BaseFormTree DesigTree DimensionTree InitTree TailTree ExprFormTree BaseTree DeclrTree EnumrTree ItemTree MemberTree ParamTree TypeNameTree ExprTree base_form_step designator_step dimension_step initialiser_step tail_step expression_form_step base_step declarator_step enumerator_step item_step member_step parameter_step type_name_step expression_step

-- the syntax of an item
abbrev pub view_item : Item → ItemTree
view_item = fold-Item BaseFormTree DesigTree DimensionTree InitTree TailTree ExprFormTree BaseTree DeclrTree EnumrTree ItemTree MemberTree ParamTree TypeNameTree ExprTree base_form_step designator_step dimension_step initialiser_step tail_step expression_form_step base_step declarator_step enumerator_step item_step member_step parameter_step type_name_step expression_step

-- the syntax of a member
abbrev pub view_member : Member → MemberTree
view_member = fold-Member BaseFormTree DesigTree DimensionTree InitTree TailTree ExprFormTree BaseTree DeclrTree EnumrTree ItemTree MemberTree ParamTree TypeNameTree ExprTree base_form_step designator_step dimension_step initialiser_step tail_step expression_form_step base_step declarator_step enumerator_step item_step member_step parameter_step type_name_step expression_step

-- the syntax of a parameter
abbrev pub view_parameter : Param → ParamTree
view_parameter = fold-Param BaseFormTree DesigTree DimensionTree InitTree TailTree ExprFormTree BaseTree DeclrTree EnumrTree ItemTree MemberTree ParamTree TypeNameTree ExprTree base_form_step designator_step dimension_step initialiser_step tail_step expression_form_step base_step declarator_step enumerator_step item_step member_step parameter_step type_name_step expression_step

-- the syntax of a type name
abbrev pub view_type_name : TypeName → TypeNameTree
view_type_name = fold-TypeName BaseFormTree DesigTree DimensionTree InitTree TailTree ExprFormTree BaseTree DeclrTree EnumrTree ItemTree MemberTree ParamTree TypeNameTree ExprTree base_form_step designator_step dimension_step initialiser_step tail_step expression_form_step base_step declarator_step enumerator_step item_step member_step parameter_step type_name_step expression_step

-- the syntax of an expression
abbrev pub view_expression : Expr → ExprTree
view_expression = fold-Expr BaseFormTree DesigTree DimensionTree InitTree TailTree ExprFormTree BaseTree DeclrTree EnumrTree ItemTree MemberTree ParamTree TypeNameTree ExprTree base_form_step designator_step dimension_step initialiser_step tail_step expression_form_step base_step declarator_step enumerator_step item_step member_step parameter_step type_name_step expression_step

-- the syntax of an expression that may be missing
abbrev pub given_expression : Option Expr → MaybeExprTree
given_expression None = syntax.no_expression
given_expression (Some e) = syntax.some_expression (view_expression e)

-- the syntax of a declaration
abbrev pub view_declaration : Declaration → DeclarationTree
view_declaration d = syntax.declaration d.storage (view_base d.base) (declarators (map view_declarator d.list))

-- the syntax of the first part of a `for`
abbrev pub view_start : Start → StartTree
view_start (start.Local d) = syntax.start_declaration (view_declaration d)
view_start (start.Plain e) = syntax.start_expression (given_expression e)

-- the syntax of a label
abbrev pub view_label : Label → LabelTree
view_label label.Default = syntax.default_label
view_label (label.Case e) = syntax.case_label (view_expression e)

-- labels in a row
abbrev pub labels : List LabelTree → LabelTrees
labels xs = chained syntax.then_label syntax.no_labels xs

-- statements in a row
abbrev pub statements : List StmtTree → StmtTrees
statements xs = chained syntax.then_statement syntax.no_statements xs

-- parts in a row
abbrev pub parts : List PartTree → PartTrees
parts xs = chained syntax.then_part syntax.no_parts xs

-- sections in a row
abbrev pub sections : List SectionTree → SectionTrees
sections xs = chained syntax.then_section syntax.no_sections xs

-- a statement that may be missing
abbrev pub maybe_statement : Option StmtTree → MaybeStmtTree
maybe_statement None = syntax.no_statement
maybe_statement (Some x) = syntax.some_statement x

-- the syntax of one layer of each type of the statements, with the syntax of each child in the child's place
abbrev pub part_step : Part-F PartTree StmtFormTree SectionTree StmtTree → PartTree
part_step (Part-F.Local d) = syntax.local (view_declaration d)
part_step (Part-F.Run s) = syntax.run s

abbrev pub statement_form_step : StmtForm-F PartTree StmtFormTree SectionTree StmtTree → StmtFormTree
statement_form_step (StmtForm-F.Block ps) = syntax.block (parts ps)
statement_form_step (StmtForm-F.Plain e) = syntax.expression_statement (given_expression e)
statement_form_step (StmtForm-F.If e s other) = syntax.if_statement (view_expression e) s (maybe_statement other)
statement_form_step (StmtForm-F.Switch e ss) = syntax.switch_statement (view_expression e) (sections ss)
statement_form_step (StmtForm-F.While e s) = syntax.while_statement (view_expression e) s
statement_form_step (StmtForm-F.Do s e) = syntax.do_statement s (view_expression e)
statement_form_step (StmtForm-F.For first test step s) = syntax.for_statement (view_start first) (given_expression test) (given_expression step) s
statement_form_step StmtForm-F.Break = syntax.break_statement
statement_form_step StmtForm-F.Continue = syntax.continue_statement
statement_form_step (StmtForm-F.Return e) = syntax.return_statement (given_expression e)

abbrev pub section_step : Section-F PartTree StmtFormTree SectionTree StmtTree → SectionTree
section_step x = syntax.section x.node (labels (map view_label x.labels)) (statements x.body)

abbrev pub statement_step : Stmt-F PartTree StmtFormTree SectionTree StmtTree → StmtTree
statement_step x = syntax.statement x.node x.form

-- the syntax of a part
abbrev pub view_part : Part → PartTree
view_part = fold-Part PartTree StmtFormTree SectionTree StmtTree part_step statement_form_step section_step statement_step

-- the syntax of a statement form
abbrev pub view_statement_form : StmtForm → StmtFormTree
view_statement_form = fold-StmtForm PartTree StmtFormTree SectionTree StmtTree part_step statement_form_step section_step statement_step

-- the syntax of a section
abbrev pub view_section : Section → SectionTree
view_section = fold-Section PartTree StmtFormTree SectionTree StmtTree part_step statement_form_step section_step statement_step

-- the syntax of a statement
abbrev pub view_statement : Stmt → StmtTree
view_statement = fold-Stmt PartTree StmtFormTree SectionTree StmtTree part_step statement_form_step section_step statement_step

-- the syntax of a function definition
abbrev pub view_function : Function → FunctionTree
view_function f = syntax.function f.storage (view_base f.base) (view_declarator f.declr) (view_statement f.body)

-- the syntax of a unit
abbrev pub view_unit : Unit → UnitTree
view_unit (unit.Empty n) = syntax.empty_unit n
view_unit (unit.Declares n d) = syntax.declares n (view_declaration d)
view_unit (unit.Defines n f) = syntax.defines n (view_function f)
