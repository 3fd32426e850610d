-- A tree has few nodes: at most three for each token that it prints, and a few more.
use Rattle.std.proofs.Common.{◌≡◌, ◌≤◌, ◌+◌, ◌*◌, ◌&&◌, suc, Bool, true, false, List, length, refl, arith}
use Rattle.std.proofs.lemmas.List.{length-append}
use Rattle.stk_tree.specs.declared.fixed.Lexeme.{Lexeme}
use Rattle.stk_tree.specs.declared.expression.StepOp.{StepOp}
use Rattle.stk_tree.specs.declared.expression.StepOp.TheVariants.{IncBefore, DecBefore, IncAfter, DecAfter}
use Rattle.stk_tree.specs.Syntax.{BaseFormTree, BaseTree, DeclarationTree, DeclrTree, DeclrTrees, DesigTree, DesigTrees, DimensionTree, DimensionTrees, EnumrTree, EnumrTrees, ExprFormTree, ExprTree, ExprTrees, InitTree, ItemTree, ItemTrees, LabelTree, LabelTrees, MaybeExprTree, MaybeInitTree, MemberTree, MemberTrees, ParamTree, ParamTrees, PartTree, PartTrees, SectionTree, SectionTrees, StartTree, StmtFormTree, StmtTree, StmtTrees, TailTree, TypeNameTree, UnitTree}
use Rattle.stk_tree.specs.Syntax as s
use Rattle.stk_tree.specs.Placed.{part_placed, parts_placed, section_placed, sections_placed, some_labels, statement_form_placed, statement_placed, statements_placed, unit_placed}
use Rattle.stk_tree.specs.Nodes.{base_form_nodes, base_nodes, declaration_nodes, declarator_nodes, declarators_nodes, designator_nodes, designators_nodes, dimension_nodes, dimensions_nodes, enumerator_nodes, enumerators_nodes, expression_form_nodes, expression_nodes, expressions_nodes, initialiser_nodes, item_nodes, items_nodes, label_nodes, labels_nodes, maybe_expression_nodes, maybe_initialiser_nodes, member_nodes, members_nodes, parameter_nodes, parameters_nodes, part_nodes, parts_nodes, section_nodes, sections_nodes, start_nodes, statement_form_nodes, statement_nodes, statements_nodes, tail_nodes, type_name_nodes, unit_nodes}
use Rattle.stk_tree.specs.Tokens.{base_form_tokens, base_tokens, declaration_tokens, declarator_tokens, declarators_tokens, designator_tokens, designators_tokens, dimension_tokens, dimensions_tokens, enumerator_tokens, enumerators_tokens, expression_form_tokens, expression_tokens, expressions_tokens, initial_tokens, initialiser_tokens, item_tokens, items_tokens, label_tokens, labels_tokens, member_tokens, members_tokens, more_declarators, more_enumerators, more_expressions, more_items, more_parameters, optional_tokens, parameter_tokens, parameters_tokens, part_tokens, parts_tokens, section_tokens, sections_tokens, start_tokens, statement_form_tokens, statement_tokens, statements_tokens, step_tokens, tail_tokens, type_name_tokens, unit_tokens, value_tokens}

step_width : (op : StepOp) (ts : List Lexeme) → length (step_tokens op ts) ≡ suc (length ts)
step_width IncBefore ts = refl
step_width DecBefore ts = refl
step_width IncAfter ts = simp length-append (omega arith)
step_width DecAfter ts = simp length-append (omega arith)

mutual
  pub base_tokens-few : (x : BaseTree) → base_nodes x ≤ 3 * length (base_tokens x) + 1
  base_tokens-few (s.base k f) = omega (arith, base_form_tokens-few f)

  pub base_form_tokens-few : (x : BaseFormTree) → base_form_nodes x ≤ 3 * length (base_form_tokens x)
  base_form_tokens-few (s.words ws) = omega arith
  base_form_tokens-few (s.struct_ref tag) = omega arith
  base_form_tokens-few (s.struct_def tag ms) = simp length-append (omega (arith, members_tokens-few ms))
  base_form_tokens-few (s.enum_ref tag) = omega arith
  base_form_tokens-few (s.enum_def tag es comma) = simp length-append (omega (arith, enumerators_tokens-few es))
  base_form_tokens-few (s.named at) = omega arith

  pub member_tokens-few : (x : MemberTree) → member_nodes x ≤ 3 * length (member_tokens x)
  member_tokens-few (s.member b ds) = simp length-append (omega (arith, declarators_tokens-few ds, base_tokens-few b))

  pub members_tokens-few : (x : MemberTrees) → members_nodes x ≤ 3 * length (members_tokens x)
  members_tokens-few s.no_members = omega arith
  members_tokens-few (s.then_member x xs) = simp length-append (omega (arith, members_tokens-few xs, member_tokens-few x))

  pub enumerator_tokens-few : (x : EnumrTree) → enumerator_nodes x ≤ 3 * length (enumerator_tokens x)
  enumerator_tokens-few (s.enumerator at e) = simp length-append (omega (arith, value_tokens-few e))

  pub enumerators_tokens-few : (x : EnumrTrees) → enumerators_nodes x ≤ 3 * length (enumerators_tokens x)
  enumerators_tokens-few s.no_enumerators = omega arith
  enumerators_tokens-few (s.then_enumerator x xs) = simp length-append (omega (arith, enumerator_tokens-few x, more_enumerators-few xs))

  pub more_enumerators-few : (x : EnumrTrees) → enumerators_nodes x ≤ 3 * length (more_enumerators x)
  more_enumerators-few s.no_enumerators = omega arith
  more_enumerators-few (s.then_enumerator x xs) = simp length-append (omega (arith, enumerator_tokens-few x, more_enumerators-few xs))

  pub value_tokens-few : (x : MaybeExprTree) → maybe_expression_nodes x ≤ 3 * length (value_tokens x)
  value_tokens-few s.no_expression = omega arith
  value_tokens-few (s.some_expression e) = omega (arith, expression_tokens-few e)

  pub declarator_tokens-few : (x : DeclrTree) → declarator_nodes x ≤ 3 * length (declarator_tokens x) + 1
  declarator_tokens-few (s.declarator k count at q i) = simp length-append (omega (arith, initial_tokens-few i, tail_tokens-few q))

  pub declarators_tokens-few : (x : DeclrTrees) → declarators_nodes x ≤ 3 * length (declarators_tokens x) + 1
  declarators_tokens-few s.no_declarators = omega arith
  declarators_tokens-few (s.then_declarator x xs) = simp length-append (omega (arith, declarator_tokens-few x, more_declarators-few xs))

  pub more_declarators-few : (x : DeclrTrees) → declarators_nodes x ≤ 3 * length (more_declarators x)
  more_declarators-few s.no_declarators = omega arith
  more_declarators-few (s.then_declarator x xs) = simp length-append (omega (arith, declarator_tokens-few x, more_declarators-few xs))

  pub initial_tokens-few : (x : MaybeInitTree) → maybe_initialiser_nodes x ≤ 3 * length (initial_tokens x)
  initial_tokens-few s.no_initialiser = omega arith
  initial_tokens-few (s.some_initialiser i) = omega (arith, initialiser_tokens-few i)

  pub tail_tokens-few : (x : TailTree) → tail_nodes x ≤ 3 * length (tail_tokens x)
  tail_tokens-few (s.arrays ds) = omega (arith, dimensions_tokens-few ds)
  tail_tokens-few s.unspecified = omega arith
  tail_tokens-few s.void_parameters = omega arith
  tail_tokens-few (s.with_parameters ps more) = simp length-append (omega (arith, parameters_tokens-few ps))

  pub dimension_tokens-few : (x : DimensionTree) → dimension_nodes x ≤ 3 * length (dimension_tokens x)
  dimension_tokens-few s.open_dimension = omega arith
  dimension_tokens-few (s.sized e) = simp length-append (omega (arith, expression_tokens-few e))

  pub dimensions_tokens-few : (x : DimensionTrees) → dimensions_nodes x ≤ 3 * length (dimensions_tokens x)
  dimensions_tokens-few s.no_dimensions = omega arith
  dimensions_tokens-few (s.then_dimension x xs) = simp length-append (omega (arith, dimensions_tokens-few xs, dimension_tokens-few x))

  pub parameter_tokens-few : (x : ParamTree) → parameter_nodes x ≤ 3 * length (parameter_tokens x) + 3
  parameter_tokens-few (s.parameter k b d) = simp length-append (omega (arith, declarator_tokens-few d, base_tokens-few b))

  pub parameters_tokens-few : (x : ParamTrees) → parameters_nodes x ≤ 3 * length (parameters_tokens x) + 3
  parameters_tokens-few s.no_parameters = omega arith
  parameters_tokens-few (s.then_parameter x xs) = simp length-append (omega (arith, parameter_tokens-few x, more_parameters-few xs))

  pub more_parameters-few : (x : ParamTrees) → parameters_nodes x ≤ 3 * length (more_parameters x)
  more_parameters-few s.no_parameters = omega arith
  more_parameters-few (s.then_parameter x xs) = simp length-append (omega (arith, parameter_tokens-few x, more_parameters-few xs))

  pub type_name_tokens-few : (x : TypeNameTree) → type_name_nodes x ≤ 3 * length (type_name_tokens x) + 2
  type_name_tokens-few (s.type_name k b count ds) = simp length-append (omega (arith, dimensions_tokens-few ds, base_tokens-few b))

  pub initialiser_tokens-few : (x : InitTree) → initialiser_nodes x ≤ 3 * length (initialiser_tokens x) + 1
  initialiser_tokens-few (s.plain e) = omega (arith, expression_tokens-few e)
  initialiser_tokens-few (s.braces is comma) = simp length-append (omega (arith, items_tokens-few is))

  pub item_tokens-few : (x : ItemTree) → item_nodes x ≤ 3 * length (item_tokens x) + 1
  item_tokens-few (s.item ds i) = simp length-append (omega (arith, initialiser_tokens-few i, designators_tokens-few ds))

  pub items_tokens-few : (x : ItemTrees) → items_nodes x ≤ 3 * length (items_tokens x) + 1
  items_tokens-few s.no_items = omega arith
  items_tokens-few (s.then_item x xs) = simp length-append (omega (arith, item_tokens-few x, more_items-few xs))

  pub more_items-few : (x : ItemTrees) → items_nodes x ≤ 3 * length (more_items x)
  more_items-few s.no_items = omega arith
  more_items-few (s.then_item x xs) = simp length-append (omega (arith, item_tokens-few x, more_items-few xs))

  pub designator_tokens-few : (x : DesigTree) → designator_nodes x ≤ 3 * length (designator_tokens x)
  designator_tokens-few (s.dot_designator at) = omega arith
  designator_tokens-few (s.at_designator e) = simp length-append (omega (arith, expression_tokens-few e))

  pub designators_tokens-few : (x : DesigTrees) → designators_nodes x ≤ 3 * length (designators_tokens x)
  designators_tokens-few s.no_designators = omega arith
  designators_tokens-few (s.then_designator x xs) = simp length-append (omega (arith, designators_tokens-few xs, designator_tokens-few x))

  pub expression_tokens-few : (x : ExprTree) → expression_nodes x ≤ 3 * length (expression_tokens x) + 1
  expression_tokens-few (s.expression k f) = omega (arith, expression_form_tokens-few f)

  pub expressions_tokens-few : (x : ExprTrees) → expressions_nodes x ≤ 3 * length (expressions_tokens x) + 1
  expressions_tokens-few s.no_expressions = omega arith
  expressions_tokens-few (s.then_expression x xs) = simp length-append (omega (arith, expression_tokens-few x, more_expressions-few xs))

  pub more_expressions-few : (x : ExprTrees) → expressions_nodes x ≤ 3 * length (more_expressions x)
  more_expressions-few s.no_expressions = omega arith
  more_expressions-few (s.then_expression x xs) = simp length-append (omega (arith, expression_tokens-few x, more_expressions-few xs))

  pub expression_form_tokens-few : (x : ExprFormTree) → expression_form_nodes x ≤ 3 * length (expression_form_tokens x)
  expression_form_tokens-few (s.name at) = omega arith
  expression_form_tokens-few (s.number at) = omega arith
  expression_form_tokens-few (s.character at) = omega arith
  expression_form_tokens-few (s.text parts) = omega arith
  expression_form_tokens-few (s.paren e) = simp length-append (omega (arith, expression_tokens-few e))
  expression_form_tokens-few (s.index a b) = simp length-append (omega (arith, expression_tokens-few a, expression_tokens-few b))
  expression_form_tokens-few (s.call f args) = simp length-append (omega (arith, expressions_tokens-few args, expression_tokens-few f))
  expression_form_tokens-few (s.dot e at) = simp length-append (omega (arith, expression_tokens-few e))
  expression_form_tokens-few (s.arrow e at) = simp length-append (omega (arith, expression_tokens-few e))
  expression_form_tokens-few (s.step op e) = omega (arith, expression_tokens-few e, step_width op (expression_tokens e))
  expression_form_tokens-few (s.unary op e) = omega (arith, expression_tokens-few e)
  expression_form_tokens-few (s.size_expression e) = omega (arith, expression_tokens-few e)
  expression_form_tokens-few (s.size_name q) = simp length-append (omega (arith, type_name_tokens-few q))
  expression_form_tokens-few (s.cast q e) = simp length-append (omega (arith, expression_tokens-few e, type_name_tokens-few q))
  expression_form_tokens-few (s.binary op a b) = simp length-append (omega (arith, expression_tokens-few a, expression_tokens-few b))
  expression_form_tokens-few (s.choice a b c) = simp length-append (omega (arith, expression_tokens-few a, expression_tokens-few b, expression_tokens-few c))
  expression_form_tokens-few (s.assign op a b) = simp length-append (omega (arith, expression_tokens-few a, expression_tokens-few b))

pub optional_tokens-few : (x : MaybeExprTree) → maybe_expression_nodes x ≤ 3 * length (optional_tokens x) + 1
optional_tokens-few s.no_expression = omega arith
optional_tokens-few (s.some_expression e) = omega (arith, expression_tokens-few e)

pub declaration_tokens-few : (x : DeclarationTree) → declaration_nodes x ≤ 3 * length (declaration_tokens x)
declaration_tokens-few (s.declaration word b ds) = simp length-append (omega (arith, declarators_tokens-few ds, base_tokens-few b))

pub start_tokens-few : (x : StartTree) → start_nodes x ≤ 3 * length (start_tokens x)
start_tokens-few (s.start_declaration d) = omega (arith, declaration_tokens-few d)
start_tokens-few (s.start_expression e) = simp length-append (omega (arith, optional_tokens-few e))

pub label_tokens-few : (x : LabelTree) → label_nodes x ≤ 3 * length (label_tokens x)
label_tokens-few s.default_label = omega arith
label_tokens-few (s.case_label e) = simp length-append (omega (arith, expression_tokens-few e))

pub labels_tokens-few : (x : LabelTrees) → labels_nodes x ≤ 3 * length (labels_tokens x)
labels_tokens-few s.no_labels = omega arith
labels_tokens-few (s.then_label x xs) = simp length-append (omega (arith, labels_tokens-few xs, label_tokens-few x))

both : (a b : Bool) → a && b ≡ true → (a ≡ true) × (b ≡ true)
both true b h = (refl, h)
both false b h = absurd cc

some_labels_few : (x : LabelTrees) → some_labels x ≡ true → labels_nodes x + 1 ≤ 3 * length (labels_tokens x)
some_labels_few s.no_labels h = absurd cc
some_labels_few (s.then_label s.default_label xs) h = omega (arith, labels_tokens-few xs)
some_labels_few (s.then_label (s.case_label e) xs) h = simp length-append (omega (arith, expression_tokens-few e, labels_tokens-few xs))

-- of a `switch` that is well placed, each section prints a label
mutual
  pub statement_tokens-few : (x : StmtTree) → statement_placed x ≡ true → statement_nodes x ≤ 3 * length (statement_tokens x)
  statement_tokens-few (s.statement k f) h = omega (arith, statement_form_tokens-few f h)

  pub statements_tokens-few : (x : StmtTrees) → statements_placed x ≡ true → statements_nodes x ≤ 3 * length (statements_tokens x)
  statements_tokens-few s.no_statements h = omega arith
  statements_tokens-few (s.then_statement x xs) h =
      let p = both _ _ h in
      simp length-append (omega (arith, statement_tokens-few x p.0, statements_tokens-few xs p.1))

  pub statement_form_tokens-few : (x : StmtFormTree) → statement_form_placed x ≡ true → statement_form_nodes x + 1 ≤ 3 * length (statement_form_tokens x)
  statement_form_tokens-few (s.block ps) h = simp length-append (omega (arith, parts_tokens-few ps h))
  statement_form_tokens-few (s.expression_statement e) h = simp length-append (omega (arith, optional_tokens-few e))
  statement_form_tokens-few (s.if_statement e x s.no_statement) h =
      let p = both _ _ h in
      simp length-append (omega (arith, expression_tokens-few e, statement_tokens-few x p.1))
  statement_form_tokens-few (s.if_statement e x (s.some_statement y)) h =
      let p = both _ _ h in
      let q = both _ _ p.0 in
      let r = both _ _ q.0 in
      simp length-append (omega (arith, expression_tokens-few e, statement_tokens-few x r.1, statement_tokens-few y p.1))
  statement_form_tokens-few (s.switch_statement e xs) h =
      let p = both _ _ h in
      simp length-append (omega (arith, expression_tokens-few e, sections_tokens-few xs p.1))
  statement_form_tokens-few (s.while_statement e x) h =
      let p = both _ _ h in
      simp length-append (omega (arith, expression_tokens-few e, statement_tokens-few x p.1))
  statement_form_tokens-few (s.do_statement x e) h =
      let p = both _ _ h in
      simp length-append (omega (arith, expression_tokens-few e, statement_tokens-few x p.0))
  statement_form_tokens-few (s.for_statement first test step x) h =
      let p = both _ _ h in
      simp length-append (omega (arith, start_tokens-few first, optional_tokens-few test, optional_tokens-few step, statement_tokens-few x p.1))
  statement_form_tokens-few s.break_statement h = omega arith
  statement_form_tokens-few s.continue_statement h = omega arith
  statement_form_tokens-few (s.return_statement e) h = simp length-append (omega (arith, optional_tokens-few e))

  pub part_tokens-few : (x : PartTree) → part_placed x ≡ true → part_nodes x ≤ 3 * length (part_tokens x)
  part_tokens-few (s.local d) h = declaration_tokens-few d
  part_tokens-few (s.run x) h = statement_tokens-few x h

  pub parts_tokens-few : (x : PartTrees) → parts_placed x ≡ true → parts_nodes x ≤ 3 * length (parts_tokens x)
  parts_tokens-few s.no_parts h = omega arith
  parts_tokens-few (s.then_part x xs) h =
      let p = both _ _ h in
      simp length-append (omega (arith, part_tokens-few x p.0, parts_tokens-few xs p.1))

  pub section_tokens-few : (x : SectionTree) → section_placed x ≡ true → section_nodes x ≤ 3 * length (section_tokens x)
  section_tokens-few (s.section k labels body) h =
      let p = both _ _ h in
      let q = both _ _ p.0 in
      simp length-append (omega (arith, some_labels_few labels q.0, statements_tokens-few body p.1))

  pub sections_tokens-few : (x : SectionTrees) → sections_placed x ≡ true → sections_nodes x ≤ 3 * length (sections_tokens x)
  sections_tokens-few s.no_sections h = omega arith
  sections_tokens-few (s.then_section x xs) h =
      let p = both _ _ h in
      let q = both _ _ p.0 in
      simp length-append (omega (arith, section_tokens-few x q.1, sections_tokens-few xs p.1))

-- a well-placed unit has few nodes
pub unit_tokens-few : (x : UnitTree) → unit_placed x ≡ true → unit_nodes x ≤ 3 * length (unit_tokens x) + 3
unit_tokens-few (s.empty_unit k) h = omega arith
unit_tokens-few (s.declares k d) h = omega (arith, declaration_tokens-few d)
unit_tokens-few (s.defines k (s.function word b d body)) h =
    let p = both _ _ h in
    simp length-append (omega (arith, base_tokens-few b, declarator_tokens-few d, statement_tokens-few body p.1))
