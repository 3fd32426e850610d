-- How many nodes of a function are evaluated, and which declarators stand in no scope.
use Rattle.std.proofs.Common.{◌≡◌, ℕ, ◌+◌, ◌≤◌, Bool, true, false, List, [], ◌∷◌, ◌++◌, refl, ap, ◌∙◌, arith, append-nil}
use Rattle.stk_tree.specs.Syntax.{ExprTree, ExprTrees, MaybeExprTree, ExprFormTree, TypeNameTree, DimensionTree, DimensionTrees, InitTree, MaybeInitTree, ItemTree, ItemTrees, DesigTree, DesigTrees, TailTree, ParamTree, ParamTrees, DeclrTree, DeclrTrees, DeclarationTree, StartTree, LabelTree, LabelTrees, StmtTree, StmtTrees, MaybeStmtTree, StmtFormTree, PartTree, PartTrees, SectionTree, SectionTrees, FunctionTree}
use Rattle.stk_tree.specs.Syntax as s
use Rattle.stk_tree.specs.Nodes.{expression_nodes, expressions_nodes, expression_form_nodes, maybe_expression_nodes, initialiser_nodes, maybe_initialiser_nodes, item_nodes, items_nodes, declarator_nodes, declarators_nodes, declaration_nodes, start_nodes, statement_nodes, statements_nodes, maybe_statement_nodes, statement_form_nodes, part_nodes, parts_nodes, section_nodes, sections_nodes, function_nodes}
use Rattle.stk_tree.specs.Parts.{is_static}
use Rattle.stk_meaning.specs.Typings.{Typing, type_in}
use Rattle.stk_meaning.specs.Visits.{Role, reading, as_test, as_arm, inner_role, inside, indexed_role, unary_role, left_role, right_role, assigned_role, Visit, at_expression, at_declarator, at_statement, at_section, Visits, no_visit, one_visit, both_visits, scope, unevaluated, declared_by, declared_in, part_declares, parts_declare, start_declares}
use Rattle.stk_meaning.specs.Visits.{expression_visits, form_visits, arguments_visits, type_name_visits, dimensions_visits, dimension_visits, maybe_visits, initialiser_visits, items_visits, item_visits, designators_visits, designator_visits, tail_visits, parameters_visits, parameter_visits, head_visits, initial_visits, declarator_visits, declarators_visits, declaration_visits, start_visits, label_visits, labels_visits, statement_visits, statement_form_visits, maybe_statement_visits, statements_visits, parts_visits, part_visits, sections_visits, section_visits}
use Rattle.stk_meaning.specs.Keys.{function_visits}

-- how many visits are evaluated
abbrev pub evaluated_count : Visits → ℕ
evaluated_count no_visit = 0
evaluated_count (one_visit x) = 1
evaluated_count (both_visits a b) = evaluated_count a + evaluated_count b
evaluated_count (scope ks a) = evaluated_count a
evaluated_count (unevaluated a) = 0

-- the declarators that stand in no scope
abbrev pub own_declarator : Visit → List ℕ
own_declarator (at_expression k role f) = []
own_declarator (at_declarator k static at init) = k ∷ []
own_declarator (at_statement k arm f) = []
own_declarator (at_section k ls) = []

abbrev pub open_declarators : Visits → List ℕ
open_declarators no_visit = []
open_declarators (one_visit x) = own_declarator x
open_declarators (both_visits a b) = open_declarators a ++ open_declarators b
open_declarators (scope ks a) = []
open_declarators (unevaluated a) = []

-- each scope has the declarators that stand in it
abbrev pub AreScoped : Visits → Type 0
AreScoped no_visit = Unit {0}
AreScoped (one_visit x) = Unit {0}
AreScoped (both_visits a b) = AreScoped a × AreScoped b
AreScoped (scope ks a) = (open_declarators a ≡ ks) × AreScoped a
AreScoped (unevaluated a) = Unit {0}

pub record Fine (v : Visits) (n : ℕ) (ks : List ℕ) : Type 0 where
  pub few : evaluated_count v ≤ n
  pub scoped : AreScoped v
  pub declares : open_declarators v ≡ ks

fine_none : Fine no_visit 0 []
fine_none = record { few = omega arith; scoped = tt; declares = refl }

fine_apart : (a : Visits) → Fine (unevaluated a) 0 []
fine_apart a = record { few = omega arith; scoped = tt; declares = refl }

fine_both : {a b : Visits} {m n p : ℕ} {xs ys : List ℕ} → Fine a m xs → Fine b n ys → m + n ≤ p → Fine (both_visits a b) p (xs ++ ys)
fine_both {b = b} {xs = xs} {ys = ys} h k l = record { few = omega (arith, h.few, k.few, l); scoped = (h.scoped, k.scoped); declares = ap (λ z. z ++ open_declarators b) h.declares ∙ ap (λ z. xs ++ z) k.declares }

fine_more : {a : Visits} {m n : ℕ} {xs : List ℕ} → Fine a m xs → m ≤ n → Fine a n xs
fine_more h l = record { few = omega (arith, h.few, l); scoped = h.scoped; declares = h.declares }

fine_as : {a : Visits} {m : ℕ} {xs ys : List ℕ} → xs ≡ ys → Fine a m xs → Fine a m ys
fine_as e h = record { few = h.few; scoped = h.scoped; declares = h.declares ∙ e }

fine_one : (x : Visit) → Fine (one_visit x) 1 (own_declarator x)
fine_one x = record { few = omega arith; scoped = tt; declares = refl }

fine_scope : {a : Visits} {m : ℕ} {ks : List ℕ} → Fine a m ks → Fine (scope ks a) m []
fine_scope h = record { few = h.few; scoped = (h.declares, h.scoped); declares = refl }

module _ (ty : Typing) where
  dimension_fine : (d : DimensionTree) → Fine (dimension_visits ty d) 0 []
  dimension_fine s.open_dimension = fine_none
  dimension_fine (s.sized e) = fine_apart (expression_visits ty reading e)

  dimensions_fine : (ds : DimensionTrees) → Fine (dimensions_visits ty ds) 0 []
  dimensions_fine s.no_dimensions = fine_none
  dimensions_fine (s.then_dimension d ds) = fine_both (dimension_fine d) (dimensions_fine ds) (omega arith)

  type_name_fine : (t : TypeNameTree) → Fine (type_name_visits ty t) 0 []
  type_name_fine (s.type_name n b count ds) = dimensions_fine ds

  mutual
    pub expression_fine : (role : Role) (e : ExprTree) → Fine (expression_visits ty role e) (expression_nodes e) []
    expression_fine role (s.expression n f) = fine_both (form_fine n.number role f) (fine_one (at_expression n.number role f)) (omega arith)

    form_fine : (k : ℕ) (role : Role) (f : ExprFormTree) → Fine (form_visits ty k role f) (expression_form_nodes f) []
    form_fine k role (s.name at) = fine_none
    form_fine k role (s.number at) = fine_none
    form_fine k role (s.character at) = fine_none
    form_fine k role (s.text parts) = fine_none
    form_fine k role (s.paren e) = expression_fine (inside role) e
    form_fine k role (s.index a b) = fine_both (expression_fine (indexed_role (ty.type_at k) (type_in ty a) role.use_of) a) (expression_fine reading b) (omega arith)
    form_fine k role (s.call e es) = fine_more (arguments_fine es) (omega arith)
    form_fine k role (s.dot e at) = expression_fine (inner_role (ty.type_at k) role.use_of) e
    form_fine k role (s.arrow e at) = expression_fine reading e
    form_fine k role (s.step op e) = expression_fine reading e
    form_fine k role (s.unary op e) = expression_fine (unary_role op) e
    form_fine k role (s.size_expression e) = fine_more (fine_apart (expression_visits ty reading e)) (omega arith)
    form_fine k role (s.size_name t) = fine_more (type_name_fine t) (omega arith)
    form_fine k role (s.cast t e) = fine_both (type_name_fine t) (expression_fine reading e) (omega arith)
    form_fine k role (s.binary op a b) = fine_both (expression_fine (left_role op) a) (expression_fine (right_role op) b) (omega arith)
    form_fine k role (s.choice a b c) = fine_both (expression_fine as_test a) (fine_both {p = expression_nodes b + expression_nodes c} (expression_fine as_arm b) (expression_fine as_arm c) (omega arith)) (omega arith)
    form_fine k role (s.assign op a b) = fine_both (expression_fine (assigned_role op) a) (expression_fine reading b) (omega arith)

    arguments_fine : (es : ExprTrees) → Fine (arguments_visits ty es) (expressions_nodes es) []
    arguments_fine s.no_expressions = fine_none
    arguments_fine (s.then_expression e es) = fine_both (expression_fine reading e) (arguments_fine es) (omega arith)

  pub maybe_fine : (role : Role) (e : MaybeExprTree) → Fine (maybe_visits ty role e) (maybe_expression_nodes e) []
  maybe_fine role s.no_expression = fine_none
  maybe_fine role (s.some_expression e) = expression_fine role e

  designator_fine : (d : DesigTree) → Fine (designator_visits ty d) 0 []
  designator_fine (s.dot_designator at) = fine_none
  designator_fine (s.at_designator e) = fine_apart (expression_visits ty reading e)

  path_fine : (ds : DesigTrees) → Fine (designators_visits ty ds) 0 []
  path_fine s.no_designators = fine_none
  path_fine (s.then_designator d ds) = fine_both (designator_fine d) (path_fine ds) (omega arith)

  mutual
    initialiser_fine : (x : InitTree) → Fine (initialiser_visits ty x) (initialiser_nodes x) []
    initialiser_fine (s.plain e) = expression_fine reading e
    initialiser_fine (s.braces items comma) = items_fine items

    items_fine : (xs : ItemTrees) → Fine (items_visits ty xs) (items_nodes xs) []
    items_fine s.no_items = fine_none
    items_fine (s.then_item x xs) = fine_both (item_fine x) (items_fine xs) (omega arith)

    item_fine : (x : ItemTree) → Fine (item_visits ty x) (item_nodes x) []
    item_fine (s.item path x) = fine_both (path_fine path) (initialiser_fine x) (omega arith)

  initial_fine : (static : Bool) (init : MaybeInitTree) → Fine (initial_visits ty static init) (maybe_initialiser_nodes init) []
  initial_fine static s.no_initialiser = fine_none
  initial_fine true (s.some_initialiser x) = fine_more fine_none (omega arith)
  initial_fine false (s.some_initialiser x) = initialiser_fine x

  mutual
    tail_fine : (x : TailTree) → Fine (tail_visits ty x) 0 []
    tail_fine (s.arrays ds) = dimensions_fine ds
    tail_fine s.unspecified = fine_none
    tail_fine s.void_parameters = fine_none
    tail_fine (s.with_parameters ps more) = parameters_fine ps

    parameters_fine : (ps : ParamTrees) → Fine (parameters_visits ty ps) 0 []
    parameters_fine s.no_parameters = fine_none
    parameters_fine (s.then_parameter p ps) = fine_both (parameter_fine p) (parameters_fine ps) (omega arith)

    parameter_fine : (p : ParamTree) → Fine (parameter_visits ty p) 0 []
    parameter_fine (s.parameter n b d) = head_fine d

    head_fine : (d : DeclrTree) → Fine (head_visits ty d) 0 []
    head_fine (s.declarator n count at tail init) = tail_fine tail

  declarator_fine : (static : Bool) (d : DeclrTree) → Fine (declarator_visits ty static d) (declarator_nodes d) (declared_by (s.then_declarator d s.no_declarators))
  declarator_fine static (s.declarator n count at tail init) =
      fine_both (tail_fine tail) (fine_both {p = maybe_initialiser_nodes init + 1} (initial_fine static init) (fine_one (at_declarator n.number static at init)) (omega arith)) (omega arith)

  declarators_fine : (static : Bool) (ds : DeclrTrees) → Fine (declarators_visits ty static ds) (declarators_nodes ds) (declared_by ds)
  declarators_fine static s.no_declarators = fine_none
  declarators_fine static (s.then_declarator d ds) = fine_both (declarator_fine static d) (declarators_fine static ds) (omega arith)

  declaration_fine : (d : DeclarationTree) → Fine (declaration_visits ty d) (declaration_nodes d) (declared_in d)
  declaration_fine (s.declaration word specifiers ds) = fine_more (declarators_fine (is_static word) ds) (omega arith)

  start_fine : (x : StartTree) → Fine (start_visits ty x) (start_nodes x) (start_declares x)
  start_fine (s.start_declaration d) = declaration_fine d
  start_fine (s.start_expression e) = maybe_fine reading e

  label_fine : (l : LabelTree) → Fine (label_visits ty l) 0 []
  label_fine s.default_label = fine_none
  label_fine (s.case_label e) = fine_apart (expression_visits ty reading e)

  labels_fine : (ls : LabelTrees) → Fine (labels_visits ty ls) 0 []
  labels_fine s.no_labels = fine_none
  labels_fine (s.then_label l ls) = fine_both (label_fine l) (labels_fine ls) (omega arith)

  mutual
    pub statement_fine : (arm : Bool) (x : StmtTree) → Fine (statement_visits ty arm x) (statement_nodes x) []
    statement_fine arm (s.statement n f) = fine_both (statement_form_fine f) (fine_one (at_statement n.number arm f)) (omega arith)

    statement_form_fine : (f : StmtFormTree) → Fine (statement_form_visits ty f) (statement_form_nodes f) []
    statement_form_fine (s.block ps) = fine_scope (parts_fine ps)
    statement_form_fine (s.expression_statement e) = maybe_fine reading e
    statement_form_fine (s.if_statement e x y) = fine_both (expression_fine as_test e) (fine_both {p = statement_nodes x + maybe_statement_nodes y} (statement_fine true x) (other_fine y) (omega arith)) (omega arith)
    statement_form_fine (s.switch_statement e ss) = fine_both (expression_fine reading e) (sections_fine ss) (omega arith)
    statement_form_fine (s.while_statement e x) = fine_both (expression_fine as_test e) (statement_fine true x) (omega arith)
    statement_form_fine (s.do_statement x e) = fine_both (statement_fine true x) (expression_fine as_test e) (omega arith)
    statement_form_fine (s.for_statement first test step x) =
        let rest = fine_both {p = maybe_expression_nodes test + (maybe_expression_nodes step + statement_nodes x)} (maybe_fine as_test test) (fine_both {p = maybe_expression_nodes step + statement_nodes x} (maybe_fine reading step) (statement_fine true x) (omega arith)) (omega arith) in
        fine_scope (fine_as (append-nil (start_declares first)) (fine_both (start_fine first) rest (omega arith)))
    statement_form_fine s.break_statement = fine_none
    statement_form_fine s.continue_statement = fine_none
    statement_form_fine (s.return_statement e) = maybe_fine reading e

    other_fine : (x : MaybeStmtTree) → Fine (maybe_statement_visits ty x) (maybe_statement_nodes x) []
    other_fine s.no_statement = fine_none
    other_fine (s.some_statement x) = statement_fine true x

    statements_fine : (xs : StmtTrees) → Fine (statements_visits ty xs) (statements_nodes xs) []
    statements_fine s.no_statements = fine_none
    statements_fine (s.then_statement x xs) = fine_both (statement_fine false x) (statements_fine xs) (omega arith)

    parts_fine : (ps : PartTrees) → Fine (parts_visits ty ps) (parts_nodes ps) (parts_declare ps)
    parts_fine s.no_parts = fine_none
    parts_fine (s.then_part p ps) = fine_both (part_fine p) (parts_fine ps) (omega arith)

    part_fine : (p : PartTree) → Fine (part_visits ty p) (part_nodes p) (part_declares p)
    part_fine (s.local d) = declaration_fine d
    part_fine (s.run x) = statement_fine false x

    sections_fine : (ss : SectionTrees) → Fine (sections_visits ty ss) (sections_nodes ss) []
    sections_fine s.no_sections = fine_none
    sections_fine (s.then_section x xs) = fine_both (section_fine x) (sections_fine xs) (omega arith)

    section_fine : (x : SectionTree) → Fine (section_visits ty x) (section_nodes x) []
    section_fine (s.section n ls body) =
        fine_both (labels_fine ls) (fine_both {p = statements_nodes body + 1} (statements_fine body) (fine_one (at_section n.number ls)) (omega arith)) (omega arith)

  -- what is evaluated of a function
  pub function_fine : (f : FunctionTree) → Fine (function_visits ty f) (function_nodes f) []
  function_fine (s.function word specifiers d body) = fine_both (head_fine d) (statement_fine false body) (omega arith)
