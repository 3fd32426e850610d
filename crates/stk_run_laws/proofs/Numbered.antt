-- The evaluated nodes of a tree that is laid out from a number on ascend, and lie in its interval.
use Rattle.std.proofs.Common.{◌≡◌, ℕ, ◌+◌, Bool, true, false, List, [], ◌∷◌, ◌++◌, refl, ap, ◌∙◌, subst, arith}
use Rattle.std.specs.Prelude.{map, length}
use Rattle.stk_base.specs.declared.span.Span.{Span}
use Rattle.stk_tree.specs.Syntax.{ExprTree, ExprTrees, MaybeExprTree, ExprFormTree, InitTree, MaybeInitTree, ItemTree, ItemTrees, DesigTree, DesigTrees, TypeNameTree, DimensionTree, DimensionTrees, TailTree, ParamTree, ParamTrees, DeclrTree, DeclrTrees, DeclarationTree, StartTree, LabelTree, LabelTrees, StmtTree, StmtTrees, MaybeStmtTree, StmtFormTree, PartTree, PartTrees, SectionTree, SectionTrees, FunctionTree, UnitTree}
use Rattle.stk_tree.specs.Syntax as s
use Rattle.stk_tree.specs.Nodes.{base_nodes, declaration_nodes, declarator_nodes, declarators_nodes, tail_nodes, parameter_nodes, parameters_nodes, type_name_nodes, initialiser_nodes, maybe_initialiser_nodes, item_nodes, items_nodes, designators_nodes, expression_nodes, expressions_nodes, maybe_expression_nodes, expression_form_nodes, start_nodes, labels_nodes, statement_nodes, statements_nodes, maybe_statement_nodes, statement_form_nodes, part_nodes, parts_nodes, section_nodes, sections_nodes}
use Rattle.stk_tree.specs.Tokens.{optional_word, storage_tokens, path_end}
use Rattle.stk_tree.specs.Layout.{type_name_width, designators_width, tail_width, labels_width, base_width, declarator_width, node_at, laid_type_name, laid_designators, laid_expression, laid_expressions, laid_maybe_expression, laid_expression_form, laid_initialiser, laid_maybe_initialiser, laid_item, laid_items, laid_tail, laid_parameters, laid_declarator, laid_declarators, laid_declaration, laid_start, laid_labels, laid_statement, laid_statements, laid_maybe_statement, laid_statement_form, laid_part, laid_parts, laid_section, laid_sections, laid_function}
use Rattle.stk_tree.specs.Parts.{is_static}
use Rattle.stk_meaning.specs.Typings.{Typing, declarator_node}
use Rattle.stk_meaning.specs.Visits.{Role, reading, expression_visits, form_visits, arguments_visits, type_name_visits, dimensions_visits, dimension_visits, maybe_visits, initialiser_visits, items_visits, item_visits, designators_visits, tail_visits, parameters_visits, parameter_visits, head_visits, initial_visits, declarator_visits, declarators_visits, declaration_visits, start_visits, labels_visits, statement_visits, statement_form_visits, maybe_statement_visits, statements_visits, parts_visits, part_visits, sections_visits, section_visits}
use Rattle.stk_meaning.specs.Keys.{parameter_declarators, tail_parameters, head_parameters}
use Rattle.stk_run_laws.specs.Visits.{nodes_of}
use Rattle.stk_run_laws.specs.Numbered.{IsNumberedWhole, WhatIsLaidOutIsNumbered}
use Rattle.stk_run_laws.proofs.Within.{Within, nothing, wider, joined, single, own, empty, behind_none, pair, triple}

-- ---- what isn't evaluated

both_none : (a b : List ℕ) → a ≡ [] → b ≡ [] → a ++ b ≡ []
both_none a b p q = ap (λ z. z ++ b) p ∙ q

module _ (ty : Typing) where
  dimension_none : (d : DimensionTree) → nodes_of (dimension_visits ty d) ≡ []
  dimension_none s.open_dimension = refl
  dimension_none (s.sized e) = refl

  dimensions_none : (ds : DimensionTrees) → nodes_of (dimensions_visits ty ds) ≡ []
  dimensions_none s.no_dimensions = refl
  dimensions_none (s.then_dimension d ds) = both_none _ _ (dimension_none d) (dimensions_none ds)

  type_name_none : (t : TypeNameTree) → nodes_of (type_name_visits ty t) ≡ []
  type_name_none (s.type_name n specifiers count ds) = dimensions_none ds

  designators_none : (ds : DesigTrees) → nodes_of (designators_visits ty ds) ≡ []
  designators_none s.no_designators = refl
  designators_none (s.then_designator (s.dot_designator at) ds) = designators_none ds
  designators_none (s.then_designator (s.at_designator e) ds) = designators_none ds

  labels_none : (ls : LabelTrees) → nodes_of (labels_visits ty ls) ≡ []
  labels_none s.no_labels = refl
  labels_none (s.then_label s.default_label ls) = labels_none ls
  labels_none (s.then_label (s.case_label e) ls) = labels_none ls

  mutual
    tail_none : (x : TailTree) → nodes_of (tail_visits ty x) ≡ []
    tail_none (s.arrays ds) = dimensions_none ds
    tail_none s.unspecified = refl
    tail_none s.void_parameters = refl
    tail_none (s.with_parameters ps more) = parameters_none ps

    parameters_none : (ps : ParamTrees) → nodes_of (parameters_visits ty ps) ≡ []
    parameters_none s.no_parameters = refl
    parameters_none (s.then_parameter p ps) = both_none _ _ (parameter_none p) (parameters_none ps)

    parameter_none : (p : ParamTree) → nodes_of (parameter_visits ty p) ≡ []
    parameter_none (s.parameter n specifiers d) = head_none d

    head_none : (d : DeclrTree) → nodes_of (head_visits ty d) ≡ []
    head_none (s.declarator n count at tail init) = tail_none tail

  module _ (spans : List Span) where
    -- ---- expressions

    mutual
      expression_within : (e : ExprTree) (role : Role) (n t : ℕ) → Within n (n + expression_nodes e) (nodes_of (expression_visits ty role (laid_expression (node_at spans) n t e)))
      expression_within (s.expression k f) role n t = wider n _ n _ _ (omega arith) (omega arith) (own n (n + expression_form_nodes f) _ (omega arith) (form_within f (n + expression_form_nodes f) role n t))

      form_within : (f : ExprFormTree) (k : ℕ) (role : Role) (n t : ℕ) → Within n (n + expression_form_nodes f) (nodes_of (form_visits ty k role (laid_expression_form (node_at spans) n t f)))
      form_within (s.name at) k role n t = nothing n _
      form_within (s.number at) k role n t = nothing n _
      form_within (s.character at) k role n t = nothing n _
      form_within (s.text parts) k role n t = nothing n _
      form_within (s.paren e) k role n t = expression_within e _ n _
      form_within (s.index a b) k role n t = pair n (expression_nodes a) (expression_nodes b) _ _ (expression_within a _ n _) (expression_within b _ (n + expression_nodes a) _)
      form_within (s.call f es) k role n t = wider (n + expression_nodes f) _ n _ _ (omega arith) (omega arith) (expressions_within es (n + expression_nodes f) _)
      form_within (s.dot e at) k role n t = expression_within e _ n _
      form_within (s.arrow e at) k role n t = expression_within e _ n _
      form_within (s.step op e) k role n t = expression_within e _ n _
      form_within (s.unary op e) k role n t = expression_within e _ n _
      form_within (s.size_expression e) k role n t = nothing n _
      form_within (s.size_name x) k role n t = empty n _ _ (type_name_none (laid_type_name (node_at spans) n (t + 2) x))
      form_within (s.cast x e) k role n t =
          behind_none n (n + (type_name_nodes x + expression_nodes e)) (nodes_of (type_name_visits ty (laid_type_name (node_at spans) n (t + 1) x))) (nodes_of (expression_visits ty reading (laid_expression (node_at spans) (n + type_name_nodes x) (t + type_name_width x + 2) e)))
          (type_name_none (laid_type_name (node_at spans) n (t + 1) x))
          (wider (n + type_name_nodes x) (n + type_name_nodes x + expression_nodes e) n (n + (type_name_nodes x + expression_nodes e)) _ (omega arith) (omega arith) (expression_within e reading (n + type_name_nodes x) (t + type_name_width x + 2)))
      form_within (s.binary op a b) k role n t = pair n (expression_nodes a) (expression_nodes b) _ _ (expression_within a _ n _) (expression_within b _ (n + expression_nodes a) _)
      form_within (s.choice a b c) k role n t = triple n (expression_nodes a) (expression_nodes b) (expression_nodes c) _ _ _ (expression_within a _ n _) (expression_within b _ (n + expression_nodes a) _) (expression_within c _ (n + expression_nodes a + expression_nodes b) _)
      form_within (s.assign op a b) k role n t = pair n (expression_nodes a) (expression_nodes b) _ _ (expression_within a _ n _) (expression_within b _ (n + expression_nodes a) _)

      expressions_within : (es : ExprTrees) (n t : ℕ) → Within n (n + expressions_nodes es) (nodes_of (arguments_visits ty (laid_expressions (node_at spans) n t es)))
      expressions_within s.no_expressions n t = nothing n _
      expressions_within (s.then_expression e es) n t =
          pair n (expression_nodes e) (expressions_nodes es) _ _ (expression_within e _ n t) (expressions_within es (n + expression_nodes e) _)

    maybe_within : (e : MaybeExprTree) (role : Role) (n t : ℕ) → Within n (n + maybe_expression_nodes e) (nodes_of (maybe_visits ty role (laid_maybe_expression (node_at spans) n t e)))
    maybe_within s.no_expression role n t = nothing n _
    maybe_within (s.some_expression e) role n t = expression_within e role n t

    -- ---- declarations

    mutual
      initialiser_within : (x : InitTree) (n t : ℕ) → Within n (n + initialiser_nodes x) (nodes_of (initialiser_visits ty (laid_initialiser (node_at spans) n t x)))
      initialiser_within (s.plain e) n t = expression_within e _ n t
      initialiser_within (s.braces items comma) n t = items_within items n _

      items_within : (xs : ItemTrees) (n t : ℕ) → Within n (n + items_nodes xs) (nodes_of (items_visits ty (laid_items (node_at spans) n t xs)))
      items_within s.no_items n t = nothing n _
      items_within (s.then_item x xs) n t = pair n (item_nodes x) (items_nodes xs) _ _ (item_within x n t) (items_within xs (n + item_nodes x) _)

      item_within : (x : ItemTree) (n t : ℕ) → Within n (n + item_nodes x) (nodes_of (item_visits ty (laid_item (node_at spans) n t x)))
      item_within (s.item path x) n t =
          let u = t + designators_width path + length (path_end path) in
          behind_none n (n + (designators_nodes path + initialiser_nodes x)) (nodes_of (designators_visits ty (laid_designators (node_at spans) n t path))) (nodes_of (initialiser_visits ty (laid_initialiser (node_at spans) (n + designators_nodes path) u x)))
          (designators_none (laid_designators (node_at spans) n t path))
          (wider (n + designators_nodes path) (n + designators_nodes path + initialiser_nodes x) n (n + (designators_nodes path + initialiser_nodes x)) _ (omega arith) (omega arith) (initialiser_within x (n + designators_nodes path) u))

    initial_within : (static : Bool) (x : MaybeInitTree) (n t : ℕ) → Within n (n + maybe_initialiser_nodes x) (nodes_of (initial_visits ty static (laid_maybe_initialiser (node_at spans) n t x)))
    initial_within static s.no_initialiser n t = nothing n _
    initial_within true (s.some_initialiser x) n t = nothing n _
    initial_within false (s.some_initialiser x) n t = initialiser_within x n t

    declarator_within : (d : DeclrTree) (static : Bool) (n t : ℕ) → Within n (n + declarator_nodes d) (nodes_of (declarator_visits ty static (laid_declarator (node_at spans) n t d)))
    declarator_within (s.declarator k count at x i) static n t =
        let tail = laid_tail (node_at spans) n (t + count + length (optional_word at)) x in
        let u = t + count + length (optional_word at) + tail_width x + 1 in
        let init = laid_maybe_initialiser (node_at spans) (n + tail_nodes x) u i in
        behind_none n (n + (tail_nodes x + maybe_initialiser_nodes i + 1)) (nodes_of (tail_visits ty tail)) (nodes_of (initial_visits ty static init) ++ (n + tail_nodes x + maybe_initialiser_nodes i) ∷ []) (tail_none tail)
        (wider (n + tail_nodes x) (n + tail_nodes x + maybe_initialiser_nodes i + 1) n (n + (tail_nodes x + maybe_initialiser_nodes i + 1)) _ (omega arith) (omega arith)
        (own (n + tail_nodes x) (n + tail_nodes x + maybe_initialiser_nodes i) (nodes_of (initial_visits ty static init)) (omega arith) (initial_within static i (n + tail_nodes x) u)))

    declarators_within : (ds : DeclrTrees) (static : Bool) (n t : ℕ) → Within n (n + declarators_nodes ds) (nodes_of (declarators_visits ty static (laid_declarators (node_at spans) n t ds)))
    declarators_within s.no_declarators static n t = nothing n _
    declarators_within (s.then_declarator d ds) static n t = pair n (declarator_nodes d) (declarators_nodes ds) _ _ (declarator_within d static n t) (declarators_within ds static (n + declarator_nodes d) _)

    declaration_within : (d : DeclarationTree) (n t : ℕ) → Within n (n + declaration_nodes d) (nodes_of (declaration_visits ty (laid_declaration (node_at spans) n t d)))
    declaration_within (s.declaration word b ds) n t = wider (n + base_nodes b) _ n _ _ (omega arith) (omega arith) (declarators_within ds (is_static word) (n + base_nodes b) _)

    start_within : (x : StartTree) (n t : ℕ) → Within n (n + start_nodes x) (nodes_of (start_visits ty (laid_start (node_at spans) n t x)))
    start_within (s.start_declaration d) n t = declaration_within d n t
    start_within (s.start_expression e) n t = maybe_within e _ n t

    -- ---- statements

    mutual
      statement_within : (x : StmtTree) (arm : Bool) (n t : ℕ) → Within n (n + statement_nodes x) (nodes_of (statement_visits ty arm (laid_statement (node_at spans) n t x)))
      statement_within (s.statement k f) arm n t = wider n _ n _ _ (omega arith) (omega arith) (own n (n + statement_form_nodes f) _ (omega arith) (statement_form_within f n t))

      statement_form_within : (f : StmtFormTree) (n t : ℕ) → Within n (n + statement_form_nodes f) (nodes_of (statement_form_visits ty (laid_statement_form (node_at spans) n t f)))
      statement_form_within (s.block ps) n t = parts_within ps n _
      statement_form_within (s.expression_statement e) n t = maybe_within e _ n t
      statement_form_within (s.if_statement e x y) n t = triple n (expression_nodes e) (statement_nodes x) (maybe_statement_nodes y) _ _ _ (expression_within e _ n _) (statement_within x true (n + expression_nodes e) _) (maybe_statement_within y (n + expression_nodes e + statement_nodes x) _)
      statement_form_within (s.switch_statement e ss) n t = pair n (expression_nodes e) (sections_nodes ss) _ _ (expression_within e _ n _) (sections_within ss (n + expression_nodes e) _)
      statement_form_within (s.while_statement e x) n t = pair n (expression_nodes e) (statement_nodes x) _ _ (expression_within e _ n _) (statement_within x true (n + expression_nodes e) _)
      statement_form_within (s.do_statement x e) n t = pair n (statement_nodes x) (expression_nodes e) _ _ (statement_within x true n _) (expression_within e _ (n + statement_nodes x) _)
      statement_form_within (s.for_statement first test step x) n t =
          wider n (n + (start_nodes first + (maybe_expression_nodes test + maybe_expression_nodes step + statement_nodes x))) n _ _ (omega arith) (omega arith)
          (pair n (start_nodes first) (maybe_expression_nodes test + maybe_expression_nodes step + statement_nodes x) _ _ (start_within first n _)
          (triple (n + start_nodes first) (maybe_expression_nodes test) (maybe_expression_nodes step) (statement_nodes x) _ _ _ (maybe_within test _ (n + start_nodes first) _) (maybe_within step _ (n + start_nodes first + maybe_expression_nodes test) _) (statement_within x true (n + start_nodes first + maybe_expression_nodes test + maybe_expression_nodes step) _)))
      statement_form_within s.break_statement n t = nothing n _
      statement_form_within s.continue_statement n t = nothing n _
      statement_form_within (s.return_statement e) n t = maybe_within e _ n _

      maybe_statement_within : (y : MaybeStmtTree) (n t : ℕ) → Within n (n + maybe_statement_nodes y) (nodes_of (maybe_statement_visits ty (laid_maybe_statement (node_at spans) n t y)))
      maybe_statement_within s.no_statement n t = nothing n _
      maybe_statement_within (s.some_statement x) n t = statement_within x true n t

      statements_within : (xs : StmtTrees) (n t : ℕ) → Within n (n + statements_nodes xs) (nodes_of (statements_visits ty (laid_statements (node_at spans) n t xs)))
      statements_within s.no_statements n t = nothing n _
      statements_within (s.then_statement x xs) n t = pair n (statement_nodes x) (statements_nodes xs) _ _ (statement_within x false n t) (statements_within xs (n + statement_nodes x) _)

      parts_within : (ps : PartTrees) (n t : ℕ) → Within n (n + parts_nodes ps) (nodes_of (parts_visits ty (laid_parts (node_at spans) n t ps)))
      parts_within s.no_parts n t = nothing n _
      parts_within (s.then_part p ps) n t = pair n (part_nodes p) (parts_nodes ps) _ _ (part_within p n t) (parts_within ps (n + part_nodes p) _)

      part_within : (p : PartTree) (n t : ℕ) → Within n (n + part_nodes p) (nodes_of (part_visits ty (laid_part (node_at spans) n t p)))
      part_within (s.local d) n t = declaration_within d n t
      part_within (s.run x) n t = statement_within x false n t

      sections_within : (ss : SectionTrees) (n t : ℕ) → Within n (n + sections_nodes ss) (nodes_of (sections_visits ty (laid_sections (node_at spans) n t ss)))
      sections_within s.no_sections n t = nothing n _
      sections_within (s.then_section x xs) n t = pair n (section_nodes x) (sections_nodes xs) _ _ (section_within x n t) (sections_within xs (n + section_nodes x) _)

      section_within : (x : SectionTree) (n t : ℕ) → Within n (n + section_nodes x) (nodes_of (section_visits ty (laid_section (node_at spans) n t x)))
      section_within (s.section k ls body) n t =
          let labels = laid_labels (node_at spans) n t ls in
          let rest = laid_statements (node_at spans) (n + labels_nodes ls) (t + labels_width ls) body in
          behind_none n (n + (labels_nodes ls + statements_nodes body + 1)) (nodes_of (labels_visits ty labels)) (nodes_of (statements_visits ty rest) ++ (n + labels_nodes ls + statements_nodes body) ∷ []) (labels_none labels)
          (wider (n + labels_nodes ls) (n + labels_nodes ls + statements_nodes body + 1) n (n + (labels_nodes ls + statements_nodes body + 1)) _ (omega arith) (omega arith)
          (own (n + labels_nodes ls) (n + labels_nodes ls + statements_nodes body) (nodes_of (statements_visits ty rest)) (omega arith) (statements_within body (n + labels_nodes ls) (t + labels_width ls))))

    -- ---- parameters

    parameters_within : (ps : ParamTrees) (n t : ℕ) → Within n (n + parameters_nodes ps) (map declarator_node (parameter_declarators (laid_parameters (node_at spans) n t ps)))
    parameters_within s.no_parameters n t = nothing n _
    parameters_within (s.then_parameter (s.parameter k b (s.declarator j count at x i)) ps) n t =
        let number = n + base_nodes b + tail_nodes x + maybe_initialiser_nodes i in
        let first = parameter_nodes (s.parameter k b (s.declarator j count at x i)) in
        pair n first (parameters_nodes ps) (number ∷ []) _ (single n (n + first) number (omega arith) (omega arith)) (parameters_within ps (n + first) _)

    tail_within : (x : TailTree) (n t : ℕ) → Within n (n + tail_nodes x) (map declarator_node (tail_parameters (laid_tail (node_at spans) n t x)))
    tail_within (s.arrays ds) n t = nothing n _
    tail_within s.unspecified n t = nothing n _
    tail_within s.void_parameters n t = nothing n _
    tail_within (s.with_parameters ps more) n t = parameters_within ps n _

    head_within : (d : DeclrTree) (n t : ℕ) → Within n (n + declarator_nodes d) (map declarator_node (head_parameters (laid_declarator (node_at spans) n t d)))
    head_within (s.declarator k count at x i) n t = wider n (n + tail_nodes x) n _ _ (omega arith) (omega arith) (tail_within x n _)

    function_within : (f : FunctionTree) (n t : ℕ) → IsNumberedWhole ty (laid_function (node_at spans) n t f)
    function_within (s.function word b d body) n t =
        let u = t + length (storage_tokens word) + base_width b in
        let head = laid_declarator (node_at spans) (n + base_nodes b) u d in
        let rest = laid_statement (node_at spans) (n + base_nodes b + declarator_nodes d) (u + declarator_width d) body in
        let p = head_within d (n + base_nodes b) u in
        let q = statement_within body false (n + base_nodes b + declarator_nodes d) (u + declarator_width d) in
        let body_nodes = behind_none _ _ (nodes_of (head_visits ty head)) (nodes_of (statement_visits ty false rest)) (head_none head) q in
        record { whole = (joined _ _ _ _ _ _ (omega arith) (omega arith) (omega arith) p body_nodes).ascends; body = body_nodes.ascends }

pub what_is_laid_out_is_numbered : WhatIsLaidOutIsNumbered
what_is_laid_out_is_numbered ty spans (s.empty_unit k) node f h = absurd cc
what_is_laid_out_is_numbered ty spans (s.declares k d) node f h = absurd cc
what_is_laid_out_is_numbered ty spans (s.defines k g) node f h =
    let same : laid_function (node_at spans) 0 0 g ≡ f = cc in
    subst (IsNumberedWhole ty) same (function_within ty spans g 0 0)
