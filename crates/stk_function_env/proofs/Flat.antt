-- Expressions, initialisers and declarators have no scopes, so what they change is what their visits change.
use Rattle.std.proofs.Common.{ℕ, ◌≡◌, ◌++◌, List, [], map, Bool, true, false, refl, sym, ap, ◌∙◌, append-nil}
use Rattle.stk_tree.specs.Syntax.{ExprTree, ExprTrees, MaybeExprTree, ExprFormTree, TypeNameTree, DimensionTree, DimensionTrees, InitTree, MaybeInitTree, ItemTree, ItemTrees, DesigTree, DesigTrees, TailTree, ParamTree, ParamTrees, DeclrTree, DeclrTrees, DeclarationTree, StartTree, LabelTree, LabelTrees}
use Rattle.stk_tree.specs.Syntax.{PartTree, StmtFormTree, SectionTree, StmtTree}
use Rattle.stk_tree.specs.Syntax as s
use Rattle.stk_tree.specs.declared.statement.Stmt.{Stmt}
use Rattle.stk_tree.specs.declared.statement.Section.{Section, out-Section, fold_out-Section}
use Rattle.stk_tree.specs.View.{part_step, statement_form_step, section_step, statement_step, view_section, view_statement, view_label, labels, statements}
use Rattle.stk_tree.specs.Parts.{is_static}
use Rattle.stk_meaning.specs.Typings.{Typing}
use Rattle.stk_meaning.specs.Places.{Setting}
use Rattle.stk_meaning.specs.Visits.{Role, reading, Visits, no_visit, one_visit, both_visits, scope, unevaluated, expression_visits, form_visits, arguments_visits, type_name_visits, dimensions_visits, dimension_visits, maybe_visits, initialiser_visits, items_visits, item_visits, designators_visits, designator_visits, tail_visits, parameters_visits, parameter_visits, head_visits, initial_visits, declarator_visits, declarators_visits, declaration_visits, start_visits, label_visits, labels_visits, statements_visits, section_visits}
use Rattle.stk_function_types.specs.Visits.{marked_visits}
use Rattle.stk_function_types.specs.Gathered.{gathered}
use Rattle.stk_function_types.proofs.Gathering.{gathered-append, gathered-unevaluated}
use Rattle.stk_function_env.specs.declared.changes.Change.{Change}
use Rattle.stk_function_env.specs.Changed.{visit_change_list, change_list}

-- visits without a scope that is evaluated
abbrev pub IsFlat : Visits → Type 0
IsFlat no_visit = Unit {0}
IsFlat (one_visit x) = Unit {0}
IsFlat (both_visits a b) = IsFlat a × IsFlat b
IsFlat (scope ks a) = ⊥
IsFlat (unevaluated a) = Unit {0}

-- what they change is what their visits change
pub change_list-flat : (g : Setting) (v : Visits) → IsFlat v → gathered (visit_change_list g) (marked_visits true v) ≡ change_list g v
change_list-flat g no_visit h = refl
change_list-flat g (one_visit x) h = append-nil (visit_change_list g x)
change_list-flat g (both_visits a b) h =
    gathered-append (visit_change_list g) (marked_visits true a) (marked_visits true b) ∙ ap (λ xs. xs ++ gathered (visit_change_list g) (marked_visits true b)) (change_list-flat g a h.0) ∙ ap (λ xs. change_list g a ++ xs) (change_list-flat g b h.1)
change_list-flat g (scope ks a) h = absurd h
change_list-flat g (unevaluated a) h = gathered-unevaluated (visit_change_list g) a

mutual
  pub flat_expression : (ty : Typing) (role : Role) (e : ExprTree) → IsFlat (expression_visits ty role e)
  flat_expression ty role (s.expression n f) = (flat_form ty n.number role f, tt)

  pub flat_form : (ty : Typing) (k : ℕ) (role : Role) (f : ExprFormTree) → IsFlat (form_visits ty k role f)
  flat_form ty k role (s.name at) = tt
  flat_form ty k role (s.number at) = tt
  flat_form ty k role (s.character at) = tt
  flat_form ty k role (s.text parts) = tt
  flat_form ty k role (s.paren e) = flat_expression ty _ e
  flat_form ty k role (s.index a b) = (flat_expression ty _ a, flat_expression ty _ b)
  flat_form ty k role (s.call e es) = flat_arguments ty es
  flat_form ty k role (s.dot e at) = flat_expression ty _ e
  flat_form ty k role (s.arrow e at) = flat_expression ty _ e
  flat_form ty k role (s.step op e) = flat_expression ty _ e
  flat_form ty k role (s.unary op e) = flat_expression ty _ e
  flat_form ty k role (s.size_expression e) = tt
  flat_form ty k role (s.size_name t) = flat_type_name ty t
  flat_form ty k role (s.cast t e) = (flat_type_name ty t, flat_expression ty _ e)
  flat_form ty k role (s.binary op a b) = (flat_expression ty _ a, flat_expression ty _ b)
  flat_form ty k role (s.choice a b c) = (flat_expression ty _ a, (flat_expression ty _ b, flat_expression ty _ c))
  flat_form ty k role (s.assign op a b) = (flat_expression ty _ a, flat_expression ty _ b)

  pub flat_arguments : (ty : Typing) (es : ExprTrees) → IsFlat (arguments_visits ty es)
  flat_arguments ty s.no_expressions = tt
  flat_arguments ty (s.then_expression e es) = (flat_expression ty _ e, flat_arguments ty es)

  pub flat_type_name : (ty : Typing) (t : TypeNameTree) → IsFlat (type_name_visits ty t)
  flat_type_name ty (s.type_name n specifiers count ds) = flat_dimensions ty ds

  pub flat_dimensions : (ty : Typing) (ds : DimensionTrees) → IsFlat (dimensions_visits ty ds)
  flat_dimensions ty s.no_dimensions = tt
  flat_dimensions ty (s.then_dimension d ds) = (flat_dimension ty d, flat_dimensions ty ds)

  pub flat_dimension : (ty : Typing) (d : DimensionTree) → IsFlat (dimension_visits ty d)
  flat_dimension ty s.open_dimension = tt
  flat_dimension ty (s.sized e) = tt

pub flat_maybe : (ty : Typing) (role : Role) (e : MaybeExprTree) → IsFlat (maybe_visits ty role e)
flat_maybe ty role s.no_expression = tt
flat_maybe ty role (s.some_expression e) = flat_expression ty role e

flat_designator : (ty : Typing) (d : DesigTree) → IsFlat (designator_visits ty d)
flat_designator ty (s.dot_designator at) = tt
flat_designator ty (s.at_designator e) = tt

flat_designators : (ty : Typing) (ds : DesigTrees) → IsFlat (designators_visits ty ds)
flat_designators ty s.no_designators = tt
flat_designators ty (s.then_designator d ds) = (flat_designator ty d, flat_designators ty ds)

mutual
  flat_initialiser : (ty : Typing) (x : InitTree) → IsFlat (initialiser_visits ty x)
  flat_initialiser ty (s.plain e) = flat_expression ty _ e
  flat_initialiser ty (s.braces items comma) = flat_items ty items

  flat_items : (ty : Typing) (xs : ItemTrees) → IsFlat (items_visits ty xs)
  flat_items ty s.no_items = tt
  flat_items ty (s.then_item x xs) = (flat_item ty x, flat_items ty xs)

  flat_item : (ty : Typing) (x : ItemTree) → IsFlat (item_visits ty x)
  flat_item ty (s.item path x) = (flat_designators ty path, flat_initialiser ty x)

mutual
  flat_tail : (ty : Typing) (t : TailTree) → IsFlat (tail_visits ty t)
  flat_tail ty (s.arrays ds) = flat_dimensions ty ds
  flat_tail ty s.unspecified = tt
  flat_tail ty s.void_parameters = tt
  flat_tail ty (s.with_parameters ps more) = flat_parameters ty ps

  flat_parameters : (ty : Typing) (ps : ParamTrees) → IsFlat (parameters_visits ty ps)
  flat_parameters ty s.no_parameters = tt
  flat_parameters ty (s.then_parameter p ps) = (flat_parameter ty p, flat_parameters ty ps)

  flat_parameter : (ty : Typing) (p : ParamTree) → IsFlat (parameter_visits ty p)
  flat_parameter ty (s.parameter n specifiers d) = flat_head ty d

  flat_head : (ty : Typing) (d : DeclrTree) → IsFlat (head_visits ty d)
  flat_head ty (s.declarator n count at tail init) = flat_tail ty tail

flat_initial : (ty : Typing) (static : Bool) (x : MaybeInitTree) → IsFlat (initial_visits ty static x)
flat_initial ty static s.no_initialiser = tt
flat_initial ty true (s.some_initialiser x) = tt
flat_initial ty false (s.some_initialiser x) = flat_initialiser ty x

flat_declarator : (ty : Typing) (static : Bool) (d : DeclrTree) → IsFlat (declarator_visits ty static d)
flat_declarator ty static (s.declarator n count at tail init) = (flat_tail ty tail, (flat_initial ty static init, tt))

flat_declarators : (ty : Typing) (static : Bool) (ds : DeclrTrees) → IsFlat (declarators_visits ty static ds)
flat_declarators ty static s.no_declarators = tt
flat_declarators ty static (s.then_declarator d ds) = (flat_declarator ty static d, flat_declarators ty static ds)

pub flat_declaration : (ty : Typing) (d : DeclarationTree) → IsFlat (declaration_visits ty d)
flat_declaration ty (s.declaration word specifiers ds) = flat_declarators ty _ ds

-- labels change nothing
pub labels_changes : (g : Setting) (ty : Typing) (ls : LabelTrees) → change_list g (labels_visits ty ls) ≡ []
labels_changes g ty s.no_labels = refl
labels_changes g ty (s.then_label s.default_label ls) = labels_changes g ty ls
labels_changes g ty (s.then_label (s.case_label e) ls) = labels_changes g ty ls

pub append_none : {A : Type 0} (xs : List A) → xs ++ [] ≡ xs
append_none xs = append-nil xs

pub ruleset listed = (append_none, labels_changes)

-- labels before what changes, and a section behind it
pub section_list : (g : Setting) (ty : Typing) (ls : LabelTrees) (xs : List Change) → xs ≡ change_list g (labels_visits ty ls) ++ (xs ++ [])
section_list g ty ls xs = sym (ap (λ ys. ys ++ (xs ++ [])) (labels_changes g ty ls) ∙ append-nil xs)

section_view : (x : Section) → view_section x ≡ s.section (out-Section x).node (labels (map view_label (out-Section x).labels)) (statements (map view_statement (out-Section x).body))
section_view x = fold_out-Section PartTree StmtFormTree SectionTree StmtTree part_step statement_form_step section_step statement_step x

-- what a section changes is what its statements change
pub section_changes_are : (g : Setting) (ty : Typing) (x : Section) (body : List Stmt) → body ≡ (out-Section x).body → change_list g (statements_visits ty (statements (map view_statement body))) ≡ change_list g (section_visits ty (view_section x))
section_changes_are g ty x body e =
    ap (λ (b : List Stmt). change_list g (statements_visits ty (statements (map view_statement b)))) e
    ∙ section_list g ty (labels (map view_label (out-Section x).labels)) (change_list g (statements_visits ty (statements (map view_statement (out-Section x).body))))
    ∙ sym (ap (λ (v : SectionTree). change_list g (section_visits ty v)) (section_view x))
