-- What the visits of the code show: how each node of a function is evaluated, in the order of the nodes (C11 6.5, 6.8).
use Rattle.std.specs.Prelude.{ℕ, Bool, false, List, [], ◌∷◌, ◌++◌, map}
use Rattle.std.specs.Option.{option_map}
use Rattle.stk_tree.specs.View.{view_expression_form, view_initialiser, view_statement_form, view_label, labels, maybe_initialiser}
use Rattle.stk_meaning.specs.Visits.{Visit, at_expression, at_declarator, at_statement, at_section, Visits, no_visit, one_visit, both_visits, scope, unevaluated, read, accessed, taken}
use Rattle.stk_meaning.specs.Visits as meant
use Rattle.stk_function_types.specs.declared.roles.Use.{Use}
use Rattle.stk_function_types.specs.declared.roles.Use.TheVariants as use_is
use Rattle.stk_function_types.specs.declared.roles.Role.{Role}
use Rattle.stk_function_types.specs.declared.visits.VisitForm.{VisitForm}
use Rattle.stk_function_types.specs.declared.visits.VisitForm.TheVariants as form
use Rattle.stk_function_types.specs.declared.visits.Visit as declared

-- how a place is used
abbrev pub use_in : Use → meant.Use
use_in use_is.Read = read
use_in use_is.Accessed = accessed
use_in use_is.Taken = taken

-- how an expression is evaluated
abbrev pub role_in : Role → meant.Role
role_in r = record { use_of = use_in r.use_of; is_arm = r.is_arm; is_test = r.is_test }

-- a visit, and whether it is evaluated
pub record MarkedVisit : Type 0 where
  pub visit : Visit
  pub is_evaluated : Bool

-- the visits in order: what an operator that doesn't evaluate holds isn't evaluated
abbrev pub marked_visits : Bool → Visits → List MarkedVisit
marked_visits evaluated no_visit = []
marked_visits evaluated (one_visit x) = record { visit = x; is_evaluated = evaluated } ∷ []
marked_visits evaluated (both_visits a b) = marked_visits evaluated a ++ marked_visits evaluated b
marked_visits evaluated (scope ks a) = marked_visits evaluated a
marked_visits evaluated (unevaluated a) = marked_visits false a

-- the visit of a node
abbrev pub visit_in : ℕ → VisitForm → Visit
visit_in k (form.Expression role f) = at_expression k (role_in role) (view_expression_form f.now)
visit_in k (form.Declarator is_static name init) = at_declarator k is_static name (maybe_initialiser (option_map view_initialiser init.now))
visit_in k (form.Statement is_arm f) = at_statement k is_arm (view_statement_form f.now)
visit_in k (form.Section ls) = at_section k (labels (map view_label ls.now))

-- what a visit of the code shows
abbrev pub marked_visit : declared.Visit → MarkedVisit
marked_visit x = record { visit = visit_in x.node x.form; is_evaluated = x.is_evaluated }
