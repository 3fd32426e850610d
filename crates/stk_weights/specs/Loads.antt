-- How many visits and case labels a function has, which its nodes bound.
use Rattle.std.specs.Prelude.{ℕ, ◌+◌, ◌*◌, ◌≤◌, List, [], ◌∷◌, length}
use Rattle.stk_tree.specs.Syntax.{LabelTree, LabelTrees}
use Rattle.stk_tree.specs.Syntax as s
use Rattle.stk_meaning.specs.Places.{Setting}
use Rattle.stk_meaning.specs.Visits.{Visit, at_expression, at_declarator, at_statement, at_section, Visits, no_visit, one_visit, both_visits, scope, unevaluated}
use Rattle.stk_function_types.specs.Visits.{MarkedVisit}
use Rattle.stk_weights.specs.MarkedVisit.{marked_visit_weight, marked_weight}

-- the case labels of a section
abbrev pub cases_at : LabelTree → ℕ
cases_at s.default_label = 0
cases_at (s.case_label e) = 1

abbrev pub cases_in : LabelTrees → ℕ
cases_in s.no_labels = 0
cases_in (s.then_label l ls) = cases_at l + cases_in ls

-- a visit counts 1, and a section 1 more for each case label
abbrev pub visit_load : Visit → ℕ
visit_load (at_expression k role f) = 1
visit_load (at_declarator k static at init) = 1
visit_load (at_statement k arm f) = 1
visit_load (at_section k ls) = 1 + cases_in ls

abbrev pub load : Visits → ℕ
load no_visit = 0
load (one_visit x) = visit_load x
load (both_visits a b) = load a + load b
load (scope ks a) = load a
load (unevaluated a) = load a

abbrev pub marked_load : List MarkedVisit → ℕ
marked_load [] = 0
marked_load (m ∷ ms) = visit_load m.visit + marked_load ms

-- the most that a visit adds for each of these
abbrev pub visit_limit : Setting → ℕ
visit_limit g = 256 * length g.registers + 140288

-- a visit, and visits, that add no more without the registers that are assigned in branches and loops
abbrev pub IsMetLimited : Setting → MarkedVisit → Type 0
IsMetLimited g m = marked_visit_weight g m ≤ 140288 * visit_load m.visit

abbrev pub IsLimited : Setting → List MarkedVisit → Type 0
IsLimited g ms = marked_weight g ms ≤ 140288 * marked_load ms
