-- The weight of the visits of a function, one after the other.
use Rattle.std.specs.Prelude.{ℕ, ◌+◌, ◌*◌, Bool, List, [], ◌∷◌, length}
use Rattle.stk_tree.specs.Syntax.{StmtFormTree}
use Rattle.stk_tree.specs.Syntax as s
use Rattle.stk_meaning.specs.Places.{Setting, Target, in_register, in_kept, in_object, unnamed}
use Rattle.stk_meaning.specs.Visits.{Visit, at_expression, at_declarator, at_statement, at_section}
use Rattle.stk_meaning.specs.Weights.{test_weight, visit_weight, visit_assigns}
use Rattle.stk_function_types.specs.Visits.{MarkedVisit}

-- what a statement adds to its node, without the registers that are assigned in it
abbrev pub own_statement_weight : Setting → StmtFormTree → ℕ
own_statement_weight g (s.block ps) = 0
own_statement_weight g (s.expression_statement e) = 0
own_statement_weight g (s.if_statement e x y) = test_weight g.typing (s.some_expression e)
own_statement_weight g (s.switch_statement e ss) = 0
own_statement_weight g (s.while_statement e x) = test_weight g.typing (s.some_expression e) + 16 * length g.kept
own_statement_weight g (s.do_statement x e) = test_weight g.typing (s.some_expression e) + 16 * length g.kept
own_statement_weight g (s.for_statement first test step x) = test_weight g.typing test + 16 * length g.kept
own_statement_weight g s.break_statement = 0
own_statement_weight g s.continue_statement = 0
own_statement_weight g (s.return_statement e) = 0

-- so does a visit
abbrev pub own_weight : Setting → Bool → Visit → ℕ
own_weight g evaluated (at_expression k role f) = visit_weight g evaluated (at_expression k role f)
own_weight g evaluated (at_declarator k static at init) = visit_weight g evaluated (at_declarator k static at init)
own_weight g evaluated (at_statement k arm f) = own_statement_weight g f
own_weight g evaluated (at_section k ls) = visit_weight g evaluated (at_section k ls)

abbrev pub marked_visit_weight : Setting → MarkedVisit → ℕ
marked_visit_weight g m = own_weight g m.is_evaluated m.visit

-- what visits add
abbrev pub marked_weight : Setting → List MarkedVisit → ℕ
marked_weight g [] = 0
marked_weight g (m ∷ ms) = marked_visit_weight g m + marked_weight g ms

-- the registers among places
abbrev pub registers_among : List Target → List ℕ
registers_among [] = []
registers_among (in_register k ∷ ts) = k ∷ registers_among ts
registers_among (in_kept q ∷ ts) = registers_among ts
registers_among (in_object o ∷ ts) = registers_among ts
registers_among (unnamed ∷ ts) = registers_among ts

-- the registers that a visit assigns
abbrev pub registers_assigned : Setting → Visit → List ℕ
registers_assigned g x = registers_among (visit_assigns g x)
