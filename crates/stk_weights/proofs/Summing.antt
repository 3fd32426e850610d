-- The weight of a function is that of its visits in order, and 256 for each register and each branch or loop in which
-- it is assigned.
use Rattle.std.proofs.Common.{ℕ, ◌≡◌, ◌+◌, ◌*◌, Bool, false, List, [], ◌∷◌, ◌++◌, arith}
use Rattle.stk_tree.specs.Syntax.{StmtFormTree}
use Rattle.stk_tree.specs.Syntax as s
use Rattle.stk_meaning.specs.Places.{Setting}
use Rattle.stk_meaning.specs.Visits.{Visit, at_expression, at_declarator, at_statement, at_section, Visits, no_visit, one_visit, both_visits, scope, unevaluated}
use Rattle.stk_meaning.specs.Weights.{visits_weight, visit_weight, statement_weight}
use Rattle.stk_function_types.specs.Visits.{MarkedVisit, marked_visits}
use Rattle.stk_weights.specs.MarkedVisit.{own_statement_weight, own_weight, marked_weight}
use Rattle.stk_weights.specs.Events.{visit_counts, counts}
use Rattle.stk_weights.specs.Counting.{total}
use Rattle.stk_weights.proofs.Totals.{branch_total, total_none, total_both}

weight-append : (g : Setting) (a b : List MarkedVisit) → marked_weight g (a ++ b) ≡ marked_weight g a + marked_weight g b
weight-append g [] b = omega arith
weight-append g (m ∷ a) b = omega (arith, weight-append g a b)

-- all registers together
abbrev all : Setting → Visits → ℕ
all g v = total (λ r. counts g r v) g.registers

abbrev all_at : Setting → Visit → ℕ
all_at g x = total (λ r. visit_counts g r x) g.registers

statement_parts : (g : Setting) (k : ℕ) (arm : Bool) (f : StmtFormTree) → statement_weight g f ≡ own_statement_weight g f + 256 * all_at g (at_statement k arm f)
statement_parts g k arm (s.block ps) = omega (arith, total_none g.registers)
statement_parts g k arm (s.expression_statement e) = omega (arith, total_none g.registers)
statement_parts g k arm (s.if_statement e x y) = omega (arith, branch_total g (s.if_statement e x y))
statement_parts g k arm (s.switch_statement e ss) = omega (arith, branch_total g (s.switch_statement e ss))
statement_parts g k arm (s.while_statement e x) = omega (arith, branch_total g (s.while_statement e x))
statement_parts g k arm (s.do_statement x e) = omega (arith, branch_total g (s.do_statement x e))
statement_parts g k arm (s.for_statement first test step x) = omega (arith, branch_total g (s.for_statement first test step x))
statement_parts g k arm s.break_statement = omega (arith, total_none g.registers)
statement_parts g k arm s.continue_statement = omega (arith, total_none g.registers)
statement_parts g k arm (s.return_statement e) = omega (arith, total_none g.registers)

visit_parts : (g : Setting) (evaluated : Bool) (x : Visit) → visit_weight g evaluated x ≡ own_weight g evaluated x + 256 * all_at g x
visit_parts g evaluated (at_expression k role f) = omega (arith, total_none g.registers)
visit_parts g evaluated (at_declarator k static at init) = omega (arith, total_none g.registers)
visit_parts g evaluated (at_statement k arm f) = statement_parts g k arm f
visit_parts g evaluated (at_section k ls) = omega (arith, total_none g.registers)

pub weight_parts : (g : Setting) (evaluated : Bool) (v : Visits) → visits_weight g evaluated v ≡ marked_weight g (marked_visits evaluated v) + 256 * total (λ r. counts g r v) g.registers
weight_parts g evaluated no_visit = omega (arith, total_none g.registers)
weight_parts g evaluated (one_visit x) = omega (arith, visit_parts g evaluated x)
weight_parts g evaluated (both_visits a b) = omega (arith, weight-append g (marked_visits evaluated a) (marked_visits evaluated b), weight_parts g evaluated a, weight_parts g evaluated b, total_both (λ r. counts g r a) (λ r. counts g r b) g.registers)
weight_parts g evaluated (scope ks a) = weight_parts g evaluated a
weight_parts g evaluated (unevaluated a) = weight_parts g false a
