-- What a walk over a function passes: where its branches and loops begin and end, and the registers that are assigned,
-- in order; and how often a register counts: once for each branch and loop in which it is assigned anywhere.
use Rattle.std.specs.Prelude.{ℕ, ◌+◌, ◌-◌, ◌==◌, min, Bool, true, false, if◌then◌else◌, List, [], ◌∷◌, ◌++◌}
use Rattle.stk_tree.specs.Syntax.{ExprTree, MaybeExprTree, DeclarationTree, StartTree, StmtTree, StmtTrees, MaybeStmtTree, StmtFormTree, PartTree, PartTrees, SectionTree, SectionTrees}
use Rattle.stk_tree.specs.Syntax as s
use Rattle.stk_address_taken.specs.Sets.{is_listed}
use Rattle.stk_meaning.specs.Places.{Setting, Target, in_register, in_kept, in_object, unnamed}
use Rattle.stk_meaning.specs.Weights.{visit_assigns}
use Rattle.stk_meaning.specs.Visits.{Visit, at_expression, at_declarator, at_statement, at_section, Visits, no_visit, one_visit, both_visits, scope, unevaluated, collected, reading, as_test, expression_visits, maybe_visits, declaration_visits, start_visits, statement_form_visits}
use Rattle.stk_weights.specs.declared.events.Event.{Event}
use Rattle.stk_weights.specs.declared.events.Event.TheVariants as event
use Rattle.stk_weights.specs.MarkedVisit.{registers_assigned}

-- the registers that are assigned in a part, in order
abbrev pub assigned_in : Setting → Visits → List ℕ
assigned_in g v = collected (registers_assigned g) v

-- their assignments
abbrev pub target_events : Target → List Event
target_events (in_register k) = event.Assigns k ∷ []
target_events (in_kept q) = []
target_events (in_object o) = []
target_events unnamed = []

abbrev pub targets_events : List Target → List Event
targets_events [] = []
targets_events (in_register k ∷ ts) = event.Assigns k ∷ targets_events ts
targets_events (in_kept q ∷ ts) = targets_events ts
targets_events (in_object o ∷ ts) = targets_events ts
targets_events (unnamed ∷ ts) = targets_events ts

abbrev pub visit_events : Setting → Visit → List Event
visit_events g x = targets_events (visit_assigns g x)

abbrev pub noted : Setting → Visits → List Event
noted g v = collected (visit_events g) v

-- whether a statement is a branch or a loop
abbrev pub is_branching : StmtFormTree → Bool
is_branching (s.block ps) = false
is_branching (s.expression_statement e) = false
is_branching (s.if_statement e x y) = true
is_branching (s.switch_statement e ss) = true
is_branching (s.while_statement e x) = true
is_branching (s.do_statement x e) = true
is_branching (s.for_statement first test step x) = true
is_branching s.break_statement = false
is_branching s.continue_statement = false
is_branching (s.return_statement e) = false

-- what is passed in a branch or a loop stands between its beginning and its end
abbrev pub bracketed : Bool → List Event → List Event
bracketed true es = event.Begins ∷ es ++ event.Ends ∷ []
bracketed false es = es

abbrev mutual
  pub statement_events : Setting → StmtTree → List Event
  statement_events g (s.statement n f) = bracketed (is_branching f) (form_events g f)

  pub form_events : Setting → StmtFormTree → List Event
  form_events g (s.block ps) = parts_events g ps
  form_events g (s.expression_statement e) = noted g (maybe_visits g.typing reading e)
  form_events g (s.if_statement e x y) = noted g (expression_visits g.typing as_test e) ++ (statement_events g x ++ maybe_statement_events g y)
  form_events g (s.switch_statement e ss) = noted g (expression_visits g.typing reading e) ++ sections_events g ss
  form_events g (s.while_statement e x) = noted g (expression_visits g.typing as_test e) ++ statement_events g x
  form_events g (s.do_statement x e) = statement_events g x ++ noted g (expression_visits g.typing as_test e)
  form_events g (s.for_statement first test step x) =
      noted g (start_visits g.typing first) ++ (noted g (maybe_visits g.typing as_test test) ++ (noted g (maybe_visits g.typing reading step) ++ statement_events g x))
  form_events g s.break_statement = []
  form_events g s.continue_statement = []
  form_events g (s.return_statement e) = noted g (maybe_visits g.typing reading e)

  pub maybe_statement_events : Setting → MaybeStmtTree → List Event
  maybe_statement_events g s.no_statement = []
  maybe_statement_events g (s.some_statement x) = statement_events g x

  pub statements_events : Setting → StmtTrees → List Event
  statements_events g s.no_statements = []
  statements_events g (s.then_statement x xs) = statement_events g x ++ statements_events g xs

  pub parts_events : Setting → PartTrees → List Event
  parts_events g s.no_parts = []
  parts_events g (s.then_part p ps) = part_events g p ++ parts_events g ps

  pub part_events : Setting → PartTree → List Event
  part_events g (s.local d) = noted g (declaration_visits g.typing d)
  part_events g (s.run x) = statement_events g x

  pub sections_events : Setting → SectionTrees → List Event
  sections_events g s.no_sections = []
  sections_events g (s.then_section x xs) = section_events g x ++ sections_events g xs

  pub section_events : Setting → SectionTree → List Event
  section_events g (s.section n ls body) = statements_events g body

-- ---- how often a register counts

-- how a register stands in a walk: how many branches and loops are open, in how many of them it was assigned, which are
-- the outermost ones, and how often it counts so far
pub record Stand : Type 0 where
  pub depth : ℕ
  pub marked : ℕ
  pub sum : ℕ

abbrev pub stepped : ℕ → Event → Stand → Stand
stepped r event.Begins x = record { depth = x.depth + 1; marked = x.marked; sum = x.sum }
stepped r (event.Assigns k) x = if r == k then record { depth = x.depth; marked = x.depth; sum = x.sum + (x.depth - x.marked) } else x
stepped r event.Ends x = record { depth = x.depth - 1; marked = min x.marked (x.depth - 1); sum = x.sum }

abbrev pub passed : ℕ → List Event → Stand → Stand
passed r [] x = x
passed r (e ∷ es) x = passed r es (stepped r e x)

-- 1 where something holds
abbrev pub one_where : Bool → ℕ
one_where true = 1
one_where false = 0

-- in how many branches and loops among visits a register is assigned
abbrev pub visit_counts : Setting → ℕ → Visit → ℕ
visit_counts g r (at_expression k role f) = 0
visit_counts g r (at_declarator k static at init) = 0
visit_counts g r (at_statement k arm f) = if is_branching f then one_where (is_listed r (assigned_in g (statement_form_visits g.typing f))) else 0
visit_counts g r (at_section k ls) = 0

abbrev pub counts : Setting → ℕ → Visits → ℕ
counts g r no_visit = 0
counts g r (one_visit x) = visit_counts g r x
counts g r (both_visits a b) = counts g r a + counts g r b
counts g r (scope ks a) = counts g r a
counts g r (unevaluated a) = counts g r a
