-- What the loops of a function change, each in a row by its node.
use Rattle.std.specs.Prelude.{◌≡◌, ℕ, ◌==◌, Bool, true, false, ◌||◌, if◌then◌else◌, List, [], ◌∷◌, ◌++◌, map, Option, Some, None, ℤ, set}
use Rattle.std.specs.Option.{is_some}
use Rattle.stk_tree.specs.Syntax.{StmtFormTree}
use Rattle.stk_tree.specs.Syntax as s
use Rattle.stk_meaning.specs.Places.{Setting}
use Rattle.stk_meaning.specs.Visits.{Visit, at_expression, at_declarator, at_statement, at_section}
use Rattle.stk_meaning.specs.Changes.{assigned_in, forgotten_in}
use Rattle.stk_meaning.specs.Keys.{loop_key, KeyInfo}
use Rattle.stk_function_env.specs.Settings.{FunctionPlaces}
use Rattle.stk_path_runs.specs.Places.{first_place, slot_in, key_place, number_in}
use Rattle.stk_path_runs.specs.declared.loop_rows.LoopSlot.{LoopSlot}
use Rattle.stk_path_runs.specs.declared.loop_rows.LoopRow.{LoopRow}
use Rattle.stk_path_runs.specs.declared.loop_rows.LoopRows.{LoopRows}

-- the registers of a loop at a node, each with the place of its key
abbrev pub loop_slots : List KeyInfo → ℕ → List ℕ → List LoopSlot
loop_slots keys k [] = []
loop_slots keys k (j ∷ js) = record { register = j; place = key_place (loop_key k j) keys } ∷ loop_slots keys k js

-- registers set to the numbers in their places
abbrev pub slots_set : List LoopSlot → List ℤ → List ℤ → List ℤ
slots_set [] xs r = r
slots_set (s ∷ ss) xs r = slots_set ss xs (set r s.register (number_in s.place xs))

-- whether a row has a kept object as changed
abbrev pub forgets_in : LoopRow → ℕ → Bool
forgets_in row q = row.each_kept || is_some (slot_in row.kept q)

-- a row is that of the loop of a form at a node
pub record IsRowOf (g : Setting) (keys : List KeyInfo) (k : ℕ) (f : StmtFormTree) (row : LoopRow) : Type 0 where
  pub node : row.node ≡ k
  pub registers : row.registers.items ≡ loop_slots keys k (assigned_in g f)
  pub kept : (q : ℕ) → forgets_in row q ≡ forgotten_in g f q

-- rows are those of loops, in order
abbrev pub AreRowsOf : Setting → List KeyInfo → List (ℕ × StmtFormTree) → List LoopRow → Type 0
AreRowsOf g keys [] [] = Unit {0}
AreRowsOf g keys [] (r ∷ rs) = ⊥
AreRowsOf g keys (l ∷ ls) [] = ⊥
AreRowsOf g keys (l ∷ ls) (r ∷ rs) = IsRowOf g keys l.0 l.1 r × AreRowsOf g keys ls rs

-- the rows of loops come behind others
pub record AddsRows (g : Setting) (keys : List KeyInfo) (ls : List (ℕ × StmtFormTree)) (before now : List LoopRow) : Type 0 where
  pub added : List LoopRow
  pub are : AreRowsOf g keys ls added
  pub is : now ≡ before ++ added

-- the first row of a node
abbrev pub row_at : ℕ → List LoopRow → Option LoopRow
row_at k [] = None
row_at k (r ∷ rs) = if r.node == k then Some r else row_at k rs

-- places of rows are those of their nodes
abbrev pub AreRowPlaces : LoopRows → Type 0
AreRowPlaces t = (k : ℕ) → slot_in t.places k ≡ first_place (λ (r : LoopRow). r.node == k) t.rows.items

-- the loops of a function with their nodes (C11 6.8.5)
abbrev pub form_loops : ℕ → StmtFormTree → List (ℕ × StmtFormTree)
form_loops k (s.block ps) = []
form_loops k (s.expression_statement e) = []
form_loops k (s.if_statement e x y) = []
form_loops k (s.switch_statement e ss) = []
form_loops k (s.while_statement e x) = (k, s.while_statement e x) ∷ []
form_loops k (s.do_statement x e) = (k, s.do_statement x e) ∷ []
form_loops k (s.for_statement first test step x) = (k, s.for_statement first test step x) ∷ []
form_loops k s.break_statement = []
form_loops k s.continue_statement = []
form_loops k (s.return_statement e) = []

abbrev pub visit_loops : Visit → List (ℕ × StmtFormTree)
visit_loops (at_expression k role f) = []
visit_loops (at_declarator k static at init) = []
visit_loops (at_statement k arm f) = form_loops k f
visit_loops (at_section k ls) = []

-- whether a form is a loop
abbrev pub is_loop : StmtFormTree → Bool
is_loop (s.block ps) = false
is_loop (s.expression_statement e) = false
is_loop (s.if_statement e x y) = false
is_loop (s.switch_statement e ss) = false
is_loop (s.while_statement e x) = true
is_loop (s.do_statement x e) = true
is_loop (s.for_statement first test step x) = true
is_loop s.break_statement = false
is_loop s.continue_statement = false
is_loop (s.return_statement e) = false

-- what tables of a function show: what its runs rest on, and the rows of its loops
pub record Tables : Type 0 where
  pub places : FunctionPlaces
  pub rows : List LoopRow

-- the first row of a node is that of the loop of a form
pub record Knows (g : Setting) (keys : List KeyInfo) (rows : List LoopRow) (k : ℕ) (f : StmtFormTree) : Type 0 where
  pub row : LoopRow
  pub found : row_at k rows ≡ Some row
  pub is : IsRowOf g keys k f row
