-- Examples, by which the definitions can be checked: how many facts the nodes of some functions have, and which of
-- their nodes are refused.
use Rattle.std.proofs.Common.{◌≡◌, ℕ, ◌+◌, false, List, [], ◌∷◌, length, Option, Some, None, refl}
use Rattle.stk_base.specs.declared.span.Span.{Span}
use Rattle.stk_tree.specs.declared.node.Node.{Node}
use Rattle.stk_tree.specs.declared.fixed.Fixed.TheVariants as fixed
use Rattle.stk_tree.specs.declared.declaration.Storage.TheVariants as storage
use Rattle.stk_tree.specs.Syntax.{BaseTree, DeclrTree, ExprTree, FunctionTree, LabelTrees, MaybeInitTree, PartTree, PartTrees, StmtTree, StmtFormTree, TailTree}
use Rattle.stk_tree.specs.Syntax as s
use Rattle.stk_type_rules.specs.Facts.{Fact}
use Rattle.stk_type_rules.specs.Outcome.{Outcome, Good, Refused}
use Rattle.stk_function_types.specs.Functions.{function_typed}

-- the text, in which names and numbers stand: `xyf1`
abbrev text : List ℕ
text = 120 ∷ 121 ∷ 102 ∷ 49 ∷ []

abbrev at : ℕ → Span
at from = record { from = from; to = from + 1 }

abbrev node : ℕ → Node
node k = record { number = k; span = at 0 }

-- how many nodes have facts, where none is refused
abbrev counted : Outcome Fact → Option ℕ
counted (Good x t) = Some (length t)
counted (Refused n r) = None

-- the node that is refused, and the rule
abbrev refused : Outcome Fact → Option (ℕ × ℕ)
refused (Good x t) = None
refused (Refused n r) = Some (n, r)

abbrev int_base : ℕ → BaseTree
int_base k = s.base (node k) (s.words (fixed.Int ∷ []))

abbrev plain_tail : TailTree
plain_tail = s.arrays s.no_dimensions

abbrev declr : ℕ → ℕ → MaybeInitTree → DeclrTree
declr k from init = s.declarator (node k) 0 (Some (at from)) plain_tail init

-- `int f(int x)` with the nodes 0 to 4, and a body
abbrev defined : PartTrees → FunctionTree
defined ps = s.function None (int_base 0) (s.declarator (node 4) 0 (Some (at 2)) (s.with_parameters (s.then_parameter (s.parameter (node 3) (int_base 1) (declr 2 0 s.no_initialiser)) s.no_parameters) false) s.no_initialiser) (s.statement (node 20) (s.block ps))

abbrev typed : PartTrees → Outcome Fact
typed ps = function_typed text [] [] 21 (defined ps)

abbrev one : PartTree → PartTrees
one p = s.then_part p s.no_parts

abbrev run : ℕ → StmtFormTree → PartTree
run k f = s.run (s.statement (node k) f)

abbrev name : ℕ → ℕ → ExprTree
name k from = s.expression (node k) (s.name (at from))

abbrev local : ℕ → DeclrTree → PartTree
local k d = s.local (s.declaration None (int_base k) (s.then_declarator d s.no_declarators))

-- `return x;`, `return;`
returned : counted (typed (one (run 6 (s.return_statement (s.some_expression (name 5 0)))))) ≡ Some 9
returned = refl

returned_alone : refused (typed (one (run 5 (s.return_statement s.no_expression)))) ≡ Some (5, 14)
returned_alone = refl

-- `int x;` in the outermost block, and in an inner one
local_twice : refused (typed (one (local 5 (declr 6 0 s.no_initialiser)))) ≡ Some (6, 3)
local_twice = refl

local_inside : counted (typed (one (run 7 (s.block (one (local 5 (declr 6 0 s.no_initialiser))))))) ≡ Some 10
local_inside = refl

-- `int y = y;`, `{ int y; } return y;`
own_initialiser : refused (typed (one (local 5 (declr 7 1 (s.some_initialiser (s.plain (name 6 1))))))) ≡ Some (6, 1)
own_initialiser = refl

out_of_scope : refused (typed (s.then_part (run 7 (s.block (one (local 5 (declr 6 1 s.no_initialiser))))) (one (run 9 (s.return_statement (s.some_expression (name 8 1))))))) ≡ Some (8, 1)
out_of_scope = refl

-- `break;`, `while (x) break;`
nothing_to_leave : refused (typed (one (run 5 s.break_statement))) ≡ Some (5, 13)
nothing_to_leave = refl

loop_left : counted (typed (one (run 7 (s.while_statement (name 5 0) (s.statement (node 6) s.break_statement))))) ≡ Some 10
loop_left = refl

-- `switch (x) { case 1: case 1: ; }`, `switch (x) { case x: ; }`, `switch (x) { default: continue; }`
abbrev sections : LabelTrees → ℕ → StmtFormTree → StmtFormTree
sections ls k f = s.switch_statement (name 5 0) (s.then_section (s.section (node (k + 1)) ls (s.then_statement (s.statement (node k) f) s.no_statements)) s.no_sections)

abbrev case_one : ℕ → LabelTrees → LabelTrees
case_one k ls = s.then_label (s.case_label (s.expression (node k) (s.number (at 3)))) ls

label_twice : refused (typed (one (run 10 (sections (case_one 6 (case_one 7 s.no_labels)) 8 (s.expression_statement s.no_expression))))) ≡ Some (9, 12)
label_twice = refl

label_varies : refused (typed (one (run 10 (sections (s.then_label (s.case_label (name 6 0)) s.no_labels) 7 (s.expression_statement s.no_expression))))) ≡ Some (8, 5)
label_varies = refl

continue_in_a_switch : refused (typed (one (run 10 (sections (s.then_label s.default_label s.no_labels) 6 s.continue_statement)))) ≡ Some (6, 13)
continue_in_a_switch = refl

label_once : counted (typed (one (run 9 (sections (case_one 6 s.no_labels) 7 s.break_statement)))) ≡ Some 12
label_once = refl

-- `int y[][x];`: the lowest of two rules
no_size : refused (typed (one (local 5 (s.declarator (node 7) 0 (Some (at 1)) (s.arrays (s.then_dimension s.open_dimension (s.then_dimension (s.sized (name 6 0)) s.no_dimensions))) s.no_initialiser)))) ≡ Some (7, 4)
no_size = refl

-- `typedef int f(int x) { }`
typedef_definition : refused (function_typed text [] [] 21 (s.function (Some storage.Typedef) (int_base 0) (s.declarator (node 1) 0 (Some (at 2)) s.void_parameters s.no_initialiser) (s.statement (node 2) (s.block s.no_parts)))) ≡ Some (21, 15)
typedef_definition = refl
