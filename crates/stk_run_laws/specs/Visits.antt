-- What is asked of the evaluated nodes of a function: that their numbers ascend, and facts of each of them.
use Rattle.std.specs.Prelude.{ℕ, ◌<◌, ◌≡◌, ◌⊎◌, List, [], ◌∷◌}
use Rattle.stk_tree.specs.Syntax.{FunctionTree}
use Rattle.stk_meaning.specs.Typings.{Typing}
use Rattle.stk_meaning.specs.Visits.{Visit, at_expression, at_declarator, at_statement, at_section, Visits, no_visit, one_visit, both_visits, scope, unevaluated, collected}
use Rattle.stk_meaning.specs.Keys.{function_visits}

-- the number of a visit's node
abbrev pub visit_node : Visit → ℕ
visit_node (at_expression k role f) = k
visit_node (at_declarator k static at init) = k
visit_node (at_statement k arm f) = k
visit_node (at_section k ls) = k

-- a number is below each of these
abbrev pub IsBelow : ℕ → List ℕ → Type 0
IsBelow k [] = Unit {0}
IsBelow k (j ∷ js) = (k < j) × IsBelow k js

-- an element of a list
abbrev pub IsIn : {A : Type 0} → A → List A → Type 0
IsIn x [] = ⊥
IsIn x (y ∷ ys) = (x ≡ y) ⊎ IsIn x ys

-- numbers ascend: each is below all that follow it
abbrev pub Ascends : List ℕ → Type 0
Ascends [] = Unit {0}
Ascends (k ∷ ks) = IsBelow k ks × Ascends ks

-- the nodes that are evaluated, in the order of the visits
abbrev pub nodes_of : Visits → List ℕ
nodes_of v = collected (λ x. visit_node x ∷ []) v

-- a fact of each visit that is evaluated
abbrev pub EachVisit : (Visit → Type 0) → Visits → Type 0
EachVisit P no_visit = Unit {0}
EachVisit P (one_visit x) = P x
EachVisit P (both_visits a b) = EachVisit P a × EachVisit P b
EachVisit P (scope ks a) = EachVisit P a
EachVisit P (unevaluated a) = Unit {0}

-- nodes are numbered children first, so the numbers of a function's evaluated nodes ascend
abbrev pub IsNumbered : Typing → FunctionTree → Type 0
IsNumbered ty f = Ascends (nodes_of (function_visits ty f))
