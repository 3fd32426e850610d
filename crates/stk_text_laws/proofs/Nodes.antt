-- Candidates and conditions stand at evaluated nodes, of which none is above the node of the body, and that is a node
-- of the unit.
use Rattle.std.proofs.Common.{◌≡◌, ℕ, ◌<◌, ◌≤◌, ◌⊎◌, Bool, true, false, List, [], ◌∷◌, ◌++◌, Option, Some, None, refl, sym, ap, subst, ◌∙◌, inl, inr, arith}
use Rattle.std.specs.Prelude.{slice_get}
use Rattle.stk_base.specs.declared.span.Span.{Span}
use Rattle.stk_tree.specs.declared.node.Node.{Node}
use Rattle.stk_tree.specs.Syntax.{ExprTree, ExprFormTree, FunctionTree}
use Rattle.stk_tree.specs.Syntax as s
use Rattle.stk_tree.specs.Nodes.{unit_nodes}
use Rattle.stk_tree.specs.Layout.{node_at, laid_function}
use Rattle.stk_nodes.specs.Rows.{unit_row}
use Rattle.stk_numbers.specs.declared.conditions.Candidate.{Candidate}
use Rattle.stk_numbers.specs.declared.conditions.Condition.{Condition}
use Rattle.stk_numbers.specs.declared.conditions.Kinds.{Kinds}
use Rattle.stk_meaning.specs.Typings.{Typing}
use Rattle.stk_meaning.specs.Operations.{arithmetic, shifting, comparing, BinarySort, operates, joins, or_else, and_also, sort_of, Test}
use Rattle.stk_meaning.specs.Replacements.{Replaced, replacement}
use Rattle.stk_meaning.specs.Conditions.{conditions_of}
use Rattle.stk_meaning.specs.Visits.{Visit, at_expression, at_declarator, at_statement, at_section, Visits, no_visit, one_visit, both_visits, scope, unevaluated, collected, head_visits, statement_form_visits}
use Rattle.stk_meaning.specs.Keys.{function_visits}
use Rattle.stk_meaning.specs.Lists.{visit_conditions, arm_candidates, seen_candidates, replaced_candidates, binary_candidates, form_candidates, visit_candidates}
use Rattle.stk_run_laws.specs.Visits.{visit_node, IsIn, Ascends, nodes_of, IsNumbered}
use Rattle.stk_run_laws.proofs.Nodes.{in_left, in_right, in_either, ascends_right, ascends_apart}
use Rattle.stk_run_laws.proofs.Numbered.{what_is_laid_out_is_numbered}
use Rattle.stk_text_laws.specs.Found.{HasNode, NodesAreFound}
use Rattle.stk_text_laws.proofs.RowNumbers.{node_of_number}

-- ---- the node of each

-- what is collected of visits, at whose nodes it stands, stands at evaluated nodes
module _ {A : Type 0} (node : A → ℕ) (f : Visit → List A) (there : (x : Visit) (y : A) → IsIn y (f x) → node y ≡ visit_node x) where
  stands_there : (v : Visits) (y : A) → IsIn y (collected f v) → IsIn (node y) (nodes_of v)
  stands_there no_visit y h = absurd h
  stands_there (one_visit x) y h = inl (there x y h)
  stands_there (both_visits a b) y h = elim (in_either y (collected f a) (collected f b) h) [
    | inl i ↦ in_left (node y) (nodes_of a) (nodes_of b) (stands_there a y i)
    | inr i ↦ in_right (node y) (nodes_of a) (nodes_of b) (stands_there b y i)
  ]
  stands_there (scope ks a) y h = stands_there a y h
  stands_there (unevaluated a) y h = absurd h

condition_there : (k : ℕ) (ts : List Test) (c : Condition) → IsIn c (conditions_of k ts) → c.node ≡ k
condition_there k [] c h = absurd h
condition_there k (t ∷ ts) c (inl h) = ap (λ (z : Condition). z.node) h
condition_there k (t ∷ ts) c (inr h) = condition_there k ts c h

visit_conditions_there : (ty : Typing) (without : Kinds) (x : Visit) (c : Condition) → IsIn c (visit_conditions ty without x) → c.node ≡ visit_node x
visit_conditions_there ty without (at_expression k role f) c h = condition_there k _ c h
visit_conditions_there ty without (at_declarator k static at init) c h = absurd h
visit_conditions_there ty without (at_statement k arm f) c h = absurd h
visit_conditions_there ty without (at_section k ls) c h = absurd h

arm_there : (k : ℕ) (arm : Bool) (c : Candidate) → IsIn c (arm_candidates k arm) → c.node ≡ k
arm_there k true c (inl h) = ap (λ (z : Candidate). z.node) h
arm_there k true c (inr h) = absurd h
arm_there k false c h = absurd h

seen_there : (k : ℕ) (test : Bool) (c : Candidate) → IsIn c (seen_candidates k test) → c.node ≡ k
seen_there k true c (inl h) = ap (λ (z : Candidate). z.node) h
seen_there k true c (inr (inl h)) = ap (λ (z : Candidate). z.node) h
seen_there k true c (inr (inr h)) = absurd h
seen_there k false c h = absurd h

replaced_there : (k : ℕ) (found : Option Replaced) (c : Candidate) → IsIn c (replaced_candidates k found) → c.node ≡ k
replaced_there k None c h = absurd h
replaced_there k (Some x) c (inl h) = ap (λ (z : Candidate). z.node) h
replaced_there k (Some x) c (inr h) = absurd h

binary_there : (ty : Typing) (k : ℕ) (test : Bool) (sort : BinarySort) (a b : ExprTree) (c : Candidate) → IsIn c (binary_candidates ty k test sort a b) → c.node ≡ k
binary_there ty k test (operates (arithmetic op)) a b c h = seen_there k test c h
binary_there ty k test (operates (shifting op)) a b c h = seen_there k test c h
binary_there ty k test (operates (comparing op)) a b c h = elim (in_either c (seen_candidates k true) (replaced_candidates k (replacement ty a b)) h) [
  | inl i ↦ seen_there k true c i
  | inr i ↦ replaced_there k (replacement ty a b) c i
]
binary_there ty k test joins a b c h = seen_there k test c h
binary_there ty k test or_else a b c h = seen_there k test c h
binary_there ty k test and_also a b c h = seen_there k test c h

form_there : (ty : Typing) (k : ℕ) (test : Bool) (f : ExprFormTree) (c : Candidate) → IsIn c (form_candidates ty k test f) → c.node ≡ k
form_there ty k test (s.paren e) c h = absurd h
form_there ty k test (s.binary op a b) c h = binary_there ty k test (sort_of op) a b c h
form_there ty k test f c h = seen_there k test c h

visit_candidates_there : (ty : Typing) (x : Visit) (c : Candidate) → IsIn c (visit_candidates ty x) → c.node ≡ visit_node x
visit_candidates_there ty (at_expression k role f) c h = elim (in_either c (arm_candidates k role.is_arm) (form_candidates ty k role.is_test f) h) [
  | inl i ↦ arm_there k role.is_arm c i
  | inr i ↦ form_there ty k role.is_test f c i
]
visit_candidates_there ty (at_declarator k static at init) c h = absurd h
visit_candidates_there ty (at_statement k arm f) c h = arm_there k arm c h
visit_candidates_there ty (at_section k ls) c h = arm_there k true c h

-- ---- evaluated nodes

-- of numbers that ascend none is above the last
last_most : (a : List ℕ) (k j : ℕ) → Ascends (a ++ k ∷ []) → IsIn j (a ++ k ∷ []) → j ≤ k
last_most a k j h i = on (in_either j a (k ∷ []) i) where
  on : IsIn j a ⊎ IsIn j (k ∷ []) → j ≤ k
  on (inl before) = let less = ascends_apart a (k ∷ []) j k h before (inl refl) in omega arith
  on (inr (inl same)) = omega (arith, same)
  on (inr (inr none)) = absurd none

-- the number of the node of a function's body
abbrev body_number : FunctionTree → ℕ
body_number (s.function word b d (s.statement k form)) = k.number

at_most : (ty : Typing) (f : FunctionTree) → IsNumbered ty f → (j : ℕ) → IsIn j (nodes_of (function_visits ty f)) → j ≤ body_number f
at_most ty (s.function word b d (s.statement k form)) h j i = on (in_either j (nodes_of (head_visits ty d)) (nodes_of (statement_form_visits ty form) ++ k.number ∷ []) i) where
  on : IsIn j (nodes_of (head_visits ty d)) ⊎ IsIn j (nodes_of (statement_form_visits ty form) ++ k.number ∷ []) → j ≤ k.number
  on (inl before) =
      let own : IsIn k.number (nodes_of (statement_form_visits ty form) ++ k.number ∷ []) = in_right k.number (nodes_of (statement_form_visits ty form)) (k.number ∷ []) (inl refl) in
      let less = ascends_apart (nodes_of (head_visits ty d)) (nodes_of (statement_form_visits ty form) ++ k.number ∷ []) j k.number h before own in
      omega arith
  on (inr there) = last_most (nodes_of (statement_form_visits ty form)) k.number j (ascends_right (nodes_of (head_visits ty d)) (nodes_of (statement_form_visits ty form) ++ k.number ∷ []) h) there

-- the body of a function that is laid out is among its nodes
body_below : (spans : List Span) (k : Node) (g : FunctionTree) → body_number (laid_function (node_at spans) 0 0 g) < unit_nodes (s.defines k g)
body_below spans k (s.function word b d (s.statement j form)) = omega arith

pub all_found : NodesAreFound
all_found ty without spans (s.empty_unit k) n f h = absurd cc
all_found ty without spans (s.declares k d) n f h = absurd cc
all_found ty without spans (s.defines k g) n f h = record {
  of_candidate = λ c i. found c.node (stands_there (λ (x : Candidate). x.node) (visit_candidates ty) (visit_candidates_there ty) (function_visits ty f) c i);
  of_condition = λ c i. found c.node (stands_there (λ (x : Condition). x.node) (visit_conditions ty without) (visit_conditions_there ty without) (function_visits ty f) c i);
}
  where
    numbered : IsNumbered ty f
    numbered = (what_is_laid_out_is_numbered ty spans (s.defines k g) n f h).body

    body : body_number f < unit_nodes (s.defines k g)
    body = let same : laid_function (node_at spans) 0 0 g ≡ f = cc in subst (λ z. body_number z < unit_nodes (s.defines k g)) same (body_below spans k g)

    found : (j : ℕ) → IsIn j (nodes_of (function_visits ty f)) → HasNode (s.defines n f) j
    found j i =
        let it = node_of_number spans (s.defines k g) j (omega (arith, body, at_most ty f numbered j i)) in
        record { node = it.node; there = ap (λ u. slice_get (unit_row u) j) (sym h) ∙ it.there; number = it.same }
