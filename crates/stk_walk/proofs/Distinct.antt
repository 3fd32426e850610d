-- The memory objects of a function have nodes of their own: the nodes of their keys ascend.
use Rattle.std.proofs.Common.{◌≡◌, ℕ, ◌<◌, ◌==◌, Bool, true, false, List, [], ◌∷◌, ◌++◌, refl, sym, ap, ◌∙◌, subst, arith, eqb-true}
use Rattle.std.specs.Prelude.{not, map}
use Rattle.stk_tree.specs.Syntax.{FunctionTree}
use Rattle.stk_numbers.specs.declared.conditions.Kinds.{Kinds}
use Rattle.stk_meaning.specs.Typings.{Typing, declarator_node}
use Rattle.stk_meaning.specs.Visits.{collected}
use Rattle.stk_meaning.specs.Keys.{Object, first_setting, fits_register, function_visits, keys_of, memory_info, memory_parameters, objects_of, parameter_info, parameters_of, register_parameters, visit_keys}
use Rattle.stk_run_laws.specs.Visits.{IsBelow, IsIn, Ascends, nodes_of}
use Rattle.stk_run_laws.specs.TypedTree.{IsTypedTree}
use Rattle.stk_run_laws.proofs.Nodes.{ascends_left, ascends_right, ascends_apart}
use Rattle.stk_run_laws.proofs.KeyLists.{in_map, in_image, in_filter, object_nodes, nodes_append}
use Rattle.stk_run_laws.proofs.Objects.{ascends_append, filter_ascends, visited_nodes, parameter_nodes, memory_nodes}
use Rattle.stk_walk.specs.Validity.{IsOther, AreDistinct}

abbrev nodes : List Object → List ℕ
nodes os = map (λ (o : Object). o.node) os

apart_at : (j k : ℕ) → j < k → (j == k) ≡ false
apart_at j k l = by (j == k) refl
  where
    by : (b : Bool) → (j == k) ≡ b → b ≡ false
    by true e = let same = eqb-true j k e in absurd (omega (arith, l, same))
    by false e = refl

below_others : (o : Object) (os : List Object) → IsBelow o.node (nodes os) → IsOther o os
below_others o [] h = tt
below_others o (p ∷ ps) h = (apart_at o.node p.node h.0, below_others o ps h.1)

ascend_distinct : (os : List Object) → Ascends (nodes os) → AreDistinct os
ascend_distinct [] h = tt
ascend_distinct (o ∷ os) h = (below_others o os h.0, ascend_distinct os h.1)

module _ (ty : Typing) (without : Kinds) (f : FunctionTree) (h : Ascends (map declarator_node (parameters_of f) ++ nodes_of (function_visits ty f))) where
  in_memory : (i : ℕ) → IsIn i (map declarator_node (memory_parameters ty f)) → IsIn i (map declarator_node (parameters_of f))
  in_memory i p =
      let a = in_image declarator_node i (memory_parameters ty f) p in
      subst (λ z. IsIn z (map declarator_node (parameters_of f))) (sym a.is) (in_map declarator_node a.of (parameters_of f) (in_filter (λ d. not (fits_register ty (declarator_node d))) a.of (parameters_of f) a.among).0)

  objects_ascend : Ascends (nodes (objects_of ty without f))
  objects_ascend =
      let g = first_setting ty without f in
      let ps = map declarator_node (parameters_of f) in
      let ns = nodes_of (function_visits ty f) in
      let v = visited_nodes g (function_visits ty f) (ascends_right ps ns h) in
      let kv = object_nodes ty (collected (visit_keys g) (function_visits ty f)) in
      let mem = map declarator_node (memory_parameters ty f) in
      let whole : object_nodes ty (keys_of ty without f) ≡ mem ++ kv =
      nodes_append ty (map (parameter_info ty) (register_parameters ty f)) (map (memory_info ty) (memory_parameters ty f) ++ collected (visit_keys g) (function_visits ty f))
      ∙ ap (λ z. z ++ object_nodes ty (map (memory_info ty) (memory_parameters ty f) ++ collected (visit_keys g) (function_visits ty f))) (parameter_nodes ty (register_parameters ty f))
      ∙ nodes_append ty (map (memory_info ty) (memory_parameters ty f)) (collected (visit_keys g) (function_visits ty f))
      ∙ ap (λ z. z ++ kv) (memory_nodes ty (memory_parameters ty f)) in
      subst Ascends (sym whole)
      (ascends_append mem kv (filter_ascends declarator_node (λ d. not (fits_register ty (declarator_node d))) (parameters_of f) (ascends_left ps ns h)) v.ascends
      (λ i j p q. ascends_apart ps ns i j h (in_memory i p) (v.within j q)))

pub objects_distinct : (ty : Typing) (without : Kinds) (f : FunctionTree) → IsTypedTree ty without f → AreDistinct (objects_of ty without f)
objects_distinct ty without f h = ascend_distinct (objects_of ty without f) (objects_ascend ty without f h.numbered)
