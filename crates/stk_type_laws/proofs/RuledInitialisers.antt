-- The facts of the evaluated nodes of an initialiser are those of their rules.
use Rattle.std.proofs.Common.{◌≡◌, ℕ, ◌+◌, List, [], Option, refl}
use Rattle.stk_tree.specs.Syntax.{InitTree, ItemTree, ItemTrees, DesigTree, DesigTrees}
use Rattle.stk_tree.specs.Syntax as s
use Rattle.stk_tree.specs.Nodes.{initialiser_nodes, item_nodes, designator_nodes, designators_nodes}
use Rattle.stk_type_rules.specs.Facts.{Fact}
use Rattle.stk_type_rules.specs.Outcome.{Good, and_then}
use Rattle.stk_typing.specs.Locals.{Local}
use Rattle.stk_typing.specs.Scope.{Scope, unevaluated}
use Rattle.stk_typing.specs.Typing.{expression_typed}
use Rattle.stk_typing.specs.declared.initialiser_leaves.Leaves.{Leaves}
use Rattle.stk_typing.specs.Leaves.{leaf, merged}
use Rattle.stk_typing.specs.InitialiserTyping.{designator_typed, designators_typed, initialiser_typed, item_typed, items_typed}
use Rattle.stk_meaning.specs.Typings.{Typing}
use Rattle.stk_meaning.specs.Visits.{Visit, reading, initialiser_visits, items_visits, item_visits, designators_visits, designator_visits}
use Rattle.stk_run_laws.specs.Visits.{EachVisit}
use Rattle.stk_type_laws.proofs.Stretches.{Counts, counts_then, counts_given, counts_mapped, Stand, first_stands, rest_stands, steps, mapped}
use Rattle.stk_type_laws.proofs.TypedCounts.{expression_count}
use Rattle.stk_type_laws.proofs.Initialisers.{initialiser_count}
use Rattle.stk_type_laws.proofs.From.{initialiser_from, items_from, item_from}
use Rattle.stk_type_laws.proofs.Ruled.{Ground, typing, in_force, RuledVisit}
use Rattle.stk_type_laws.proofs.RuledExpressions.{expression_ruled}

-- ---- one fact for each node

designator_count : (d : DesigTree) (scope : Scope) → Counts (designator_typed scope d) (designator_nodes d)
designator_count (s.dot_designator at) scope = counts_given tt [] 0 refl
designator_count (s.at_designator e) scope = counts_mapped (λ (x : Fact). tt) (expression_count e scope)

designators_count : (ds : DesigTrees) (scope : Scope) → Counts (designators_typed scope ds) (designators_nodes ds)
designators_count s.no_designators scope = counts_given tt [] 0 refl
designators_count (s.then_designator d ds) scope =
    counts_then (designator_typed scope d) (λ u. designators_typed scope ds) (designator_nodes d) (designators_nodes ds) (designator_nodes d + designators_nodes ds) refl (designator_count d scope) (λ u. designators_count ds scope)

item_count : (x : ItemTree) (scope : Scope) → Counts (item_typed scope x) (item_nodes x)
item_count (s.item ds i) scope =
    counts_then (designators_typed (unevaluated scope) ds) (λ u. initialiser_typed scope i) (designators_nodes ds) (initialiser_nodes i) (designators_nodes ds + initialiser_nodes i) refl (designators_count ds (unevaluated scope)) (λ u. initialiser_count i scope)

-- ---- designators aren't evaluated

designator_each : (P : Visit → Type 0) (ty : Typing) (d : DesigTree) → EachVisit P (designator_visits ty d)
designator_each P ty (s.dot_designator at) = tt
designator_each P ty (s.at_designator e) = tt

designators_each : (P : Visit → Type 0) (ty : Typing) (ds : DesigTrees) → EachVisit P (designators_visits ty ds)
designators_each P ty s.no_designators = tt
designators_each P ty (s.then_designator d ds) = (designator_each P ty d, designators_each P ty ds)

mutual
  pub initialiser_ruled : (c : Ground) (i : InitTree) (n : ℕ) (ls : List Local) (own : Option ℕ) (leaves : Leaves) (ts : List Fact) → initialiser_typed (in_force c ls own) i ≡ Good leaves ts
      → Stand c.facts n ts → initialiser_from n i → EachVisit (RuledVisit c) (initialiser_visits (typing c) i)
  initialiser_ruled c (s.plain e) n ls own leaves ts eq stand from =
      let m = mapped (expression_typed (in_force c ls own) e) leaf leaves ts eq in
      (expression_ruled c e n reading ls own m.value ts m.gives stand from).visits
  initialiser_ruled c (s.braces items comma) n ls own leaves ts eq stand from = items_ruled c items n ls own leaves ts eq stand from

  item_ruled : (c : Ground) (x : ItemTree) (n : ℕ) (ls : List Local) (own : Option ℕ) (leaves : Leaves) (ts : List Fact) → item_typed (in_force c ls own) x ≡ Good leaves ts
      → Stand c.facts n ts → item_from n x → EachVisit (RuledVisit c) (item_visits (typing c) x)
  item_ruled c (s.item ds i) n ls own leaves ts eq stand from =
      let o = steps (designators_typed (unevaluated (in_force c ls own)) ds) (λ u. initialiser_typed (in_force c ls own) i) leaves ts eq in
      let stand_b = rest_stands c.facts n (designators_nodes ds) ts o.first o.rest o.all ((designators_count ds (unevaluated (in_force c ls own))).by o.value o.first o.gives) stand in
      (designators_each (RuledVisit c) (typing c) ds, initialiser_ruled c i (n + designators_nodes ds) ls own leaves o.rest o.then stand_b from)

  items_ruled : (c : Ground) (xs : ItemTrees) (n : ℕ) (ls : List Local) (own : Option ℕ) (leaves : Leaves) (ts : List Fact) → items_typed (in_force c ls own) xs ≡ Good leaves ts
      → Stand c.facts n ts → items_from n xs → EachVisit (RuledVisit c) (items_visits (typing c) xs)
  items_ruled c s.no_items n ls own leaves ts eq stand from = tt
  items_ruled c (s.then_item x xs) n ls own leaves ts eq stand from =
      let o = steps (item_typed (in_force c ls own) x) (λ a. and_then (items_typed (in_force c ls own) xs) (λ b. Good (merged a b) [])) leaves ts eq in
      let m = mapped (items_typed (in_force c ls own) xs) (merged o.value) leaves o.rest o.then in
      let stand_b = rest_stands c.facts n (item_nodes x) ts o.first o.rest o.all ((item_count x (in_force c ls own)).by o.value o.first o.gives) stand in (
        item_ruled c x n ls own o.value o.first o.gives (first_stands c.facts n ts o.first o.rest o.all stand) from.0,
        items_ruled c xs (n + item_nodes x) ls own m.value o.rest m.gives stand_b from.1,
      )
