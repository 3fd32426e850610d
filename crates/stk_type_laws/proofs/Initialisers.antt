-- What typing gives of the evaluated nodes of an initialiser.
use Rattle.std.proofs.Common.{◌≡◌, ℕ, ◌+◌, false, List, [], Option, refl, ap, ◌∙◌}
use Rattle.stk_tree.specs.Syntax.{InitTree, ItemTree, ItemTrees, DesigTree, DesigTrees}
use Rattle.stk_tree.specs.Syntax as s
use Rattle.stk_tree.specs.Nodes.{initialiser_nodes, item_nodes, items_nodes, designator_nodes, designators_nodes}
use Rattle.stk_type_rules.specs.Facts.{Fact}
use Rattle.stk_type_rules.specs.Outcome.{Good, and_then}
use Rattle.stk_typing.specs.Locals.{Local}
use Rattle.stk_typing.specs.Scope.{Scope, unevaluated}
use Rattle.stk_typing.specs.Typing.{expression_typed}
use Rattle.stk_typing.specs.declared.initialiser_leaves.Leaves.{Leaves}
use Rattle.stk_typing.specs.Leaves.{no_leaf, leaf, merged}
use Rattle.stk_typing.specs.InitialiserTyping.{designator_typed, designators_typed, initialiser_typed, item_typed, items_typed}
use Rattle.stk_meaning.specs.Typings.{Typing}
use Rattle.stk_meaning.specs.Visits.{Visit, reading, initialiser_visits, items_visits, item_visits, designators_visits, designator_visits}
use Rattle.stk_run_laws.specs.Visits.{EachVisit}
use Rattle.stk_type_laws.proofs.Stretches.{Counts, counts_then, counts_given, counts_mapped, counts_joined, Stand, first_stands, rest_stands, steps, mapped}
use Rattle.stk_type_laws.proofs.TypedCounts.{expression_count}
use Rattle.stk_type_laws.proofs.Rulings.{both_false}
use Rattle.stk_type_laws.proofs.From.{initialiser_from, items_from, item_from}
use Rattle.stk_type_laws.proofs.Raw.{Part, part_left, part_right, RawVisit}
use Rattle.stk_type_laws.proofs.Names.{World, typing, ground_of, in_force, AreDeclared}
use Rattle.stk_type_laws.proofs.Expressions.{expression_known}

-- ---- one fact for each node

designator_count : (d : DesigTree) (scope : Scope) → Counts (designator_typed scope d) (designator_nodes d)
designator_count (s.dot_designator at) scope = counts_given tt [] 0 refl
designator_count (s.at_designator e) scope = counts_mapped (λ (x : Fact). tt) (expression_count e scope)

designators_count : (ds : DesigTrees) (scope : Scope) → Counts (designators_typed scope ds) (designators_nodes ds)
designators_count s.no_designators scope = counts_given tt [] 0 refl
designators_count (s.then_designator d ds) scope =
    counts_then (designator_typed scope d) (λ u. designators_typed scope ds) (designator_nodes d) (designators_nodes ds) (designator_nodes d + designators_nodes ds) refl (designator_count d scope) (λ u. designators_count ds scope)

mutual
  pub initialiser_count : (i : InitTree) (scope : Scope) → Counts (initialiser_typed scope i) (initialiser_nodes i)
  initialiser_count (s.plain e) scope = counts_mapped leaf (expression_count e scope)
  initialiser_count (s.braces items comma) scope = items_count items scope

  item_count : (x : ItemTree) (scope : Scope) → Counts (item_typed scope x) (item_nodes x)
  item_count (s.item ds i) scope =
      counts_then (designators_typed (unevaluated scope) ds) (λ u. initialiser_typed scope i) (designators_nodes ds) (initialiser_nodes i) (designators_nodes ds + initialiser_nodes i) refl (designators_count ds (unevaluated scope)) (λ u. initialiser_count i scope)

  items_count : (xs : ItemTrees) (scope : Scope) → Counts (items_typed scope xs) (items_nodes xs)
  items_count s.no_items scope = counts_given no_leaf [] 0 refl
  items_count (s.then_item x xs) scope = counts_joined merged (item_count x scope) (items_count xs scope)

-- ---- evaluated nodes

designator_each : (P : Visit → Type 0) (ty : Typing) (d : DesigTree) → EachVisit P (designator_visits ty d)
designator_each P ty (s.dot_designator at) = tt
designator_each P ty (s.at_designator e) = tt

designators_each : (P : Visit → Type 0) (ty : Typing) (ds : DesigTrees) → EachVisit P (designators_visits ty ds)
designators_each P ty s.no_designators = tt
designators_each P ty (s.then_designator d ds) = (designator_each P ty d, designators_each P ty ds)

mutual
  pub initialiser_known : (w : World) (i : InitTree) (n : ℕ) (ls : List Local) (own : Option ℕ) (leaves : Leaves) (ts : List Fact) → AreDeclared w ls → initialiser_typed (in_force w ls own) i ≡ Good leaves ts
      → Stand w.facts n ts → initialiser_from n i → Part (initialiser_visits (typing w) i) w.whole → leaves.has_struct ≡ false → EachVisit (RawVisit (ground_of w)) (initialiser_visits (typing w) i)
  initialiser_known w (s.plain e) n ls own leaves ts declared eq stand from part plain =
      let m = mapped (expression_typed (in_force w ls own) e) leaf leaves ts eq in
      (expression_known w e n reading ls own m.value ts declared m.gives stand from part).visits (ap (λ (z : Leaves). z.has_struct) m.is ∙ plain)
  initialiser_known w (s.braces items comma) n ls own leaves ts declared eq stand from part plain = items_known w items n ls own leaves ts declared eq stand from part plain

  item_known : (w : World) (x : ItemTree) (n : ℕ) (ls : List Local) (own : Option ℕ) (leaves : Leaves) (ts : List Fact) → AreDeclared w ls → item_typed (in_force w ls own) x ≡ Good leaves ts
      → Stand w.facts n ts → item_from n x → Part (item_visits (typing w) x) w.whole → leaves.has_struct ≡ false → EachVisit (RawVisit (ground_of w)) (item_visits (typing w) x)
  item_known w (s.item ds i) n ls own leaves ts declared eq stand from part plain =
      let o = steps (designators_typed (unevaluated (in_force w ls own)) ds) (λ u. initialiser_typed (in_force w ls own) i) leaves ts eq in
      let stand_b = rest_stands w.facts n (designators_nodes ds) ts o.first o.rest o.all ((designators_count ds (unevaluated (in_force w ls own))).by o.value o.first o.gives) stand in
      (designators_each (RawVisit (ground_of w)) (typing w) ds, initialiser_known w i (n + designators_nodes ds) ls own leaves o.rest declared o.then stand_b from (part_right (designators_visits (typing w) ds) (initialiser_visits (typing w) i) part) plain)

  items_known : (w : World) (xs : ItemTrees) (n : ℕ) (ls : List Local) (own : Option ℕ) (leaves : Leaves) (ts : List Fact) → AreDeclared w ls → items_typed (in_force w ls own) xs ≡ Good leaves ts
      → Stand w.facts n ts → items_from n xs → Part (items_visits (typing w) xs) w.whole → leaves.has_struct ≡ false → EachVisit (RawVisit (ground_of w)) (items_visits (typing w) xs)
  items_known w s.no_items n ls own leaves ts declared eq stand from part plain = tt
  items_known w (s.then_item x xs) n ls own leaves ts declared eq stand from part plain =
      let o = steps (item_typed (in_force w ls own) x) (λ a. and_then (items_typed (in_force w ls own) xs) (λ b. Good (merged a b) [])) leaves ts eq in
      let m = mapped (items_typed (in_force w ls own) xs) (merged o.value) leaves o.rest o.then in
      let stand_b = rest_stands w.facts n (item_nodes x) ts o.first o.rest o.all ((item_count x (in_force w ls own)).by o.value o.first o.gives) stand in
      let plains = both_false o.value.has_struct m.value.has_struct (ap (λ (z : Leaves). z.has_struct) m.is ∙ plain) in (
        item_known w x n ls own o.value o.first declared o.gives (first_stands w.facts n ts o.first o.rest o.all stand) from.0 (part_left (item_visits (typing w) x) (items_visits (typing w) xs) part) plains.0,
        items_known w xs (n + item_nodes x) ls own m.value o.rest declared m.gives stand_b from.1 (part_right (item_visits (typing w) x) (items_visits (typing w) xs) part) plains.1,
      )
