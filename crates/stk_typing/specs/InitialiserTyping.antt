-- The types of an initialiser's nodes (C11 6.7.9): those of its expressions from left to right; the indices of
-- designators aren't evaluated.
use Rattle.std.specs.Prelude.{[]}
use Rattle.stk_tree.specs.Syntax.{InitTree, ItemTree, ItemTrees, DesigTree, DesigTrees}
use Rattle.stk_tree.specs.Syntax as s
use Rattle.stk_type_rules.specs.Outcome.{Outcome, Good, and_then}
use Rattle.stk_typing.specs.Scope.{Scope, unevaluated}
use Rattle.stk_typing.specs.Typing.{expression_typed}
use Rattle.stk_typing.specs.declared.initialiser_leaves.Leaves.{Leaves}
use Rattle.stk_typing.specs.Leaves.{no_leaf, leaf, merged}

-- a designator
abbrev pub designator_typed : Scope → DesigTree → Outcome (Unit {0})
designator_typed scope (s.dot_designator at) = Good tt []
designator_typed scope (s.at_designator e) = and_then (expression_typed scope e) (λ x. Good tt [])

abbrev pub designators_typed : Scope → DesigTrees → Outcome (Unit {0})
designators_typed scope s.no_designators = Good tt []
designators_typed scope (s.then_designator d ds) = and_then (designator_typed scope d) (λ u. designators_typed scope ds)

abbrev mutual
  pub initialiser_typed : Scope → InitTree → Outcome Leaves
  initialiser_typed scope (s.plain e) = and_then (expression_typed scope e) (λ x. Good (leaf x) [])
  initialiser_typed scope (s.braces is comma) = items_typed scope is

  pub item_typed : Scope → ItemTree → Outcome Leaves
  item_typed scope (s.item ds i) = and_then (designators_typed (unevaluated scope) ds) (λ u. initialiser_typed scope i)

  pub items_typed : Scope → ItemTrees → Outcome Leaves
  items_typed scope s.no_items = Good no_leaf []
  items_typed scope (s.then_item i is) = and_then (item_typed scope i) (λ a. and_then (items_typed scope is) (λ b. Good (merged a b) []))
