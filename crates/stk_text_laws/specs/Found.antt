-- The nodes of conditions and candidates are nodes of their unit.
use Rattle.std.specs.Prelude.{◌≡◌, ℕ, List, Some, slice_get}
use Rattle.stk_base.specs.declared.span.Span.{Span}
use Rattle.stk_tree.specs.declared.node.Node.{Node}
use Rattle.stk_tree.specs.Syntax.{FunctionTree, UnitTree, defines}
use Rattle.stk_tree.specs.Layout.{unit_laid_out}
use Rattle.stk_nodes.specs.Rows.{unit_row}
use Rattle.stk_numbers.specs.declared.conditions.Candidate.{Candidate}
use Rattle.stk_numbers.specs.declared.conditions.Condition.{Condition}
use Rattle.stk_numbers.specs.declared.conditions.Kinds.{Kinds}
use Rattle.stk_meaning.specs.Typings.{Typing}
use Rattle.stk_meaning.specs.Lists.{candidates, conditions}
use Rattle.stk_run_laws.specs.Visits.{IsIn}

-- a unit has a node of this number, and it stands among the nodes of the unit where its number says
pub record HasNode (u : UnitTree) (k : ℕ) : Type 0 where
  pub node : Node
  pub there : slice_get (unit_row u) k ≡ Some node
  pub number : node.number ≡ k

-- the candidates and the conditions of a function stand at nodes of this unit
pub record AreFound (ty : Typing) (without : Kinds) (u : UnitTree) (f : FunctionTree) : Type 0 where
  pub of_candidate : (c : Candidate) → IsIn c (candidates ty f) → HasNode u c.node
  pub of_condition : (c : Condition) → IsIn c (conditions ty without f) → HasNode u c.node

-- where the definition of a function is laid out, its candidates and its conditions stand at nodes of it, whatever
-- typing answers
abbrev pub NodesAreFound : Type 0
NodesAreFound = (ty : Typing) (without : Kinds) (spans : List Span) (unlaid : UnitTree) (n : Node) (f : FunctionTree) → unit_laid_out spans unlaid ≡ defines n f → AreFound ty without (defines n f) f
