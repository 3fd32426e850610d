-- Each function definition that typing accepts has a typed tree (C11 6.5, 6.7, 6.8, 6.9.1).
use Rattle.std.specs.Prelude.{ℕ, ◌≡◌, IsTrue, List}
use Rattle.stk_base.specs.declared.span.Span.{Span}
use Rattle.stk_ctype.specs.declared.symbol.NameEntry.{NameEntry}
use Rattle.stk_tree.specs.declared.node.Node.{Node}
use Rattle.stk_tree.specs.Syntax.{FunctionTree, UnitTree, defines}
use Rattle.stk_tree.specs.Layout.{unit_laid_out}
use Rattle.stk_tree.specs.Placed.{unit_placed}
use Rattle.stk_tree.specs.View.{view_unit}
use Rattle.stk_numbers.specs.declared.conditions.Kinds.{Kinds}
use Rattle.stk_type_rules.specs.Facts.{Fact}
use Rattle.stk_type_rules.specs.Outcome.{Good}
use Rattle.stk_type_laws.specs.Orderly.{AreOrderly}
use Rattle.stk_address_taken.specs.Statements.{function_taken}
use Rattle.stk_meaning.specs.Typings.{typing_of}
use Rattle.stk_function_types.specs.Units.{TypedUnit, unit_typed}
use Rattle.stk_function_types.specs.Nodes.{typing_in}
use Rattle.stk_run_laws.specs.TypedTree.{IsTypedTree}

-- what is asked of a function definition: the names of file scope are orderly, as units leave them; its nodes are laid
-- out; it is well placed; and typing gives its facts
pub record IsAccepted (bytes : List ℕ) (entries : List NameEntry) (node : Node) (f : FunctionTree) (facts : List Fact) : Type 0 where
  pub names : AreOrderly entries
  pub spans : List Span
  pub unit : UnitTree
  pub laid_out : unit_laid_out spans unit ≡ defines node f
  pub placed : IsTrue (unit_placed (defines node f))
  pub result : Fact
  pub typed : unit_typed bytes entries (defines node f) ≡ Good result facts

-- then its tree is typed by these facts, whichever kinds are taken out
abbrev pub AcceptedTreesAreTyped : Type 0
AcceptedTreesAreTyped = (bytes : List ℕ) (entries : List NameEntry) (node : Node) (f : FunctionTree) (facts : List Fact) (without : Kinds) → IsAccepted bytes entries node f facts
    → IsTypedTree (typing_of bytes entries (function_taken bytes f) facts) without f

-- the same of a unit as the code holds it
pub record IsAcceptedUnit (t : TypedUnit) (node : Node) (f : FunctionTree) : Type 0 where
  pub names : AreOrderly t.entries
  pub function : view_unit t.unit ≡ defines node f
  pub spans : List Span
  pub unit : UnitTree
  pub laid_out : unit_laid_out spans unit ≡ defines node f
  pub placed : IsTrue (unit_placed (defines node f))
  pub result : Fact
  pub facts : List Fact
  pub typed : unit_typed t.bytes t.entries (view_unit t.unit) ≡ Good result facts

abbrev pub AcceptedUnitsAreTyped : Type 0
AcceptedUnitsAreTyped = (t : TypedUnit) (node : Node) (f : FunctionTree) (without : Kinds) → IsAcceptedUnit t node f → IsTypedTree (typing_in t) without f
