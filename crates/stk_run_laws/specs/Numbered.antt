-- Nodes that are laid out are numbered children first, so those of a function's parameters and the evaluated ones of
-- its body ascend.
use Rattle.std.specs.Prelude.{◌≡◌, List, ◌++◌, map}
use Rattle.stk_base.specs.declared.span.Span.{Span}
use Rattle.stk_tree.specs.declared.node.Node.{Node}
use Rattle.stk_tree.specs.Syntax.{FunctionTree, UnitTree, defines}
use Rattle.stk_tree.specs.Layout.{unit_laid_out}
use Rattle.stk_meaning.specs.Typings.{Typing, declarator_node}
use Rattle.stk_meaning.specs.Keys.{parameters_of, function_visits}
use Rattle.stk_run_laws.specs.Visits.{Ascends, nodes_of, IsNumbered}

-- whatever typing answers
pub record IsNumberedWhole (ty : Typing) (f : FunctionTree) : Type 0 where
  pub whole : Ascends (map declarator_node (parameters_of f) ++ nodes_of (function_visits ty f))
  pub body : IsNumbered ty f

abbrev pub WhatIsLaidOutIsNumbered : Type 0
WhatIsLaidOutIsNumbered = (ty : Typing) (spans : List Span) (unit : UnitTree) (node : Node) (f : FunctionTree) → unit_laid_out spans unit ≡ defines node f → IsNumberedWhole ty f
