-- Each function definition that typing accepts has bits where a walk pays by them (C11 6.5, 6.9.1).
use Rattle.std.specs.Prelude.{ℕ, List}
use Rattle.stk_ctype.specs.declared.symbol.NameEntry.{NameEntry}
use Rattle.stk_tree.specs.declared.node.Node.{Node}
use Rattle.stk_tree.specs.Syntax.{FunctionTree}
use Rattle.stk_type_rules.specs.Facts.{Fact}
use Rattle.stk_address_taken.specs.Statements.{function_taken}
use Rattle.stk_meaning.specs.Typings.{typing_of}
use Rattle.stk_meaning.specs.Keys.{function_visits}
use Rattle.stk_function_types.specs.Units.{TypedUnit}
use Rattle.stk_function_types.specs.Nodes.{typing_in}
use Rattle.stk_type_laws.specs.Accepted.{IsAccepted, IsAcceptedUnit}
use Rattle.stk_run_laws.specs.Visits.{EachVisit}
use Rattle.stk_type_laws.specs.Bits.{VisitHasBits}

-- by its facts
abbrev pub AcceptedTreesHaveBits : Type 0
AcceptedTreesHaveBits = (bytes : List ℕ) (entries : List NameEntry) (node : Node) (f : FunctionTree) (facts : List Fact) → IsAccepted bytes entries node f facts
    → EachVisit (VisitHasBits (typing_of bytes entries (function_taken bytes f) facts)) (function_visits (typing_of bytes entries (function_taken bytes f) facts) f)

-- the same of a unit as the code holds it
abbrev pub AcceptedUnitsHaveBits : Type 0
AcceptedUnitsHaveBits = (t : TypedUnit) (node : Node) (f : FunctionTree) → IsAcceptedUnit t node f → EachVisit (VisitHasBits (typing_in t)) (function_visits (typing_in t) f)
