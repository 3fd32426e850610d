-- Each function definition that typing accepts is kinded (C11 6.5, 6.9.1).
use Rattle.std.specs.Prelude.{ℕ, List}
use Rattle.stk_ctype.specs.declared.symbol.NameEntry.{NameEntry}
use Rattle.stk_tree.specs.declared.node.Node.{Node}
use Rattle.stk_tree.specs.Syntax.{FunctionTree}
use Rattle.stk_numbers.specs.declared.conditions.Kinds.{Kinds}
use Rattle.stk_type_rules.specs.Facts.{Fact}
use Rattle.stk_address_taken.specs.Statements.{function_taken}
use Rattle.stk_meaning.specs.Typings.{typing_of}
use Rattle.stk_meaning.specs.Keys.{setting_of}
use Rattle.stk_function_types.specs.Units.{TypedUnit}
use Rattle.stk_function_types.specs.Nodes.{typing_in}
use Rattle.stk_type_laws.specs.Accepted.{IsAccepted, IsAcceptedUnit}
use Rattle.stk_kinded.specs.KindedStatements.{KindedFunction}

-- by its facts, whichever kinds of conditions are taken out
abbrev pub AcceptedTreesAreKinded : Type 0
AcceptedTreesAreKinded = (bytes : List ℕ) (entries : List NameEntry) (node : Node) (f : FunctionTree) (facts : List Fact) (without : Kinds) → IsAccepted bytes entries node f facts
    → KindedFunction (setting_of (typing_of bytes entries (function_taken bytes f) facts) without f) f

-- the same of a unit as the code holds it
abbrev pub AcceptedUnitsAreKinded : Type 0
AcceptedUnitsAreKinded = (t : TypedUnit) (node : Node) (f : FunctionTree) (without : Kinds) → IsAcceptedUnit t node f → KindedFunction (setting_of (typing_in t) without f) f
