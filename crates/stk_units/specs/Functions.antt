-- What typing knows of a unit.
use Rattle.std.specs.Prelude.{◌≡◌, ℕ, Bool, true, false, List}
use Rattle.stk_base.specs.declared.span.Span.{Span}
use Rattle.stk_ctype.specs.declared.symbol.NameEntry.{NameEntry}
use Rattle.stk_tree.specs.declared.node.Node.{Node}
use Rattle.stk_tree.specs.Syntax.{UnitTree, FunctionTree, empty_unit, declares, defines}
use Rattle.stk_tree.specs.Layout.{unit_laid_out}
use Rattle.stk_meaning.specs.Typings.{Typing, typing_of}
use Rattle.stk_function_types.specs.Units.{unit_typed, unit_taken, facts_in}

-- what runs ask of the types of a unit, under these names in force
abbrev pub unit_typing : List ℕ → List NameEntry → UnitTree → Typing
unit_typing bytes now u = typing_of bytes now (unit_taken bytes u) (facts_in (unit_typed bytes now u))

-- whether a unit is the definition of a function
abbrev pub is_definition : UnitTree → Bool
is_definition (empty_unit n) = false
is_definition (declares n d) = false
is_definition (defines n f) = true

-- a unit is the definition of this function
abbrev pub IsDefinition : UnitTree → FunctionTree → Type 0
IsDefinition u f = (n : Node) × (u ≡ defines n f)

-- the nodes of a unit are numbered and placed
abbrev pub IsLaidOut : UnitTree → Type 0
IsLaidOut u = (spans : List Span) × ((unlaid : UnitTree) × (u ≡ unit_laid_out spans unlaid))
