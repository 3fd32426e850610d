-- The functions of a source: where the definition of one begins, and which are judged.
use Rattle.std.specs.Prelude.{ℕ, ◌==◌, Bool, not, if◌then◌else◌, List, [], ◌∷◌, Option, Some, None}
use Rattle.std.specs.Option.{is_some}
use Rattle.stk_ctype.specs.declared.symbol.NameEntry.{NameEntry}
use Rattle.stk_tree.specs.declared.node.Node.{Node}
use Rattle.stk_tree.specs.Syntax.{FunctionTree, UnitTree, empty_unit, declares, defines}
use Rattle.stk_numbers.specs.declared.conditions.Kinds.{Kinds}
use Rattle.stk_meaning.specs.Typings.{Typing}
use Rattle.stk_units.specs.Functions.{unit_typing}
use Rattle.stk_units.specs.Causes.{body_cause}
use Rattle.stk_source_audit.specs.Reading.{ReadUnit}

-- the definition of a function, and the names that its head leaves in force
pub record Definition : Type 0 where
  pub now : List NameEntry
  pub node : Node
  pub function : FunctionTree

abbrev pub definition_unit : Definition → UnitTree
definition_unit d = defines d.node d.function

-- the definition that a unit is, where it is accepted and is one
abbrev pub definition_in : List NameEntry → Option UnitTree → Option Definition
definition_in now None = None
definition_in now (Some (empty_unit n)) = None
definition_in now (Some (declares n d)) = None
definition_in now (Some (defines n f)) = Some (record { now = now; node = n; function = f })

-- the definition that begins at a byte
unfoldable pub definition_at : List ReadUnit → ℕ → Option Definition
definition_at [] at = None
definition_at (x ∷ xs) at = if x.at == at then definition_in x.now x.tree else definition_at xs at

-- what runs ask of its types
abbrev pub definition_typing : List ℕ → Definition → Typing
definition_typing bytes d = unit_typing bytes d.now (definition_unit d)

-- whether it is judged where these kinds of conditions are taken out: it has at most 20,000 nodes, no rule refuses its
-- body, and it isn't too heavy
abbrev pub is_judged : List ℕ → Kinds → Definition → Bool
is_judged bytes without d = not (is_some (body_cause bytes without d.now (definition_unit d)))
