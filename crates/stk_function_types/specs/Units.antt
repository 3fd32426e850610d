-- Function definitions and what typing gives of their nodes (C11 6.9.1).
use Rattle.std.specs.Prelude.{ℕ, List, []}
use Rattle.stk_ctype.specs.declared.symbol.NameEntry.{NameEntry}
use Rattle.stk_tree.specs.declared.unit.Unit.{Unit}
use Rattle.stk_tree.specs.Syntax.{UnitTree}
use Rattle.stk_tree.specs.Syntax as s
use Rattle.stk_tree.specs.View.{view_unit}
use Rattle.stk_type_rules.specs.Facts.{Fact, plain}
use Rattle.stk_type_rules.specs.Outcome.{Outcome, Good, Refused}
use Rattle.stk_address_taken.specs.Statements.{function_taken}
use Rattle.stk_address_taken.specs.Statics.{function_statics}
use Rattle.stk_function_types.specs.Functions.{function_typed}

-- a unit of an input, under names of file scope
pub record TypedUnit : Type 0 where
  pub bytes : List ℕ
  pub unit : Unit
  pub entries : List NameEntry

-- the declarators whose names are operands of `&` (C11 6.5.3.2)
abbrev pub unit_taken : List ℕ → UnitTree → List ℕ
unit_taken bytes (s.empty_unit n) = []
unit_taken bytes (s.declares n d) = []
unit_taken bytes (s.defines n f) = function_taken bytes f

-- the declarators of `static` objects (C11 6.2.4p3)
abbrev pub unit_statics : UnitTree → List ℕ
unit_statics (s.empty_unit n) = []
unit_statics (s.declares n d) = []
unit_statics (s.defines n f) = function_statics f

-- the facts of all nodes of a function definition, or the first node that is refused with its lowest rule; of no other
-- unit is anything known
abbrev pub unit_typed : List ℕ → List NameEntry → UnitTree → Outcome Fact
unit_typed bytes entries (s.empty_unit n) = Good plain []
unit_typed bytes entries (s.declares n d) = Good plain []
unit_typed bytes entries (s.defines n f) = function_typed bytes entries (function_taken bytes f) n.number f

-- the facts that typing gives; of a unit that is refused none
abbrev pub facts_in : Outcome Fact → List Fact
facts_in (Good x t) = t
facts_in (Refused n r) = []

-- what is known of each node, in the order of the numbers
abbrev pub facts_of : TypedUnit → List Fact
facts_of t = facts_in (unit_typed t.bytes t.entries (view_unit t.unit))
