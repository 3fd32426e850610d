-- Why units are skipped.
use Rattle.std.specs.Prelude.{ℕ, nat_lt, if◌then◌else◌, List, Option, Some, None}
use Rattle.stk_ctype.specs.declared.symbol.NameEntry.{NameEntry}
use Rattle.stk_tree.specs.Syntax.{UnitTree, empty_unit, declares, defines}
use Rattle.stk_tree.specs.Nodes.{unit_nodes}
use Rattle.stk_nodes.specs.Rows.{unit_row}
use Rattle.stk_numbers.specs.declared.conditions.Kinds.{Kinds}
use Rattle.stk_type_rules.specs.Facts.{Fact}
use Rattle.stk_type_rules.specs.Outcome.{Outcome, Good, Refused}
use Rattle.stk_meaning.specs.Typings.{Typing}
use Rattle.stk_meaning.specs.Weights.{weight, most_weight}
use Rattle.stk_function_types.specs.Units.{unit_typed}
use Rattle.stk_typed.specs.Answering.{has_many}
use Rattle.stk_accept.specs.declared.accepting.Refusal.{Refusal}
use Rattle.stk_accept.specs.declared.accepting.Refusal.TheVariants as refusal
use Rattle.stk_accept.specs.Accepting.{beginning}
use Rattle.stk_records.specs.declared.line.Cause.{Cause}
use Rattle.stk_records.specs.declared.line.Cause.TheVariants.{NoTree, Rule, Nodes, Weight}
use Rattle.stk_units.specs.Spots.{spot_at}
use Rattle.stk_units.specs.Functions.{unit_typing}

-- why a unit is skipped that isn't accepted
abbrev pub cause_of : List ℕ → Refusal → Cause
cause_of bytes refusal.NoTree = NoTree
cause_of bytes (refusal.Rule at rule) = Rule rule (spot_at bytes at)

-- a rule refuses a node of the body, which begins here
abbrev pub refused_cause : List ℕ → UnitTree → Outcome Fact → Option Cause
refused_cause bytes u (Good x facts) = None
refused_cause bytes u (Refused n r) = Some (Rule r (spot_at bytes (beginning (unit_row u) n)))

-- a function is too heavy
abbrev pub weight_cause : ℕ → Option Cause
weight_cause w = if nat_lt most_weight w then Some (Weight w) else None

abbrev pub measured_cause : Typing → Kinds → UnitTree → Option Cause
measured_cause ty without (empty_unit n) = None
measured_cause ty without (declares n d) = None
measured_cause ty without (defines n f) = weight_cause (weight ty without f)

-- the first of two causes
abbrev pub first_cause : Option Cause → Option Cause → Option Cause
first_cause (Some cause) other = Some cause
first_cause None other = other

-- A function that is accepted by its head is skipped where it has too many nodes; or else where a rule refuses a node
-- of it, under the names that its head leaves; or else where it is too heavy. No other unit has a cause.
abbrev pub body_cause : List ℕ → Kinds → List NameEntry → UnitTree → Option Cause
body_cause bytes without now u =
    if has_many u then Some (Nodes (unit_nodes u)) else first_cause (refused_cause bytes u (unit_typed bytes now u)) (measured_cause (unit_typing bytes now u) without u)
