-- What is known of a node, and what runs ask of typing.
use Rattle.std.specs.Prelude.{ℕ, Bool, true, false, not, ◌&&◌, ◌||◌, get_or, Option, Some, None, ℤ}
use Rattle.stk_base.specs.declared.span.Span.{Span}
use Rattle.stk_ctype.specs.Types.{TypeTree}
use Rattle.stk_tree.specs.View.{view_unit}
use Rattle.stk_tree.specs.Unlaid.{no_node}
use Rattle.stk_nodes.specs.Rows.{unit_row}
use Rattle.stk_type_rules.specs.declared.facts.TypeRole.{TypeRole}
use Rattle.stk_type_rules.specs.declared.facts.TypeRole.TheVariants.{Plain, Value, Declares, Names}
use Rattle.stk_type_rules.specs.Facts.{fact_at}
use Rattle.stk_type_rules.specs.Types.{is_scalar}
use Rattle.stk_meaning.specs.Typings.{Typing, typing_of, is_among}
use Rattle.stk_function_types.specs.Units.{TypedUnit, facts_of, unit_taken, unit_statics}

-- what runs ask of the types of a function
abbrev pub typing_in : TypedUnit → Typing
typing_in t = typing_of t.bytes t.entries (unit_taken t.bytes (view_unit t.unit)) (facts_of t)

-- a value has a type, and so does what a declarator declares
abbrev pub type_by : TypeRole → TypeTree → Option TypeTree
type_by Plain t = None
type_by Value t = Some t
type_by Declares t = Some t
type_by Names t = None

-- the type of a node's value, or the type that a declarator declares
abbrev pub value_type : TypedUnit → ℕ → Option TypeTree
value_type t k = type_by (fact_at (facts_of t) k).role (fact_at (facts_of t) k).ty

-- the declarator of the parameter or local object that a name means
abbrev pub declared : TypedUnit → ℕ → Option ℕ
declared t k = (typing_in t).means k

-- the number of a constant, an enumerator's name, a `sizeof`, or the expression of a case
abbrev pub constant : TypedUnit → ℕ → Option ℤ
constant t k = (typing_in t).number_at k

-- whether a node declares something
abbrev pub is_declarator : TypeRole → Bool
is_declarator Plain = false
is_declarator Value = false
is_declarator Declares = true
is_declarator Names = false

-- a register is a scalar parameter or a scalar automatic object whose name is no operand of `&` (C11 6.5.3.2)
abbrev pub is_register : TypedUnit → ℕ → Bool
is_register t k = is_declarator (fact_at (facts_of t) k).role && (is_scalar ((typing_in t).type_at k) && not ((typing_in t).is_taken k || is_among k (unit_statics (view_unit t.unit))))

-- where a node stands
abbrev pub node_span : TypedUnit → ℕ → Span
node_span t k = (get_or (unit_row (view_unit t.unit)) k no_node).span
